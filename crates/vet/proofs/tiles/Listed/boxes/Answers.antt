use Rattle.std.proofs.Common.{rules, tests}
use Rattle.plane.specs.Words.{width, height, kinds, tile_of}
use Rattle.plane.specs.Plane.{Boxed, Boxes}
use Rattle.vet.proofs.Ranges.{tells_all}
use Rattle.vet.proofs.tiles.Listed.boxes.Goals as goal

pub returns : goal.returns
returns c = let ws = c.args.self.words.now in
    let Yes = λ (i : _). Boxed (width ws) (height ws) (kinds ws) (tile_of ws i) in
    tells_all c.all.new.self _ c.all.result 0 c.count.result Yes (λ i. Yes i → ⊥) (Boxes ws) (Boxes ws) c.all.ensures.ran (search rules) (λ x q k. search (rules, tests)) (λ x q k. search (rules, tests)) (λ h. search rules) (λ i u v n B. search rules)

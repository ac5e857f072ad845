use Rattle.std.proofs.Common.{rules}
use Rattle.plane.specs.Plane.{Plane}
use Rattle.vet.specs.Checks.{Framed, Frames}
use Rattle.vet.proofs.Ranges.{tells_all}
use Rattle.vet.proofs.frames.Sewn.frames.Goals as goal

pub returns : goal.returns
returns c = let ws = c.args.self.tiles.words.now in
    tells_all c.all.new.self _ c.all.result 0 c.count.result (Framed ws) (λ i. Plane ws → ⊥) (Frames ws) (Plane ws) c.all.ensures.ran (search rules) (λ x q k. search rules) (λ x q k. search rules) (λ h i u. h i (search rules) (search rules)) (λ i u v n. n)

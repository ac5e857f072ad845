-- `piece_rows`. The cut has small types and no edge outside its columns and rows, so the marks of its inner squares are the full check's, and the bits are those marks.
use mathlib.Core.Path.{refl, ap}
use native.Mathlib.Omega.{arith}
use Rattle.plane.specs.declared.tile.Area.{Area}
use Rattle.plane.specs.Words.{width, height}
use Rattle.rules.specs.Forbid.{outside}
use Rattle.piece.proofs.Cuts.{cut_small, cut_still}
use Rattle.piece.proofs.Remarks.{ruled, block_in, near_placed, rows_marked, halo_in}
use borrow.Author.Rules.{rules}
use Rattle.piece.proofs.rows.piece_rows.Goals as goal

pub near_area-near-requires : goal.near_area-near-requires
near_area-near-requires c = rw (c.width.ensures.value, c.height.ensures.value, c.of-table.ensures) (block_in c.requires, omega (arith, halo_in c.requires))

pub cut-requires : goal.cut-requires
unfolding outside
cut-requires c =
    let p = c.requires in
    (refl, p.plane, halo_in p, p.column, p.row)

pub overflow_sub-reach : goal.overflow_sub-reach
overflow_sub-reach c = omega (arith, halo_in c.requires)

pub mark_near-requires : goal.mark_near-requires
mark_near-requires c =
    let p = c.requires in
    let k = c.cut.ensures in
    (record { small = cut_small p.plane k; sized = search rules }, ruled p, rw c.from-reach.ensures (cut_still k (omega (arith, halo_in p)) (omega (arith, c.from-reach.ensures)) (omega (arith, halo_in p))))

pub place-x0-requires : goal.place-x0-requires
place-x0-requires c = let e = ap (λ (a : Area). a.x1) c.near_area-near.ensures in omega (arith, e, halo_in c.requires)

pub place-y0-requires : goal.place-y0-requires
place-y0-requires c = let e = ap (λ (a : Area). a.y1) c.near_area-near.ensures in omega (arith, e, halo_in c.requires)

pub bits_of-requires : goal.bits_of-requires
bits_of-requires c =
    let p = c.requires in
    let e = rw (c.width.ensures.value, c.height.ensures.value, c.of-table.ensures) at c.near_area-near.ensures in
    let x = near_placed (width c.args.t.now) c.args.k c.args.block.x (halo_in p) p.column (ap (λ (a : Area). a.x1) e) (ap (λ (a : Area). a.x2) e) c.place-x0.ensures c.from.ensures in
    let y = near_placed (height c.args.t.now) c.args.k c.args.block.y (halo_in p) p.row (ap (λ (a : Area). a.y1) e) (ap (λ (a : Area). a.y2) e) c.place-y0.ensures c.from-2.ensures in
    (x.2, y.2, x.3, y.3)

pub returns : goal.returns
returns c =
    let p = c.requires in
    let e = rw (c.width.ensures.value, c.height.ensures.value, c.of-table.ensures) at c.near_area-near.ensures in
    let x = near_placed (width c.args.t.now) c.args.k c.args.block.x (halo_in p) p.column (ap (λ (a : Area). a.x1) e) (ap (λ (a : Area). a.x2) e) c.place-x0.ensures c.from.ensures in
    let y = near_placed (height c.args.t.now) c.args.k c.args.block.y (halo_in p) p.row (ap (λ (a : Area). a.y1) e) (ap (λ (a : Area). a.y2) e) c.place-y0.ensures c.from-2.ensures in
    rows_marked p c.cut.ensures c.mark_near.ensures x.0 y.0 x.1 y.1 c.bits_of.ensures

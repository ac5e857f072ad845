-- A tile that stays, one that begins below the area, or one that is left out.
use mathlib.Core.Path.{sym}
use Rattle.strips.proofs.Stays.{apart_as, bottom_from, keep_apart, keep_low, kept_add, kept_skip, same_start}
use Rattle.strips.proofs.cover.keep_one.Goals as goal

pub returns-then-is_apart : goal.returns-then-is_apart
returns-then-is_apart c =
    let e = c.tile-s.ensures.value in
    let S = c.tile-s.ensures.given.shown.each _ c.requires.i_bound.0 in
    kept_add c.requires.kept c.tile-s.ensures.given.shown c.requires.i_bound.0 c.put_tile.ensures (keep_apart _ S e (apart_as e c.area.ensures.value c.if-is_apart.ensures)) (same_start e) (λ _. e)

pub returns-then-s-area : goal.returns-then-s-area
returns-then-s-area c =
    let e = c.tile-s.ensures.value in
    let S = c.tile-s.ensures.given.shown.each _ c.requires.i_bound.0 in
    let d = keep_low c.args.p.now.brush S e (rw c.area-2.ensures.value at c.if-s-area.true) c.strip_at.ensures in
    kept_add c.requires.kept c.tile-s.ensures.given.shown c.requires.i_bound.0 c.put_tile-then-s-area.ensures d.0 d.1 (λ A. absurd (c.if-is_apart.ensures (apart_as (sym e) (sym c.area.ensures.value) A)))

pub returns : goal.returns
returns c =
    let e = c.tile-s.ensures.value in
    kept_skip c.requires.kept (λ A. c.if-is_apart.ensures (apart_as (sym e) (sym c.area.ensures.value) A)) (bottom_from e (rw c.area-2.ensures.value at c.if-s-area.false))

-- What hear and say make of a wire: its counts go up by as many bytes as its log gains.
use Rattle.std.proofs.Common.{ℕ, ◌+◌, ◌<◌, ◌≤◌, Bool, true, not, ◌&&◌, ◌≡◌, refl, sym, ap, List, length, take, nat_eq, length-take-le, arith}
use Rattle.plane.proofs.Basics.{and_left}
use Rattle.session.specs.declared.wire.Wire.{Wire}
use Rattle.session.specs.Wire.{Hears, Says, carried_heard, carried_said}

-- a test `b and not zero` that holds
pub some_left : (b : Bool) (n : ℕ) → (b && not (nat_eq n 0)) ≡ true → 0 < n
some_left b n e = grind arith

pub hears : (w : Wire) (k : ℕ) (buf : List ℕ) → k ≤ length buf → Hears w (record { heard = w.heard + k; said = w.said; «open» = w.open && not (nat_eq k 0); whole = w.whole }) k buf
hears w k buf h = record {
  within = h;
  some = some_left w.open k;
  ins = omega arith;
  outs = omega arith;
  passed = λ log C. carried_heard (take k buf) (ap (λ (n : ℕ). w.heard + n) (sym (length-take-le k buf h))) refl C;
}

pub says : (w : Wire) (bytes : List ℕ) (taken : Bool) → Says w bytes (record { heard = w.heard; said = w.said + length bytes; «open» = w.open && taken; whole = w.whole && taken })
says w bytes taken = record {
  was = and_left w.open taken;
  ins = omega arith;
  outs = omega arith;
  passed = λ log C. carried_said bytes refl refl C;
}

-- The two tables of a paint: both painted, or neither.
use Prim.Native.Nat.{ℕ, ◌<◌}
use native.Mathlib.Omega.{arith}
use mathlib.Core.Path.{◌≡◌, refl}
use mathlib.Core.List.{List}
use lib.ListN.{length}
use Rattle.std.specs.Prelude.{Option, Some, None}
use Rattle.plane.specs.declared.tile.Area.{Area}
use Rattle.plane.specs.Picture.{Picture, tiles}
use Rattle.plane.specs.Words.{width, height, room_in}
use Rattle.tables.specs.Like.{HasRoom, painted_of}
use Rattle.tables.specs.Tables.{Paintable, PaintedOver, Repainted, TilesFit, Unpainted}
use Rattle.tables.proofs.Whole.{again_fits, made, paintable_room, tiles_of_lem}
use Rattle.drawing.specs.PaintSteps.{BothPainted, NonePainted}

-- a picture whose tiles fit has room
few_enough : {c r : ℕ} {ws : List ℕ} {q : Picture} → c ≡ room_in (length ws) → TilesFit c ws q r → HasRoom ws q
few_enough e P = omega (arith, P.number, P.room, e)

module _ {c : ℕ} {m q : List ℕ} {a : Area} {kind : ℕ} (W : Paintable c q a) where
  -- the waiting table would have too many tiles
  pub none_marked : c < length (tiles (width q) (height q) (painted_of q a 1)) → NonePainted m q a kind m q
  none_marked u = record { full = λ H K. omega (arith, K, paintable_room W, u); material = refl; waiting = refl }

  module _ {vs : List ℕ} (M : Paintable c m a) where
    -- the material would
    pub none_painted : Unpainted c m (painted_of m a kind) vs → NonePainted m q a kind vs q
    none_painted Q = record { full = λ H K. omega (arith, H, paintable_room M, Q.full); material = Q.stays; waiting = refl }

    -- neither: what had room once has it again
    pub both_painted : {zs : List ℕ} {n k : ℕ} (r : Option ℕ) → TilesFit c q (painted_of q a 1) n → Repainted c m (painted_of m a kind) vs k → PaintedOver c q (painted_of q a 1) zs r → BothPainted m q a kind vs zs
    both_painted None P Q R = absurd (again_fits P R)
    both_painted {k = k} (Some i) P Q R = record {
      room = few_enough (paintable_room M) (tiles_of_lem c m vs (painted_of m a kind) (Some k) Q);
      room_waiting = few_enough (paintable_room W) P;
      material = made (paintable_room M) Q;
      waiting = made (paintable_room W) R;
    }

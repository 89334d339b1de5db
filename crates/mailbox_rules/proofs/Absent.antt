-- A connector number from 1 to the count is there, and no other is (01, The mailbox).
use Prim.Native.Nat.{ℕ, ◌≤◌, ◌<◌}
use mathlib.Core.Bool.{Bool, true, false, true≢false, ◌&&◌}
use mathlib.Core.Path.{◌≡◌, refl, sym}
use native.Mathlib.Omega.{arith}
use borrow.Author.Tests.{le-leb, lt-leb, leb-true}
use lib.Dec.{leb}
use Rattle.mailbox_rules.specs.Write.{connector_there}

module _ (c count : ℕ) where
  pub zero_absent : c ≡ 0 → connector_there c count ≡ false
  unfolding connector_there
  zero_absent e = rw (lt-leb 1 c (omega arith))

  pub above_absent : count < c → connector_there c count ≡ false
  unfolding connector_there
  above_absent h = rw (le-leb 1 c (omega arith), lt-leb c count h)

  pub is_there : 1 ≤ c → c ≤ count → connector_there c count ≡ true
  unfolding connector_there
  is_there low high = rw (le-leb 1 c low, le-leb c count high)

split : (a b : Bool) → (a && b) ≡ true → (a ≡ true) × (b ≡ true)
split true b e = (refl, e)
split false b e = absurd (true≢false (sym e))

pub there_only : (c count : ℕ) → connector_there c count ≡ true → (1 ≤ c) × (c ≤ count)
unfolding connector_there
there_only c count e =
    let both = split (leb 1 c) (leb c count) e in
    (leb-true 1 c both.0, leb-true c count both.1)

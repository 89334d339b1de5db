-- The code tests for room without a sum that could wrap: what its tests say of the definition's.
use Prim.Native.Nat.{ℕ, ◌+◌, ◌-◌, ◌<◌, ◌≤◌}
use mathlib.Core.Path.{◌≡◌}
use mathlib.Core.Bool.{true, false}
use native.Mathlib.Omega.{arith}
use borrow.Author.Tests.{lt-ltb, le-ltb}
use lib.Dec.{ltb}

pub room_yes : (at n len : ℕ) → at ≤ len → n ≤ len - at → ltb len (at + n) ≡ false
room_yes at n len p q = le-ltb len (at + n) (omega arith)

pub room_at : (at n len : ℕ) → len < at → ltb len (at + n) ≡ true
room_at at n len p = lt-ltb len (at + n) (omega arith)

pub room_no : (at n len : ℕ) → len - at < n → ltb len (at + n) ≡ true
room_no at n len p = lt-ltb len (at + n) (omega arith)

pub ruleset room = (room_yes, room_at, room_no)

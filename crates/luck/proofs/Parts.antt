-- `message` hands out all of a buffer that is shorter than the message is said to be.
use Prim.Native.Nat.{ℕ, ◌<◌}
use mathlib.Core.Path.{◌≡◌, sym}
use mathlib.Core.List.{List}
use native.Mathlib.Omega.{arith}
use lib.ListN.{length, take}
use lib.Seq.{take_all}

pub short : (n : ℕ) (buffer : List ℕ) → length buffer < n → buffer ≡ take n buffer
short n buffer h = sym (take_all n buffer (omega arith))

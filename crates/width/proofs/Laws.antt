-- A number that fits is kept, one that does not becomes the most; two halves are read back, and a word is its two halves.
use Prim.Native.Nat.{ℕ, ◌≤◌, ◌<◌}
use mathlib.Core.Path.{◌≡◌}
use native.Mathlib.Omega.{arith}
use borrow.Author.Tests.{lt-ltb, le-ltb}
use Rattle.basis.specs.Pick.{pick_yes, pick_no}
use Rattle.width.specs.Narrow.{at_most}
use Rattle.width.specs.Halves.{halves_of, low_half, high_half}

pub fits_kept : (most number : ℕ) → number ≤ most → at_most most number ≡ number
unfolding at_most
fits_kept most number fits = pick_no _ _ _ (le-ltb most number fits)

pub wide_most : (most number : ℕ) → most < number → at_most most number ≡ most
unfolding at_most
wide_most most number wide = pick_yes _ _ _ (lt-ltb most number wide)

pub low_back : (low high : ℕ) → low ≤ 65535 → low_half (halves_of low high) ≡ low
low_back low high small = omega arith

pub high_back : (low high : ℕ) → low ≤ 65535 → high ≤ 65535 → high_half (halves_of low high) ≡ high
high_back low high small small' = omega arith

pub halves_back : (word : ℕ) → word < 4294967296 → halves_of (low_half word) (high_half word) ≡ word
halves_back word fits = omega arith

-- What CCI says, read bit by bit in the numbers of document 01 and 000 T3-2.
use Rattle.std.specs.Prelude.{ℕ, zero, suc, ◌/◌, ◌%◌, ◌<◌, ◌^◌, List, [], ◌∷◌, ◌≡◌, eqb}
use Rattle.basis.specs.Pick.{pick}

-- Of so many bits from bit i on, those that are set.
abbrev pub set_from : ℕ → ℕ → ℕ → List ℕ
set_from cci i zero = []
set_from cci i (suc more) = pick (eqb (cci / 2 ^ i % 2) 1) (i ∷ set_from cci (suc i) more) (set_from cci (suc i) more)

-- The connector shown, the data length, and the list of the bits above them that are set; every other bit is clear.
pub record Says (cci connector length : ℕ) (set : List ℕ) : Type 0 where
  pub bit_0 : cci % 2 ≡ 0
  pub bits_1_to_7 : cci / 2 ^ 1 % 2 ^ 7 ≡ connector
  pub bits_8_to_15 : cci / 2 ^ 8 % 2 ^ 8 ≡ length
  pub bits_16_to_31 : set_from cci 16 16 ≡ set
  pub width : cci < 2 ^ 32

-- The connectors that wait, a bit for each, the lowest for connector 1, and back (include/harsolvek.h).
use Rattle.std.specs.Prelude.{ℕ, ◌+◌, ◌*◌, ◌/◌, ◌%◌, Bool, List, [], ◌∷◌, eqb}
use Rattle.basis.specs.Flag.{byte_of}

abbrev bit_at : ℕ → ℕ → Bool
bit_at bits place = eqb (bits / place % 2) 1

unfoldable pub flags_of : ℕ → List Bool
flags_of bits =
    eqb (bits % 2) 1 ∷ bit_at bits 2 ∷ bit_at bits 4 ∷ bit_at bits 8 ∷ bit_at bits 16 ∷ bit_at bits 32 ∷ bit_at bits 64 ∷ bit_at bits 128 ∷ []

unfoldable pub bits_of : List Bool → ℕ
bits_of [] = 0
bits_of (waits ∷ rest) = byte_of waits + 2 * bits_of rest

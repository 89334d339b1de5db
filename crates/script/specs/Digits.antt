-- Hex digits, whose letters are capitals.
use Rattle.std.specs.Prelude.{ℕ, ◌+◌, ◌*◌, ◌-◌, Option, None, Some, ltb, leb}
use Rattle.basis.specs.Pick.{pick}

-- 0 to 9, then A to F.
unfoldable pub digit_read_of : ℕ → Option ℕ
digit_read_of c =
    pick (ltb c 0x30) None
    (pick (leb c 0x39) (Some (c - 0x30))
    (pick (ltb c 0x41) None
    (pick (leb c 0x46) (Some (c - 0x41 + 10))
    None)))

-- Both characters are digits.
abbrev pub two_digits : Option ℕ → Option ℕ → Option ℕ
two_digits None low = None
two_digits (Some high) None = None
two_digits (Some high) (Some low) = Some (16 * high + low)

unfoldable pub byte_read_of : ℕ → ℕ → Option ℕ
byte_read_of high low = two_digits (digit_read_of high) (digit_read_of low)

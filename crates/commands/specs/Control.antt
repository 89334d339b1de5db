-- CONTROL as 000 prints it: each field by its offset and its size in bits (000 T3-3, T4-5, T4-7, T4-9).
use Rattle.std.specs.Prelude.{ℕ, zero, suc, ◌+◌, ◌*◌, ◌/◌, ◌%◌, ◌^◌, List, Bool, length, get_or, eqb, Result, Ok, Err}
use Rattle.basis.specs.Pick.{pick, differ}
use Rattle.commands.specs.declared.control.Control.{Control}
use Rattle.commands.specs.declared.control.WrongLength.{WrongLength}

-- 000 T3-1: 64 bits.
abbrev pub control_size : ℕ
control_size = 8

-- Bit 0 is the lowest of the first byte.
abbrev pub bit : List ℕ → ℕ → ℕ
bit b i = get_or b (i / 8) 0 / 2 ^ (i % 8) % 2

-- So many bits from the offset on, the lowest first.
abbrev pub field : List ℕ → ℕ → ℕ → ℕ
field b offset zero = 0
field b offset (suc size) = bit b offset + 2 * field b (suc offset) size

abbrev pub is_set : List ℕ → ℕ → Bool
is_set b i = eqb (bit b i) 1

-- 000 T3-3: Command. T4-5: Connector Number, Reset Type. T4-9: the 16 mask bits of document 01. T4-7: the two acknowledgements.
unfoldable pub fields_of : List ℕ → Control
fields_of b =
    record {
      code = field b 0 8;
      connector = field b 16 7;
      reset_type = field b 23 1;
      mask = field b 16 16;
      change = is_set b 16;
      completed = is_set b 17;
    }

unfoldable pub control_of : List ℕ → Result Control WrongLength
control_of b = pick (differ (length b) control_size) (Err (record {})) (Ok (fields_of b))

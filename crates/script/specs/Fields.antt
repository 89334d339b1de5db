-- The words of a line that are numbers, one after the other.
use Rattle.std.specs.Prelude.{ℕ, ◌+◌, ◌%◌, Bool, Option, None, Some, Result, Ok, Err, List, eqb, leb, length}
use Rattle.basis.specs.Pick.{pick}
use Rattle.script.specs.Words.{script_word_at}
use Rattle.script.specs.Decimal.{decimal_read_of}
use Rattle.script.specs.declared.field.Field.{Field}
use Rattle.script.specs.declared.field.NoNumber.{NoNumber}

abbrev pub number_field : ℕ → ℕ → Field
number_field value end = record { value = value; end = end }

-- Where a line's numbers begin: none has been read.
abbrev pub fields_begun : Field
fields_begun = number_field 0 0

-- No number is known; the word ends here.
abbrev pub unknown_field : ℕ → Result Field NoNumber
unknown_field end = Err (record { end = end })

-- The number of this word, which stands behind one that is a number too.
abbrev pub field_behind : Field → List ℕ → Option ℕ → Result Field NoNumber
field_behind f word None = unknown_field (f.end + 1 + length word)
field_behind f word (Some n) = Ok (number_field n (f.end + 1 + length word))

-- The next word's number; where no word is left, none is known.
unfoldable pub next_field_of : Field → List ℕ → ℕ → Result Field NoNumber
next_field_of f words most =
    pick (leb (length words) f.end) (unknown_field f.end)
    (field_behind f (script_word_at words f.end) (decimal_read_of (script_word_at words f.end) most))

abbrev pub is_last_field : Field → List ℕ → Bool
is_last_field f words = eqb f.end (length words)

-- The value of a number that was read with at most 8 bits, and with at most 16.
abbrev pub field_byte_of : Field → ℕ
field_byte_of f = f.value % 256

abbrev pub field_word_of : Field → ℕ
field_word_of f = f.value % 65536

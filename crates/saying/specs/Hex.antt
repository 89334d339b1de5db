-- Bytes and a number of 32 bits as capital hex digits.
use Rattle.std.specs.Prelude.{ℕ, eqb, length, fold}
use mathlib.Core.List.{List, [], ◌∷◌}
use Rattle.basis.specs.Pick.{pick}
use Rattle.printing.specs.Digits.{hex_of}
use Rattle.printing.specs.Line.{space}
use Rattle.saying.specs.Said.{appended_of, none_of}
use Rattle.saying.specs.declared.said.Said.{Said}

abbrev pub hex_byte_text_of : Said → ℕ → Said
hex_byte_text_of t b = appended_of t (space ∷ hex_of 2 b)

abbrev pub hex_word_text_of : Said → ℕ → Said
hex_word_text_of t n = appended_of (appended_of t (space ∷ [])) (hex_of 8 n)

abbrev pub hex_bytes_text_of : Said → List ℕ → Said
hex_bytes_text_of t s = fold hex_byte_text_of t s

-- A hyphen for no bytes.
unfoldable pub hex_shown_of : Said → List ℕ → Said
hex_shown_of t s = pick (eqb (length s) 0) (none_of t) (hex_bytes_text_of t s)

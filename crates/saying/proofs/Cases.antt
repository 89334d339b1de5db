-- What is printed for a few pieces, by computation, in a text of 32 bytes.
use mathlib.Core.List.{[], ◌∷◌}
use mathlib.Core.Path.{◌≡◌, refl}
use lib.ListN.{replicate}
use Rattle.std.specs.Prelude.{None, Some, option_map}
use Rattle.basis.specs.Pick.{pick}
use Rattle.printing.specs.Digits.{digit_of}
use Rattle.script.specs.Words.{index_of, first_word_of, script_word_at}
use Rattle.script.specs.Digits.{digit_read_of as digit_in}
use Rattle.script.specs.Decimal.{added_of, decimal_begun}
use Rattle.script.specs.Fields.{next_field_of}
use Rattle.saying.specs.Said.{said, empty_text, said_text_of, appended_of, character_of, said_lines_of}
use Rattle.saying.specs.Hex.{hex_byte_text_of, hex_word_text_of, hex_shown_of}
use Rattle.saying.specs.Decimal.{front_of, number_text_of, range_of}
use Rattle.saying.specs.Look.{look_of}
use Rattle.saying.specs.declared.said.Said.{Said}

abbrev blank : Said
blank = said 0 (replicate 32 0)

-- " 0A", " 80000000", " 01 FF", " -" for no bytes; " 300", " 3", " 3-5"; " a/b" for two lines, " -" for none;
-- " 01 02" for the two bytes from place 1 on of AA 01 02, and two from place 2 on are not understood.
pub record Cases : Type 0 where
  pub byte : said_text_of (hex_byte_text_of blank 0x0A) ≡ 0x20 ∷ 0x30 ∷ 0x41 ∷ []
  pub wide : said_text_of (hex_word_text_of blank 0x80000000) ≡ 0x20 ∷ 0x38 ∷ 0x30 ∷ 0x30 ∷ 0x30 ∷ 0x30 ∷ 0x30 ∷ 0x30 ∷ 0x30 ∷ []
  pub bytes : said_text_of (hex_shown_of blank (0x01 ∷ 0xFF ∷ [])) ≡ 0x20 ∷ 0x30 ∷ 0x31 ∷ 0x20 ∷ 0x46 ∷ 0x46 ∷ []
  pub no_bytes : said_text_of (hex_shown_of blank []) ≡ 0x20 ∷ 0x2D ∷ []
  pub number : said_text_of (number_text_of blank 300) ≡ 0x20 ∷ 0x33 ∷ 0x30 ∷ 0x30 ∷ []
  pub one : said_text_of (range_of blank 3 3) ≡ 0x20 ∷ 0x33 ∷ []
  pub two : said_text_of (range_of blank 3 5) ≡ 0x20 ∷ 0x33 ∷ 0x2D ∷ 0x35 ∷ []
  pub lines : said_text_of (said_lines_of blank (0x61 ∷ 0x0A ∷ 0x62 ∷ [])) ≡ 0x20 ∷ 0x61 ∷ 0x2F ∷ 0x62 ∷ []
  pub looked : option_map said_text_of (look_of (0x20 ∷ 0x31 ∷ 0x20 ∷ 0x32 ∷ []) (0xAA ∷ 0x01 ∷ 0x02 ∷ [])) ≡ Some (0x20 ∷ 0x30 ∷ 0x31 ∷ 0x20 ∷ 0x30 ∷ 0x32 ∷ [])
  pub too_far : look_of (0x20 ∷ 0x32 ∷ 0x20 ∷ 0x32 ∷ []) (0xAA ∷ 0x01 ∷ 0x02 ∷ []) ≡ None
  pub no_lines : said_text_of (said_lines_of blank []) ≡ 0x20 ∷ 0x2D ∷ []

pub cases : Cases
unfolding pick empty_text appended_of character_of said_lines_of hex_shown_of front_of range_of digit_of index_of first_word_of script_word_at digit_in added_of decimal_begun next_field_of look_of
cases = record { byte = refl; wide = refl; bytes = refl; no_bytes = refl; number = refl; one = refl; two = refl; lines = refl; looked = refl; too_far = refl; no_lines = refl }

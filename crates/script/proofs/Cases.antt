-- What the definitions give for a few texts, by computation.
use Prim.Native.Nat.{ℕ}
use mathlib.Core.List.{List, [], ◌∷◌, map}
use mathlib.Core.Path.{◌≡◌, refl}
use Rattle.std.specs.Prelude.{None, Some, Ok, option_map}
use Rattle.basis.specs.Pick.{pick, differ}
use Rattle.script.specs.Words.{index_of, first_word_of, after_first_word_of, script_word_at}
use Rattle.script.specs.Digits.{digit_read_of, byte_read_of}
use Rattle.script.specs.Decimal.{added_of, decimal_begun, decimal_read_of}
use Rattle.script.specs.Fields.{number_field, fields_begun, unknown_field, next_field_of}
use Rattle.script.specs.Runs.{counted_run_of, times_of, byte_run_of}
use Rattle.script.specs.Spelling.{spelled_zeros, spelled_in, spelled_grown, spelled_turns, spelled_bytes_of, spell_of}
use Rattle.script.specs.declared.spelling.Spelled.{Spelled}

-- " 01 AA*2" and " 1G", as the words of a line.
abbrev bytes : List ℕ
bytes = 0x20 ∷ 0x30 ∷ 0x31 ∷ 0x20 ∷ 0x41 ∷ 0x41 ∷ 0x2A ∷ 0x32 ∷ []

abbrev no_byte : List ℕ
no_byte = 0x20 ∷ 0x31 ∷ 0x47 ∷ []

-- " x 7", as the words of a line.
abbrev unknown : List ℕ
unknown = 0x20 ∷ 0x78 ∷ 0x20 ∷ 0x37 ∷ []

-- The first word of "ab c" and what follows it; the number 10 up to 10 and up to 9, no characters, the figures 0, 1, 8 and 9, and the characters
-- around them; the bytes 01 AA AA, and none; a word that is no number, the number 7 that is read on behind it, and no word behind that.
pub record Cases : Type 0 where
  pub first_word : first_word_of (0x61 ∷ 0x62 ∷ 0x20 ∷ 0x63 ∷ []) ≡ 0x61 ∷ 0x62 ∷ []
  pub behind_it : after_first_word_of (0x61 ∷ 0x62 ∷ 0x20 ∷ 0x63 ∷ []) ≡ 0x20 ∷ 0x63 ∷ []
  pub ten : decimal_read_of (0x31 ∷ 0x30 ∷ []) 10 ≡ Some 10
  pub too_much : decimal_read_of (0x31 ∷ 0x30 ∷ []) 9 ≡ None
  pub nothing : decimal_read_of [] 9 ≡ None
  pub figures : map (λ (c : ℕ). decimal_read_of (c ∷ []) 9) (0x30 ∷ 0x31 ∷ 0x38 ∷ 0x39 ∷ []) ≡ Some 0 ∷ Some 1 ∷ Some 8 ∷ Some 9 ∷ []
  pub no_figure : map (λ (c : ℕ). decimal_read_of (c ∷ []) 99) (0x2F ∷ 0x3A ∷ 0x41 ∷ []) ≡ None ∷ None ∷ None ∷ []
  pub three : option_map (λ (s : Spelled). s.len) (spell_of bytes) ≡ Some 3
  pub they_are : option_map spelled_bytes_of (spell_of bytes) ≡ Some (0x01 ∷ 0xAA ∷ 0xAA ∷ [])
  pub no_byte_lem : spell_of no_byte ≡ None
  pub no_number : next_field_of fields_begun unknown 99 ≡ unknown_field 2
  pub read_on : next_field_of (number_field 0 2) unknown 99 ≡ Ok (number_field 7 4)
  pub no_word : next_field_of (number_field 7 4) unknown 99 ≡ unknown_field 4

pub cases : Cases
unfolding pick differ index_of first_word_of after_first_word_of script_word_at digit_read_of byte_read_of added_of decimal_begun next_field_of counted_run_of times_of byte_run_of spelled_zeros spelled_in spelled_grown spelled_turns
cases = record { first_word = refl; behind_it = refl; ten = refl; too_much = refl; nothing = refl; figures = refl; no_figure = refl; three = refl; they_are = refl; no_byte_lem = refl; no_number = refl; read_on = refl; no_word = refl }

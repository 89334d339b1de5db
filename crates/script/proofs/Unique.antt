-- Each public contract leaves one answer and one state of the lent memory. Written from the contracts by tools/contracts.
use Rattle.std.specs.Prelude.{◌≡◌, List, ℕ, Result, Bool, Option, drop, take, min, length}
use Rattle.basis.specs.Only.{only}
use Rattle.script.specs.Decimal.{decimal_read_of}
use Rattle.script.specs.Fields.{fields_begun, next_field_of, field_byte_of, field_word_of, is_last_field}
use Rattle.script.specs.Heading.{asks_of}
use Rattle.script.specs.Spelling.{spelled_bytes_of, spell_of}
use Rattle.script.specs.Words.{first_word_of, after_first_word_of}
use Rattle.script.specs.declared.field.Field.{Field}
use Rattle.script.specs.declared.field.NoNumber.{NoNumber}
use Rattle.script.specs.declared.spelling.Spelled.{Spelled}

pub one_none : (r r' : Field)
    → r ≡ fields_begun
    → r' ≡ fields_begun
    → r ≡ r'
one_none r r' is is' = only is is'

pub one_next : (self : Field) (words : List ℕ) (most : ℕ) (r r' : Result Field NoNumber)
    → r ≡ next_field_of self words most
    → r' ≡ next_field_of self words most
    → r ≡ r'
one_next self words most r r' is is' = only is is'

pub one_byte : (self : Field) (r r' : ℕ)
    → r ≡ field_byte_of self
    → r' ≡ field_byte_of self
    → r ≡ r'
one_byte self r r' is is' = only is is'

pub one_word : (self : Field) (r r' : ℕ)
    → r ≡ field_word_of self
    → r' ≡ field_word_of self
    → r ≡ r'
one_word self r r' is is' = only is is'

pub one_is_last : (self : Field) (words : List ℕ) (r r' : Bool)
    → r ≡ is_last_field self words
    → r' ≡ is_last_field self words
    → r ≡ r'
one_is_last self words r r' is is' = only is is'

pub one_asks : (line : List ℕ) (r r' : Bool)
    → r ≡ asks_of line
    → r' ≡ asks_of line
    → r ≡ r'
one_asks line r r' is is' = only is is'

pub one_decimal : (s : List ℕ) (most : ℕ) (r r' : Option ℕ)
    → r ≡ decimal_read_of s most
    → r' ≡ decimal_read_of s most
    → r ≡ r'
one_decimal s most r r' is is' = only is is'

pub one_from : (s : List ℕ) (at : ℕ) (r r' : List ℕ)
    → r ≡ drop at s
    → r' ≡ drop at s
    → r ≡ r'
one_from s at r r' is is' = only is is'

pub one_upto : (s : List ℕ) (n : ℕ) (r r' : List ℕ)
    → r ≡ take n s
    → r' ≡ take n s
    → r ≡ r'
one_upto s n r r' is is' = only is is'

pub one_part_of : (memory : List ℕ) (wanted r r' : ℕ)
    → r ≡ min wanted (length memory)
    → r' ≡ min wanted (length memory)
    → r ≡ r'
one_part_of memory wanted r r' is is' = only is is'

pub one_as_bytes : (self : Spelled) (r r' : List ℕ)
    → r ≡ spelled_bytes_of self
    → r' ≡ spelled_bytes_of self
    → r ≡ r'
one_as_bytes self r r' is is' = only is is'

pub one_spell : (words : List ℕ) (r r' : Option Spelled)
    → r ≡ spell_of words
    → r' ≡ spell_of words
    → r ≡ r'
one_spell words r r' is is' = only is is'

pub one_first : (s r r' : List ℕ)
    → r ≡ first_word_of s
    → r' ≡ first_word_of s
    → r ≡ r'
one_first s r r' is is' = only is is'

pub one_rest : (s r r' : List ℕ)
    → r ≡ after_first_word_of s
    → r' ≡ after_first_word_of s
    → r ≡ r'
one_rest s r r' is is' = only is is'

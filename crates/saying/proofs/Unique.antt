-- Each public contract leaves one answer and one state of the lent memory. Written from the contracts by tools/contracts.
use Rattle.std.specs.Prelude.{ℕ, ◌≡◌, List, Option}
use Rattle.basis.specs.Only.{only}
use Rattle.saying.specs.Decimal.{number_text_of, range_of}
use Rattle.saying.specs.Hex.{hex_byte_text_of, hex_word_text_of, hex_bytes_text_of, hex_shown_of}
use Rattle.saying.specs.Look.{look_of}
use Rattle.saying.specs.Said.{empty_text, not_understood, said_text_of, appended_of, said_lines_of}
use Rattle.saying.specs.declared.said.Said.{Said}

pub one_number : (self : Said) (n : ℕ) (r r' : Said)
    → r ≡ number_text_of self n
    → r' ≡ number_text_of self n
    → r ≡ r'
one_number self n r r' is is' = only is is'

pub one_range : (self : Said) (first last : ℕ) (r r' : Said)
    → r ≡ range_of self first last
    → r' ≡ range_of self first last
    → r ≡ r'
one_range self first last r r' is is' = only is is'

pub one_hex : (self : Said) (b : ℕ) (r r' : Said)
    → r ≡ hex_byte_text_of self b
    → r' ≡ hex_byte_text_of self b
    → r ≡ r'
one_hex self b r r' is is' = only is is'

pub one_wide : (self : Said) (n : ℕ) (r r' : Said)
    → r ≡ hex_word_text_of self n
    → r' ≡ hex_word_text_of self n
    → r ≡ r'
one_wide self n r r' is is' = only is is'

pub one_all : (self : Said) (s : List ℕ) (r r' : Said)
    → r ≡ hex_bytes_text_of self s
    → r' ≡ hex_bytes_text_of self s
    → r ≡ r'
one_all self s r r' is is' = only is is'

pub one_shown : (self : Said) (s : List ℕ) (r r' : Said)
    → r ≡ hex_shown_of self s
    → r' ≡ hex_shown_of self s
    → r ≡ r'
one_shown self s r r' is is' = only is is'

pub one_look : (words memory : List ℕ) (r r' : Option Said)
    → r ≡ look_of words memory
    → r' ≡ look_of words memory
    → r ≡ r'
one_look words memory r r' is is' = only is is'

pub one_nothing : (r r' : Said)
    → r ≡ empty_text
    → r' ≡ empty_text
    → r ≡ r'
one_nothing r r' is is' = only is is'

pub one_not_understood : (r r' : Said)
    → r ≡ not_understood
    → r' ≡ not_understood
    → r ≡ r'
one_not_understood r r' is is' = only is is'

pub one_as_bytes : (self : Said) (r r' : List ℕ)
    → r ≡ said_text_of self
    → r' ≡ said_text_of self
    → r ≡ r'
one_as_bytes self r r' is is' = only is is'

pub one_text : (self : Said) (s : List ℕ) (r r' : Said)
    → r ≡ appended_of self s
    → r' ≡ appended_of self s
    → r ≡ r'
one_text self s r r' is is' = only is is'

pub one_lines : (self : Said) (s : List ℕ) (r r' : Said)
    → r ≡ said_lines_of self s
    → r' ≡ said_lines_of self s
    → r ≡ r'
one_lines self s r r' is is' = only is is'

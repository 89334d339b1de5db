-- Each public contract leaves one answer and one state of the lent memory. Written from the contracts by tools/contracts.
use Rattle.std.specs.Prelude.{ℕ, List, ◌≡◌, []}
use Rattle.basis.specs.Only.{only}
use Rattle.printing.specs.Digits.{hex_of}
use Rattle.printing.specs.Line.{text_of, stop_text}
use Rattle.printing.specs.declared.text.Line.{Line}

pub one_digits : (value : ℕ) (r r' : List ℕ)
    → r ≡ hex_of 8 value
    → r' ≡ hex_of 8 value
    → r ≡ r'
one_digits value r r' is is' = only is is'

pub one_text : (self : Line) (r r' : List ℕ)
    → r ≡ self
    → r' ≡ self
    → r ≡ r'
one_text self r r' is is' = only is is'

pub one_line_of : (cci number : ℕ) (r r' : Line)
    → r ≡ text_of cci number
    → r' ≡ text_of cci number
    → r ≡ r'
one_line_of cci number r r' is is' = only is is'

pub one_stop : (r r' : Line)
    → r ≡ stop_text
    → r' ≡ stop_text
    → r ≡ r'
one_stop r r' is is' = only is is'

pub one_none : (r r' : Line)
    → r ≡ []
    → r' ≡ []
    → r ≡ r'
one_none r r' is is' = only is is'

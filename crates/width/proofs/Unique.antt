-- Each public contract leaves one answer and one state of the lent memory. Written from the contracts by tools/contracts.
use Rattle.std.specs.Prelude.{ℕ, ◌≡◌}
use Rattle.basis.specs.Only.{only}
use Rattle.width.specs.Halves.{halves_of}
use Rattle.width.specs.Narrow.{at_most}

pub one_to_byte : (number r r' : ℕ)
    → r ≡ at_most 255 number
    → r' ≡ at_most 255 number
    → r ≡ r'
one_to_byte number r r' is is' = only is is'

pub one_to_half : (number r r' : ℕ)
    → r ≡ at_most 65535 number
    → r' ≡ at_most 65535 number
    → r ≡ r'
one_to_half number r r' is is' = only is is'

pub one_halves : (low high r r' : ℕ)
    → r ≡ halves_of low high
    → r' ≡ halves_of low high
    → r ≡ r'
one_halves low high r r' is is' = only is is'

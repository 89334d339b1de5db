-- Each public contract leaves one answer and one state of the lent memory. Written from the contracts by tools/contracts.
use Rattle.std.specs.Prelude.{ℕ, ◌≡◌}
use Rattle.basis.specs.Only.{only}

pub one_number : {Self : Type 0} (number_of : Self → ℕ) (self : Self) (r r' : ℕ)
    → r ≡ number_of self
    → r' ≡ number_of self
    → r ≡ r'
one_number number_of self r r' is is' = only is is'

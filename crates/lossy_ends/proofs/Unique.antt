-- Each public contract leaves one answer and one state of the lent memory. Written from the contracts by tools/contracts.
use Rattle.std.specs.Prelude.{ℕ, ◌≡◌}
use Rattle.basis.specs.Only.{only}
use Rattle.lent.specs.declared.outcome.Outcome.{Outcome}
use Rattle.lossy_ends.specs.Called.{called_of}
use Rattle.lossy_ends.specs.declared.called.Called.{Called}
use Rattle.luck.specs.declared.way.Way.{Way}

pub one_new : {S A : Type 0} (number_of : A → ℕ) (heard : Outcome S A) (before : Way) (r r' : Called S)
    → r ≡ called_of number_of heard before
    → r' ≡ called_of number_of heard before
    → r ≡ r'
one_new number_of heard before r r' is is' = only is is'

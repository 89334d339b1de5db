-- Each public contract leaves one answer and one state of the lent memory. Written from the contracts by tools/contracts.
use Rattle.std.specs.Prelude.{ℕ, ◌≡◌}
use Rattle.basis.specs.Only.{only}
use Rattle.wire.specs.Status.{code_of}
use Rattle.wire.specs.declared.status.Status.{Status}

pub one_from_status : (status : Status) (r r' : ℕ)
    → r ≡ code_of status
    → r' ≡ code_of status
    → r ≡ r'
one_from_status status r r' is is' = only is is'

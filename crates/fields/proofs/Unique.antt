-- Each public contract leaves one answer and one state of the lent memory. Written from the contracts by tools/contracts.
use Rattle.std.specs.Prelude.{◌≡◌}
use Rattle.basis.specs.Only.{only}
use Rattle.wire.specs.Identity.{cleared}
use Rattle.wire.specs.declared.response.Identity.{Identity}

pub one_cleared : (identity r r' : Identity)
    → r ≡ cleared identity
    → r' ≡ cleared identity
    → r ≡ r'
one_cleared identity r r' is is' = only is is'

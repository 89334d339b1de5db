-- Each public contract leaves one answer and one state of the lent memory. Written from the contracts by tools/contracts.
use Rattle.std.specs.Prelude.{ℕ, ◌≡◌}
use Rattle.basis.specs.Only.{only}
use Rattle.version_c.specs.Version.{harsolvek_version}

pub one_harsolvek_version : (r r' : ℕ)
    → r ≡ harsolvek_version
    → r' ≡ harsolvek_version
    → r ≡ r'
one_harsolvek_version r r' is is' = only is is'

-- Each public contract leaves one answer and one state of the lent memory. Written from the contracts by tools/contracts.
use Rattle.std.specs.Prelude.{ℕ, Result, ◌≡◌}
use Rattle.basis.specs.Only.{only}
use Rattle.silence.specs.Expiry.{grown_of}
use Rattle.silence.specs.Settings.{settings_of}
use Rattle.silence.specs.declared.Grown.{Grown}
use Rattle.silence.specs.declared.OutOfLimits.{OutOfLimits}
use Rattle.silence.specs.declared.Settings.{Settings}

pub one_new : (limit resends : ℕ) (r r' : Result Settings OutOfLimits)
    → r ≡ settings_of limit resends
    → r' ≡ settings_of limit resends
    → r ≡ r'
one_new limit resends r r' is is' = only is is'

pub one_grow : (silence elapsed resends : ℕ) (settings : Settings) (r r' : Grown)
    → r ≡ grown_of silence elapsed resends settings
    → r' ≡ grown_of silence elapsed resends settings
    → r ≡ r'
one_grow silence elapsed resends settings r r' is is' = only is is'

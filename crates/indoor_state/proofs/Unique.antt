-- Each public contract leaves one answer and one state of the lent memory. Written from the contracts by tools/contracts.
use Rattle.std.specs.Prelude.{Option, ◌≡◌}
use Rattle.basis.specs.Only.{only}
use Rattle.indoor_state.specs.Answer.{sends_of}
use Rattle.indoor_state.specs.declared.answer.Answer.{Answer}
use Rattle.indoor_state.specs.declared.answer.Sends.{Sends}
use Rattle.indoor_state.specs.declared.session.StartRefused.TheVariants.{Settings}
use Rattle.indoor_state.specs.declared.session.StartRefused.{StartRefused}
use Rattle.silence.specs.declared.OutOfLimits.{OutOfLimits}

pub one_sends : (self : Answer) (r r' : Option Sends)
    → r ≡ sends_of self
    → r' ≡ sends_of self
    → r ≡ r'
one_sends self r r' is is' = only is is'

pub one_from_outoflimits : (value : OutOfLimits) (r r' : StartRefused)
    → r ≡ Settings
    → r' ≡ Settings
    → r ≡ r'
one_from_outoflimits value r r' is is' = only is is'

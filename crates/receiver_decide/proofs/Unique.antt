-- Each public contract leaves one answer and one state of the lent memory. Written from the contracts by tools/contracts.
use Rattle.std.specs.Prelude.{ℕ, Option, ◌≡◌, Bool}
use Rattle.basis.specs.Only.{only}
use Rattle.receiver_rules.specs.Decide.{receiver_decide_of}
use Rattle.receiver_rules.specs.Range.{out_of_range}
use Rattle.receiver_rules.specs.Tick.{receiver_tick_of}
use Rattle.receiver_state.specs.Answer.{reply_of}
use Rattle.receiver_state.specs.Phase.{nothing_accepted, accepted_of}
use Rattle.receiver_state.specs.declared.answer.Answer.{Answer}
use Rattle.receiver_state.specs.declared.phase.Accepted.{Accepted}
use Rattle.receiver_state.specs.declared.phase.Phase.{Phase}
use Rattle.receiver_state.specs.declared.step.Step.{Step}
use Rattle.receiver_state.specs.declared.step.Tick.{Tick}
use Rattle.receiver_state.specs.declared.verdict.Given.{Given}
use Rattle.silence.specs.declared.Settings.{Settings}
use Rattle.wire.specs.declared.request.Request.{Request}
use Rattle.wire.specs.declared.response.Identity.{Identity}
use Rattle.wire.specs.declared.response.Response.{Response}

pub one_reply : (answer : Answer) (identity : Identity) (capacity : ℕ) (r r' : Option Response)
    → r ≡ reply_of identity capacity answer
    → r' ≡ reply_of identity capacity answer
    → r ≡ r'
one_reply answer identity capacity r r' is is' = only is is'

pub one_nothing_accepted : (r r' : Accepted)
    → r ≡ nothing_accepted
    → r' ≡ nothing_accepted
    → r ≡ r'
one_nothing_accepted r r' is is' = only is is'

pub one_accepted : (phase : Phase) (r r' : Accepted)
    → r ≡ accepted_of phase
    → r' ≡ accepted_of phase
    → r ≡ r'
one_accepted phase r r' is is' = only is is'

pub one_out_of_range : (given : Given) (r r' : Bool)
    → r ≡ out_of_range given.readiness given.verdict
    → r' ≡ out_of_range given.readiness given.verdict
    → r ≡ r'
one_out_of_range given r r' is is' = only is is'

pub one_decide : (phase : Phase) (request : Request) (capacity : ℕ) (given : Given) (r r' : Step)
    → r ≡ receiver_decide_of phase request capacity given.readiness given.verdict
    → r' ≡ receiver_decide_of phase request capacity given.readiness given.verdict
    → r ≡ r'
one_decide phase request capacity given r r' is is' = only is is'

pub one_pass : (phase : Phase) (silence elapsed resends : ℕ) (settings : Settings) (r r' : Tick)
    → r ≡ receiver_tick_of phase silence elapsed resends settings
    → r' ≡ receiver_tick_of phase silence elapsed resends settings
    → r ≡ r'
one_pass phase silence elapsed resends settings r r' is is' = only is is'

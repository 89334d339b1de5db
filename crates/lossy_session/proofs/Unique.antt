-- Each public contract leaves one answer and one state of the lent memory. Written from the contracts by tools/contracts.
use Rattle.std.specs.Prelude.{List, ℕ, ◌≡◌, Result}
use Rattle.basis.specs.Left.{left}
use Rattle.basis.specs.Only.{only}
use Rattle.indoor_state.specs.declared.plan.Release.{Release}
use Rattle.indoor_state.specs.declared.session.StartRefused.{StartRefused}
use Rattle.lossy_ends.specs.Both.{both}
use Rattle.lossy_ends.specs.declared.ends.Ends.{Ends}
use Rattle.lossy_session.specs.Judge.{session_judged_of}
use Rattle.lossy_session.specs.Pass.{both_pass_of}
use Rattle.lossy_session.specs.Start.{both_start_of}
use Rattle.lossy_session.specs.declared.judge_call.Judged.{Judged}
use Rattle.lossy_session.specs.declared.pass_call.Passed.{Passed}
use Rattle.lossy_session.specs.declared.start_call.Limits.{Limits}
use Rattle.lossy_session.specs.declared.start_call.NotStarted.TheVariants.{Roof, Indoors}
use Rattle.lossy_session.specs.declared.start_call.NotStarted.{NotStarted}
use Rattle.silence.specs.declared.OutOfLimits.{OutOfLimits}
use Rattle.wire.specs.declared.response.Identity.{Identity}

pub one_judge : (ends : Ends) (file image : List ℕ) (r r' : Judged)
    → r ≡ session_judged_of ends file image
    → r' ≡ session_judged_of ends file image
    → r ≡ r'
one_judge ends file image r r' is is' = only is is'

pub one_pass : (ends : Ends) (elapsed : ℕ) (file up down : List ℕ) (r r' : Passed) (up_left up_left' down_left down_left' : List ℕ)
    → both r up_left down_left ≡ both_pass_of ends elapsed file up down
    → both r' up_left' down_left' ≡ both_pass_of ends elapsed file up down
    → both r up_left down_left ≡ both r' up_left' down_left'
one_pass ends elapsed file up down r r' up_left up_left' down_left down_left' is is' = only is is'

pub one_from_outoflimits : (refusal : OutOfLimits) (r r' : NotStarted)
    → r ≡ Roof refusal
    → r' ≡ Roof refusal
    → r ≡ r'
one_from_outoflimits refusal r r' is is' = only is is'

pub one_from_startrefused : (refusal : StartRefused) (r r' : NotStarted)
    → r ≡ Indoors refusal
    → r' ≡ Indoors refusal
    → r ≡ r'
one_from_startrefused refusal r r' is is' = only is is'

pub one_start : (roof indoors : Limits) (identity : Identity) (release : Release) (file : List ℕ) (capacity : ℕ) (up : List ℕ) (r r' : Result Ends NotStarted) (up_left up_left' : List ℕ)
    → left r up_left ≡ both_start_of roof indoors identity release file capacity up
    → left r' up_left' ≡ both_start_of roof indoors identity release file capacity up
    → left r up_left ≡ left r' up_left'
one_start roof indoors identity release file capacity up r r' up_left up_left' is is' = only is is'

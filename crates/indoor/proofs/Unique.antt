-- Each public contract leaves one answer and one state of the lent memory. Written from the contracts by tools/contracts.
use Rattle.std.specs.Prelude.{List, ℕ, ◌≡◌, Result}
use Rattle.basis.specs.Left.{left}
use Rattle.basis.specs.Only.{only}
use Rattle.indoor_rules.specs.Response.{indoor_response_of}
use Rattle.indoor_rules.specs.Start.{indoor_start_of}
use Rattle.indoor_rules.specs.Time.{indoor_time_of}
use Rattle.indoor_state.specs.declared.answer.Answer.{Answer}
use Rattle.indoor_state.specs.declared.plan.Release.{Release}
use Rattle.indoor_state.specs.declared.session.Indoor.{Indoor}
use Rattle.indoor_state.specs.declared.session.StartRefused.{StartRefused}
use Rattle.indoor_state.specs.declared.session.Started.{Started}
use Rattle.lent.specs.declared.outcome.Outcome.{Outcome}

pub one_response : (session : Indoor) (file response out : List ℕ) (r r' : Outcome Indoor Answer) (out_left out_left' : List ℕ)
    → left r out_left ≡ indoor_response_of session file response out
    → left r' out_left' ≡ indoor_response_of session file response out
    → left r out_left ≡ left r' out_left'
one_response session file response out r r' out_left out_left' is is' = only is is'

pub one_start : (limit resends : ℕ) (release : Release) (file out : List ℕ) (r r' : Result Started StartRefused) (out_left out_left' : List ℕ)
    → left r out_left ≡ indoor_start_of limit resends release file out
    → left r' out_left' ≡ indoor_start_of limit resends release file out
    → left r out_left ≡ left r' out_left'
one_start limit resends release file out r r' out_left out_left' is is' = only is is'

pub one_time : (session : Indoor) (file : List ℕ) (elapsed : ℕ) (out : List ℕ) (r r' : Outcome Indoor Answer) (out_left out_left' : List ℕ)
    → left r out_left ≡ indoor_time_of session file elapsed out
    → left r' out_left' ≡ indoor_time_of session file elapsed out
    → left r out_left ≡ left r' out_left'
one_time session file elapsed out r r' out_left out_left' is is' = only is is'

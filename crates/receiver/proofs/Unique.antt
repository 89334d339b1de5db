-- Each public contract leaves one answer and one state of the lent memory. Written from the contracts by tools/contracts.
use Rattle.std.specs.Prelude.{ℕ, List, Result, ◌≡◌, Bool}
use Rattle.basis.specs.Left.{left}
use Rattle.basis.specs.Only.{only}
use Rattle.lent.specs.declared.outcome.Outcome.{Outcome}
use Rattle.receiver_rules.specs.Hearing.{heard_of, has_identity, identity_sent_of, answer_sent_of}
use Rattle.receiver_rules.specs.Request.{effect, receiver_request_of}
use Rattle.receiver_rules.specs.Session.{receiver_start_of}
use Rattle.receiver_rules.specs.Sum.{receiver_sum_of}
use Rattle.receiver_rules.specs.Time.{receiver_time_of}
use Rattle.receiver_state.specs.declared.answer.Answer.{Answer}
use Rattle.receiver_state.specs.declared.phase.Phase.{Phase}
use Rattle.receiver_state.specs.declared.session.Receiver.{Receiver}
use Rattle.receiver_state.specs.declared.step.Heard.{Heard}
use Rattle.receiver_state.specs.declared.sum.ImageLength.{ImageLength}
use Rattle.receiver_state.specs.declared.verdict.Given.{Given}
use Rattle.silence.specs.declared.OutOfLimits.{OutOfLimits}
use Rattle.wire.specs.declared.response.Identity.{Identity}

pub one_hear : (phase : Phase) (capacity : ℕ) (image request : List ℕ) (given : Given) (room : ℕ) (r r' : Result Heard Answer) (image_left image_left' : List ℕ)
    → left r image_left ≡ heard_of phase capacity image request given.readiness given.verdict room
    → left r' image_left' ≡ heard_of phase capacity image request given.readiness given.verdict room
    → left r image_left ≡ left r' image_left'
one_hear phase capacity image request given room r r' image_left image_left' is is' = only is is'

pub one_request : (session : Receiver) (image request : List ℕ) (given : Given) (out : List ℕ) (r r' : Outcome Receiver Answer) (image_left image_left' out_left out_left' : List ℕ)
    → effect r image_left out_left ≡ receiver_request_of session image request given.readiness given.verdict out
    → effect r' image_left' out_left' ≡ receiver_request_of session image request given.readiness given.verdict out
    → effect r image_left out_left ≡ effect r' image_left' out_left'
one_request session image request given out r r' image_left image_left' out_left out_left' is is' = only is is'

pub one_has_identity : (answer : Answer) (r r' : Bool)
    → r ≡ has_identity answer
    → r' ≡ has_identity answer
    → r ≡ r'
one_has_identity answer r r' is is' = only is is'

pub one_send_identity : (out : List ℕ) (identity : Identity) (r r' : ℕ) (out_left out_left' : List ℕ)
    → left r out_left ≡ identity_sent_of identity out
    → left r' out_left' ≡ identity_sent_of identity out
    → left r out_left ≡ left r' out_left'
one_send_identity out identity r r' out_left out_left' is is' = only is is'

pub one_send_answer : (out : List ℕ) (capacity : ℕ) (answer : Answer) (r r' : ℕ) (out_left out_left' : List ℕ)
    → left r out_left ≡ answer_sent_of capacity answer out
    → left r' out_left' ≡ answer_sent_of capacity answer out
    → left r out_left ≡ left r' out_left'
one_send_answer out capacity answer r r' out_left out_left' is is' = only is is'

pub one_start : (limit resends : ℕ) (identity : Identity) (capacity : ℕ) (r r' : Result Receiver OutOfLimits)
    → r ≡ receiver_start_of limit resends identity capacity
    → r' ≡ receiver_start_of limit resends identity capacity
    → r ≡ r'
one_start limit resends identity capacity r r' is is' = only is is'

pub one_sum : (session : Receiver) (image : List ℕ) (r r' : Result ℕ ImageLength)
    → r ≡ receiver_sum_of session image
    → r' ≡ receiver_sum_of session image
    → r ≡ r'
one_sum session image r r' is is' = only is is'

pub one_time : (session : Receiver) (elapsed : ℕ) (out : List ℕ) (r r' : Outcome Receiver Answer) (out_left out_left' : List ℕ)
    → left r out_left ≡ receiver_time_of session elapsed out
    → left r' out_left' ≡ receiver_time_of session elapsed out
    → left r out_left ≡ left r' out_left'
one_time session elapsed out r r' out_left out_left' is is' = only is is'

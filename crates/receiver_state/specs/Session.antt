-- What a start answers, with document 01's number, and what a call returns (01, Numbers we answer).
use Rattle.std.specs.Prelude.{ℕ, Result}
use Rattle.lent.specs.declared.outcome.Outcome as lent
use Rattle.numbers.specs.Number.{number_in}
use Rattle.silence.specs.Settings.{limits_number_of}
use Rattle.silence.specs.declared.OutOfLimits.{OutOfLimits}
use Rattle.receiver_state.specs.declared.answer.Answer.{Answer}
use Rattle.receiver_state.specs.declared.session.Receiver.{Receiver}

-- A session, or a refusal with which there is none.
abbrev pub Started : Type 0
Started = Result Receiver OutOfLimits

abbrev pub receiver_start_number_of : Started → ℕ
receiver_start_number_of started = number_in limits_number_of started

abbrev pub Outcome : Type 0
Outcome = lent.Outcome Receiver Answer

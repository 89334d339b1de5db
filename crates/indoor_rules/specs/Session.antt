-- A session of the indoor end, and what a call returns.
use Rattle.std.specs.Prelude.{ℕ, List, length}
use Rattle.basis.specs.Left.{Left, left}
use Rattle.lent.specs.Written.{written_into}
use Rattle.indoor_state.specs.declared.plan.Plan.{Plan}
use Rattle.indoor_state.specs.declared.phase.State.{State}
use Rattle.indoor_state.specs.declared.answer.Answer.{Answer}
use Rattle.indoor_state.specs.declared.step.Step.{Step}
use Rattle.indoor_rules.specs.Send.{indoor_bytes_of}
use Rattle.indoor_state.specs.declared.session.Indoor.{Indoor}
use Rattle.indoor_state.specs.Session.{IndoorOutcome}

abbrev pub indoor : Plan → State → Indoor
indoor plan state = record { plan = plan; state = state }

-- The session after a call, its answer, and how many bytes it wrote.
abbrev pub indoor_returns : Indoor → Answer → ℕ → IndoorOutcome
indoor_returns s answer written = record { session = s; answer = answer; written = written }

-- Kept: nothing changes.
abbrev pub indoor_kept : Indoor → Answer → List ℕ → Left IndoorOutcome
indoor_kept s answer out = left (indoor_returns s answer 0) out

-- What a call returns once its step is decided.
abbrev pub indoor_stepped : Plan → Step → ℕ → IndoorOutcome
indoor_stepped plan step written = indoor_returns (indoor plan step.state) step.answer written

-- And what it leaves: the request, if any, in the first bytes of the buffer.
abbrev pub indoor_done : Plan → Step → List ℕ → List ℕ → Left IndoorOutcome
indoor_done plan step file out =
    left (indoor_stepped plan step (length (indoor_bytes_of plan file step.answer)))
    (written_into (indoor_bytes_of plan file step.answer) out)

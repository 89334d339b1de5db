-- What a report of the port does: 7, then 8 (01, The mailbox; 01, Numbers we answer).
use Rattle.std.specs.Prelude.{ℕ, not, ltb, Ok}
use Rattle.basis.specs.Pick.{pick}
use Rattle.mailbox_state.specs.Status.{runs_of}
use Rattle.mailbox_state.specs.Step.{mailbox_step, refused}
use Rattle.mailbox_state.specs.declared.answer.Refusal.TheVariants.{NothingRuns, DataTooLong}
use Rattle.mailbox_state.specs.declared.status.CommandStatus.TheVariants.{Completed, Failed}
use Rattle.mailbox_state.specs.declared.state.State.{State}
use Rattle.mailbox_state.specs.declared.step.MessageEffect.TheVariants.{ZeroedAtCompletion, Filled}
use Rattle.mailbox_state.specs.declared.step.Step.{Step}
use Rattle.mailbox_rules.specs.Write.{with_status}

-- 000 Table A-2: MAX_DATA_LENGTH.
abbrev pub data_most : ℕ
data_most = 255

-- A success of so many bytes, which go to MESSAGE_IN.
unfoldable pub success_step_of : State → ℕ → Step
success_step_of state length =
    pick (not (runs_of state.status)) (refused state NothingRuns)
    (pick (ltb data_most length) (refused state DataTooLong)
    (mailbox_step (with_status state (Completed length)) (Ok tt) Filled))

unfoldable pub failure_step_of : State → Step
failure_step_of state = pick (not (runs_of state.status)) (refused state NothingRuns)
    (mailbox_step (with_status state Failed) (Ok tt) ZeroedAtCompletion)

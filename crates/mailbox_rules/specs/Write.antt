-- What a write of CONTROL does (01, The mailbox).
use Rattle.std.specs.Prelude.{ℕ, Bool, not, ◌&&◌, eqb, leb, Ok, Err}
use Rattle.basis.specs.Pick.{pick}
use Rattle.commands.specs.Codes.{connector_reset}
use Rattle.commands.specs.Table.{entry_of}
use Rattle.commands.specs.declared.table.Class.{Class}
use Rattle.commands.specs.declared.table.Class.TheVariants as class
use Rattle.commands.specs.declared.table.Entry.{Entry}
use Rattle.commands.specs.declared.control.Control.{Control}
use Rattle.mailbox_state.specs.Answer.{Answer}
use Rattle.mailbox_state.specs.State.{no_changes}
use Rattle.mailbox_state.specs.Step.{mailbox_step, refused}
use Rattle.mailbox_state.specs.declared.status.Command.{Command}
use Rattle.mailbox_state.specs.declared.status.CommandStatus.{CommandStatus}
use Rattle.mailbox_state.specs.declared.status.CommandStatus.TheVariants.{ResetDone, Busy, Completed, Failed, NotSupported, Cancelled, Acknowledged}
use Rattle.mailbox_state.specs.declared.state.Notifications.TheVariants.{Off, On}
use Rattle.mailbox_state.specs.declared.state.State.{State}
use Rattle.mailbox_state.specs.declared.step.MessageEffect.TheVariants.{Kept, ZeroedAtReset, ZeroedAtCancel, ZeroedAtCompletion}
use Rattle.mailbox_state.specs.declared.step.Step.{Step}
use Rattle.mailbox_rules.specs.Changes.{next_shown_of}
use Rattle.mailbox_rules.specs.Refusal.{situation_of, refusal_of}

-- A connector number from 1 to the count.
unfoldable pub connector_there : ℕ → ℕ → Bool
connector_there connector count = leb 1 connector && leb connector count

-- The state with another status of the last command.
abbrev pub with_status : State → CommandStatus → State
with_status state status = record state { status = status }

-- PPM_RESET: changes and mask cleared, notifications off, nothing running, no acknowledgement due, MESSAGE_IN zero.
abbrev pub resets : State → Step
resets state = mailbox_step (record state { notifications = Off; status = ResetDone; changes = no_changes }) (Ok tt) ZeroedAtReset

-- CANCEL: the command runs no more.
abbrev pub cancels : State → Step
cancels state = mailbox_step (with_status state Cancelled) (Ok tt) ZeroedAtCancel

-- ACK_CC_CI: with bit 16 set it also clears the connector shown.
abbrev pub acknowledges : State → Bool → Step
acknowledges state change =
    mailbox_step
    (record state { status = Acknowledged; changes = pick change (next_shown_of state.changes) state.changes })
    (Ok tt)
    Kept

-- SET_NOTIFICATION_ENABLE: takes the mask, notifications on, completes at once.
abbrev pub enables : State → ℕ → Step
enables state mask = mailbox_step (record state { notifications = On mask; status = Completed 0 }) (Ok tt) ZeroedAtCompletion

-- What the port is to do.
abbrev pub command_of : Bool → Control → Command
command_of needs control =
    record {
      code = control.code;
      connector = pick needs control.connector 0;
      reset_type = pick (eqb control.code connector_reset) control.reset_type 0;
    }

-- A command completes at once with bits 30 and 31 where the connector that it needs is not there; else it runs until the port reports.
unfoldable pub starts_command : State → Bool → Control → Step
starts_command state needs control =
    pick (needs && not (connector_there control.connector state.connectors))
    (mailbox_step (with_status state Failed) (Ok tt) ZeroedAtCompletion)
    (mailbox_step (with_status state (Busy (command_of needs control))) (Ok tt) Kept)

-- Other codes complete at once with bits 25 and 31.
abbrev pub unsupported : State → Step
unsupported state = mailbox_step (with_status state NotSupported) (Ok tt) ZeroedAtCompletion

unfoldable pub taken_step_of : State → Class → Bool → Control → Step
taken_step_of state class.Reset needs control = resets state
taken_step_of state class.Cancel needs control = cancels state
taken_step_of state class.Acknowledge needs control = acknowledges state control.change
taken_step_of state class.Enable needs control = enables state control.mask
taken_step_of state class.Run needs control = starts_command state needs control
taken_step_of state class.NotSupported needs control = unsupported state

-- A write that is refused keeps everything.
unfoldable pub judged_step_of : State → Entry → Control → Answer → Step
judged_step_of state entry control (Ok taken) = taken_step_of state entry.class entry.connector control
judged_step_of state entry control (Err refusal) = refused state refusal

abbrev pub control_step_of : State → Control → Step
control_step_of state control =
    judged_step_of state (entry_of control.code) control (refusal_of (entry_of control.code).class (situation_of state control))

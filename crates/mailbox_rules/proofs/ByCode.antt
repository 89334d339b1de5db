-- Each command by its code, said back in the paper's words (01, The mailbox).
use Prim.Native.Nat.{ℕ, ◌≤◌, ◌<◌}
use mathlib.Core.Bool.{Bool, true, false}
use mathlib.Core.Path.{◌≡◌, ◌∙◌, ap}
use Rattle.std.specs.Prelude.{Ok, Err}
use Rattle.basis.specs.Pick.{pick, differ, eq_differ, ne_differ}
use Rattle.commands.specs.Table.{entry, entry_of}
use Rattle.commands.proofs.Rows.{rows}
use Rattle.commands.specs.declared.table.Class.{Class}
use Rattle.commands.specs.declared.table.Class.TheVariants as class
use Rattle.commands.specs.declared.control.Control.{Control}
use Rattle.mailbox_state.specs.State.{no_changes, mailbox_state, off_of}
use Rattle.mailbox_state.specs.Step.{mailbox_step, refused}
use Rattle.mailbox_state.specs.Status.{runs_of, due_of}
use Rattle.mailbox_state.specs.declared.answer.Refusal.TheVariants.{NothingToClear}
use Rattle.mailbox_state.specs.declared.status.Command.{Command}
use Rattle.mailbox_state.specs.declared.status.CommandStatus.TheVariants.{ResetDone, Busy, Completed, Failed, NotSupported, Cancelled, Acknowledged}
use Rattle.mailbox_state.specs.declared.state.Notifications.TheVariants.{Off, On}
use Rattle.mailbox_state.specs.declared.situation.Situation.{Situation}
use Rattle.mailbox_state.specs.declared.state.Changes.{Changes}
use Rattle.mailbox_state.specs.declared.state.State.{State}
use Rattle.mailbox_state.specs.declared.step.MessageEffect.TheVariants.{Kept, ZeroedAtReset, ZeroedAtCancel, ZeroedAtCompletion}
use Rattle.mailbox_state.specs.declared.step.Step.{Step}
use Rattle.mailbox_rules.specs.Changes.{next_shown_of}
use Rattle.mailbox_rules.specs.Refusal.{situation_of, refusal_of}
use Rattle.mailbox_rules.specs.Write.{connector_there, with_status, acknowledges, starts_command, taken_step_of, judged_step_of, control_step_of}
use Rattle.mailbox_rules.proofs.Running.{not_due}
use Rattle.mailbox_rules.proofs.Absent.{zero_absent, above_absent, is_there}
use Rattle.mailbox_rules.proofs.Answers.{reset_taken, running_3, free}
use Rattle.mailbox_rules.proofs.Answers as answers

abbrev command : ℕ → ℕ → ℕ → Command
command code connector type = record { code = code; connector = connector; reset_type = type }

-- Notifications on, nothing running, no acknowledgement due.
pub record Ready (state : State) : Type 0 where
  pub on : off_of state.notifications ≡ false
  pub still : runs_of state.status ≡ false
  pub acknowledged : due_of state.status ≡ false

module _ (state : State) (control : Control) where
  abbrev after : Step
  after = control_step_of state control

  abbrev situation : Situation
  situation = situation_of state control

  taken : (class : Class) (needs : Bool) → entry_of control.code ≡ entry class needs → refusal_of class situation ≡ Ok tt → after ≡ taken_step_of state class needs control
  unfolding judged_step_of
  taken class needs p q = rw (p, q)

  -- Accepted always: changes and mask cleared, notifications off, nothing running, no acknowledgement due.
  pub reset_row : control.code ≡ 0x01 → after ≡ mailbox_step (mailbox_state state.connectors Off ResetDone no_changes) (Ok tt) ZeroedAtReset
  unfolding taken_step_of
  reset_row e = taken class.Reset false (ap entry_of e ∙ rows.reset) (reset_taken situation)

  -- Takes the mask, notifications on, completes at once, with any mask.
  pub enable_row : control.code ≡ 0x05 → runs_of state.status ≡ false → due_of state.status ≡ false
      → after ≡ mailbox_step (mailbox_state state.connectors (On control.mask) (Completed 0) state.changes) (Ok tt) ZeroedAtCompletion
  unfolding taken_step_of
  enable_row e r d = taken class.Enable false (ap entry_of e ∙ rows.enable) (free situation r d).enable

  -- In a run: bit 26 and what 000 T4-4 prints beside it.
  pub cancel_row : control.code ≡ 0x02 → off_of state.notifications ≡ false → runs_of state.status ≡ true
      → after ≡ mailbox_step (with_status state Cancelled) (Ok tt) ZeroedAtCancel
  unfolding taken_step_of
  cancel_row e n r = taken class.Cancel false (ap entry_of e ∙ rows.cancel) ((running_3 situation r).cancel n (not_due state.status r))

  module _ (ready : Ready state) where
    runs_taken : refusal_of class.Run situation ≡ Ok tt
    runs_taken = (free situation ready.still ready.acknowledged).run ready.on

    -- GET_CAPABILITY needs no connector.
    pub capability_row : control.code ≡ 0x06 → after ≡ mailbox_step (with_status state (Busy (command 0x06 0 0))) (Ok tt) Kept
    unfolding taken_step_of starts_command pick
    capability_row e = taken class.Run false (ap entry_of e ∙ rows.capability) runs_taken ∙ rw e

    -- Other codes complete at once with bits 25 and 31.
    pub other_row : entry_of control.code ≡ entry class.NotSupported false → after ≡ mailbox_step (with_status state NotSupported) (Ok tt) ZeroedAtCompletion
    unfolding taken_step_of
    other_row e = taken class.NotSupported false e ((free situation ready.still ready.acknowledged).not_supported ready.on)

    -- Without the connector that it needs a command completes at once with bits 30 and 31.
    absent : entry_of control.code ≡ entry class.Run true → connector_there control.connector state.connectors ≡ false
        → after ≡ mailbox_step (with_status state Failed) (Ok tt) ZeroedAtCompletion
    unfolding taken_step_of starts_command pick
    absent e t = taken class.Run true e runs_taken ∙ rw t

    pub absent_zero : entry_of control.code ≡ entry class.Run true → control.connector ≡ 0 → after ≡ mailbox_step (with_status state Failed) (Ok tt) ZeroedAtCompletion
    absent_zero e z = absent e (zero_absent control.connector state.connectors z)

    pub absent_above : entry_of control.code ≡ entry class.Run true → state.connectors < control.connector
        → after ≡ mailbox_step (with_status state Failed) (Ok tt) ZeroedAtCompletion
    absent_above e h = absent e (above_absent control.connector state.connectors h)

    module _ (low : 1 ≤ control.connector) (high : control.connector ≤ state.connectors) where
      there : connector_there control.connector state.connectors ≡ true
      there = is_there control.connector state.connectors low high

      pub connector_reset_row : control.code ≡ 0x03
          → after ≡ mailbox_step (with_status state (Busy (command 0x03 control.connector control.reset_type))) (Ok tt) Kept
      unfolding taken_step_of starts_command pick
      connector_reset_row e = taken class.Run true (ap entry_of e ∙ rows.connector_reset) runs_taken ∙ rw (there, e)

      pub connector_capability_row : control.code ≡ 0x07 → after ≡ mailbox_step (with_status state (Busy (command 0x07 control.connector 0))) (Ok tt) Kept
      unfolding taken_step_of starts_command pick
      connector_capability_row e = taken class.Run true (ap entry_of e ∙ rows.connector_capability) runs_taken ∙ rw (there, e)

      pub connector_status_row : control.code ≡ 0x12 → after ≡ mailbox_step (with_status state (Busy (command 0x12 control.connector 0))) (Ok tt) Kept
      unfolding taken_step_of starts_command pick
      connector_status_row e = taken class.Run true (ap entry_of e ∙ rows.connector_status) runs_taken ∙ rw (there, e)

  -- ACK_CC_CI by its bits 16 and 17, by the connector shown and by what is due.
  module _ (e : control.code ≡ 0x04) (on : off_of state.notifications ≡ false) (still : runs_of state.status ≡ false) where
    abbrev acknowledged : Changes → Step
    acknowledged changes = mailbox_step (mailbox_state state.connectors state.notifications Acknowledged changes) (Ok tt) Kept

    acks : refusal_of class.Acknowledge situation ≡ Ok tt → after ≡ acknowledges state control.change
    unfolding taken_step_of
    acks t = taken class.Acknowledge false (ap entry_of e ∙ rows.acknowledge) t

    not_acked : refusal_of class.Acknowledge situation ≡ Err NothingToClear → after ≡ refused state NothingToClear
    unfolding judged_step_of
    not_acked t = rw (ap entry_of e ∙ rows.acknowledge, t)

    abbrev judged : answers.Acknowledged situation
    judged = answers.acknowledged situation on still

    module _ (shown : state.changes.shown ≡ 0 → ⊥) where
      is_shown : differ state.changes.shown 0 ≡ true
      is_shown = ne_differ state.changes.shown 0 shown

      pub change_acked : due_of state.status ≡ false → control.change ≡ true → control.completed ≡ false → after ≡ acknowledged (next_shown_of state.changes)
      unfolding pick
      change_acked d b c = acks (judged.change d is_shown b c) ∙ rw b

      pub both_acked : due_of state.status ≡ true → control.change ≡ true → control.completed ≡ true → after ≡ acknowledged (next_shown_of state.changes)
      unfolding pick
      both_acked d b c = acks (judged.both d is_shown b c) ∙ rw b

    pub completed_acked : due_of state.status ≡ true → control.change ≡ false → control.completed ≡ true → after ≡ acknowledged state.changes
    unfolding pick
    completed_acked d b c = acks (judged.completed d b c) ∙ rw b

    pub neither_5 : due_of state.status ≡ false → control.change ≡ false → control.completed ≡ false → after ≡ refused state NothingToClear
    neither_5 d b c = not_acked (judged.neither d b c)

    pub nothing_due_5 : due_of state.status ≡ false → control.completed ≡ true → after ≡ refused state NothingToClear
    nothing_due_5 d c = not_acked (judged.nothing_due d c)

    module _ (none : state.changes.shown ≡ 0) where
      none_is : differ state.changes.shown 0 ≡ false
      none_is = eq_differ state.changes.shown 0 none

      pub none_shown_5 : due_of state.status ≡ false → control.change ≡ true → control.completed ≡ false → after ≡ refused state NothingToClear
      none_shown_5 d b c = not_acked (judged.none_shown_lem d none_is b c)

      pub none_shown_due_5 : due_of state.status ≡ true → control.change ≡ true → control.completed ≡ true → after ≡ refused state NothingToClear
      none_shown_due_5 d b c = not_acked (judged.none_shown_due d none_is b c)

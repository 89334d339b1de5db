-- What a change on a connector does: 9, and then the mask (01, The mailbox; 01, Numbers we answer).
use Rattle.std.specs.Prelude.{ℕ, Bool, false, not, ltb, Ok}
use Rattle.std.specs.Int.Bits.{bit_and}
use Rattle.basis.specs.Pick.{pick}
use Rattle.mailbox_state.specs.Step.{mailbox_step, refused}
use Rattle.mailbox_state.specs.declared.answer.Refusal.TheVariants.{NoSuchConnector}
use Rattle.mailbox_state.specs.declared.state.Notifications.{Notifications}
use Rattle.mailbox_state.specs.declared.state.Notifications.TheVariants.{Off, On}
use Rattle.mailbox_state.specs.declared.state.State.{State}
use Rattle.mailbox_state.specs.declared.step.MessageEffect.TheVariants.{Kept}
use Rattle.mailbox_state.specs.declared.step.Step.{Step}
use Rattle.mailbox_rules.specs.Changes.{noted_of}
use Rattle.mailbox_rules.specs.Write.{connector_there}

-- The reason and the mask have a bit in common outside bit 0.
unfoldable pub meets_of : ℕ → ℕ → Bool
meets_of reason mask = ltb 1 (bit_and reason mask)

unfoldable pub heard_of : Notifications → ℕ → Bool
heard_of Off reason = false
heard_of (On mask) reason = meets_of reason mask

abbrev pub records_change : State → ℕ → Step
records_change state connector =
    mailbox_step (record state { changes = noted_of state.changes connector }) (Ok tt) Kept

-- A change that is not heard is dropped with answer 0.
unfoldable pub present_step_of : State → ℕ → ℕ → Step
present_step_of state connector reason =
    pick (not (heard_of state.notifications reason)) (mailbox_step state (Ok tt) Kept) (records_change state connector)

unfoldable pub change_step_of : State → ℕ → ℕ → Step
change_step_of state connector reason =
    pick (not (connector_there connector state.connectors)) (refused state NoSuchConnector) (present_step_of state connector reason)

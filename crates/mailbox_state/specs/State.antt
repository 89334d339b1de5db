-- The mailbox's state, all but its MESSAGE_IN (01, The mailbox).
use Rattle.std.specs.Prelude.{ℕ, Bool, true, false, List, replicate}
use Rattle.mailbox_state.specs.declared.status.CommandStatus.{CommandStatus}
use Rattle.mailbox_state.specs.declared.state.Notifications.{Notifications}
use Rattle.mailbox_state.specs.declared.state.Notifications.TheVariants.{Off, On}
use Rattle.mailbox_state.specs.declared.state.Changes.{Changes}
use Rattle.mailbox_state.specs.declared.state.State.{State}

unfoldable pub off_of : Notifications → Bool
off_of Off = true
off_of (On mask) = false

abbrev pub changes : ℕ → List Bool → Changes
changes shown waiting = record { shown = shown; waiting = waiting }

-- None shown, and none waiting.
abbrev pub no_changes : Changes
no_changes = changes 0 (replicate 8 false)

abbrev pub mailbox_state : ℕ → Notifications → CommandStatus → Changes → State
mailbox_state connectors notifications status changes = record { connectors = connectors; notifications = notifications; status = status; changes = changes }

-- What is read off the status: a command runs in Busy alone, and an acknowledgement is due after a completion or a cancel alone. Notifications
-- are off or on, with any mask. Where changes are cleared none is shown, and none of the 8 connectors waits (01, The mailbox).
use Prim.Native.Nat.{ℕ}
use mathlib.Core.Bool.{true, false}
use mathlib.Core.List.{List, [], ◌∷◌, map}
use mathlib.Core.Path.{◌≡◌, refl}
use Rattle.mailbox_state.specs.State.{off_of, no_changes}
use Rattle.mailbox_state.specs.Status.{runs_of, due_of}
use Rattle.mailbox_state.specs.declared.state.Notifications.TheVariants.{Off, On}
use Rattle.mailbox_state.specs.declared.status.Command.{Command}
use Rattle.mailbox_state.specs.declared.status.CommandStatus.{CommandStatus}
use Rattle.mailbox_state.specs.declared.status.CommandStatus.TheVariants.{Nothing, ResetDone, Busy, Completed, Failed, NotSupported, Cancelled, Acknowledged}

abbrev all : Command → ℕ → List CommandStatus
all command length = Nothing ∷ ResetDone ∷ Acknowledged ∷ Busy command ∷ Completed length ∷ Failed ∷ NotSupported ∷ Cancelled ∷ []

pub runs_rows : (command : Command) (length : ℕ) → map runs_of (all command length) ≡ false ∷ false ∷ false ∷ true ∷ false ∷ false ∷ false ∷ false ∷ []
unfolding runs_of
runs_rows command length = refl

pub due_rows : (command : Command) (length : ℕ) → map due_of (all command length) ≡ false ∷ false ∷ false ∷ false ∷ true ∷ true ∷ true ∷ true ∷ []
unfolding due_of
due_rows command length = refl

pub off_off : off_of Off ≡ true
unfolding off_of
off_off = refl

pub on_any_mask : (mask : ℕ) → off_of (On mask) ≡ false
unfolding off_of
on_any_mask mask = refl

pub cleared : (no_changes.shown ≡ 0) × (no_changes.waiting ≡ false ∷ false ∷ false ∷ false ∷ false ∷ false ∷ false ∷ false ∷ [])
cleared = (refl, refl)

-- The words and codes of include/harsolvek.h, in its own numbers.
use Prim.Native.Nat.{ℕ}
use mathlib.Core.Bool.{Bool, true, false}
use mathlib.Core.Path.{◌≡◌, refl}
use mathlib.Core.List.{List, [], ◌∷◌, map}
use Rattle.basis.specs.Pick.{pick}
use Rattle.commands.specs.Table.{entry_of}
use Rattle.mailbox_state.specs.State.{changes, mailbox_state}
use Rattle.mailbox_state.specs.declared.state.Notifications.TheVariants.{Off, On}
use Rattle.mailbox_state.specs.declared.status.Command.{Command}
use Rattle.mailbox_state.specs.declared.status.CommandStatus.TheVariants.{Nothing, ResetDone, Busy, Completed, Failed, NotSupported, Cancelled, Acknowledged}
use Rattle.mailbox_c.specs.Waiting.{flags_of, bits_of}
use Rattle.mailbox_c.specs.Notifying.{notifications_of}
use Rattle.mailbox_c.specs.Running.{code_runs}
use Rattle.mailbox_c.specs.Status.{status_code_of, status_of}
use Rattle.mailbox_c.specs.Words.{state_at, words_of}

-- Connector c waits if bit c - 1 is set.
abbrev third : List Bool
third = false ∷ false ∷ true ∷ false ∷ false ∷ false ∷ false ∷ false ∷ []

abbrev run : Command
run = record { code = 3; connector = 2; reset_type = 1 }

module _ (connectors shown mask : ℕ) where
  pub words_busy : words_of (mailbox_state connectors (On mask) (Busy run) (changes shown third)) ≡ connectors ∷ shown ∷ 4 ∷ 1 ∷ mask ∷ 2 ∷ 0 ∷ 3 ∷ 2 ∷ 1 ∷ []
  unfolding words_of bits_of
  words_busy = refl

  pub words_completed : (length : ℕ)
      → words_of (mailbox_state connectors Off (Completed length) (changes shown third)) ≡ connectors ∷ shown ∷ 4 ∷ 0 ∷ 0 ∷ 3 ∷ length ∷ 0 ∷ 0 ∷ 0 ∷ []
  unfolding words_of bits_of
  words_completed length = refl

-- And what such words say.
pub says_busy : state_at (8 ∷ 5 ∷ 4 ∷ 1 ∷ 65534 ∷ 2 ∷ 0 ∷ 3 ∷ 2 ∷ 1 ∷ []) ≡ mailbox_state 8 (On 65534) (Busy run) (changes 5 third)
unfolding state_at flags_of notifications_of status_of pick
says_busy = refl

pub says_completed : state_at (8 ∷ 5 ∷ 4 ∷ 0 ∷ 0 ∷ 3 ∷ 255 ∷ 0 ∷ 0 ∷ 0 ∷ []) ≡ mailbox_state 8 Off (Completed 255) (changes 5 third)
unfolding state_at flags_of notifications_of status_of pick
says_completed = refl

pub status_rows : (command : Command) (length : ℕ)
    → map status_code_of (Nothing ∷ ResetDone ∷ Busy command ∷ Completed length ∷ Failed ∷ NotSupported ∷ Cancelled ∷ Acknowledged ∷ [])
    ≡ 0 ∷ 1 ∷ 2 ∷ 3 ∷ 4 ∷ 5 ∷ 6 ∷ 7 ∷ []
status_rows command length = refl

-- CONNECTOR_RESET, GET_CAPABILITY, GET_CONNECTOR_CAPABILITY and GET_CONNECTOR_STATUS run.
pub run_rows : map code_runs (3 ∷ 6 ∷ 7 ∷ 18 ∷ []) ≡ true ∷ true ∷ true ∷ true ∷ []
unfolding code_runs entry_of pick
run_rows = refl

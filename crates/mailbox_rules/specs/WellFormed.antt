-- What a start makes, and every event leaves (01, The mailbox): `event_formed` in proofs/WellFormed.antt, `event_sizes` in proofs/Sizes.antt.
use Rattle.std.specs.Prelude.{ℕ, ◌≤◌, false, ◌≡◌, length, get_or}
use Rattle.commands.specs.Table.{entry_of}
use Rattle.commands.specs.declared.table.Class.TheVariants.{Run}
use Rattle.mailbox_state.specs.State.{off_of}
use Rattle.mailbox_state.specs.declared.status.Command.{Command}
use Rattle.mailbox_state.specs.declared.status.CommandStatus.{CommandStatus}
use Rattle.mailbox_state.specs.declared.status.CommandStatus.TheVariants.{Busy, Completed}
use Rattle.mailbox_state.specs.declared.state.Changes.{Changes}
use Rattle.mailbox_state.specs.declared.state.Notifications.{Notifications}
use Rattle.mailbox_state.specs.declared.state.State.{State}
use Rattle.mailbox_state.specs.declared.mailbox.Mailbox.{Mailbox}

-- The connector shown, or 0 for none, and those that wait are among so many. Place j is connector j + 1.
pub record Within (count : ℕ) (now : Changes) : Type 0 where
  pub shown : now.shown ≤ count
  pub waiting : (j : ℕ) → count ≤ j → get_or now.waiting j false ≡ false

-- A command that may run: the table says so of its code, and its connector, or 0 for none, is among so many.
pub record MayRun (count : ℕ) (command : Command) : Type 0 where
  pub class : (entry_of command.code).class ≡ Run
  pub there : command.connector ≤ count

-- A command runs only while notifications are on.
pub record Running (count : ℕ) (notifications : Notifications) (command : Command) : Type 0 where
  pub on : off_of notifications ≡ false
  pub may_run : MayRun count command

abbrev pub RunsWell : State → Type 0
RunsWell state = (command : Command) → state.status ≡ Busy command → Running state.connectors state.notifications command

-- 1 to 8 connectors, what is shown and waits among them, and a command that runs well, if one runs.
pub record WellFormed (state : State) : Type 0 where
  pub low : 1 ≤ state.connectors
  pub high : state.connectors ≤ 8
  pub within : Within state.connectors state.changes
  pub runs_well : RunsWell state

-- Bits 8 to 15 hold the data length.
abbrev pub LengthFits : CommandStatus → Type 0
LengthFits status = (n : ℕ) → status ≡ Completed n → n ≤ 255

-- A flag for each of eight connectors, a 256-byte MESSAGE_IN, and a data length of eight bits.
pub record Sizes (m : Mailbox) : Type 0 where
  pub eight : length m.state.changes.waiting ≡ 8
  pub message_in : length m.message ≡ 256
  pub data_length : LengthFits m.state.status

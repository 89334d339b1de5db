-- A mailbox, how it starts, and what is read of it (01, The mailbox).
use Rattle.std.specs.Prelude.{ℕ, List, Result, Ok, Err}
use Rattle.numbers.specs.Number.{number_in}
use Rattle.mailbox_state.specs.Connectors.{no_mailbox_number_of, connectors_of}
use Rattle.mailbox_state.specs.State.{no_changes, mailbox_state}
use Rattle.mailbox_state.specs.Answer.{Answer}
use Rattle.mailbox_state.specs.declared.status.CommandStatus.TheVariants.{Nothing}
use Rattle.mailbox_state.specs.declared.state.Notifications.TheVariants.{Off}
use Rattle.mailbox_state.specs.declared.state.State.{State}
use Rattle.mailbox_state.specs.declared.mailbox.Mailbox.{Mailbox}
use Rattle.mailbox_state.specs.declared.mailbox.Outcome.{Outcome}
use Rattle.mailbox_state.specs.declared.mailbox.NoMailbox.{NoMailbox}
use Rattle.mailbox_rules.specs.Cci.{cci_bits_of}
use Rattle.mailbox_rules.specs.MessageIn.{zero_message_in}

abbrev pub mailbox : State → List ℕ → Mailbox
mailbox state message = record { state = state; message = message }

-- CCI 0, notifications off, MESSAGE_IN zero.
unfoldable pub fresh_mailbox : ℕ → Mailbox
fresh_mailbox count = mailbox (mailbox_state count Off Nothing no_changes) zero_message_in

-- 29: no mailbox is made.
abbrev pub counted_mailbox : Result ℕ NoMailbox → Result Mailbox NoMailbox
counted_mailbox (Ok count) = Ok (fresh_mailbox count)
counted_mailbox (Err none) = Err none

unfoldable pub mailbox_fresh_of : ℕ → Result Mailbox NoMailbox
mailbox_fresh_of count = counted_mailbox (connectors_of count)

-- The number that a start is answered.
abbrev pub start_number_of : Result Mailbox NoMailbox → ℕ
start_number_of start = number_in no_mailbox_number_of start

abbrev pub message_in_of : Mailbox → List ℕ
message_in_of m = m.message

abbrev pub mailbox_cci_of : Mailbox → ℕ
mailbox_cci_of m = cci_bits_of m.state.status m.state.changes.shown

abbrev pub mailbox_returns : Mailbox → Answer → Outcome
mailbox_returns mailbox answer = record { mailbox = mailbox; answer = answer }

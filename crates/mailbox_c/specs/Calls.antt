-- What the mailbox's calls for C answer and leave: what the mailbox's own do, on the state that the words say. Words that are no mailbox's
-- are answered 29.
use Rattle.std.specs.Prelude.{ℕ, not, List, replicate, Result, Ok, Err}
use Rattle.basis.specs.Pick.{pick}
use Rattle.mailbox_state.specs.Answer.{mailbox_number_of}
use Rattle.mailbox_state.specs.Connectors.{no_mailbox_number_of}
use Rattle.mailbox_state.specs.declared.mailbox.Mailbox.{Mailbox}
use Rattle.mailbox_state.specs.declared.mailbox.NoMailbox.{NoMailbox}
use Rattle.mailbox_state.specs.declared.mailbox.Outcome.{Outcome}
use Rattle.mailbox_state.specs.declared.step.Step.{Step}
use Rattle.mailbox_rules.specs.Cci.{cci_bits_of}
use Rattle.mailbox_rules.specs.Mailbox.{mailbox_fresh_of}
use Rattle.mailbox_rules.specs.MessageIn.{zero_message_in}
use Rattle.mailbox_rules.specs.Events.{Event, writes, succeeds, fails, changes, step_returns, event_of}
use Rattle.mailbox_c.specs.Words.{state_at, mailbox_at, words_of, laid, is_mailbox}

-- How many words a state has.
abbrev pub harsolvek_mailbox_layout1 : ℕ
harsolvek_mailbox_layout1 = 10

-- The number that a call answers, and what it leaves of the lent memory.
pub record MailboxCalled : Type 0 where
  pub number : ℕ
  pub words : List ℕ
  pub message : List ℕ

abbrev pub mailbox_called : ℕ → List ℕ → List ℕ → MailboxCalled
mailbox_called number words message = record { number = number; words = words; message = message }

-- Beside a 29 every word and MESSAGE_IN are zero.
abbrev pub fresh_leaves : Result Mailbox NoMailbox → MailboxCalled
fresh_leaves (Ok m) = mailbox_called 0 (words_of m.state) m.message
fresh_leaves (Err none) = mailbox_called (no_mailbox_number_of none) (replicate 10 0) zero_message_in

abbrev pub harsolvek_mailbox_fresh : ℕ → MailboxCalled
harsolvek_mailbox_fresh count = fresh_leaves (mailbox_fresh_of count)

abbrev pub outcome_leaves : List ℕ → Outcome → MailboxCalled
outcome_leaves w o = mailbox_called (mailbox_number_of o.answer) (laid w o.mailbox.state) o.mailbox.message

-- A step carried out.
abbrev pub step_leaves : List ℕ → List ℕ → Step → List ℕ → MailboxCalled
step_leaves w message step bytes = outcome_leaves w (step_returns (mailbox_at w message) step bytes)

-- An event of the mailbox that the words say. With 29 nothing changes.
abbrev pub event_called : List ℕ → List ℕ → Event → MailboxCalled
event_called w message e = pick (not (is_mailbox w)) (mailbox_called 29 w message) (outcome_leaves w (event_of (mailbox_at w message) e))

abbrev pub harsolvek_mailbox_write : List ℕ → List ℕ → List ℕ → MailboxCalled
harsolvek_mailbox_write w message control = event_called w message (writes control)

abbrev pub harsolvek_mailbox_success : List ℕ → List ℕ → List ℕ → MailboxCalled
harsolvek_mailbox_success w message bytes = event_called w message (succeeds bytes)

abbrev pub harsolvek_mailbox_failure : List ℕ → List ℕ → MailboxCalled
harsolvek_mailbox_failure w message = event_called w message fails

abbrev pub harsolvek_mailbox_change : List ℕ → List ℕ → ℕ → ℕ → MailboxCalled
harsolvek_mailbox_change w message connector reason = event_called w message (changes connector reason)

pub record CciRead : Type 0 where
  pub number : ℕ
  pub cci : ℕ

abbrev pub cci_read : ℕ → ℕ → CciRead
cci_read number cci = record { number = number; cci = cci }

abbrev pub harsolvek_mailbox_cci : List ℕ → CciRead
harsolvek_mailbox_cci w = pick (not (is_mailbox w)) (cci_read 29 0) (cci_read 0 (cci_bits_of (state_at w).status (state_at w).changes.shown))

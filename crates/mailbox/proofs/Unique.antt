-- Each public contract leaves one answer and one state of the lent memory. Written from the contracts by tools/contracts.
use Rattle.std.specs.Prelude.{List, ℕ, ◌≡◌, Result}
use Rattle.basis.specs.Only.{only}
use Rattle.mailbox_rules.specs.Events.{event_of, writes, succeeds, fails, changes, write_step_of}
use Rattle.mailbox_rules.specs.Mailbox.{mailbox_fresh_of, mailbox_cci_of, message_in_of}
use Rattle.mailbox_rules.specs.MessageIn.{settled_of}
use Rattle.mailbox_state.specs.declared.mailbox.Mailbox.{Mailbox}
use Rattle.mailbox_state.specs.declared.mailbox.NoMailbox.{NoMailbox}
use Rattle.mailbox_state.specs.declared.mailbox.Outcome.{Outcome}
use Rattle.mailbox_state.specs.declared.state.State.{State}
use Rattle.mailbox_state.specs.declared.step.MessageEffect.{MessageEffect}
use Rattle.mailbox_state.specs.declared.step.Step.{Step}

pub one_write : (mailbox : Mailbox) (control : List ℕ) (r r' : Outcome)
    → r ≡ event_of mailbox (writes control)
    → r' ≡ event_of mailbox (writes control)
    → r ≡ r'
one_write mailbox control r r' is is' = only is is'

pub one_report_success : (mailbox : Mailbox) (bytes : List ℕ) (r r' : Outcome)
    → r ≡ event_of mailbox (succeeds bytes)
    → r' ≡ event_of mailbox (succeeds bytes)
    → r ≡ r'
one_report_success mailbox bytes r r' is is' = only is is'

pub one_report_failure : (mailbox : Mailbox) (r r' : Outcome)
    → r ≡ event_of mailbox fails
    → r' ≡ event_of mailbox fails
    → r ≡ r'
one_report_failure mailbox r r' is is' = only is is'

pub one_change : (mailbox : Mailbox) (connector reason : ℕ) (r r' : Outcome)
    → r ≡ event_of mailbox (changes connector reason)
    → r' ≡ event_of mailbox (changes connector reason)
    → r ≡ r'
one_change mailbox connector reason r r' is is' = only is is'

pub one_write_step : (state : State) (control : List ℕ) (r r' : Step)
    → r ≡ write_step_of state control
    → r' ≡ write_step_of state control
    → r ≡ r'
one_write_step state control r r' is is' = only is is'

pub one_fresh : (count : ℕ) (r r' : Result Mailbox NoMailbox)
    → r ≡ mailbox_fresh_of count
    → r' ≡ mailbox_fresh_of count
    → r ≡ r'
one_fresh count r r' is is' = only is is'

pub one_cci : (mailbox : Mailbox) (r r' : ℕ)
    → r ≡ mailbox_cci_of mailbox
    → r' ≡ mailbox_cci_of mailbox
    → r ≡ r'
one_cci mailbox r r' is is' = only is is'

pub one_message_in : (mailbox : Mailbox) (r r' : List ℕ)
    → r ≡ message_in_of mailbox
    → r' ≡ message_in_of mailbox
    → r ≡ r'
one_message_in mailbox r r' is is' = only is is'

pub one_settle : (message : List ℕ) (effect : MessageEffect) (bytes message_left message_left' : List ℕ)
    → message_left ≡ settled_of message effect bytes
    → message_left' ≡ settled_of message effect bytes
    → message_left ≡ message_left'
one_settle message effect bytes message_left message_left' is is' = only is is'

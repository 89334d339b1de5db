-- What comes to a mailbox, what is decided on it, and what the mailbox answers and is then (01, The mailbox; 01, Numbers we answer).
use Rattle.std.specs.Prelude.{ℕ, List, [], length, Result, Ok, Err}
use Rattle.commands.specs.Control.{control_of}
use Rattle.commands.specs.declared.control.Control.{Control}
use Rattle.commands.specs.declared.control.WrongLength.{WrongLength}
use Rattle.mailbox_state.specs.Step.{refused}
use Rattle.mailbox_state.specs.declared.answer.Refusal.TheVariants.{ControlLength}
use Rattle.mailbox_state.specs.declared.state.State.{State}
use Rattle.mailbox_state.specs.declared.step.Step.{Step}
use Rattle.mailbox_state.specs.declared.mailbox.Mailbox.{Mailbox}
use Rattle.mailbox_state.specs.declared.mailbox.Outcome.{Outcome}
use Rattle.mailbox_rules.specs.Write.{control_step_of}
use Rattle.mailbox_rules.specs.Report.{success_step_of, failure_step_of}
use Rattle.mailbox_rules.specs.Change.{change_step_of}
use Rattle.mailbox_rules.specs.MessageIn.{settled_of}
use Rattle.mailbox_rules.specs.Mailbox.{mailbox, mailbox_returns}

-- A write of these bytes to CONTROL, the port's success with these bytes, its failure, a change on a connector for a reason.
pub data Event : Type 0 where
  writes : List ℕ → Event
  succeeds : List ℕ → Event
  fails : Event
  changes : ℕ → ℕ → Event

-- A CONTROL that is not 8 bytes is 1, before everything.
unfoldable pub parsed_step_of : State → Result Control WrongLength → Step
parsed_step_of state (Err wrong) = refused state ControlLength
parsed_step_of state (Ok control) = control_step_of state control

abbrev pub write_step_of : State → List ℕ → Step
write_step_of state control = parsed_step_of state (control_of control)

-- What is decided on an event.
abbrev pub event_step_of : State → Event → Step
event_step_of state (writes control) = write_step_of state control
event_step_of state (succeeds bytes) = success_step_of state (length bytes)
event_step_of state fails = failure_step_of state
event_step_of state (changes connector reason) = change_step_of state connector reason

-- The bytes that the port reports with an event.
abbrev pub port_bytes : Event → List ℕ
port_bytes (writes control) = []
port_bytes (succeeds bytes) = bytes
port_bytes fails = []
port_bytes (changes connector reason) = []

-- The step carried out on the mailbox, MESSAGE_IN as its effect says.
abbrev pub step_returns : Mailbox → Step → List ℕ → Outcome
step_returns m step bytes = mailbox_returns (mailbox step.state (settled_of m.message step.effect bytes)) step.answer

-- The answer and the next mailbox, for every mailbox and every event.
abbrev pub event_of : Mailbox → Event → Outcome
event_of m e = step_returns m (event_step_of m.state e) (port_bytes e)

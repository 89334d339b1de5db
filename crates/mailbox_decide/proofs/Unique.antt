-- Each public contract leaves one answer and one state of the lent memory. Written from the contracts by tools/contracts.
use Rattle.std.specs.Prelude.{ℕ, ◌≡◌, Result, ⊤}
use Rattle.basis.specs.Only.{only}
use Rattle.commands.specs.declared.control.Control.{Control}
use Rattle.mailbox_rules.specs.Cci.{cci_bits_of}
use Rattle.mailbox_rules.specs.Change.{change_step_of}
use Rattle.mailbox_rules.specs.Report.{success_step_of, failure_step_of}
use Rattle.mailbox_rules.specs.Write.{control_step_of}
use Rattle.mailbox_state.specs.Connectors.{connectors_of}
use Rattle.mailbox_state.specs.Step.{mailbox_step, refused}
use Rattle.mailbox_state.specs.declared.answer.Refusal.{Refusal}
use Rattle.mailbox_state.specs.declared.mailbox.NoMailbox.{NoMailbox}
use Rattle.mailbox_state.specs.declared.state.State.{State}
use Rattle.mailbox_state.specs.declared.status.CommandStatus.{CommandStatus}
use Rattle.mailbox_state.specs.declared.step.MessageEffect.TheVariants.{Kept}
use Rattle.mailbox_state.specs.declared.step.Step.{Step}

pub one_cci : (status : CommandStatus) (shown r r' : ℕ)
    → r ≡ cci_bits_of status shown
    → r' ≡ cci_bits_of status shown
    → r ≡ r'
one_cci status shown r r' is is' = only is is'

pub one_write : (state : State) (control : Control) (r r' : Step)
    → r ≡ control_step_of state control
    → r' ≡ control_step_of state control
    → r ≡ r'
one_write state control r r' is is' = only is is'

pub one_count : (connectors : ℕ) (r r' : Result ℕ NoMailbox)
    → r ≡ connectors_of connectors
    → r' ≡ connectors_of connectors
    → r ≡ r'
one_count connectors r r' is is' = only is is'

pub one_change : (state : State) (connector reason : ℕ) (r r' : Step)
    → r ≡ change_step_of state connector reason
    → r' ≡ change_step_of state connector reason
    → r ≡ r'
one_change state connector reason r r' is is' = only is is'

pub one_succeed : (state : State) (length : ℕ) (r r' : Step)
    → r ≡ success_step_of state length
    → r' ≡ success_step_of state length
    → r ≡ r'
one_succeed state length r r' is is' = only is is'

pub one_fail : (state : State) (r r' : Step)
    → r ≡ failure_step_of state
    → r' ≡ failure_step_of state
    → r ≡ r'
one_fail state r r' is is' = only is is'

pub one_kept : (state : State) (answer : Result ⊤ Refusal) (r r' : Step)
    → r ≡ mailbox_step state answer Kept
    → r' ≡ mailbox_step state answer Kept
    → r ≡ r'
one_kept state answer r r' is is' = only is is'

pub one_refused : (state : State) (refusal : Refusal) (r r' : Step)
    → r ≡ refused state refusal
    → r' ≡ refused state refusal
    → r ≡ r'
one_refused state refusal r r' is is' = only is is'

-- What is decided on an event: the next state, the answer, and what happens to MESSAGE_IN.
use Rattle.std.specs.Prelude.{Err}
use Rattle.mailbox_state.specs.Answer.{Answer}
use Rattle.mailbox_state.specs.declared.answer.Refusal.{Refusal}
use Rattle.mailbox_state.specs.declared.state.State.{State}
use Rattle.mailbox_state.specs.declared.step.MessageEffect.{MessageEffect}
use Rattle.mailbox_state.specs.declared.step.MessageEffect.TheVariants.{Kept}
use Rattle.mailbox_state.specs.declared.step.Step.{Step}

abbrev pub mailbox_step : State → Answer → MessageEffect → Step
mailbox_step state answer effect = record { state = state; answer = answer; effect = effect }

-- A refusal keeps everything.
abbrev pub refused : State → Refusal → Step
refused state refusal = mailbox_step state (Err refusal) Kept

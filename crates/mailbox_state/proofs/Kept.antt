-- A refusal keeps everything (01, Numbers we answer: kept).
use mathlib.Core.Path.{◌≡◌, refl}
use Rattle.std.specs.Prelude.{Err}
use Rattle.mailbox_state.specs.Step.{refused}
use Rattle.mailbox_state.specs.declared.answer.Refusal.{Refusal}
use Rattle.mailbox_state.specs.declared.state.State.{State}
use Rattle.mailbox_state.specs.declared.step.MessageEffect.TheVariants.{Kept}

pub refused_keeps : (state : State) (refusal : Refusal) → ((refused state refusal).state ≡ state) × ((refused state refusal).answer ≡ Err refusal) × ((refused state refusal).effect ≡ Kept)
refused_keeps state refusal = (refl, refl, refl)

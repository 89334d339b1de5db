-- What is decided: the state after the call, and its answer.
use Rattle.indoor_state.specs.declared.phase.State.{State}
use Rattle.indoor_state.specs.declared.answer.Answer.{Answer}
use Rattle.indoor_state.specs.declared.step.Step.{Step}

abbrev pub indoor_step : State → Answer → Step
indoor_step state answer = record { state = state; answer = answer }

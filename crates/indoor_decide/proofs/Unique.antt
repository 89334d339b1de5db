-- Each public contract leaves one answer and one state of the lent memory. Written from the contracts by tools/contracts.
use Rattle.std.specs.Prelude.{◌≡◌, ℕ}
use Rattle.basis.specs.Only.{only}
use Rattle.indoor_rules.specs.Decide.{indoor_decide_of}
use Rattle.indoor_rules.specs.Tick.{indoor_tick_of}
use Rattle.indoor_state.specs.declared.phase.State.{State}
use Rattle.indoor_state.specs.declared.plan.Plan.{Plan}
use Rattle.indoor_state.specs.declared.step.Step.{Step}
use Rattle.wire.specs.declared.response.Response.{Response}

pub one_decide : (plan : Plan) (state : State) (response : Response) (r r' : Step)
    → r ≡ indoor_decide_of plan state response
    → r' ≡ indoor_decide_of plan state response
    → r ≡ r'
one_decide plan state response r r' is is' = only is is'

pub one_pass : (plan : Plan) (state : State) (elapsed : ℕ) (r r' : Step)
    → r ≡ indoor_tick_of plan state elapsed
    → r' ≡ indoor_tick_of plan state elapsed
    → r ≡ r'
one_pass plan state elapsed r r' is is' = only is is'

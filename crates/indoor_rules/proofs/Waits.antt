-- Time in Initiate and in Validate is one rule of two phases: of a wait that is over nothing is left.
use Prim.Native.Nat.{ℕ, ◌-◌, ◌≤◌}
use mathlib.Core.Bool.{Bool, true, false}
use mathlib.Core.Path.{◌≡◌, refl}
use native.Mathlib.Omega.{arith}
use borrow.Author.Tests.{ltb-false}
use lib.Dec.{eqb, ltb}
use Rattle.basis.specs.Pick.{pick}
use Rattle.indoor_rules.specs.Tick.{waits_on, wait_over, resends_of, request_tick_of, initiate_tick_of, validate_tick_of}
use Rattle.indoor_state.specs.declared.plan.Plan.{Plan}
use Rattle.indoor_state.specs.declared.phase.Phase.TheVariants.{Initiate, Validate}
use Rattle.indoor_state.specs.declared.phase.State.{State}
use Rattle.indoor_state.specs.declared.answer.Answer.TheVariants.{Initiating, Validating}
use Rattle.indoor_state.specs.declared.step.Step.{Step}

none_left : (elapsed wait : ℕ) → wait ≤ elapsed → wait - elapsed ≡ 0
none_left elapsed wait h = omega arith

module _ (plan : Plan) (state : State) (wait elapsed : ℕ) where
  over : (s on : Step) (ended : ℕ → Step) (t : Bool) → ltb elapsed wait ≡ t
      → pick (eqb wait 0) s (pick t on (ended (wait - elapsed))) ≡ pick (eqb wait 0) s (pick t on (ended 0))
  unfolding pick
  over s on ended true e = refl
  over s on ended false e = rw (none_left elapsed wait (ltb-false elapsed wait e))

  pub initiate_request : request_tick_of plan state wait (Initiate (wait - elapsed)) Initiating elapsed ≡ initiate_tick_of plan state wait elapsed
  unfolding request_tick_of initiate_tick_of
  initiate_request = over (resends_of plan state Initiating elapsed) (waits_on state (Initiate (wait - elapsed))) (λ left. wait_over state (Initiate left) Initiating) (ltb elapsed wait) refl

  pub validate_request : request_tick_of plan state wait (Validate (wait - elapsed)) Validating elapsed ≡ validate_tick_of plan state wait elapsed
  unfolding request_tick_of validate_tick_of
  validate_request = over (resends_of plan state Validating elapsed) (waits_on state (Validate (wait - elapsed))) (λ left. wait_over state (Validate left) Validating) (ltb elapsed wait) refl

pub ruleset waits = (initiate_request, validate_request)

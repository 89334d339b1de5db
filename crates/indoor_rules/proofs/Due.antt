-- In each phase the response of one type is due; every other is passed over, with nothing changed (01, The indoor end's phases).
use mathlib.Core.Path.{◌≡◌, refl}
use Rattle.wire.specs.declared.response.Response.{Response}
use Rattle.wire.specs.declared.response.Response.TheVariants as Res
use Rattle.indoor_state.specs.Step.{indoor_step}
use Rattle.indoor_rules.specs.Decide.{indoor_identify_of, indoor_initiate_of, indoor_transfer_of, indoor_validate_of, indoor_decide_in, indoor_decide_of}
use Rattle.indoor_state.specs.declared.plan.Plan.{Plan}
use Rattle.indoor_state.specs.declared.phase.Phase.{Phase}
use Rattle.indoor_state.specs.declared.phase.Phase.TheVariants.{Identify, Initiate, Transfer, Validate, Done, Failed}
use Rattle.indoor_state.specs.declared.phase.State.{State}
use Rattle.indoor_state.specs.declared.answer.Answer.TheVariants.{Unexpected}

-- The response that each phase waits for; in Done and Failed none is due.
abbrev pub Due : Phase → Response → Type 0
Due Identify (Res.GetFwId status reported) = Unit
Due Identify (Res.Initiate status wait size) = ⊥
Due Identify (Res.Data status wait number) = ⊥
Due Identify (Res.Validate status wait success) = ⊥
Due Identify Res.NotBuilt = ⊥
Due (Initiate left) (Res.GetFwId status reported) = ⊥
Due (Initiate left) (Res.Initiate status wait size) = Unit
Due (Initiate left) (Res.Data status wait number) = ⊥
Due (Initiate left) (Res.Validate status wait success) = ⊥
Due (Initiate left) Res.NotBuilt = ⊥
Due (Transfer p) (Res.GetFwId status reported) = ⊥
Due (Transfer p) (Res.Initiate status wait size) = ⊥
Due (Transfer p) (Res.Data status wait number) = Unit
Due (Transfer p) (Res.Validate status wait success) = ⊥
Due (Transfer p) Res.NotBuilt = ⊥
Due (Validate left) (Res.GetFwId status reported) = ⊥
Due (Validate left) (Res.Initiate status wait size) = ⊥
Due (Validate left) (Res.Data status wait number) = ⊥
Due (Validate left) (Res.Validate status wait success) = Unit
Due (Validate left) Res.NotBuilt = ⊥
Due Done r = ⊥
Due (Failed reason) r = ⊥

module _ (plan : Plan) (state : State) where
  passed : (phase : Phase) (r : Response) → (Due phase r → ⊥) → indoor_decide_in plan state phase r ≡ indoor_step state Unexpected
  unfolding indoor_decide_in indoor_identify_of indoor_initiate_of indoor_transfer_of indoor_validate_of
  passed Identify (Res.GetFwId status reported) h = absurd (h tt)
  passed Identify (Res.Initiate status wait size) h = refl
  passed Identify (Res.Data status wait number) h = refl
  passed Identify (Res.Validate status wait success) h = refl
  passed Identify Res.NotBuilt h = refl
  passed (Initiate left) (Res.GetFwId status reported) h = refl
  passed (Initiate left) (Res.Initiate status wait size) h = absurd (h tt)
  passed (Initiate left) (Res.Data status wait number) h = refl
  passed (Initiate left) (Res.Validate status wait success) h = refl
  passed (Initiate left) Res.NotBuilt h = refl
  passed (Transfer p) (Res.GetFwId status reported) h = refl
  passed (Transfer p) (Res.Initiate status wait size) h = refl
  passed (Transfer p) (Res.Data status wait number) h = absurd (h tt)
  passed (Transfer p) (Res.Validate status wait success) h = refl
  passed (Transfer p) Res.NotBuilt h = refl
  passed (Validate left) (Res.GetFwId status reported) h = refl
  passed (Validate left) (Res.Initiate status wait size) h = refl
  passed (Validate left) (Res.Data status wait number) h = refl
  passed (Validate left) (Res.Validate status wait success) h = absurd (h tt)
  passed (Validate left) Res.NotBuilt h = refl
  passed Done r h = refl
  passed (Failed reason) r h = refl

  -- 21
  pub passed_over_lem : (r : Response) → (Due state.phase r → ⊥) → indoor_decide_of plan state r ≡ indoor_step state Unexpected
  passed_over_lem r h = passed state.phase r h

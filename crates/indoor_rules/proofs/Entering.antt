-- How Validate and Done are entered: by a response alone, never by time (01, The indoor end's phases).
use Prim.Native.Nat.{ℕ}
use mathlib.Core.Bool.{true}
use mathlib.Core.Logic.{◌⊎◌, inl, inr}
use mathlib.Core.Path.{◌≡◌, refl, sym, ◌∙◌, ap}
use mathlib.Core.List.{List}
use native.Mathlib.Omega.{arith}
use Rattle.wire.specs.Response as message
use Rattle.wire.specs.declared.response.Response.{Response}
use Rattle.wire.specs.declared.response.Response.TheVariants as Res
use Rattle.indoor_rules.specs.Step.{empty_number}
use Rattle.indoor_rules.specs.Decide.{indoor_decide_of}
use Rattle.indoor_rules.specs.Tick.{indoor_tick_of}
use Rattle.indoor_state.specs.declared.plan.Plan.{Plan}
use Rattle.indoor_state.specs.declared.phase.Reason.TheVariants.{Silence}
use Rattle.indoor_state.specs.declared.phase.Progress.{Progress}
use Rattle.indoor_state.specs.declared.phase.Phase.{Phase}
use Rattle.indoor_state.specs.declared.phase.Phase.TheVariants.{Identify, Initiate, Transfer, Validate, Done, Failed}
use Rattle.indoor_rules.proofs.Owes.{ToValidate, ToDone, Enters, decide_row}
use Rattle.indoor_rules.proofs.Orders.{failed}
use Rattle.indoor_rules.proofs.Ticks.{Expires, order, pass_ticks}
use Rattle.indoor_state.specs.declared.step.Step.{Step}
use Rattle.indoor_rules.specs.Response.{indoor_response_of}
use Rattle.indoor_rules.specs.Time.{indoor_time_of}
use Rattle.indoor_state.specs.declared.session.Indoor.{Indoor}
use Rattle.indoor_rules.proofs.Walk.{response_walk, time_walk}
use Rattle.std.specs.Prelude.{Ok}

-- In Validate, in a wait or not, and a VALIDATE response with status OK, wait 0 and the success bit.
pub record Succeeds (before : Phase) (response : List ℕ) : Type 0 where
  pub left : ℕ
  pub validate : before ≡ Validate left
  pub parsed : message.parsed_response_of response ≡ Ok (Res.Validate 0x00 0 true)

-- In Transfer with the empty block sent, and a DATA response with WaitTime 255 and the number n.
pub record Closes (plan : Plan) (before : Phase) (response : List ℕ) : Type 0 where
  pub progress : Progress
  pub transfer : before ≡ Transfer progress
  pub emptied : progress.emptied ≡ true
  pub parsed : message.parsed_response_of response ≡ Ok (Res.Data 0x00 255 (empty_number plan))

abbrev pub Validating : Phase → Type 0
Validating Identify = ⊥
Validating (Initiate left) = ⊥
Validating (Transfer p) = ⊥
Validating (Validate left) = Unit
Validating Done = ⊥
Validating (Failed reason) = ⊥

module _ (response : List ℕ) (r : Response) (e : message.parsed_response_of response ≡ Ok r) where
  to_done : (before : Phase) → ToDone before r → (before ≡ Done) ⊎ Succeeds before response
  to_done Identify h = absurd h
  to_done (Initiate left) h = absurd h
  to_done (Transfer p) h = absurd h
  to_done (Validate left) h = inr (record { left = left; validate = refl; parsed = e ∙ ap (λ x. Ok x) h })
  to_done Done h = inl refl
  to_done (Failed reason) h = absurd h

  to_validate : (plan : Plan) (before : Phase) → ToValidate plan before r → Validating before ⊎ Closes plan before response
  to_validate plan Identify h = absurd h
  to_validate plan (Initiate left) h = absurd h
  to_validate plan (Transfer p) h = inr (record { progress = p; transfer = refl; emptied = h.0; parsed = e ∙ ap (λ x. Ok x) h.1 })
  to_validate plan (Validate left) h = inl tt
  to_validate plan Done h = absurd h
  to_validate plan (Failed reason) h = absurd h

validating : (before : Phase) (left : ℕ) → before ≡ Validate left → Validating before
validating before left e = rw e tt

enters_at : (plan : Plan) (before next phase : Phase) (r : Response) → next ≡ phase → Enters plan before r next → Enters plan before r phase
enters_at plan before next phase r e h = rw e at h

module _ (s : Indoor) (file response out : List ℕ) where
  abbrev then : Phase
  then = (indoor_response_of s file response out).answer.session.state.phase

  enters : (r : Response) (phase : Phase) → (indoor_decide_of s.plan s.state r).state.phase ≡ phase → Enters s.plan s.state.phase r phase
  enters r phase e = enters_at s.plan s.state.phase _ phase r e (decide_row s.plan s.state r).enters

  -- Done is entered only by a VALIDATE response with status OK, wait 0 and the success bit, in Validate.
  pub done_entered : then ≡ Done → (s.state.phase ≡ Done) ⊎ Succeeds s.state.phase response
  done_entered =
      response_walk s file response out
      (λ x. x.answer.session.state.phase ≡ Done → (s.state.phase ≡ Done) ⊎ Succeeds s.state.phase response)
      inl inl inl
      (λ r _ _ e h. to_done response r e s.state.phase (enters r Done h))

  -- Validate is entered only by WaitTime 255 with number n after the empty block went out.
  pub validate_entered : (left : ℕ) → then ≡ Validate left → Validating s.state.phase ⊎ Closes s.plan s.state.phase response
  validate_entered left =
      response_walk s file response out
      (λ x. x.answer.session.state.phase ≡ Validate left → Validating s.state.phase ⊎ Closes s.plan s.state.phase response)
      (λ h. inl (validating s.state.phase left h))
      (λ h. inl (validating s.state.phase left h))
      (λ h. inl (validating s.state.phase left h))
      (λ r _ _ e h. to_validate response r e s.plan s.state.phase (enters r (Validate left) h))

pub failed_phase : (x : Step) (before : ℕ) (E : Type 0) → (order x.state.phase ≡ before) ⊎ ((x ≡ failed Silence) × E) → (order x.state.phase ≡ before) ⊎ (x.state.phase ≡ Failed Silence)
failed_phase x before E (inl e) = inl e
failed_phase x before E (inr e) = inr (ap (λ (y : Step). y.state.phase) e.0)

-- Time leads to no phase but Failed.
pub time_lasts : (s : Indoor) (file : List ℕ) (elapsed : ℕ) (out : List ℕ)
    → (order (indoor_time_of s file elapsed out).answer.session.state.phase ≡ order s.state.phase)
    ⊎ ((indoor_time_of s file elapsed out).answer.session.state.phase ≡ Failed Silence)
time_lasts s file elapsed out =
    time_walk s file elapsed out
    (λ x. (order x.answer.session.state.phase ≡ order s.state.phase) ⊎ (x.answer.session.state.phase ≡ Failed Silence))
    (inl refl) (inl refl)
    (λ _ _. failed_phase (indoor_tick_of s.plan s.state elapsed) (order s.state.phase) (Expires s.plan s.state elapsed) (pass_ticks s.plan s.state elapsed).lasts)

order_done : (phase : Phase) → order phase ≡ 4 → phase ≡ Done
order_done Identify e = absurd (omega arith)
order_done (Initiate left) e = absurd (omega arith)
order_done (Transfer p) e = absurd (omega arith)
order_done (Validate left) e = absurd (omega arith)
order_done Done e = refl
order_done (Failed reason) e = absurd (omega arith)

lasts_done : (before next : Phase) → (order next ≡ order before) ⊎ (next ≡ Failed Silence) → next ≡ Done → before ≡ Done
lasts_done before next (inl e) h = order_done before (sym e ∙ ap order h)
lasts_done before next (inr e) h = let four = ap order (sym h ∙ e) in absurd (omega arith)

-- So Done is never entered by time.
pub time_done : (s : Indoor) (file : List ℕ) (elapsed : ℕ) (out : List ℕ) → (indoor_time_of s file elapsed out).answer.session.state.phase ≡ Done → s.state.phase ≡ Done
time_done s file elapsed out = lasts_done s.state.phase _ (time_lasts s file elapsed out)

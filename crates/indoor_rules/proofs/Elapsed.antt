-- What time does to the indoor end, in the paper's own numbers (01, The indoor end's phases; 01, Sizes and numbers).
use Prim.Native.Nat.{ℕ, ◌+◌, ◌-◌, ◌<◌, ◌≤◌}
use mathlib.Core.Bool.{Bool}
use mathlib.Core.Path.{◌≡◌, refl, ap}
use native.Mathlib.Omega.{arith}
use borrow.Author.Tests.{ne_eqb, lt-ltb, le-ltb, eqb-false, ltb-false}
use lib.Dec.{eqb, ltb}
use Rattle.basis.specs.Pick.{pick, pick_all}
use Rattle.silence.specs.Expiry.{grown_of}
use Rattle.silence.specs.declared.Grown.{Grown}
use Rattle.silence.specs.declared.Event.{Event}
use Rattle.silence.specs.declared.Event.TheVariants.{Quiet, Resend, NoneLeft}
use Rattle.silence.proofs.Laws.{grown_all, below_quiet, left_resends, none_left_expires, limit_expires, many_limits, no_time}
use Rattle.indoor_state.specs.Phase.{indoor_progress, indoor_state}
use Rattle.indoor_state.specs.Step.{indoor_step}
use Rattle.indoor_rules.specs.Step.{emptied_by}
use Rattle.indoor_rules.specs.Tick.{resend_on_event, transfer_on_event, resends_of, transfer_expires_of, initiate_tick_of, transfer_tick_of, validate_tick_of, indoor_tick_in, indoor_tick_of}
use Rattle.indoor_state.specs.declared.plan.Plan.{Plan}
use Rattle.indoor_state.specs.declared.phase.Reason.{Reason}
use Rattle.indoor_state.specs.declared.phase.Reason.TheVariants.{Silence}
use Rattle.indoor_state.specs.declared.phase.Phase.{Phase}
use Rattle.indoor_state.specs.declared.phase.Phase.TheVariants.{Identify, Initiate, Transfer, Validate, Done, Failed}
use Rattle.indoor_state.specs.declared.answer.Answer.{Answer}
use Rattle.indoor_state.specs.declared.answer.Answer.TheVariants as Ans
use Rattle.indoor_state.specs.declared.step.Step.{Step}
use Rattle.indoor_rules.proofs.Orders.{failed}

-- The phases that send their request again, and what they send.
abbrev pub Resends : Phase → Answer → Type 0
Resends Identify again = again ≡ Ans.Identifying
Resends (Initiate left) again = (left ≡ 0) × (again ≡ Ans.Initiating)
Resends (Transfer p) again = ⊥
Resends (Validate left) again = (left ≡ 0) × (again ≡ Ans.Validating)
Resends Done again = ⊥
Resends (Failed reason) again = ⊥

expired_40 : (phase : Phase) (g : Grown) (event : Event) → (event ≡ Quiet → ⊥) → transfer_on_event phase g event ≡ failed Silence
unfolding transfer_on_event
expired_40 phase g Quiet h = absurd (h refl)
expired_40 phase g Resend h = refl
expired_40 phase g NoneLeft h = refl

module _ (plan : Plan) (silence resends elapsed : ℕ) where
  abbrev then : Phase → Step
  then phase = indoor_tick_of plan (indoor_state phase silence resends) elapsed

  -- Silence doesn't grow in a wait.
  module _ (left : ℕ) (below : elapsed < left) where
    pub initiate_still : then (Initiate left) ≡ indoor_step (indoor_state (Initiate (left - elapsed)) silence resends) Ans.Passed
    unfolding indoor_tick_in initiate_tick_of pick
    initiate_still = rw (ne_eqb left 0 (λ e. omega arith), lt-ltb elapsed left below)

    pub transfer_still : (asked : ℕ) (emptied : Bool)
        → then (Transfer (indoor_progress asked left emptied)) ≡ indoor_step (indoor_state (Transfer (indoor_progress asked (left - elapsed) emptied)) silence resends) Ans.Passed
    unfolding indoor_tick_in transfer_tick_of pick
    transfer_still asked emptied = rw (ne_eqb left 0 (λ e. omega arith), lt-ltb elapsed left below)

    pub validate_still : then (Validate left) ≡ indoor_step (indoor_state (Validate (left - elapsed)) silence resends) Ans.Passed
    unfolding indoor_tick_in validate_tick_of pick
    validate_still = rw (ne_eqb left 0 (λ e. omega arith), lt-ltb elapsed left below)

  -- The call that ends a wait sends, and its leftover time is dropped; this isn't a resend.
  module _ (left : ℕ) (some : 0 < left) (over : left ≤ elapsed) where
    pub initiate_sends : then (Initiate left) ≡ indoor_step (indoor_state (Initiate 0) 0 resends) Ans.Initiating
    unfolding indoor_tick_in initiate_tick_of pick
    initiate_sends = rw (ne_eqb left 0 (λ e. omega arith), le-ltb elapsed left over)

    pub transfer_sends : (asked : ℕ) (emptied : Bool)
        → then (Transfer (indoor_progress asked left emptied)) ≡ indoor_step (indoor_state (Transfer (indoor_progress asked 0 (emptied_by plan asked emptied))) 0 resends) (Ans.Sending asked)
    unfolding indoor_tick_in transfer_tick_of pick
    transfer_sends asked emptied = rw (ne_eqb left 0 (λ e. omega arith), le-ltb elapsed left over)

    pub validate_sends : then (Validate left) ≡ indoor_step (indoor_state (Validate 0) 0 resends) Ans.Validating
    unfolding indoor_tick_in validate_tick_of pick
    validate_sends = rw (ne_eqb left 0 (λ e. omega arith), le-ltb elapsed left over)

  listens : (phase : Phase) (again : Answer) → Resends phase again → then phase ≡ resends_of plan (indoor_state phase silence resends) again elapsed
  unfolding indoor_tick_in initiate_tick_of validate_tick_of pick
  listens Identify again e = rw e
  listens (Initiate left) again h = rw (h.0, h.1)
  listens (Transfer p) again h = absurd h
  listens (Validate left) again h = rw (h.0, h.1)
  listens Done again h = absurd h
  listens (Failed reason) again h = absurd h

  module _ (phase : Phase) (again : Answer) (r : Resends phase again) where
    pub quiet : silence + elapsed < plan.settings.limit → then phase ≡ indoor_step (indoor_state phase (silence + elapsed) resends) Ans.Passed
    unfolding resends_of resend_on_event
    quiet h = rw (listens phase again r, below_quiet silence elapsed resends plan.settings h)

    -- The request is resent at each silence limit while resends are left ..
    pub resent : plan.settings.limit ≤ silence + elapsed → resends < plan.settings.resends → then phase ≡ indoor_step (indoor_state phase 0 (resends + 1)) again
    unfolding resends_of resend_on_event
    resent h k = rw (listens phase again r, left_resends silence elapsed resends plan.settings h k)

    -- .. with none left: 40.
    pub none_left_40 : plan.settings.limit ≤ silence + elapsed → plan.settings.resends ≤ resends → then phase ≡ failed Silence
    unfolding resends_of resend_on_event
    none_left_40 h k = rw (listens phase again r, none_left_expires silence elapsed resends plan.settings h k)

  module _ (asked : ℕ) (emptied : Bool) where
    pub transfer_quiet : silence + elapsed < plan.settings.limit
        → then (Transfer (indoor_progress asked 0 emptied)) ≡ indoor_step (indoor_state (Transfer (indoor_progress asked 0 emptied)) (silence + elapsed) resends) Ans.Passed
    unfolding indoor_tick_in transfer_tick_of transfer_expires_of transfer_on_event pick
    transfer_quiet h = rw (below_quiet silence elapsed resends plan.settings h)

    -- The first expiry in Transfer: 40, whatever resends are left.
    pub transfer_40 : plan.settings.limit ≤ silence + elapsed → then (Transfer (indoor_progress asked 0 emptied)) ≡ failed Silence
    unfolding indoor_tick_in transfer_tick_of transfer_expires_of pick
    transfer_40 h =
        let g = grown_of silence elapsed resends plan.settings in
        expired_40 (Transfer (indoor_progress asked 0 emptied)) g g.event (limit_expires silence elapsed resends plan.settings h)

  -- In Done and Failed time does nothing.
  pub done_still : then Done ≡ indoor_step (indoor_state Done silence resends) Ans.Passed
  unfolding indoor_tick_in
  done_still = refl

  pub failed_still : (reason : Reason) → then (Failed reason) ≡ indoor_step (indoor_state (Failed reason) silence resends) Ans.Passed
  unfolding indoor_tick_in
  failed_still reason = refl

-- Silence stays below the limit.
module _ (plan : Plan) (silence resends elapsed : ℕ) (below : silence < plan.settings.limit) where
  abbrev Below : Step → Type 0
  Below s = s.state.silence < plan.settings.limit

  resends_below : (phase : Phase) (again : Answer) → Below (resends_of plan (indoor_state phase silence resends) again elapsed)
  unfolding resends_of resend_on_event
  resends_below phase again =
      grown_all silence elapsed resends plan.settings (λ g. Below (resend_on_event phase again g g.event))
      (λ t. t) (λ _ _. omega arith) (λ _ _. omega arith)

  transfer_below : (phase : Phase) → Below (transfer_expires_of plan (indoor_state phase silence resends) elapsed)
  unfolding transfer_expires_of transfer_on_event
  transfer_below phase =
      grown_all silence elapsed resends plan.settings (λ g. Below (transfer_on_event phase g g.event))
      (λ t. t) (λ _ _. omega arith) (λ _ _. omega arith)

  -- Outside a wait, in it and at its end.
  in_wait : (left : ℕ) (s t u : Step) → Below s → Below t → Below u → Below (pick (eqb left 0) s (pick (ltb elapsed left) t u))
  in_wait left s t u a b c = pick_all Below (eqb left 0) _ _ (λ _. a) (λ _. pick_all Below (ltb elapsed left) _ _ (λ _. b) (λ _. c))

  pub stays_below : (phase : Phase) → Below (indoor_tick_in plan (indoor_state phase silence resends) phase elapsed)
  unfolding indoor_tick_in initiate_tick_of transfer_tick_of validate_tick_of
  stays_below Identify = resends_below Identify _
  stays_below (Initiate left) = in_wait left _ _ _ (resends_below (Initiate left) _) below (omega arith)
  stays_below (Transfer p) = in_wait p.wait _ _ _ (transfer_below (Transfer p)) below (omega arith)
  stays_below (Validate left) = in_wait left _ _ _ (resends_below (Validate left) _) below (omega arith)
  stays_below Done = below
  stays_below (Failed reason) = below

-- Where no time passes nothing changes, in a wait or outside.
module _ (plan : Plan) (silence resends : ℕ) (below : silence < plan.settings.limit) where
  abbrev same : Phase → Step
  same phase = indoor_step (indoor_state phase silence resends) Ans.Passed

  no_resend : (phase : Phase) (again : Answer) → resends_of plan (indoor_state phase silence resends) again 0 ≡ same phase
  unfolding resends_of resend_on_event
  no_resend phase again = rw (no_time silence resends plan.settings below)

  no_expiry : (phase : Phase) → transfer_expires_of plan (indoor_state phase silence resends) 0 ≡ same phase
  unfolding transfer_expires_of transfer_on_event
  no_expiry phase = rw (no_time silence resends plan.settings below)

  wait_same : (left : ℕ) (s t u v : Step) → s ≡ v → t ≡ v → pick (eqb left 0) s (pick (ltb 0 left) t u) ≡ v
  wait_same left s t u v a b =
      pick_all (λ x. x ≡ v) (eqb left 0) _ _ (λ _. a)
      (λ f. pick_all (λ x. x ≡ v) (ltb 0 left) _ _ (λ _. b)
      (λ g. let some = eqb-false left 0 f in let none = ltb-false 0 left g in absurd (omega arith)))

  whole : (left : ℕ) → left - 0 ≡ left
  whole left = omega arith

  pub tick_no_time : (phase : Phase) → indoor_tick_in plan (indoor_state phase silence resends) phase 0 ≡ same phase
  unfolding indoor_tick_in initiate_tick_of transfer_tick_of validate_tick_of
  tick_no_time Identify = no_resend Identify _
  tick_no_time (Initiate left) = wait_same left _ _ _ _ (no_resend (Initiate left) _) (ap (λ (l : ℕ). same (Initiate l)) (whole left))
  tick_no_time (Transfer p) = wait_same p.wait _ _ _ _ (no_expiry (Transfer p)) (ap (λ (l : ℕ). same (Transfer (indoor_progress p.asked l p.emptied))) (whole p.wait))
  tick_no_time (Validate left) = wait_same left _ _ _ _ (no_resend (Validate left) _) (ap (λ (l : ℕ). same (Validate l)) (whole left))
  tick_no_time Done = refl
  tick_no_time (Failed reason) = refl

-- One call that passes several limits is one expiry: it does what a call does that reaches the first exactly.
pub many : (plan : Plan) (silence resends e e' : ℕ) (phase : Phase) (again : Answer)
    → Resends phase again
    → plan.settings.limit ≤ silence + e
    → plan.settings.limit ≤ silence + e'
    → indoor_tick_of plan (indoor_state phase silence resends) e ≡ indoor_tick_of plan (indoor_state phase silence resends) e'
unfolding resends_of
many plan silence resends e e' phase again r h h' =
    rw (listens plan silence resends e phase again r, listens plan silence resends e' phase again r, many_limits silence resends e e' plan.settings h h')

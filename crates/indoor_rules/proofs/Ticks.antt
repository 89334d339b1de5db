-- What holds of every time call, by the state before it and the state after it (01, The indoor end's phases).
use Prim.Native.Nat.{ℕ, ◌+◌, ◌≤◌, ◌<◌}
use mathlib.Core.Bool.{Bool, true, ◌||◌}
use mathlib.Core.Logic.{◌⊎◌, inl, inr}
use mathlib.Core.Path.{◌≡◌, refl}
use native.Mathlib.Omega.{arith}
use borrow.Author.Tests.{eqb-true}
use lib.Dec.{eqb, ltb}
use Rattle.basis.specs.Pick.{pick_all, When}
use Rattle.silence.proofs.Laws.{grown_all}
use Rattle.indoor_state.specs.Phase.{indoor_state}
use Rattle.indoor_state.specs.Answer.{indoor_number_of, sends_of}
use Rattle.indoor_state.specs.Step.{indoor_step}
use Rattle.indoor_rules.specs.Tick.{resend_on_event, transfer_on_event, resends_of, transfer_expires_of, initiate_tick_of, transfer_tick_of, validate_tick_of, indoor_tick_in, indoor_tick_of}
use Rattle.indoor_state.specs.declared.plan.Plan.{Plan}
use Rattle.indoor_state.specs.declared.phase.Reason.TheVariants.{Silence}
use Rattle.indoor_state.specs.declared.phase.Progress.{Progress}
use Rattle.indoor_state.specs.declared.phase.Phase.{Phase}
use Rattle.indoor_state.specs.declared.phase.Phase.TheVariants.{Identify, Initiate, Transfer, Validate, Done, Failed}
use Rattle.indoor_state.specs.declared.phase.State.{State}
use Rattle.indoor_state.specs.declared.answer.Answer.TheVariants as Ans
use Rattle.indoor_state.specs.declared.step.Step.{Step}
use Rattle.indoor_rules.proofs.Accepted.{emptied_stays, emptied_last}
use Rattle.indoor_rules.proofs.Orders.{failed}
use Rattle.indoor_rules.proofs.Owes.{Fails, Fit, Within, Empties, Still, Marks, later_empties}

-- Answered 0 or 40.
abbrev pub ticks : ℕ → Bool
ticks n = eqb n 0 || eqb n 40

-- The milliseconds left of a wait.
abbrev pub wait_left : Phase → ℕ
wait_left Identify = 0
wait_left (Initiate left) = left
wait_left (Transfer p) = p.wait
wait_left (Validate left) = left
wait_left Done = 0
wait_left (Failed reason) = 0

-- Silence reaches the limit outside a wait.
abbrev pub Expires : Plan → State → ℕ → Type 0
Expires plan state elapsed = (wait_left state.phase ≡ 0) × (plan.settings.limit ≤ state.silence + elapsed)

-- The phases in the paper's order.
abbrev pub order : Phase → ℕ
order Identify = 0
order (Initiate left) = 1
order (Transfer p) = 2
order (Validate left) = 3
order Done = 4
order (Failed reason) = 5

-- In Done and Failed time does nothing.
abbrev pub Rests : Phase → State → Step → Type 0
Rests Identify state s = Unit
Rests (Initiate left) state s = Unit
Rests (Transfer p) state s = Unit
Rests (Validate left) state s = Unit
Rests Done state s = s ≡ indoor_step state Ans.Passed
Rests (Failed reason) state s = s ≡ indoor_step state Ans.Passed

pub record Ticks (plan : Plan) (state : State) (elapsed : ℕ) (s : Step) : Type 0 where
  pub number : ticks (indoor_number_of s.answer) ≡ true
  pub rests : Rests state.phase state s
  -- Time leads to no phase but Failed, and there only by an expiry.
  pub lasts : (order s.state.phase ≡ order state.phase) ⊎ ((s ≡ failed Silence) × Expires plan state elapsed)
  pub expired : When (eqb (indoor_number_of s.answer) 40) (Expires plan state elapsed)
  pub fails : Fails s.answer s.state
  -- A resend is counted only by an expiry, and one call is at most one.
  pub counted : (s.state.resends ≡ state.resends) ⊎ Expires plan state elapsed
  pub once : s.state.resends ≤ state.resends + 1
  pub fit : Fit plan state.phase → Fit plan s.state.phase
  pub within : Fit plan state.phase → Within plan (sends_of s.answer)
  pub empties : Empties plan state.phase s.answer s.state.phase
  pub still : Still state.phase s.state.phase
  pub marks : Marks plan (sends_of s.answer) s.state.phase

-- What every case below needs of the count of resends.
record Sums (resends : ℕ) : Type 0 where
  counted : resends + 1 ≤ resends + 1
  kept : resends ≤ resends + 1
  cleared : 0 ≤ resends + 1

sums : (resends : ℕ) → Sums resends
sums resends = record {
  counted = omega arith;
  kept = omega arith;
  cleared = omega arith;
}

module _ (plan : Plan) (silence resends elapsed : ℕ) where
  abbrev P : Phase → Step → Type 0
  P before s = Ticks plan (indoor_state before silence resends) elapsed s

  identify_ticks : P Identify (resends_of plan (indoor_state Identify silence resends) Ans.Identifying elapsed)
  unfolding resends_of resend_on_event
  identify_ticks =
      let k = sums resends in
      grown_all silence elapsed resends plan.settings (λ x. P Identify (resend_on_event Identify Ans.Identifying x x.event))
      (λ _. search inl) (λ at _. search (inl, inr)) (λ at _. search (inl, inr))

  initiate_ticks : (left : ℕ) → P (Initiate left) (initiate_tick_of plan (indoor_state (Initiate left) silence resends) left elapsed)
  unfolding initiate_tick_of resends_of resend_on_event
  initiate_ticks left =
      let k = sums resends in
      pick_all (P (Initiate left)) (eqb left 0) _ _
      (λ t. let none = eqb-true left 0 t in
      grown_all silence elapsed resends plan.settings (λ x. P (Initiate left) (resend_on_event (Initiate left) Ans.Initiating x x.event))
      (λ _. search inl) (λ at _. search (inl, inr)) (λ at _. search (inl, inr)))
      (λ _. pick_all (P (Initiate left)) (ltb elapsed left) _ _ (λ _. search inl) (λ _. search inl))

  validate_ticks : (left : ℕ) → P (Validate left) (validate_tick_of plan (indoor_state (Validate left) silence resends) left elapsed)
  unfolding validate_tick_of resends_of resend_on_event
  validate_ticks left =
      let k = sums resends in
      pick_all (P (Validate left)) (eqb left 0) _ _
      (λ t. let none = eqb-true left 0 t in
      grown_all silence elapsed resends plan.settings (λ x. P (Validate left) (resend_on_event (Validate left) Ans.Validating x x.event))
      (λ _. search inl) (λ at _. search (inl, inr)) (λ at _. search (inl, inr)))
      (λ _. pick_all (P (Validate left)) (ltb elapsed left) _ _ (λ _. search inl) (λ _. search inl))

  transfer_ticks : (p : Progress) → P (Transfer p) (transfer_tick_of plan (indoor_state (Transfer p) silence resends) p elapsed)
  unfolding transfer_tick_of transfer_expires_of transfer_on_event
  transfer_ticks p =
      let k = sums resends in
      let later = later_empties plan p.asked p.emptied in
      let kept = emptied_stays plan p.asked p.emptied in
      let marked = emptied_last plan p.asked p.emptied in
      pick_all (P (Transfer p)) (eqb p.wait 0) _ _
      (λ t. let none = eqb-true p.wait 0 t in
      grown_all silence elapsed resends plan.settings (λ x. P (Transfer p) (transfer_on_event (Transfer p) x x.event))
      (λ _. search inl) (λ at _. search (inl, inr)) (λ at _. search (inl, inr)))
      (λ _. pick_all (P (Transfer p)) (ltb elapsed p.wait) _ _ (λ _. search inl) (λ _. search inl))

  passed_ticks : (before : Phase) → P before (indoor_tick_in plan (indoor_state before silence resends) before elapsed)
  unfolding indoor_tick_in
  passed_ticks Identify = identify_ticks
  passed_ticks (Initiate left) = initiate_ticks left
  passed_ticks (Transfer p) = transfer_ticks p
  passed_ticks (Validate left) = validate_ticks left
  passed_ticks Done = let k = sums resends in search inl
  passed_ticks (Failed reason) = let k = sums resends in search inl

pub pass_ticks : (plan : Plan) (state : State) (elapsed : ℕ) → Ticks plan state elapsed (indoor_tick_of plan state elapsed)
pass_ticks plan state elapsed = passed_ticks plan state.silence state.resends elapsed state.phase

-- Silence doesn't grow in a wait, and a wait counts no resend.
module _ (plan : Plan) (silence resends elapsed : ℕ) where
  abbrev Calm : Step → Type 0
  Calm s = (s.state.silence ≤ silence) × (s.state.resends ≡ resends)

  calm : (before : Phase) → 0 < wait_left before → Calm (indoor_tick_in plan (indoor_state before silence resends) before elapsed)
  unfolding indoor_tick_in initiate_tick_of transfer_tick_of validate_tick_of
  calm Identify h = absurd (omega arith)
  calm (Initiate left) h =
      pick_all Calm (eqb left 0) _ _ (λ t. let none = eqb-true left 0 t in absurd (omega arith))
      (λ _. pick_all Calm (ltb elapsed left) _ _ (λ _. (omega arith, refl)) (λ _. (omega arith, refl)))
  calm (Transfer p) h =
      pick_all Calm (eqb p.wait 0) _ _ (λ t. let none = eqb-true p.wait 0 t in absurd (omega arith))
      (λ _. pick_all Calm (ltb elapsed p.wait) _ _ (λ _. (omega arith, refl)) (λ _. (omega arith, refl)))
  calm (Validate left) h =
      pick_all Calm (eqb left 0) _ _ (λ t. let none = eqb-true left 0 t in absurd (omega arith))
      (λ _. pick_all Calm (ltb elapsed left) _ _ (λ _. (omega arith, refl)) (λ _. (omega arith, refl)))
  calm Done h = absurd (omega arith)
  calm (Failed reason) h = absurd (omega arith)

pub wait_calm : (plan : Plan) (state : State) (elapsed : ℕ) → 0 < wait_left state.phase
    → ((indoor_tick_of plan state elapsed).state.silence ≤ state.silence) × ((indoor_tick_of plan state elapsed).state.resends ≡ state.resends)
wait_calm plan state elapsed h = calm plan state.silence state.resends elapsed state.phase h

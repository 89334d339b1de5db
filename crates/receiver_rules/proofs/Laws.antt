-- The paper's sentences on the receiver's requests, as laws of the definition (01, The receiver's phases; 01, Numbers we answer).
use Prim.Native.Nat.{ℕ}
use mathlib.Core.Bool.{true, false, true≢false}
use mathlib.Core.Path.{◌≡◌, refl, sym, ◌∙◌}
use mathlib.Core.List.{List}
use Rattle.basis.specs.Pick.{when_met}
use Rattle.wire.specs.declared.request.Request.{Request}
use Rattle.receiver_state.specs.Answer.{receiver_number_of}
use Rattle.receiver_rules.specs.Decide.{receiver_decide_of}
use Rattle.receiver_rules.proofs.Owes.{keeps_all, keeps_phase, goes_idle, Stays, Row, decide_row}
use Rattle.receiver_state.specs.declared.phase.Accepted.{Accepted}
use Rattle.receiver_state.specs.declared.phase.Phase.{Phase}
use Rattle.receiver_state.specs.declared.phase.Phase.TheVariants.{Idle, Good}
use Rattle.receiver_state.specs.declared.verdict.Verdict.{Verdict}
use Rattle.std.specs.Prelude.{Option, None}
use Rattle.receiver_state.specs.declared.step.Step.{Step}
use Rattle.receiver_rules.specs.Request.{Effect, image_after, receiver_request_of}
use Rattle.receiver_state.specs.declared.session.Receiver.{Receiver}
use Rattle.receiver_rules.proofs.Walk.{request_walk}

-- A step that puts no block keeps the image.
nowhere_keeps : (s : Option ℕ) (image request : List ℕ) → s ≡ None → image_after s image request ≡ image
unfolding image_after
nowhere_keeps s image request e = rw e

stays_good : (before next : Phase) (a : Accepted) → Stays before next → before ≡ Good a → next ≡ Good a
stays_good before next a h e = rw e at h

module _ (r : Receiver) (image request : List ℕ) (readiness : ℕ) (verdict : Verdict) (out : List ℕ) where
  abbrev pub after : Effect
  after = receiver_request_of r image request readiness verdict out

  abbrev pub number : ℕ
  number = receiver_number_of after.outcome.answer

  abbrev pub next : Receiver
  next = after.outcome.session

  abbrev step : Request → Step
  step q = receiver_decide_of r.phase q r.capacity readiness verdict

  row : (q : Request) → Row r.phase q r.capacity verdict (step q)
  row q = decide_row r.phase q r.capacity readiness verdict

  -- Answers 20, 26, 27 and 28 keep the state, the image and the buffer whole.
  pub refused_keeps : keeps_all number ≡ true → (next ≡ r) × (after.image ≡ image) × (after.out ≡ out) × (after.outcome.written ≡ 0)
  refused_keeps =
      request_walk r image request readiness verdict out
      (λ e. keeps_all (receiver_number_of e.outcome.answer) ≡ true → (e.outcome.session ≡ r) × (e.image ≡ image) × (e.out ≡ out) × (e.outcome.written ≡ 0))
      (λ _. (refl, refl, refl, refl)) (λ _. (refl, refl, refl, refl)) (λ _. (refl, refl, refl, refl)) (λ _. (refl, refl, refl, refl))
      (λ q _ _ _ h. absurd (true≢false (sym h ∙ (row q).heard)))

  -- 21 and 22 keep the phase and the image.
  pub phase_kept : keeps_phase number ≡ true → (next.phase ≡ r.phase) × (after.image ≡ image)
  phase_kept =
      request_walk r image request readiness verdict out
      (λ e. keeps_phase (receiver_number_of e.outcome.answer) ≡ true → (e.outcome.session.phase ≡ r.phase) × (e.image ≡ image))
      (λ _. (refl, refl)) (λ _. (refl, refl)) (λ _. (refl, refl)) (λ _. (refl, refl))
      (λ q _ _ _ h.
      let k = when_met (keeps_phase (receiver_number_of (step q).answer)) (row q).keeps h in
      (k.0, nowhere_keeps (step q).store image request k.1))

  -- 23, 24 and 25 end in Idle and keep the image.
  pub idle_ended : goes_idle number ≡ true → (next.phase ≡ Idle) × (after.image ≡ image)
  idle_ended =
      request_walk r image request readiness verdict out
      (λ e. goes_idle (receiver_number_of e.outcome.answer) ≡ true → (e.outcome.session.phase ≡ Idle) × (e.image ≡ image))
      (λ h. absurd (true≢false (sym h)))
      (λ h. absurd (true≢false (sym h)))
      (λ h. absurd (true≢false (sym h)))
      (λ h. absurd (true≢false (sym h)))
      (λ q _ _ _ h.
      let k = when_met (goes_idle (receiver_number_of (step q).answer)) (row q).goes_idle_lem h in
      (k.0, nowhere_keeps (step q).store image request k.1))

  -- A well-formed request sets silence and resends to zero.
  pub heard_resets : keeps_all number ≡ false → (next.silence ≡ 0) × (next.resends ≡ 0)
  heard_resets =
      request_walk r image request readiness verdict out
      (λ e. keeps_all (receiver_number_of e.outcome.answer) ≡ false → (e.outcome.session.silence ≡ 0) × (e.outcome.session.resends ≡ 0))
      (λ h. absurd (true≢false h))
      (λ h. absurd (true≢false h))
      (λ h. absurd (true≢false h))
      (λ h. absurd (true≢false h))
      (λ _ _ _ _ _. (refl, refl))

  -- Settings, identity and capacity are the session's to its end.
  pub settings_stay : (next.settings ≡ r.settings) × (next.identity ≡ r.identity) × (next.capacity ≡ r.capacity)
  settings_stay =
      request_walk r image request readiness verdict out
      (λ e. (e.outcome.session.settings ≡ r.settings) × (e.outcome.session.identity ≡ r.identity) × (e.outcome.session.capacity ≡ r.capacity))
      (refl, refl, refl) (refl, refl, refl) (refl, refl, refl) (refl, refl, refl)
      (λ _ _ _ _. (refl, refl, refl))

  -- Good is never left by a request.
  pub good_stays : (a : Accepted) → r.phase ≡ Good a → next.phase ≡ Good a
  good_stays a e =
      request_walk r image request readiness verdict out (λ x. x.outcome.session.phase ≡ Good a) e e e e
      (λ q _ _ _. stays_good r.phase (step q).phase a (row q).stays e)

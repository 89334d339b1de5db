-- In every session that calls lead to, the accepted blocks are the first bytes of the image, and the counts are theirs.
use Prim.Native.Nat.{ℕ, ◌≤◌, ◌<◌}
use mathlib.Core.Bool.{false}
use mathlib.Core.Path.{◌≡◌, refl}
use mathlib.Core.List.{List}
use native.Mathlib.Omega.{arith}
use lib.Dec.{eqb}
use lib.ListN.{length, drop}
use Rattle.basis.specs.Pick.{pick}
use Rattle.wire.specs.Request as message
use Rattle.wire.specs.declared.request.Request.TheVariants as Req
use Rattle.wire.specs.Request.{Parsed}
use Rattle.receiver_rules.proofs.Elapsed.{Lasts, stays_below}
use Rattle.receiver_state.specs.declared.phase.Phase.{Phase}
use Rattle.receiver_state.specs.declared.phase.Phase.TheVariants.{Idle, Transfer, Await, Good}
use Rattle.receiver_state.specs.declared.verdict.Verdict.{Verdict}
use Rattle.receiver_rules.specs.Request.{receiver_request_of}
use Rattle.receiver_rules.specs.Time.{receiver_time_of}
use Rattle.receiver_rules.specs.History.{block_answered, accepts_block, forgets, RequestCall, taken_by, taken_after, Reached, starts, asks, asks_with_other, passes}
use Rattle.receiver_state.specs.declared.session.Receiver.{Receiver}
use Rattle.receiver_rules.proofs.Walk.{request_walk, time_walk}
use Rattle.receiver_rules.proofs.Answers.{answers_28}
use Rattle.receiver_rules.proofs.Laws.{settings_stay}
use Rattle.receiver_rules.proofs.TimeLaws.{time_lasts, time_settings}
use Rattle.receiver_rules.proofs.Held.{Held, forgets_held}
use Rattle.receiver_rules.proofs.Keeps.{decide_keeps}
use Rattle.receiver_rules.proofs.Fresh.{start_fresh}
use Rattle.std.specs.Prelude.{Ok, Err}

-- A request that is refused accepts no block.
refused_block : (m : Parsed) (answered : ℕ) → eqb answered 0 ≡ false → block_answered m answered ≡ false
refused_block (Err refusal) answered h = refl
refused_block (Ok Req.GetFwId) answered h = refl
refused_block (Ok (Req.Initiate v)) answered h = refl
refused_block (Ok (Req.Data number size)) answered h = rw h
refused_block (Ok Req.Validate) answered h = refl
refused_block (Ok Req.Abort) answered h = refl
refused_block (Ok Req.NotBuilt) answered h = refl

pub refused_accepts : (before : Phase) (m : Parsed) (answered : ℕ) → eqb answered 0 ≡ false → accepts_block before m answered ≡ false
refused_accepts Idle m answered h = refl
refused_accepts (Transfer p) m answered h = refused_block m answered h
refused_accepts (Await a) m answered h = refl
refused_accepts (Good a) m answered h = refl

module _ (capacity : ℕ) (image : List ℕ) (taken : List (List ℕ)) where
  refused_holds : (before : Phase) (m : Parsed) (block : List ℕ) (answered : ℕ) → eqb answered 0 ≡ false → Held capacity image taken before
      → Held capacity image (taken_by (record { before = before; message = m; block = block; answered = answered; after = before }) taken) before
  unfolding pick
  refused_holds before m block answered n h = rw (refused_accepts before m answered n) (forgets_held capacity image taken before h)

  lasts_holds : (before next : Phase) → Lasts before next → Held capacity image taken before → Held capacity image (forgets next taken) next
  lasts_holds before Idle l h = refl
  lasts_holds before (Transfer p) l h = rw (← l) at h
  lasts_holds before (Await a) l h = rw (← l) at h
  lasts_holds before (Good a) l h = rw (← l) at h

abbrev Holds : Receiver → List ℕ → List (List ℕ) → Type 0
Holds r image taken = Held r.capacity image taken r.phase

-- A request that is refused and leaves the phase as it was.
abbrev pub refused_as : Receiver → List ℕ → ℕ → RequestCall
refused_as r request answered = record {
  before = r.phase;
  message = message.parsed_request_of request;
  block = drop 4 request;
  answered = answered;
  after = r.phase;
}

module _ (r : Receiver) (image : List ℕ) (taken : List (List ℕ)) (h : Holds r image taken) where
  refused : (request : List ℕ) (answered : ℕ) → eqb answered 0 ≡ false → Holds r image (taken_by (refused_as r request answered) taken)
  refused request answered n = refused_holds r.capacity image taken r.phase (message.parsed_request_of request) (drop 4 request) answered n h

  asks_holds : (request : List ℕ) (readiness : ℕ) (verdict : Verdict) (out : List ℕ)
      → Holds (receiver_request_of r image request readiness verdict out).outcome.session (receiver_request_of r image request readiness verdict out).image
      (taken_after r request (receiver_request_of r image request readiness verdict out).outcome taken)
  asks_holds request readiness verdict out =
      request_walk r image request readiness verdict out (λ x. Holds x.outcome.session x.image (taken_after r request x.outcome taken))
      (refused request 28 refl) (refused request 27 refl) (refused request 26 refl) (refused request 20 refl)
      (λ q lent _ e. rw e (decide_keeps r.capacity image request taken readiness verdict lent r.phase q e h))

  other_holds : (lent : List ℕ) → (length lent ≡ r.capacity → ⊥) → (request : List ℕ) (readiness : ℕ) (verdict : Verdict) (out : List ℕ)
      → Holds (receiver_request_of r lent request readiness verdict out).outcome.session image
      (taken_after r request (receiver_request_of r lent request readiness verdict out).outcome taken)
  other_holds lent other request readiness verdict out = rw (answers_28 r lent request readiness verdict out other) (refused request 28 refl)

  passes_holds : (elapsed : ℕ) (out : List ℕ) → Holds (receiver_time_of r elapsed out).answer.session image (forgets (receiver_time_of r elapsed out).answer.session.phase taken)
  passes_holds elapsed out =
      rw (time_settings r elapsed out).2
      (lasts_holds r.capacity image taken r.phase (receiver_time_of r elapsed out).answer.session.phase (time_lasts r elapsed out) h)

pub reached_holds : {r : Receiver} {image : List ℕ} {taken : List (List ℕ)} → Reached r image taken → Held r.capacity image taken r.phase
reached_holds (starts limit resends identity capacity r image e) = rw (start_fresh limit resends identity capacity r e).idle refl
reached_holds (asks {r = r} {image = image} {taken = taken} h request readiness verdict out) = asks_holds r image taken (reached_holds h) request readiness verdict out
reached_holds (asks_with_other {r = r} {image = image} {taken = taken} h lent other request readiness verdict out) =
    other_holds r image taken (reached_holds h) lent other request readiness verdict out
reached_holds (passes {r = r} {image = image} {taken = taken} h elapsed out) = passes_holds r image taken (reached_holds h) elapsed out

pub reached_capacity : {r : Receiver} {image : List ℕ} {taken : List (List ℕ)} → Reached r image taken → r.capacity ≤ 1048575
reached_capacity (starts limit resends identity capacity r image e) = (start_fresh limit resends identity capacity r e).within
reached_capacity (asks {r = r} {image = image} h request readiness verdict out) = rw (settings_stay r image request readiness verdict out).2 (reached_capacity h)
reached_capacity (asks_with_other {r = r} h lent other request readiness verdict out) = rw (settings_stay r lent request readiness verdict out).2 (reached_capacity h)
reached_capacity (passes {r = r} h elapsed out) = rw (time_settings r elapsed out).2 (reached_capacity h)

-- Silence is below the limit.
pub reached_below : {r : Receiver} {image : List ℕ} {taken : List (List ℕ)} → Reached r image taken → r.silence < r.settings.limit
reached_below (starts limit resends identity capacity r image e) = (start_fresh limit resends identity capacity r e).below
reached_below (asks {r = r} {image = image} h request readiness verdict out) =
    let below = reached_below h in
    request_walk r image request readiness verdict out (λ x. x.outcome.session.silence < x.outcome.session.settings.limit) below below below below (λ _ _ _ _. omega arith)
reached_below (asks_with_other {r = r} h lent other request readiness verdict out) =
    rw (answers_28 r lent request readiness verdict out other) (reached_below h)
reached_below (passes {r = r} h elapsed out) =
    let below = reached_below h in
    time_walk r elapsed out (λ x. x.answer.session.silence < x.answer.session.settings.limit) below
    (λ _. stays_below r.silence elapsed r.resends r.settings below r.phase)

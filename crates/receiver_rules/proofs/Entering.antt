-- How Good and Await are entered by a request (01, The receiver's phases).
use Prim.Native.Nat.{ℕ, ◌<◌}
use mathlib.Core.Logic.{◌⊎◌, inl, inr}
use mathlib.Core.Path.{◌≡◌, refl, sym, ◌∙◌, ap}
use mathlib.Core.List.{List}
use Rattle.wire.specs.Request as message
use Rattle.wire.specs.declared.request.Request.{Request}
use Rattle.wire.specs.declared.request.Request.TheVariants as Req
use Rattle.receiver_rules.specs.Decide.{receiver_decide_of}
use Rattle.receiver_rules.proofs.Owes.{ToGood, ToAwait, Enters, decide_row}
use Rattle.receiver_state.specs.declared.phase.Accepted.{Accepted}
use Rattle.receiver_state.specs.declared.phase.Progress.{Progress}
use Rattle.receiver_state.specs.declared.phase.Phase.{Phase}
use Rattle.receiver_state.specs.declared.phase.Phase.TheVariants.{Idle, Transfer, Await, Good}
use Rattle.receiver_state.specs.declared.verdict.Verdict.{Verdict}
use Rattle.receiver_state.specs.declared.verdict.Verdict.TheVariants as Ver
use Rattle.receiver_state.specs.declared.session.Receiver.{Receiver}
use Rattle.receiver_rules.proofs.Walk.{request_walk}
use Rattle.receiver_rules.proofs.Laws.{next}
use Rattle.std.specs.Prelude.{Ok}

-- Await, and a VALIDATE with a good verdict.
pub record Validated (before : Phase) (request : List ℕ) (verdict : Verdict) (a : Accepted) : Type 0 where
  pub awaited : before ≡ Await a
  pub parsed : message.parsed_request_of request ≡ Ok Req.Validate
  pub good : verdict ≡ Ver.Good

-- Transfer with at least one block accepted, and the empty block that is due.
pub record Closes (before : Phase) (request : List ℕ) (a : Accepted) : Type 0 where
  pub progress : Progress
  pub transfer : before ≡ Transfer progress
  pub same : a ≡ progress.accepted
  pub parsed : message.parsed_request_of request ≡ Ok (Req.Data a.blocks 0)
  pub some : 0 < a.blocks

module _ (request : List ℕ) (q : Request) (e : message.parsed_request_of request ≡ Ok q) (a : Accepted) where
  from_good : (before : Phase) (verdict : Verdict) → ToGood before q verdict a → (before ≡ Good a) ⊎ Validated before request verdict a
  from_good Idle verdict h = absurd h
  from_good (Transfer p) verdict h = absurd h
  from_good (Await b) verdict h =
      inr (record { awaited = ap (λ x. Await x) (sym h.0); parsed = e ∙ ap (λ x. Ok x) h.1; good = h.2 })
  from_good (Good b) verdict h = inl (ap (λ x. Good x) (sym h))

  from_await : (before : Phase) → ToAwait before q a → (before ≡ Await a) ⊎ Closes before request a
  from_await Idle h = absurd h
  from_await (Transfer p) h = inr (record { progress = p; transfer = refl; same = h.0; parsed = e ∙ ap (λ x. Ok x) h.1; some = h.2 })
  from_await (Await b) h = inl (ap (λ x. Await x) (sym h))
  from_await (Good b) h = absurd h

module _ (r : Receiver) (image request : List ℕ) (readiness : ℕ) (verdict : Verdict) (out : List ℕ) (a : Accepted) where
  abbrev then : Phase
  then = (next r image request readiness verdict out).phase

  enters : (q : Request) (phase : Phase) → (receiver_decide_of r.phase q r.capacity readiness verdict).phase ≡ phase → Enters r.phase q verdict phase
  enters q phase e = rw e at (decide_row r.phase q r.capacity readiness verdict).enters

  -- Good is entered only from Await, by VALIDATE with a good verdict.
  pub good_entered : then ≡ Good a → (r.phase ≡ Good a) ⊎ Validated r.phase request verdict a
  good_entered =
      request_walk r image request readiness verdict out
      (λ x. x.outcome.session.phase ≡ Good a → (r.phase ≡ Good a) ⊎ Validated r.phase request verdict a)
      inl inl inl inl
      (λ q _ _ e h. from_good request q e a r.phase verdict (enters q (Good a) h))

  -- Await is entered only by the empty block with at least one accepted.
  pub await_entered : then ≡ Await a → (r.phase ≡ Await a) ⊎ Closes r.phase request a
  await_entered =
      request_walk r image request readiness verdict out
      (λ x. x.outcome.session.phase ≡ Await a → (r.phase ≡ Await a) ⊎ Closes r.phase request a)
      inl inl inl inl
      (λ q _ _ e h. from_await request q e a r.phase (enters q (Await a) h))

-- The paper's sentences on the indoor end's calls, as laws of the definitions (01, The indoor end's phases; 01, Numbers we answer).
use Prim.Native.Nat.{ℕ, ◌≤◌, ◌<◌}
use Rattle.std.specs.Prelude.{None}
use mathlib.Core.Bool.{Bool, true, true≢false, ◌||◌}
use mathlib.Core.Path.{◌≡◌, refl, sym, ap}
use mathlib.Core.List.{List}
use native.Mathlib.Omega.{arith}
use borrow.Author.Tests.{eq-eqb}
use lib.Dec.{eqb}
use Rattle.basis.specs.Pick.{When, when_met}
use Rattle.basis.specs.Left.{Left}
use Rattle.wire.specs.declared.response.Response.{Response}
use Rattle.indoor_state.specs.Answer.{indoor_number_of, sends_of}
use Rattle.indoor_state.specs.Step.{indoor_step}
use Rattle.indoor_rules.specs.Decide.{indoor_decide_of}
use Rattle.indoor_rules.specs.Tick.{indoor_tick_of}
use Rattle.indoor_state.specs.declared.phase.Reason.{Reason}
use Rattle.indoor_state.specs.declared.phase.Reason.TheVariants as Why
use Rattle.indoor_state.specs.declared.phase.Phase.{Phase}
use Rattle.indoor_state.specs.declared.phase.Phase.TheVariants.{Done, Failed}
use Rattle.indoor_state.specs.declared.phase.State.{State}
use Rattle.indoor_state.specs.declared.answer.Answer.{Answer}
use Rattle.indoor_state.specs.declared.answer.Answer.TheVariants as Ans
use Rattle.indoor_state.specs.declared.step.Step.{Step}
use Rattle.indoor_rules.proofs.Owes.{hears, Fails, Row, Stays, decide_row}
use Rattle.indoor_rules.proofs.Elapsed.{tick_no_time}
use Rattle.indoor_rules.proofs.Ticks.{Ticks, Rests, pass_ticks}
use Rattle.indoor_rules.specs.Session.{indoor_done}
use Rattle.indoor_rules.specs.Send.{sends_bytes}
use Rattle.indoor_rules.specs.Response.{indoor_response_of}
use Rattle.indoor_rules.specs.Time.{indoor_time_of}
use Rattle.indoor_state.specs.declared.session.Indoor.{Indoor}
use Rattle.indoor_state.specs.Session.{IndoorOutcome}
use Rattle.indoor_rules.proofs.Walk.{response_walk, time_walk}

-- 01, Numbers we answer: "kept"
abbrev pub keeps_all : ℕ → Bool
keeps_all n = eqb n 20 || eqb n 21 || eqb n 27 || eqb n 28

-- The session and the buffer are as they were, and nothing was written.
abbrev pub Kept : Indoor → List ℕ → Left IndoorOutcome → Type 0
Kept s out x = (x.answer.session ≡ s) × (x.memory ≡ out) × (x.answer.written ≡ 0)

only_unexpected : (a : Answer) → hears (indoor_number_of a) ≡ true → keeps_all (indoor_number_of a) ≡ true → a ≡ Ans.Unexpected
only_unexpected Ans.Identifying h k = absurd (true≢false (sym k))
only_unexpected Ans.Initiating h k = absurd (true≢false (sym k))
only_unexpected (Ans.Sending number) h k = absurd (true≢false (sym k))
only_unexpected Ans.Validating h k = absurd (true≢false (sym k))
only_unexpected Ans.Waiting h k = absurd (true≢false (sym k))
only_unexpected Ans.Finished h k = absurd (true≢false (sym k))
only_unexpected Ans.Passed h k = absurd (true≢false (sym k))
only_unexpected Ans.Malformed h k = absurd (true≢false (sym h))
only_unexpected Ans.Unexpected h k = refl
only_unexpected Ans.BufferShort h k = absurd (true≢false (sym h))
only_unexpected Ans.FileLength h k = absurd (true≢false (sym h))
only_unexpected (Ans.Failed Why.Silence) h k = absurd (true≢false (sym k))
only_unexpected (Ans.Failed Why.Refused) h k = absurd (true≢false (sym k))
only_unexpected (Ans.Failed Why.NotNewer) h k = absurd (true≢false (sym k))
only_unexpected (Ans.Failed Why.TooLarge) h k = absurd (true≢false (sym k))
only_unexpected (Ans.Failed Why.WrongNumber) h k = absurd (true≢false (sym k))
only_unexpected (Ans.Failed Why.NotValid) h k = absurd (true≢false (sym k))

no_longer : (a : Answer) (state next : State) → hears (indoor_number_of a) ≡ true → When (eqb (indoor_number_of a) 21) (next ≡ state)
    → When (eqb (indoor_number_of a) 0) ((next.silence ≡ 0) × (next.resends ≡ 0)) → Fails a next → next.silence ≤ state.silence
no_longer Ans.Identifying state next h kept taken fails = omega (arith, taken.0)
no_longer Ans.Initiating state next h kept taken fails = omega (arith, taken.0)
no_longer (Ans.Sending number) state next h kept taken fails = omega (arith, taken.0)
no_longer Ans.Validating state next h kept taken fails = omega (arith, taken.0)
no_longer Ans.Waiting state next h kept taken fails = omega (arith, taken.0)
no_longer Ans.Finished state next h kept taken fails = omega (arith, taken.0)
no_longer Ans.Passed state next h kept taken fails = omega (arith, taken.0)
no_longer Ans.Malformed state next h kept taken fails = absurd (true≢false (sym h))
no_longer Ans.Unexpected state next h kept taken fails = let same = ap (λ (x : State). x.silence) kept in omega arith
no_longer Ans.BufferShort state next h kept taken fails = absurd (true≢false (sym h))
no_longer Ans.FileLength state next h kept taken fails = absurd (true≢false (sym h))
no_longer (Ans.Failed reason) state next h kept taken fails = let none = ap (λ (x : State). x.silence) fails in omega arith

stays_at : (before phase : Phase) (state : State) (x : Step) → before ≡ phase → Stays before state x → Stays phase state x
stays_at before phase state x e h = rw e at h

rests_at : (before phase : Phase) (state : State) (x : Step) → before ≡ phase → Rests before state x → Rests phase state x
rests_at before phase state x e h = rw e at h

module _ (s : Indoor) (file out : List ℕ) where
  -- A step that changes nothing, with an answer that sends nothing.
  rested : (x : Step) (answer : Answer) → sends_of answer ≡ None → x ≡ indoor_step s.state answer → Kept s out (indoor_done s.plan x file out)
  unfolding sends_bytes
  rested x answer n e = (rw e, rw (e, n), rw (e, n))

  passed : (x : Step) → When (eqb (indoor_number_of x.answer) 21) (x.state ≡ s.state) → hears (indoor_number_of x.answer) ≡ true → keeps_all (indoor_number_of x.answer) ≡ true
      → x ≡ indoor_step s.state Ans.Unexpected
  passed x w h k =
      let e : x.answer ≡ Ans.Unexpected = only_unexpected x.answer h k in
      let same : x.state ≡ s.state = when_met (eqb (indoor_number_of x.answer) 21) w (rw e) in
      let all : indoor_step x.state x.answer ≡ indoor_step s.state Ans.Unexpected = rw (e, same) in
      all

module _ (s : Indoor) (file response out : List ℕ) where
  abbrev pub after : Left IndoorOutcome
  after = indoor_response_of s file response out

  row : (r : Response) → Row s.plan s.state r (indoor_decide_of s.plan s.state r)
  row r = decide_row s.plan s.state r

  -- Answers 20, 21, 27 and 28 keep the state and the buffer whole.
  pub refused_keeps : keeps_all (indoor_number_of after.answer.answer) ≡ true → Kept s out after
  refused_keeps =
      response_walk s file response out (λ x. keeps_all (indoor_number_of x.answer.answer) ≡ true → Kept s out x)
      (λ _. (refl, refl, refl)) (λ _. (refl, refl, refl)) (λ _. (refl, refl, refl))
      (λ r _ _ _ k.
      let x = indoor_decide_of s.plan s.state r in
      rested s file out x Ans.Unexpected refl (passed s file out x (row r).passes (row r).number k))

  -- What the session was started with is the session's to its end.
  pub plan_stays : after.answer.session.plan ≡ s.plan
  plan_stays = response_walk s file response out (λ x. x.answer.session.plan ≡ s.plan) refl refl refl (λ _ _ _ _. refl)

  -- Done and Failed are never left: a response there changes nothing and writes nothing.
  pub done_stays : s.state.phase ≡ Done → Kept s out after
  done_stays e =
      response_walk s file response out (Kept s out) (refl, refl, refl) (refl, refl, refl) (refl, refl, refl)
      (λ r _ _ _. let x = indoor_decide_of s.plan s.state r in rested s file out x Ans.Unexpected refl (stays_at s.state.phase Done s.state x e (row r).stays))

  pub failed_stays : (reason : Reason) → s.state.phase ≡ Failed reason → Kept s out after
  failed_stays reason e =
      response_walk s file response out (Kept s out) (refl, refl, refl) (refl, refl, refl) (refl, refl, refl)
      (λ r _ _ _. let x = indoor_decide_of s.plan s.state r in rested s file out x Ans.Unexpected refl (stays_at s.state.phase (Failed reason) s.state x e (row r).stays))

  -- No response lengthens silence.
  pub silence_never_grows : after.answer.session.state.silence ≤ s.state.silence
  silence_never_grows =
      response_walk s file response out (λ x. x.answer.session.state.silence ≤ s.state.silence) (omega arith) (omega arith) (omega arith)
      (λ r _ _ _. let x = indoor_decide_of s.plan s.state r in no_longer x.answer s.state x.state (row r).number (row r).passes (row r).taken (row r).fails)

  -- An accepted response sets silence and resends to zero.
  pub accepted_resets : indoor_number_of after.answer.answer ≡ 0 → (after.answer.session.state.silence ≡ 0) × (after.answer.session.state.resends ≡ 0)
  accepted_resets =
      response_walk s file response out
      (λ x. indoor_number_of x.answer.answer ≡ 0 → (x.answer.session.state.silence ≡ 0) × (x.answer.session.state.resends ≡ 0))
      (λ e. absurd (omega arith)) (λ e. absurd (omega arith)) (λ e. absurd (omega arith))
      (λ r _ _ _ e. when_met (eqb (indoor_number_of (indoor_decide_of s.plan s.state r).answer) 0) (row r).taken (eq-eqb (indoor_number_of (indoor_decide_of s.plan s.state r).answer) 0 e))

module _ (s : Indoor) (file : List ℕ) (elapsed : ℕ) (out : List ℕ) where
  abbrev pub ticked : Left IndoorOutcome
  ticked = indoor_time_of s file elapsed out

  tick : Ticks s.plan s.state elapsed (indoor_tick_of s.plan s.state elapsed)
  tick = pass_ticks s.plan s.state elapsed

  pub time_plan_stays : ticked.answer.session.plan ≡ s.plan
  time_plan_stays = time_walk s file elapsed out (λ x. x.answer.session.plan ≡ s.plan) refl refl (λ _ _. refl)

  -- Time does nothing in Done and Failed.
  pub time_done_stays : s.state.phase ≡ Done → Kept s out ticked
  time_done_stays e =
      time_walk s file elapsed out (Kept s out) (refl, refl, refl) (refl, refl, refl)
      (λ _ _. rested s file out (indoor_tick_of s.plan s.state elapsed) Ans.Passed refl (rests_at s.state.phase Done s.state (indoor_tick_of s.plan s.state elapsed) e tick.rests))

  pub time_failed_stays : (reason : Reason) → s.state.phase ≡ Failed reason → Kept s out ticked
  time_failed_stays reason e =
      time_walk s file elapsed out (Kept s out) (refl, refl, refl) (refl, refl, refl)
      (λ _ _. rested s file out (indoor_tick_of s.plan s.state elapsed) Ans.Passed refl (rests_at s.state.phase (Failed reason) s.state (indoor_tick_of s.plan s.state elapsed) e tick.rests))

-- In a call with 0 ms elapsed no time passes: silence below the limit, as in every session (`reached_below` in proofs/Reached.antt), nothing
-- changes, in a wait or outside, and nothing is written.
pub no_time : (s : Indoor) (file out : List ℕ) → s.state.silence < s.plan.settings.limit → Kept s out (indoor_time_of s file 0 out)
no_time s file out below =
    time_walk s file 0 out (Kept s out) (refl, refl, refl) (refl, refl, refl)
    (λ _ _. rested s file out (indoor_tick_of s.plan s.state 0) Ans.Passed refl (tick_no_time s.plan s.state.silence s.state.resends below s.state.phase))

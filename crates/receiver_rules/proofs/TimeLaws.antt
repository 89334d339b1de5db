-- The paper's sentences on the receiver's time calls, as laws of the definition (01, The receiver's phases: Time).
use Prim.Native.Nat.{ℕ, ◌+◌, ◌<◌, ◌≤◌}
use mathlib.Core.Path.{◌≡◌, refl, ◌∙◌, ap}
use mathlib.Core.List.{List}
use native.Mathlib.Omega.{arith}
use borrow.Author.Tests.{lt-ltb, le-ltb}
use lib.ListN.{length}
use Rattle.basis.specs.Pick.{pick}
use Rattle.basis.specs.Left.{left}
use Rattle.lent.specs.Written.{written_into}
use Rattle.silence.specs.declared.Settings.{Settings}
use Rattle.receiver_state.specs.Answer.{receiver_number_of, reply_of}
use Rattle.receiver_state.specs.declared.answer.Answer.TheVariants.{BufferShort, Passed}
use Rattle.receiver_rules.specs.Tick.{tick, receiver_tick_of}
use Rattle.receiver_rules.proofs.Elapsed.{Lasts, idle_still, good_still, pass_ticks, tick_no_time, pass_many}
use Rattle.receiver_state.specs.declared.phase.Accepted.{Accepted}
use Rattle.receiver_state.specs.declared.phase.Phase.{Phase}
use Rattle.receiver_state.specs.declared.phase.Phase.TheVariants.{Idle, Transfer, Await, Good}
use Rattle.receiver_rules.specs.Respond.{reply_bytes}
use Rattle.receiver_rules.specs.Session.{receiver_returns}
use Rattle.receiver_rules.specs.Time.{receiver_elapsed_of, receiver_time_of}
use Rattle.receiver_rules.specs.Respond.{receiver_bytes_of}
use Rattle.receiver_state.specs.declared.step.Tick.{Tick}
use Rattle.receiver_state.specs.declared.session.Receiver.{Receiver}
use Rattle.receiver_state.specs.Session.{Outcome}
use Rattle.receiver_rules.proofs.Walk.{time_walk}

same_lasts : (phase : Phase) → Lasts phase phase
same_lasts Idle = tt
same_lasts (Transfer p) = refl
same_lasts (Await a) = refl
same_lasts (Good a) = refl

module _ (silence elapsed made : ℕ) (settings : Settings) where
  idle_stays : (phase : Phase) → phase ≡ Idle → receiver_tick_of phase silence elapsed made settings ≡ tick phase silence made Passed
  idle_stays phase e = rw e (idle_still silence elapsed made settings)

  good_stays : (phase : Phase) (a : Accepted) → phase ≡ Good a → receiver_tick_of phase silence elapsed made settings ≡ tick phase silence made Passed
  good_stays phase a e = rw e (good_still silence elapsed made settings a)

module _ (r : Receiver) (elapsed : ℕ) (out : List ℕ) where
  abbrev outcome : Outcome
  outcome = (receiver_time_of r elapsed out).answer

  -- 27 keeps the state and the buffer whole.
  pub time_27 : length out < 260 → receiver_time_of r elapsed out ≡ left (receiver_returns r BufferShort 0) out
  unfolding receiver_time_of pick
  time_27 h = rw (lt-ltb (length out) 260 h)

  abbrev ticked : Tick
  ticked = receiver_tick_of r.phase r.silence elapsed r.resends r.settings

  -- What is decided is handed on, each number under its own name, and what is sent is in the buffer's first bytes.
  pub time_passes : 260 ≤ length out
      → receiver_time_of r elapsed out
      ≡ left (record {
        session = record {
          settings = r.settings;
          identity = r.identity;
          capacity = r.capacity;
          phase = ticked.phase;
          silence = ticked.silence;
          resends = ticked.resends;
        };
        answer = ticked.answer;
        written = length (receiver_bytes_of r ticked.answer);
      }) (written_into (receiver_bytes_of r ticked.answer) out)
  unfolding receiver_time_of receiver_elapsed_of pick
  time_passes h = rw (le-ltb (length out) 260 h)

  -- Every other time call is answered 0.
  pub time_0 : 260 ≤ length out → receiver_number_of outcome.answer ≡ 0
  time_0 h = ap (λ x. receiver_number_of x.answer.answer) (time_passes h) ∙ (pass_ticks r.phase r.silence elapsed r.resends r.settings).taken

  -- Time leaves a phase as it is, or goes to Idle.
  pub time_lasts : Lasts r.phase outcome.session.phase
  time_lasts =
      time_walk r elapsed out (λ x. Lasts r.phase x.answer.session.phase)
      (same_lasts r.phase)
      (λ _. (pass_ticks r.phase r.silence elapsed r.resends r.settings).lasts)

  -- At most one resend a call.
  pub time_once : outcome.session.resends ≤ r.resends + 1
  time_once =
      time_walk r elapsed out (λ x. x.answer.session.resends ≤ r.resends + 1)
      (omega arith)
      (λ _. (pass_ticks r.phase r.silence elapsed r.resends r.settings).once)

  -- Settings, identity and capacity are the session's to its end.
  pub time_settings : (outcome.session.settings ≡ r.settings) × (outcome.session.identity ≡ r.identity) × (outcome.session.capacity ≡ r.capacity)
  time_settings =
      time_walk r elapsed out
      (λ x. (x.answer.session.settings ≡ r.settings) × (x.answer.session.identity ≡ r.identity) × (x.answer.session.capacity ≡ r.capacity))
      (refl, refl, refl)
      (λ _. (refl, refl, refl))

  still : receiver_tick_of r.phase r.silence elapsed r.resends r.settings ≡ tick r.phase r.silence r.resends Passed → outcome.session ≡ r
  still e = time_walk r elapsed out (λ x. x.answer.session ≡ r) refl (λ _. rw e)

  -- In Idle and in Good nothing changes: so Good is never left by time.
  pub time_idle : r.phase ≡ Idle → outcome.session ≡ r
  time_idle e = still (idle_stays r.silence elapsed r.resends r.settings r.phase e)

  pub time_good : (a : Accepted) → r.phase ≡ Good a → outcome.session ≡ r
  time_good a e = still (good_stays r.silence elapsed r.resends r.settings r.phase a e)

-- In a call with 0 ms elapsed no time passes: silence below the limit, as in every session (`reached_below` in proofs/Reached.antt), the session
-- and the buffer are as they were, and nothing was written.
pub no_time : (r : Receiver) (out : List ℕ) → r.silence < r.settings.limit
    → ((receiver_time_of r 0 out).answer.session ≡ r) × ((receiver_time_of r 0 out).memory ≡ out) × ((receiver_time_of r 0 out).answer.written ≡ 0)
unfolding reply_bytes reply_of
no_time r out below =
    let e = tick_no_time r.silence r.resends r.settings below r.phase in
    time_walk r 0 out (λ x. (x.answer.session ≡ r) × (x.memory ≡ out) × (x.answer.written ≡ 0)) (refl, refl, refl) (λ _. (rw e, rw e, rw e))

-- A time call that passes several limits is one expiry: it does what a call does that reaches the first exactly.
pub time_many : (r : Receiver) (e e' : ℕ) (out : List ℕ) → r.settings.limit ≤ r.silence + e → r.settings.limit ≤ r.silence + e' → receiver_time_of r e out ≡ receiver_time_of r e' out
unfolding receiver_time_of receiver_elapsed_of
time_many r e e' out h h' = rw (pass_many r.silence r.resends e e' r.settings h h' r.phase)

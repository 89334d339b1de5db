-- Numbers as wide as they came cannot be told from those that the code hands on: what is above a bound is read as the bound.
use Prim.Native.Nat.{ℕ, ◌<◌, ◌≤◌}
use mathlib.Core.Bool.{true}
use mathlib.Core.Path.{◌≡◌, refl, ap, ◌∙◌}
use mathlib.Core.List.{List}
use native.Mathlib.Omega.{arith}
use borrow.Author.Tests.{lt-ltb, le-ltb, ltb-true}
use lib.Dec.{eqb, ltb}
use Rattle.basis.specs.Pick.{pick, pick_all, pick_no}
use Rattle.silence.specs.Settings.{settings_of}
use Rattle.silence.specs.Expiry.{grown_of}
use Rattle.silence.specs.Settings.{Checked}
use Rattle.silence.proofs.Laws.{many_limits}
use Rattle.indoor_state.specs.declared.plan.Release.{Release}
use Rattle.indoor_state.specs.declared.plan.Plan.{Plan}
use Rattle.indoor_state.specs.declared.phase.Phase.{Phase}
use Rattle.indoor_state.specs.declared.phase.Phase.TheVariants.{Identify, Initiate, Transfer, Validate, Done, Failed}
use Rattle.indoor_state.specs.declared.phase.State.{State}
use Rattle.indoor_state.specs.declared.session.Indoor.{Indoor}
use Rattle.indoor_state.specs.declared.answer.Answer.{Answer}
use Rattle.indoor_state.specs.declared.step.Step.{Step}
use Rattle.indoor_rules.specs.Start.{indoor_started_of, indoor_start_of}
use Rattle.indoor_rules.specs.Tick.{resends_of, transfer_expires_of, initiate_tick_of, transfer_tick_of, validate_tick_of, indoor_tick_in}
use Rattle.indoor_rules.specs.Time.{indoor_time_of}
use Rattle.width.specs.Narrow.{at_most}
use Rattle.indoor_c.specs.PhaseWords.{phase_words_of}
use Rattle.indoor_c.specs.Words.{session_at, is_indoor_session}
use Rattle.indoor_c.specs.declared.phase_words.PhaseWords.{PhaseWords}
use Rattle.indoor_c.proofs.Sessions.{session_valid}
use Rattle.indoor_c.proofs.Inverse.{words_back, limit_back}

-- Either it is the number, or both are above the bound.
at_most_lem : (P : ℕ → Type 0) (most n : ℕ) → P n → (most ≤ n → P most) → P (at_most most n)
unfolding at_most
at_most_lem P most n same above = pick_all P (ltb most n) most n (λ t. let more = ltb-true most n t in above (omega arith)) (λ _. same)

-- A limit above 10,000 and more than 10 resends are refused (29), however wide they are.
wide_limit : (limit resends : ℕ) → 65535 ≤ limit → settings_of 65535 resends ≡ settings_of limit resends
unfolding settings_of pick
wide_limit limit resends h =
    let low : 1 ≤ limit = omega arith in
    let high : 10000 < limit = omega arith in
    rw (le-ltb limit 1 low, lt-ltb 10000 limit high)

wide_resends : (limit resends : ℕ) → 255 ≤ resends → settings_of limit 255 ≡ settings_of limit resends
unfolding settings_of pick
wide_resends limit resends h =
    let many : 10 < resends = omega arith in
    rw (lt-ltb 10 resends many)

resends_read : (limit resends : ℕ) → settings_of limit (at_most 255 resends) ≡ settings_of limit resends
resends_read limit resends = at_most_lem (λ r. settings_of limit r ≡ settings_of limit resends) 255 resends refl (wide_resends limit resends)

settings_read : (limit resends : ℕ) → settings_of (at_most 65535 limit) (at_most 255 resends) ≡ settings_of limit resends
settings_read limit resends =
    at_most_lem (λ l. settings_of l (at_most 255 resends) ≡ settings_of limit resends) 65535 limit (resends_read limit resends)
    (λ h. wide_limit limit (at_most 255 resends) h ∙ resends_read limit resends)

pub start_same : (limit resends l r : ℕ) (release : Release) (file out : List ℕ) → l ≡ at_most 65535 limit → r ≡ at_most 255 resends
    → indoor_start_of l r release file out ≡ indoor_start_of limit resends release file out
start_same limit resends l r release file out e f = rw (e, f) (ap (λ (x : Checked). indoor_started_of x release file out) (settings_read limit resends))

-- Two times that reach the limit and end the wait are alike: one call is at most one expiry, and what is left over of a wait is dropped.
module _ (plan : Plan) (state : State) (e e' : ℕ) (h : plan.settings.limit ≤ e) (h' : plan.settings.limit ≤ e') where
  grown_same : grown_of state.silence e state.resends plan.settings ≡ grown_of state.silence e' state.resends plan.settings
  grown_same = many_limits state.silence state.resends e e' plan.settings (omega arith) (omega arith)

  resends_same : (again : Answer) → resends_of plan state again e ≡ resends_of plan state again e'
  unfolding resends_of
  resends_same again = rw grown_same

  transfer_same : transfer_expires_of plan state e ≡ transfer_expires_of plan state e'
  unfolding transfer_expires_of
  transfer_same = rw grown_same

  wait_same : (wait : ℕ) (s s' t t' u : Step) → s ≡ s' → wait ≤ e → wait ≤ e'
      → pick (eqb wait 0) s (pick (ltb e wait) t u) ≡ pick (eqb wait 0) s' (pick (ltb e' wait) t' u)
  wait_same wait s s' t t' u a k k' = rw (a, pick_no _ t u (le-ltb e wait k), pick_no _ t' u (le-ltb e' wait k'))

  pub tick_same : (phase : Phase) → (phase_words_of phase).wait ≤ e → (phase_words_of phase).wait ≤ e' → indoor_tick_in plan state phase e ≡ indoor_tick_in plan state phase e'
  unfolding indoor_tick_in initiate_tick_of transfer_tick_of validate_tick_of phase_words_of
  tick_same Identify k k' = resends_same _
  tick_same (Initiate wait) k k' = wait_same wait _ _ _ _ _ (resends_same _) k k'
  tick_same (Transfer p) k k' = wait_same p.wait _ _ _ _ _ transfer_same k k'
  tick_same (Validate wait) k k' = wait_same wait _ _ _ _ _ (resends_same _) k k'
  tick_same Done k k' = refl
  tick_same (Failed reason) k k' = refl

-- Where no limit and no wait is longer than 65,535 ms, a longer time does what 65,535 ms do.
module _ (s : Indoor) (file : List ℕ) (elapsed : ℕ) (out : List ℕ) (limit : s.plan.settings.limit ≤ 65535) (wait : (phase_words_of s.state.phase).wait ≤ 65535) where
  longer_same : 65535 ≤ elapsed → indoor_time_of s file 65535 out ≡ indoor_time_of s file elapsed out
  unfolding indoor_time_of
  longer_same h = rw (tick_same s.plan s.state 65535 elapsed limit (omega arith) s.state.phase wait (omega arith))

  pub time_same : (e : ℕ) → e ≡ at_most 65535 elapsed → indoor_time_of s file e out ≡ indoor_time_of s file elapsed out
  time_same e is = rw is (at_most_lem (λ t. indoor_time_of s file t out ≡ indoor_time_of s file elapsed out) 65535 elapsed refl longer_same)

-- So it is with every session of words.
pub time_read : (w : List ℕ) → is_indoor_session w ≡ true → (s : Indoor) → s ≡ session_at w → (file : List ℕ) (elapsed e : ℕ) (out : List ℕ) → e ≡ at_most 65535 elapsed
    → indoor_time_of s file e out ≡ indoor_time_of (session_at w) file elapsed out
time_read w ok s is file elapsed e out cut =
    let valid = session_valid w ok in
    let high = valid.within.high in
    let limit = limit_back w ok in
    let waits = valid.in_phase.waits in
    let wait = ap (λ (p : PhaseWords). p.wait) (words_back w ok) in
    rw is (time_same (session_at w) file elapsed out (omega arith) (omega arith) e cut)

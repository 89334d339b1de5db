-- A time call that only counts changes one word of a session.
use Prim.Native.Nat.{ℕ, ◌+◌, ◌≤◌, ◌<◌}
use mathlib.Core.Bool.{true}
use mathlib.Core.Path.{◌≡◌, refl, sym, ap, ◌∙◌}
use mathlib.Core.List.{List}
use native.Mathlib.Omega.{arith}
use borrow.Author.Tests.{ltb-true, ltb-false, eqb-true, le-ltb}
use mir.Syntax.{w32}
use mir.Val.{Fits}
use lib.Dec.{eqb, ltb}
use lib.ListN.{length, set}
use lib.Seq.{set-get_or, get_or-set_other}
use Rattle.basis.specs.Pick.{pick_no, pick_both, not_no, differ, differ_false, eq_differ}
use Rattle.basis.specs.Left.{left}
use Rattle.wire.specs.Codes.{longest}
use Rattle.indoor_state.specs.Phase.{indoor_state}
use Rattle.indoor_state.specs.Step.{indoor_step}
use Rattle.indoor_state.specs.declared.plan.Plan.{Plan}
use Rattle.indoor_state.specs.declared.phase.Phase.{Phase}
use Rattle.indoor_state.specs.declared.phase.Phase.TheVariants.{Identify, Initiate, Transfer, Validate, Done, Failed}
use Rattle.indoor_state.specs.declared.answer.Answer.TheVariants.{Passed}
use Rattle.indoor_rules.specs.Send.{sends_bytes}
use Rattle.indoor_rules.specs.Session.{indoor, indoor_returns}
use Rattle.indoor_rules.specs.Tick.{indoor_tick_in}
use Rattle.indoor_rules.specs.Time.{indoor_time_of}
use Rattle.indoor_rules.proofs.Elapsed.{quiet, transfer_quiet}
use Rattle.width.specs.Words.{word_at}
use Rattle.indoor_c.specs.PhaseWords.{phase_words_of}
use Rattle.indoor_c.specs.Words.{plan_at, phase_words_at, state_at, session_at, is_indoor_session, laid}
use Rattle.indoor_c.specs.Calls.{indoor_called, indoor_left, harsolvek_indoor_time}
use Rattle.indoor_c.specs.Counting.{only_counts}
use Rattle.indoor_c.specs.declared.phase_words.PhaseWords.{PhaseWords}
use Rattle.indoor_c.proofs.Sessions.{refused_both, session_valid}
use Rattle.indoor_c.proofs.Inverse.{words_back, silence_back, resends_back, limit_back}

-- Below the limit and outside a wait silence grows, in each of the first four phases.
tick_counts : (plan : Plan) (silence resends elapsed : ℕ) (phase : Phase) → (phase_words_of phase).phase ≤ 3 → (phase_words_of phase).wait ≡ 0
    → silence + elapsed < plan.settings.limit
    → indoor_tick_in plan (indoor_state phase silence resends) phase elapsed ≡ indoor_step (indoor_state phase (silence + elapsed) resends) Passed
unfolding phase_words_of
tick_counts plan silence resends elapsed Identify few none h = quiet plan silence resends elapsed Identify _ refl h
tick_counts plan silence resends elapsed (Initiate wait) few none h = quiet plan silence resends elapsed (Initiate wait) _ (none, refl) h
tick_counts plan silence resends elapsed (Transfer p) few none h = rw none (transfer_quiet plan silence resends elapsed p.asked p.emptied h)
tick_counts plan silence resends elapsed (Validate wait) few none h = quiet plan silence resends elapsed (Validate wait) _ (none, refl) h
tick_counts plan silence resends elapsed Done few none h = absurd (omega arith)
tick_counts plan silence resends elapsed (Failed reason) few none h = absurd (omega arith)

-- A word that is stored as it stood, behind a store to another.
stays : (w : List ℕ) (i j a : ℕ) → (j ≡ i → ⊥) → set (set w i a) j (word_at w j) ≡ set w i a
stays w i j a n = ap (set (set w i a) j) (sym (get_or-set_other w i j a 0 n)) ∙ set-get_or (set w i a) j 0

-- What `only_counts` tests.
record Counts (w : List ℕ) (file elapsed out : ℕ) : Type 0 where
  pub lent : file ≡ word_at w 2
  pub room : longest ≤ out
  pub phases : (phase_words_at w).phase ≤ 3
  pub still : (phase_words_at w).wait ≡ 0
  pub below : word_at w 7 + elapsed < word_at w 0

module _ (w : List ℕ) (ok : is_indoor_session w ≡ true) where
  -- A session with another silence.
  laid_silence : (silence : ℕ) → laid w (indoor (plan_at w) (indoor_state (session_at w).state.phase silence (session_at w).state.resends)) ≡ set w 7 silence
  laid_silence silence =
      rw (
        words_back w ok,
        resends_back w ok,
        set-get_or w 3 0,
        set-get_or w 4 0,
        set-get_or w 5 0,
        set-get_or w 6 0,
        stays w 7 8 silence (λ e. omega arith),
        stays w 7 9 silence (λ e. omega arith),
      )

  module _ (file : List ℕ) (elapsed : ℕ) (out : List ℕ) (yes : only_counts w (length file) elapsed (length out) ≡ true) where
    abbrev grown : ℕ
    grown = word_at w 7 + elapsed

    tested : Counts w (length file) elapsed (length out)
    unfolding only_counts
    tested =
        let a = refused_both (differ (length file) (word_at w 2)) _ yes in
        let b = refused_both (ltb (length out) longest) _ a.1 in
        let c = refused_both (ltb 3 (phase_words_at w).phase) _ b.1 in
        let d = pick_both (eqb (phase_words_at w).wait 0) _ c.1 in
        record {
          lent = differ_false (length file) (word_at w 2) a.0;
          room = ltb-false (length out) longest b.0;
          phases = ltb-false 3 (phase_words_at w).phase c.0;
          still = eqb-true (phase_words_at w).wait 0 d.0;
          below = ltb-true grown (word_at w 0) d.1;
        }

    pub grown_fits : Fits w32 grown
    grown_fits = let high = (session_valid w ok).within.high in let few = tested.below in record { fits = omega arith }

    ticked : indoor_tick_in (plan_at w) (state_at w) (state_at w).phase elapsed ≡ indoor_step (indoor_state (state_at w).phase grown (state_at w).resends) Passed
    ticked =
        let code = ap (λ (p : PhaseWords). p.phase) (words_back w ok) in
        let wait = ap (λ (p : PhaseWords). p.wait) (words_back w ok) in
        let few = tested.phases in
        let same = silence_back w ok in
        let limit = limit_back w ok in
        let less = tested.below in
        tick_counts (plan_at w) (state_at w).silence (state_at w).resends elapsed (state_at w).phase (omega arith) (wait ∙ tested.still) (omega arith)
        ∙ ap (λ (n : ℕ). indoor_step (indoor_state (state_at w).phase (n + elapsed) (state_at w).resends) Passed) same

    time_counts : indoor_time_of (session_at w) file elapsed out ≡ left (indoor_returns (indoor (plan_at w) (indoor_state (state_at w).phase grown (state_at w).resends)) Passed 0) out
    unfolding indoor_time_of sends_bytes
    time_counts = rw (pick_no _ _ _ (eq_differ (length file) (word_at w 2) tested.lent), pick_no _ _ _ (le-ltb (length out) longest tested.room), ticked)

    pub counts : harsolvek_indoor_time w file elapsed out ≡ indoor_called 0 0 (set w 7 grown) out
    unfolding harsolvek_indoor_time
    counts =
        pick_no _ _ _ (not_no _ ok) ∙ ap (indoor_left w) time_counts ∙ ap (λ (x : List ℕ). indoor_called 0 0 x out) (laid_silence grown)

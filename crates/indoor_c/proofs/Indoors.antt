-- The indoor end's calls for C are the session's own calls on the session that the words say, and words that are no session's get 29. The words
-- that a taken start makes, and that any call leaves of a session, are a session's.
use Prim.Native.Nat.{ℕ, ◌≤◌}
use mathlib.Core.Bool.{true, false}
use mathlib.Core.Path.{◌≡◌, refl, sym, ◌∙◌, ap, subst}
use mathlib.Core.List.{List}
use native.Mathlib.Omega.{arith}
use borrow.Author.Tests.{eqb-false, ltb-false}
use lib.Dec.{eqb, ltb}
use lib.ListN.{length, length-set}
use Rattle.basis.specs.Bytes.{Bytes}
use Rattle.basis.specs.Pick.{pick_yes, pick_no, not_yes, not_no, pick_all}
use Rattle.basis.specs.Left.{Left, left}
use Rattle.silence.specs.Within.{Within}
use Rattle.silence.specs.Settings.{settings_of}
use Rattle.silence.specs.declared.Settings as silence
use Rattle.silence.specs.Settings.{Checked}
use Rattle.silence.proofs.Laws.{made_within, within_made}
use Rattle.wire.specs.Codes.{longest, image_size_most}
use Rattle.indoor_state.specs.Answer.{indoor_number_of}
use Rattle.indoor_state.specs.Phase.{indoor_state}
use Rattle.indoor_state.specs.Session.{IndoorStart, indoor_made, indoor_start_number_of, IndoorOutcome}
use Rattle.indoor_state.specs.declared.phase.Phase.TheVariants.{Identify}
use Rattle.indoor_state.specs.declared.plan.Release.{Release}
use Rattle.indoor_state.specs.declared.session.Indoor.{Indoor}
use Rattle.indoor_state.specs.declared.session.StartRefused.TheVariants.{Settings, FileSize, BufferShort}
use Rattle.indoor_rules.specs.Start.{indoor_begin_of, indoor_started_of, indoor_start_of}
use Rattle.indoor_rules.specs.Response.{indoor_response_of}
use Rattle.indoor_rules.specs.Time.{indoor_time_of}
use Rattle.indoor_rules.proofs.Laws.{plan_stays, time_plan_stays}
use Rattle.width.specs.Words.{word_at}
use Rattle.indoor_c.specs.PhaseWords.{phase_words_of}
use Rattle.indoor_c.specs.Words.{session_at, is_indoor_session, words_of, laid, no_words}
use Rattle.indoor_c.specs.Valid.{IndoorStateFits}
use Rattle.indoor_c.specs.Calls.{indoor_called, release_of, began_of, harsolvek_indoor_start, harsolvek_indoor_response, harsolvek_indoor_time}
use Rattle.indoor_c.specs.Handed.{HandedIndoor, starts, hears, passes}
use Rattle.indoor_c.specs.declared.phase_words.PhaseWords.{PhaseWords}
use Rattle.indoor_c.proofs.Sessions.{session_valid}
use Rattle.indoor_c.proofs.Inverse.{words_back, silence_back, resends_back, limit_back, allowed_back, words_session, laid_session, laid_back, laid_same}
use Rattle.indoor_c.proofs.Widths.{response_fits, time_fits}
use Rattle.std.specs.Prelude.{Ok, Err}

made_same : (a b : silence.Settings) → ◌≡◌ {A = Checked} (Ok a) (Ok b) → a ≡ b
made_same a b e = cc

-- Settings that were made are within the limits.
within_own : (limit resends : ℕ) (settings : silence.Settings) → settings_of limit resends ≡ Ok settings → Within settings.limit settings.resends
within_own limit resends settings e =
    let within = made_within limit resends settings e in
    subst (λ (s : silence.Settings). Within s.limit s.resends) (made_same _ settings (sym (within_made limit resends within) ∙ e)) within

-- What a start leaves where it is taken.
abbrev Began : Left IndoorStart → Type 0
Began x = indoor_start_number_of x.answer ≡ 0 → (length (began_of x.answer).memory ≡ 13) × (is_indoor_session (began_of x.answer).memory ≡ true)

fresh_fits : IndoorStateFits (indoor_state Identify 0 0)
unfolding phase_words_of
fresh_fits = record { blocks = omega arith; waits = omega arith; silent = omega arith; resent = omega arith }

module _ (release : Release) (file out : List ℕ) where
  begins : (settings : silence.Settings) → Within settings.limit settings.resends → Began (indoor_begin_of settings release file out)
  unfolding indoor_begin_of began_of
  begins settings within =
      pick_all Began (eqb (length file) 0) _ _ (λ _ e. absurd (omega arith))
      (λ some. pick_all Began (ltb image_size_most (length file)) _ _ (λ _ e. absurd (omega arith))
      (λ most. pick_all Began (ltb (length out) longest) _ _ (λ _ e. absurd (omega arith))
      (λ _ _.
      let not = eqb-false (length file) 0 some in
      let few = ltb-false image_size_most (length file) most in
      (refl, words_session _ within (omega (arith, not)) few fresh_fits))))

  checked_begins : (limit resends : ℕ) (x : Checked) → settings_of limit resends ≡ x → Began (indoor_started_of x release file out)
  unfolding indoor_started_of
  checked_begins limit resends (Ok settings) e = begins settings (within_own limit resends settings e)
  checked_begins limit resends (Err refusal) e = λ z. absurd (omega arith)

-- A start that is taken leaves the words of its session; a refused one leaves zeros, its number, and the buffer as it was.
module _ (settings release file out : List ℕ) where
  abbrev started : Left IndoorStart
  started = indoor_start_of (word_at settings 0) (word_at settings 1) (release_of release) file out

  start_began : Began started
  start_began = checked_begins (release_of release) file out (word_at settings 0) (word_at settings 1) _ refl

  pub start_session : (harsolvek_indoor_start settings release file out).number ≡ 0 → is_indoor_session (harsolvek_indoor_start settings release file out).words ≡ true
  start_session e = (start_began e).1

  start_long : (harsolvek_indoor_start settings release file out).number ≡ 0 → length (harsolvek_indoor_start settings release file out).words ≡ 13
  start_long e = (start_began e).0

  pub start_taken : (s : Indoor) (written : ℕ) (m : List ℕ) → started ≡ left (indoor_made s written) m
      → harsolvek_indoor_start settings release file out ≡ indoor_called 0 written (words_of s) m
  unfolding began_of
  start_taken s written m e = rw e

  pub start_29 : started ≡ left (Err Settings) out → harsolvek_indoor_start settings release file out ≡ indoor_called 29 0 no_words out
  unfolding began_of
  start_29 e = rw e

  pub start_46 : started ≡ left (Err FileSize) out → harsolvek_indoor_start settings release file out ≡ indoor_called 46 0 no_words out
  unfolding began_of
  start_46 e = rw e

  pub start_27 : started ≡ left (Err BufferShort) out → harsolvek_indoor_start settings release file out ≡ indoor_called 27 0 no_words out
  unfolding began_of
  start_27 e = rw e

module _ (w : List ℕ) (ok : is_indoor_session w ≡ true) where
  -- What a session's words say is within the widths.
  state_fits : IndoorStateFits (session_at w).state
  state_fits =
      let valid = session_valid w ok in
      let same = words_back w ok in
      record {
        blocks = subst (λ (p : PhaseWords). p.asked ≤ 65535) (sym same) valid.in_phase.blocks;
        waits = subst (λ (p : PhaseWords). p.wait ≤ 65535) (sym same) valid.in_phase.waits;
        silent = subst (λ (n : ℕ). n ≤ 65535) (sym (silence_back w ok)) valid.silent;
        resent = subst (λ (n : ℕ). n ≤ 255) (sym (resends_back w ok)) valid.resent;
      }

  settings_within : Within (session_at w).plan.settings.limit (session_at w).plan.settings.resends
  settings_within = rw (limit_back w ok, allowed_back w ok) (session_valid w ok).within

length_laid : (w : List ℕ) (s : Indoor) → length (laid w s) ≡ length w
length_laid w s = simp length-set

module _ (w file response out : List ℕ) where
  abbrev heard : Left IndoorOutcome
  heard = indoor_response_of (session_at w) file response out

  pub response_29 : is_indoor_session w ≡ false → harsolvek_indoor_response w file response out ≡ indoor_called 29 0 w out
  unfolding harsolvek_indoor_response
  response_29 e = pick_yes _ _ _ (not_yes _ e)

  pub response_through : is_indoor_session w ≡ true
      → harsolvek_indoor_response w file response out ≡ indoor_called (indoor_number_of heard.answer.answer) heard.answer.written (laid w heard.answer.session) heard.memory
  unfolding harsolvek_indoor_response
  response_through ok = pick_no _ _ _ (not_no _ ok)

  module _ (ok : is_indoor_session w ≡ true) (long : length w ≡ 13) (small : Bytes response) where
    heard_fits : IndoorStateFits heard.answer.session.state
    heard_fits = response_fits (session_at w) (state_fits w ok) file out response small

    pub response_session : is_indoor_session (harsolvek_indoor_response w file response out).words ≡ true
    response_session = ap (λ x. is_indoor_session x.words) (response_through ok) ∙ laid_session w long heard.answer.session heard_fits ok

    -- The session that the words then say is the one that the call left.
    pub response_next : session_at (harsolvek_indoor_response w file response out).words ≡ heard.answer.session
    response_next = ap (λ x. session_at x.words) (response_through ok) ∙ laid_back w long heard.answer.session heard_fits (plan_stays (session_at w) file response out)

    response_long : length (harsolvek_indoor_response w file response out).words ≡ 13
    response_long = ap (λ x. length x.words) (response_through ok) ∙ length_laid w heard.answer.session ∙ long

module _ (w file : List ℕ) (elapsed : ℕ) (out : List ℕ) where
  abbrev passed : Left IndoorOutcome
  passed = indoor_time_of (session_at w) file elapsed out

  pub time_29 : is_indoor_session w ≡ false → harsolvek_indoor_time w file elapsed out ≡ indoor_called 29 0 w out
  unfolding harsolvek_indoor_time
  time_29 e = pick_yes _ _ _ (not_yes _ e)

  pub time_through : is_indoor_session w ≡ true
      → harsolvek_indoor_time w file elapsed out ≡ indoor_called (indoor_number_of passed.answer.answer) passed.answer.written (laid w passed.answer.session) passed.memory
  unfolding harsolvek_indoor_time
  time_through ok = pick_no _ _ _ (not_no _ ok)

  module _ (ok : is_indoor_session w ≡ true) (long : length w ≡ 13) where
    passed_fits : IndoorStateFits passed.answer.session.state
    passed_fits = time_fits (session_at w) (state_fits w ok) file out (settings_within w ok) elapsed

    pub time_session : is_indoor_session (harsolvek_indoor_time w file elapsed out).words ≡ true
    time_session = ap (λ x. is_indoor_session x.words) (time_through ok) ∙ laid_session w long passed.answer.session passed_fits ok

    pub time_next : session_at (harsolvek_indoor_time w file elapsed out).words ≡ passed.answer.session
    time_next = ap (λ x. session_at x.words) (time_through ok) ∙ laid_back w long passed.answer.session passed_fits (time_plan_stays (session_at w) file elapsed out)

    time_long : length (harsolvek_indoor_time w file elapsed out).words ≡ 13
    time_long = ap (λ x. length x.words) (time_through ok) ∙ length_laid w passed.answer.session ∙ long

-- Words that are handed out are thirteen, and a session's.
handed_both : {w : List ℕ} → HandedIndoor w → (length w ≡ 13) × (is_indoor_session w ≡ true)
handed_both (starts settings release file out e) = (start_long settings release file out e, start_session settings release file out e)
handed_both (hears {w = w} h file response out small) =
    let both = handed_both h in
    (response_long w file response out both.1 both.0 small, response_session w file response out both.1 both.0 small)
handed_both (passes {w = w} h file elapsed out) =
    let both = handed_both h in
    (time_long w file elapsed out both.1 both.0, time_session w file elapsed out both.1 both.0)

pub handed_session : {w : List ℕ} → HandedIndoor w → is_indoor_session w ≡ true
handed_session h = (handed_both h).1

-- To store the session that they say changes none of them.
pub handed_inverse : {w : List ℕ} → HandedIndoor w → laid w (session_at w) ≡ w
handed_inverse {w} h = laid_same w (handed_session h)

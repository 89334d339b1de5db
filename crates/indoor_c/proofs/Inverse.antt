-- The session of words and the words of a session: on every state that the library leaves, the two are each other's inverse.
use Prim.Native.Nat.{ℕ, zero, suc, ◌≤◌, ◌<◌}
use mathlib.Core.Bool.{true}
use mathlib.Core.Path.{◌≡◌, refl, sym, ap, ◌∙◌, subst}
use mathlib.Core.List.{List, [], ◌∷◌}
use native.Mathlib.Omega.{arith}
use borrow.Author.Tests.{eqb-true, eqb-false}
use lib.Dec.{eqb}
use lib.ListN.{length, drop}
use lib.Seq.{set-get_or, drop-cons, drop-length}
use Rattle.wire.specs.Codes.{image_size_most}
use Rattle.basis.specs.Flag.{byte_flag, flag_byte, byte_small}
use Rattle.basis.specs.Pick.{pick, pick_all}
use Rattle.silence.specs.Within.{Within}
use Rattle.indoor_state.specs.Phase.{reason_number}
use Rattle.indoor_state.specs.declared.phase.Reason.{Reason}
use Rattle.indoor_state.specs.declared.phase.Reason.TheVariants.{Silence, Refused, NotNewer, TooLarge, WrongNumber, NotValid}
use Rattle.indoor_state.specs.declared.phase.Phase.{Phase}
use Rattle.indoor_state.specs.declared.phase.Phase.TheVariants.{Identify, Initiate, Transfer, Validate, Done, Failed}
use Rattle.indoor_state.specs.declared.session.Indoor.{Indoor}
use Rattle.width.specs.Words.{word_at}
use Rattle.indoor_c.specs.PhaseWords.{phase_words, phase_words_of, indoor_reason_of, indoor_phase_of}
use Rattle.width.specs.Halves.{low_half}
use Rattle.width.proofs.Laws.{low_back, high_back, halves_back}
use Rattle.indoor_c.specs.Words.{byte_of_word, plan_at, phase_words_at, session_at, words_of, laid, is_indoor_session}
use Rattle.indoor_c.specs.Valid.{IndoorPhaseValid, IndoorSessionValid, IndoorStateFits, IndoorPlanFits}
use Rattle.indoor_c.proofs.Sessions.{session_valid, valid_session}

-- A number within its field is read as it is.
pub half_same : (n : ℕ) → n ≤ 65535 → low_half n ≡ n
half_same n h = omega arith

pub byte_same : (n : ℕ) → n ≤ 255 → byte_of_word n ≡ n
byte_same n h = omega arith

reason_back : (reason : Reason) → indoor_reason_of (reason_number reason) ≡ reason
unfolding indoor_reason_of pick
reason_back Silence = refl
reason_back Refused = refl
reason_back NotNewer = refl
reason_back TooLarge = refl
reason_back WrongNumber = refl
reason_back NotValid = refl

phase_back : (p : Phase) → (phase_words_of p).asked ≤ 65535 → (phase_words_of p).wait ≤ 65535 → indoor_phase_of (phase_words_of p) ≡ p
unfolding phase_words_of indoor_phase_of pick
phase_back Identify a w = refl
phase_back (Initiate wait) a w = rw (half_same wait w)
phase_back (Transfer p) a w = rw (half_same p.asked a, half_same p.wait w, byte_flag p.emptied)
phase_back (Validate wait) a w = rw (half_same wait w)
phase_back Done a w = refl
phase_back (Failed reason) a w = rw (reason_back reason)

pub session_back : (s : Indoor) → IndoorPlanFits s.plan → IndoorStateFits s.state → session_at (words_of s) ≡ s
session_back s p f =
    rw (
      half_same s.plan.settings.limit p.limit,
      byte_same s.plan.settings.resends p.resends,
      low_back s.plan.release.vendor s.plan.release.product p.vendor,
      high_back s.plan.release.vendor s.plan.release.product p.vendor p.product,
      low_back s.plan.release.versions.first s.plan.release.versions.second p.first,
      high_back s.plan.release.versions.first s.plan.release.versions.second p.first p.second,
      low_back s.plan.release.versions.third s.plan.release.versions.fourth p.third,
      high_back s.plan.release.versions.third s.plan.release.versions.fourth p.third p.fourth,
      phase_back s.state.phase f.blocks f.waits,
      half_same s.state.silence f.silent,
      byte_same s.state.resends f.resent,
    )

number_back : (n : ℕ) → 40 ≤ n → n ≤ 45 → reason_number (indoor_reason_of n) ≡ n
unfolding indoor_reason_of
number_back n least most =
    let P : Reason → Type 0 = λ x. reason_number x ≡ n in
    pick_all P (eqb n 40) _ _ (λ t. sym (eqb-true n 40 t))
    (λ a. pick_all P (eqb n 41) _ _ (λ t. sym (eqb-true n 41 t))
    (λ b. pick_all P (eqb n 42) _ _ (λ t. sym (eqb-true n 42 t))
    (λ c. pick_all P (eqb n 43) _ _ (λ t. sym (eqb-true n 43 t))
    (λ d. pick_all P (eqb n 44) _ _ (λ t. sym (eqb-true n 44 t))
    (λ e. omega (arith, eqb-false n 40 a, eqb-false n 41 b, eqb-false n 42 c, eqb-false n 43 d, eqb-false n 44 e))))))

numbers_back : (phase asked wait emptied reason : ℕ) → IndoorPhaseValid (phase_words phase asked wait emptied reason)
    → phase_words_of (indoor_phase_of (phase_words phase asked wait emptied reason)) ≡ phase_words phase asked wait emptied reason
unfolding phase_words_of indoor_phase_of pick
numbers_back zero asked wait emptied reason s =
    let bare = s.transfer_alone (λ e. omega arith) in
    rw (bare.0, bare.1, s.wait_alone (λ e. omega arith) (λ e. omega arith) (λ e. omega arith), s.failed_alone (λ e. omega arith))
numbers_back (suc zero) asked wait emptied reason s =
    let bare = s.transfer_alone (λ e. omega arith) in
    rw (bare.0, bare.1, s.failed_alone (λ e. omega arith), half_same wait s.waits)
numbers_back (suc (suc zero)) asked wait emptied reason s =
    rw (half_same asked s.blocks, half_same wait s.waits, flag_byte emptied s.flag, s.failed_alone (λ e. omega arith))
numbers_back (suc (suc (suc zero))) asked wait emptied reason s =
    let bare = s.transfer_alone (λ e. omega arith) in
    rw (bare.0, bare.1, s.failed_alone (λ e. omega arith), half_same wait s.waits)
numbers_back (suc (suc (suc (suc zero)))) asked wait emptied reason s =
    let bare = s.transfer_alone (λ e. omega arith) in
    rw (bare.0, bare.1, s.wait_alone (λ e. omega arith) (λ e. omega arith) (λ e. omega arith), s.failed_alone (λ e. omega arith))
numbers_back (suc (suc (suc (suc (suc zero))))) asked wait emptied reason s =
    let bare = s.transfer_alone (λ e. omega arith) in
    let reasons = s.reasons refl in
    rw (bare.0, bare.1, s.wait_alone (λ e. omega arith) (λ e. omega arith) (λ e. omega arith), number_back reason reasons.0 reasons.1)
numbers_back (suc (suc (suc (suc (suc (suc phase)))))) asked wait emptied reason s = absurd (omega (arith, s.phases))

module _ (w : List ℕ) (ok : is_indoor_session w ≡ true) where
  abbrev valid : IndoorSessionValid w
  valid = session_valid w ok

  -- The phase's words are those that stand there.
  pub words_back : phase_words_of (session_at w).state.phase ≡ phase_words_at w
  words_back = numbers_back _ _ _ _ _ valid.in_phase

  pub silence_back : (session_at w).state.silence ≡ word_at w 7
  silence_back = half_same (word_at w 7) valid.silent

  pub resends_back : (session_at w).state.resends ≡ word_at w 8
  resends_back = byte_same (word_at w 8) valid.resent

  pub limit_back : (session_at w).plan.settings.limit ≡ word_at w 0
  limit_back = let high = valid.within.high in half_same (word_at w 0) (omega arith)

  pub allowed_back : (session_at w).plan.settings.resends ≡ word_at w 1
  allowed_back = let few = valid.within.few in byte_same (word_at w 1) (omega arith)

  -- A session that is stored as it was read changes no word.
  pub laid_same : laid w (session_at w) ≡ w
  laid_same =
      rw (words_back, silence_back, resends_back, set-get_or w 3 0, set-get_or w 4 0, set-get_or w 5 0, set-get_or w 6 0, set-get_or w 7 0, set-get_or w 8 0, set-get_or w 9 0)

-- A session's words one by one.
abbrev all_words : List ℕ → List ℕ
all_words w =
    word_at w 0 ∷ word_at w 1 ∷ word_at w 2 ∷ word_at w 3 ∷ word_at w 4 ∷ word_at w 5 ∷ word_at w 6 ∷ word_at w 7 ∷ word_at w 8 ∷ word_at w 9 ∷ word_at w 10 ∷ word_at w 11
    ∷ word_at w 12 ∷ []

-- Thirteen words are their first, their second, and so on.
pub words_all : (w : List ℕ) → length w ≡ 13 → w ≡ all_words w
words_all w long =
    let at : (i : ℕ) → i < 13 → drop i w ≡ word_at w i ∷ drop (suc i) w = λ i h. drop-cons w i 0 (omega arith) in
    let end : drop 13 w ≡ [] = ap (λ (n : ℕ). drop n w) (sym long) ∙ drop-length w in
    cc (
      at 0 (omega arith),
      at 1 (omega arith),
      at 2 (omega arith),
      at 3 (omega arith),
      at 4 (omega arith),
      at 5 (omega arith),
      at 6 (omega arith),
      at 7 (omega arith),
      at 8 (omega arith),
      at 9 (omega arith),
      at 10 (omega arith),
      at 11 (omega arith),
      at 12 (omega arith),
    )

-- Thirteen numbers of 32 bits that are a session's are what packing gives back.
pub words_same : (w : List ℕ) → length w ≡ 13 → ((i : ℕ) → word_at w i < 4294967296) → is_indoor_session w ≡ true → words_of (session_at w) ≡ w
words_same w long narrow ok =
    rw (
      limit_back w ok,
      allowed_back w ok,
      words_back w ok,
      silence_back w ok,
      resends_back w ok,
      halves_back (word_at w 10) (narrow 10),
      halves_back (word_at w 11) (narrow 11),
      halves_back (word_at w 12) (narrow 12),
    )
    (sym (words_all w long))

reason_least : (reason : Reason) → 40 ≤ reason_number reason
reason_least Silence = omega arith
reason_least Refused = omega arith
reason_least NotNewer = omega arith
reason_least TooLarge = omega arith
reason_least WrongNumber = omega arith
reason_least NotValid = omega arith

reason_most : (reason : Reason) → reason_number reason ≤ 45
reason_most Silence = omega arith
reason_most Refused = omega arith
reason_most NotNewer = omega arith
reason_most TooLarge = omega arith
reason_most WrongNumber = omega arith
reason_most NotValid = omega arith

-- A phase that has no number but a wait, or none at all.
waiting_valid : (code wait : ℕ) → code ≤ 4 → wait ≤ 65535 → ((code ≡ 1 → ⊥) → (code ≡ 3 → ⊥) → wait ≡ 0) → IndoorPhaseValid (phase_words code 0 wait 0 0)
waiting_valid code wait few waits none =
    record {
      phases = omega arith;
      flag = omega arith;
      blocks = omega arith;
      waits = waits;
      transfer_alone = λ _. (refl, refl);
      wait_alone = λ one _ three. none one three;
      failed_alone = λ _. refl;
      reasons = λ five. absurd (omega arith);
    }

packed_valid : (p : Phase) → (phase_words_of p).asked ≤ 65535 → (phase_words_of p).wait ≤ 65535 → IndoorPhaseValid (phase_words_of p)
unfolding phase_words_of
packed_valid Identify a w = waiting_valid 0 0 (omega arith) w (λ _ _. refl)
packed_valid (Initiate wait) a w = waiting_valid 1 wait (omega arith) w (λ not _. absurd (not refl))
packed_valid (Transfer p) a w =
    record {
      phases = omega arith;
      flag = byte_small p.emptied;
      blocks = a;
      waits = w;
      transfer_alone = λ not. absurd (not refl);
      wait_alone = λ _ not _. absurd (not refl);
      failed_alone = λ _. refl;
      reasons = λ five. absurd (omega arith);
    }
packed_valid (Validate wait) a w = waiting_valid 3 wait (omega arith) w (λ _ not. absurd (not refl))
packed_valid Done a w = waiting_valid 4 0 (omega arith) w (λ _ _. refl)
packed_valid (Failed reason) a w =
    record {
      phases = omega arith;
      flag = omega arith;
      blocks = omega arith;
      waits = omega arith;
      transfer_alone = λ _. (refl, refl);
      wait_alone = λ _ _ _. refl;
      failed_alone = λ not. absurd (not refl);
      reasons = λ _. (reason_least reason, reason_most reason);
    }

-- The words of every session with settings and a file's length that a start takes, and a state within the widths, are a session's.
pub words_session : (s : Indoor) → Within s.plan.settings.limit s.plan.settings.resends → 1 ≤ s.plan.length → s.plan.length ≤ image_size_most
    → IndoorStateFits s.state
    → is_indoor_session (words_of s) ≡ true
words_session s within some most fits =
    valid_session (words_of s)
    (record { within = within; some = some; most = most; silent = fits.silent; resent = fits.resent; in_phase = packed_valid s.state.phase fits.blocks fits.waits })

module _ (w : List ℕ) (long : length w ≡ 13) (next : Indoor) (fits : IndoorStateFits next.state) where
  -- A session with another state within the widths is a session ..
  pub laid_session : is_indoor_session w ≡ true → is_indoor_session (laid w next) ≡ true
  laid_session ok =
      let valid = session_valid w ok in
      subst (λ (v : List ℕ). is_indoor_session (laid v next) ≡ true) (sym (words_all w long))
      (valid_session (laid (all_words w) next)
      (record {
        within = valid.within;
        some = valid.some;
        most = valid.most;
        silent = fits.silent;
        resent = fits.resent;
        in_phase = packed_valid next.state.phase fits.blocks fits.waits;
      }))

  -- .. and is read as that state, with what it was started with.
  pub laid_back : next.plan ≡ plan_at w → session_at (laid w next) ≡ next
  laid_back same =
      subst (λ (v : List ℕ). plan_at v ≡ plan_at w → session_at (laid v next) ≡ next) (sym (words_all w long))
      (λ plan. rw (phase_back next.state.phase fits.blocks fits.waits, half_same next.state.silence fits.silent, byte_same next.state.resends fits.resent, ← same))
      refl

-- Words that are no session's get 29 and are kept; every other call is the rule's own. What a taken start makes, and what any call leaves of a
-- session, is a session.
use Prim.Native.Nat.{ℕ, ◌≤◌, ◌%◌}
use mathlib.Core.Bool.{true, false}
use mathlib.Core.Path.{◌≡◌, refl, ◌∙◌, ap}
use mathlib.Core.List.{List, [], ◌∷◌}
use native.Mathlib.Omega.{arith}
use borrow.Author.Tests.{ltb-false}
use lib.Dec.{ltb}
use lib.ListN.{length}
use Rattle.basis.specs.Bytes.{Bytes}
use Rattle.basis.specs.Flag.{byte_small}
use Rattle.basis.specs.Left.{Left, left}
use Rattle.basis.specs.Lists.{spell, spelled_all}
use Rattle.basis.specs.Pick.{pick_all, pick_yes, pick_no, not_yes, not_no}
use Rattle.silence.specs.Settings.{Checked, out_of_limits, settings_of}
use Rattle.silence.specs.Within.{Within}
use Rattle.silence.proofs.Laws.{made_within}
use Rattle.wire.specs.Codes.{image_size_most}
use Rattle.wire.specs.declared.response.Identity.{Identity}
use Rattle.receiver_state.specs.Phase.{accepted_of}
use Rattle.receiver_state.specs.Session.{Outcome, Started, receiver_start_number_of}
use Rattle.receiver_state.specs.declared.phase.Phase.{Phase}
use Rattle.receiver_state.specs.declared.phase.Phase.TheVariants.{Idle, Transfer, Await, Good}
use Rattle.receiver_state.specs.declared.session.Receiver.{Receiver}
use Rattle.receiver_state.specs.declared.sum.ImageLength.{ImageLength}
use Rattle.receiver_rules.specs.Request.{Effect, receiver_request_of}
use Rattle.receiver_rules.specs.Session.{receiver_fresh_of, receiver_start_of, receiver_moved}
use Rattle.receiver_rules.specs.Sum.{receiver_sum_of}
use Rattle.receiver_rules.specs.Time.{receiver_time_of}
use Rattle.receiver_rules.proofs.Beginning.{fresh, start_made}
use Rattle.receiver_rules.proofs.Laws.{settings_stay}
use Rattle.receiver_rules.proofs.TimeLaws.{time_settings}
use Rattle.width.specs.Words.{word_at}
use Rattle.receiver_c.specs.Words.{receiver_phase_code, receiver_short_of, phase_at, identity_at, session_at, words_of, zero_words, laid_phase, is_receiver_session}
use Rattle.receiver_c.specs.Valid.{ReceiverPhaseValid}
use Rattle.receiver_c.specs.Verdict.{verdict_of}
use Rattle.receiver_c.specs.Calls.{identity_of, started_words, harsolvek_receiver_start, ReceiverCalled, receiver_called, receiver_requested, harsolvek_receiver_request, ReceiverTimed, receiver_timed, receiver_passed, timed_at, harsolvek_receiver_time, receiver_summed, receiver_sum_said, harsolvek_receiver_sum}
use Rattle.receiver_c.specs.Handed.{HandedReceiver, starts, asks, passes}
use Rattle.receiver_c.proofs.Sessions.{session_valid, valid_session}
use Rattle.receiver_c.proofs.Inverse.{same, phase_back}
use Rattle.receiver_c.proofs.Small.{Small, request_small, time_small}
use Rattle.std.specs.Prelude.{Ok, Err}

packed_valid : (p : Phase) → ReceiverPhaseValid (receiver_phase_code p) (accepted_of p).blocks (accepted_of p).bytes (receiver_short_of p)
packed_valid Idle = record { phases = omega arith; flag = omega arith; transfer_alone = λ _. refl; idle_empty = λ _. (refl, refl) }
packed_valid (Transfer p) =
    record { phases = omega arith; flag = byte_small p.short; transfer_alone = λ not. absurd (not refl); idle_empty = λ e. absurd (omega arith) }
packed_valid (Await a) = record { phases = omega arith; flag = omega arith; transfer_alone = λ _. refl; idle_empty = λ e. absurd (omega arith) }
packed_valid (Good a) = record { phases = omega arith; flag = omega arith; transfer_alone = λ _. refl; idle_empty = λ e. absurd (omega arith) }

module _ (w : List ℕ) (whole : length w ≡ 14) (phase : Phase) (silence resends : ℕ) where
  abbrev next : List ℕ
  next =
      word_at w 0 ∷ word_at w 1 ∷ word_at w 2 ∷ receiver_phase_code phase ∷ (accepted_of phase).blocks ∷ (accepted_of phase).bytes ∷ receiver_short_of phase
      ∷ silence ∷ resends ∷ word_at w 9 ∷ word_at w 10 ∷ word_at w 11 ∷ word_at w 12 ∷ word_at w 13 ∷ []

  laid_spelled : laid_phase w phase silence resends ≡ next
  unfolding laid_phase spell
  laid_spelled = ap (λ (x : List ℕ). laid_phase x phase silence resends) (spelled_all 0 14 w whole)

  laid_whole : length (laid_phase w phase silence resends) ≡ 14
  laid_whole = ap length laid_spelled

  laid_session : is_receiver_session w ≡ true → Small phase silence resends → is_receiver_session (laid_phase w phase silence resends) ≡ true
  laid_session ok small =
      let v = session_valid w ok in
      ap is_receiver_session laid_spelled
      ∙ valid_session next (record {
        within = v.within;
        room = v.room;
        in_phase = packed_valid phase;
        few_blocks = small.few_blocks;
        short_silence = small.short_silence;
        few_resends = small.few_resends;
        three_flags = v.three_flags;
      })

  -- The words that are laid say the session with this phase, silence and count of resends.
  laid_says : Small phase silence resends → session_at (laid_phase w phase silence resends) ≡ receiver_moved (session_at w) phase silence resends
  unfolding session_at phase_at identity_at
  laid_says small =
      let few = small.few_blocks in
      let short = small.short_silence in
      let made = small.few_resends in
      let silence-same : silence % 65536 ≡ silence = omega arith in
      let resends_same : resends % 256 ≡ resends = omega arith in
      ap session_at laid_spelled ∙ rw (phase_back phase (omega arith), silence-same, resends_same)

-- A session that keeps what it was started with is moved to its own phase, silence and count of resends.
moved_same : (r n : Receiver) → (n.settings ≡ r.settings) × (n.identity ≡ r.identity) × (n.capacity ≡ r.capacity)
    → receiver_moved r n.phase n.silence n.resends ≡ n
moved_same r n same = rw (← same.0, ← same.1, ← same.2)

-- What the words of a session say fits.
said_small : (w : List ℕ) → is_receiver_session w ≡ true → Small (session_at w).phase (session_at w).silence (session_at w).resends
unfolding session_at
said_small w ok =
    let v = session_valid w ok in
    let blocks = (same w ok).blocks_same in
    let few = v.few_blocks in
    record { few_blocks = omega arith; short_silence = omega arith; few_resends = omega arith }

module _ (limit resends : ℕ) (identity : Identity) (capacity : ℕ) where
  fresh_within : (x : Checked) → settings_of limit resends ≡ x → receiver_start_number_of (receiver_fresh_of x identity capacity) ≡ 0 → Within limit resends
  unfolding receiver_fresh_of
  fresh_within (Ok s) p e = made_within limit resends s p
  fresh_within (Err refusal) p e = absurd (omega arith)

  -- What a start takes is within the limits.
  taken_within : receiver_start_number_of (receiver_start_of limit resends identity capacity) ≡ 0 → Within limit resends × (capacity ≤ 1048575)
  unfolding receiver_start_of
  taken_within =
      pick_all (λ (x : Started). receiver_start_number_of x ≡ 0 → Within limit resends × (capacity ≤ 1048575)) (ltb image_size_most capacity) _ _
      (λ _ e. absurd (omega arith))
      (λ t e. (fresh_within (settings_of limit resends) refl e, ltb-false image_size_most capacity t))

module _ (settings numbers bytes : List ℕ) (capacity : ℕ) where
  abbrev identity : Identity
  identity = identity_of numbers bytes

  abbrev started : Left ℕ
  started = harsolvek_receiver_start settings numbers bytes capacity

  -- A start that is taken leaves the words of the fresh session.
  pub start_taken : Within (word_at settings 0) (word_at settings 1) → capacity ≤ 1048575
      → started ≡ left 0 (words_of (fresh (word_at settings 0) (word_at settings 1) identity capacity))
  unfolding harsolvek_receiver_start started_words
  start_taken within room = rw (start_made (word_at settings 0) (word_at settings 1) identity capacity within room)

  -- A refused start leaves no session: 29 and zeros.
  pub start_refused : receiver_start_of (word_at settings 0) (word_at settings 1) identity capacity ≡ Err out_of_limits → started ≡ left 29 zero_words
  unfolding harsolvek_receiver_start started_words
  start_refused e = rw e

  abbrev made : Receiver
  made = fresh (word_at settings 0) (word_at settings 1) identity capacity

  taken : started.answer ≡ 0 → Within (word_at settings 0) (word_at settings 1) × (capacity ≤ 1048575)
  unfolding harsolvek_receiver_start
  taken e = taken_within (word_at settings 0) (word_at settings 1) identity capacity e

  made_session : Within (word_at settings 0) (word_at settings 1) → capacity ≤ 1048575 → Bytes bytes → is_receiver_session (words_of made) ≡ true
  unfolding words_of identity_of
  made_session within room small =
      let flags2 = small 4 in
      let flags3 = small 5 in
      let flags4 = small 6 in
      valid_session (words_of made) (record {
        within = within;
        room = room;
        in_phase = packed_valid Idle;
        few_blocks = omega arith;
        short_silence = omega arith;
        few_resends = omega arith;
        three_flags = omega arith;
      })

  pub start_session : Bytes bytes → started.answer ≡ 0 → (length started.memory ≡ 14) × (is_receiver_session started.memory ≡ true)
  unfolding words_of
  start_session small e =
      let t = taken e in
      let is = ap (λ (x : Left ℕ). x.memory) (start_taken t.0 t.1) in
      (ap length is, ap is_receiver_session is ∙ made_session t.0 t.1 small)

-- Words that a call leaves.
abbrev pub Stands : List ℕ → Type 0
Stands w = (length w ≡ 14) × (is_receiver_session w ≡ true)

module _ (w image request given out : List ℕ) where
  abbrev after : ReceiverCalled
  after = harsolvek_receiver_request w image request given out

  abbrev asked : Effect
  asked = receiver_request_of (session_at w) image request (word_at given 0) (verdict_of (word_at given 1) (word_at given 2)) out

  pub request_through : is_receiver_session w ≡ true → after ≡ receiver_requested w asked
  unfolding harsolvek_receiver_request
  request_through e = pick_no _ _ _ (not_no _ e)

  pub request_29 : is_receiver_session w ≡ false → after ≡ receiver_called 29 0 w image out
  unfolding harsolvek_receiver_request
  request_29 e = pick_yes _ _ _ (not_yes _ e)

  pub request_session : Stands w → Stands after.words
  request_session s =
      let is = ap (λ (x : ReceiverCalled). x.words) (request_through s.1) in
      let small = request_small (session_at w) image request (word_at given 0) (verdict_of (word_at given 1) (word_at given 2)) out (said_small w s.1) in
      let n = asked.outcome.session in (
        ap length is ∙ laid_whole w s.0 n.phase n.silence n.resends,
        ap is_receiver_session is ∙ laid_session w s.0 n.phase n.silence n.resends s.1 small,
      )

  -- The words that a request leaves say the session that the rule leaves.
  pub request_next : Stands w → session_at after.words ≡ asked.outcome.session
  request_next s =
      let verdict = verdict_of (word_at given 1) (word_at given 2) in
      let small = request_small (session_at w) image request (word_at given 0) verdict out (said_small w s.1) in
      let n = asked.outcome.session in
      ap (λ (x : ReceiverCalled). session_at x.words) (request_through s.1) ∙ laid_says w s.0 n.phase n.silence n.resends small
      ∙ moved_same (session_at w) n (settings_stay (session_at w) image request (word_at given 0) verdict out)

module _ (w : List ℕ) (elapsed : ℕ) (out : List ℕ) where
  abbrev later : ReceiverTimed
  later = harsolvek_receiver_time w elapsed out

  abbrev passed : Left Outcome
  passed = receiver_time_of (session_at w) elapsed out

  pub time_through : is_receiver_session w ≡ true → later ≡ receiver_passed w passed
  unfolding harsolvek_receiver_time timed_at
  time_through e = pick_no _ _ _ (not_no _ e)

  pub time_29 : is_receiver_session w ≡ false → later ≡ receiver_timed 29 0 w out
  unfolding harsolvek_receiver_time
  time_29 e = pick_yes _ _ _ (not_yes _ e)

  limits : is_receiver_session w ≡ true → ((session_at w).settings.limit ≤ 10000) × ((session_at w).settings.resends ≤ 10)
  unfolding session_at
  limits ok =
      let high = (session_valid w ok).within.high in
      let few = (session_valid w ok).within.few in
      (omega arith, omega arith)

  pub time_session : Stands w → Stands later.words
  time_session s =
      let is = ap (λ (x : ReceiverTimed). x.words) (time_through s.1) in
      let within = limits s.1 in
      let small = time_small (session_at w) elapsed out within.0 within.1 (said_small w s.1) in
      let n = passed.answer.session in (
        ap length is ∙ laid_whole w s.0 n.phase n.silence n.resends,
        ap is_receiver_session is ∙ laid_session w s.0 n.phase n.silence n.resends s.1 small,
      )

  -- The words that time leaves say the session that the rule leaves.
  pub time_next : Stands w → session_at later.words ≡ passed.answer.session
  time_next s =
      let within = limits s.1 in
      let small = time_small (session_at w) elapsed out within.0 within.1 (said_small w s.1) in
      let n = passed.answer.session in
      ap (λ (x : ReceiverTimed). session_at x.words) (time_through s.1) ∙ laid_says w s.0 n.phase n.silence n.resends small
      ∙ moved_same (session_at w) n (time_settings (session_at w) elapsed out)

module _ (w image : List ℕ) where
  pub sum_through : is_receiver_session w ≡ true → harsolvek_receiver_sum w image ≡ receiver_sum_said (receiver_sum_of (session_at w) image)
  unfolding harsolvek_receiver_sum
  sum_through e = pick_no _ _ _ (not_no _ e)

  pub sum_29 : is_receiver_session w ≡ false → harsolvek_receiver_sum w image ≡ receiver_summed 29 0
  unfolding harsolvek_receiver_sum
  sum_29 e = pick_yes _ _ _ (not_yes _ e)

-- A sum is handed out as it is, and a refused one is 0.
pub sum_rows : (s : ℕ) (r : ImageLength) → (receiver_sum_said (Ok s) ≡ receiver_summed 0 s) × (receiver_sum_said (Err r) ≡ receiver_summed 28 0)
sum_rows s r = (refl, refl)

-- All words that are handed out are a session's.
pub handed_session : {w : List ℕ} → HandedReceiver w → Stands w
handed_session (starts settings numbers bytes capacity small e) = start_session settings numbers bytes capacity small e
handed_session (asks {w = w} h image request given out) = request_session w image request given out (handed_session h)
handed_session (passes {w = w} h elapsed out) = time_session w elapsed out (handed_session h)

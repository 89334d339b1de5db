-- A time call that only counts changes one word: the silence.
use Prim.Native.Nat.{ℕ, zero, suc, ◌+◌, ◌<◌, ◌≤◌, ◌%◌}
use mathlib.Core.Bool.{Bool, true, true≢false}
use mathlib.Core.Path.{◌≡◌, sym, ◌∙◌, ap}
use mathlib.Core.List.{List}
use native.Mathlib.Omega.{arith}
use borrow.Author.Tests.{ltb-false, leb-false, eqb-true}
use lib.Dec.{ltb, leb, eqb}
use lib.ListN.{length, set}
use lib.Seq.{set-get_or, get_or-set_other}
use mir.Syntax.{w32}
use mir.Val.{Fits}
use Rattle.basis.specs.Pick.{pick, pick_all}
use Rattle.wire.specs.Codes.{longest}
use Rattle.silence.specs.declared.Settings.{Settings}
use Rattle.receiver_state.specs.Answer.{reply_of}
use Rattle.receiver_state.specs.declared.answer.Answer.TheVariants.{Passed}
use Rattle.receiver_state.specs.declared.phase.Accepted.{Accepted}
use Rattle.receiver_rules.specs.Respond.{reply_bytes}
use Rattle.receiver_rules.specs.Tick.{tick, receiver_tick_of}
use Rattle.receiver_rules.specs.Time.{receiver_ticked_of}
use Rattle.receiver_state.specs.declared.step.Tick.{Tick}
use Rattle.receiver_rules.proofs.Elapsed.{transfer_quiet, await_quiet}
use Rattle.receiver_rules.proofs.TimeLaws.{time_passes}
use Rattle.width.specs.Words.{word_at}
use Rattle.receiver_c.specs.Words.{receiver_phase_of, phase_at, session_at, is_receiver_session}
use Rattle.receiver_c.specs.Calls.{receiver_timed, receiver_passed, timed_at, only_counts}
use Rattle.receiver_c.proofs.Sessions.{session_valid}
use Rattle.receiver_c.proofs.Inverse.{phase_kept, silence_fits, resends_fit}

-- What the shortcut tests.
pub record Counts (phase silence limit room : ℕ) : Type 0 where
  pub room_enough : 260 ≤ room
  pub below : silence < limit
  pub counted : (phase ≡ 1 → ⊥) → phase ≡ 2

pub counts_when : (phase silence limit room : ℕ) → only_counts phase silence limit room ≡ true → Counts phase silence limit room
unfolding only_counts
counts_when phase silence limit room =
    let P : Bool → Type 0 = λ b. b ≡ true → Counts phase silence limit room in
    pick_all P (ltb room longest) _ _ (λ _ e. absurd (true≢false (sym e)))
    (λ a. pick_all P (leb limit silence) _ _ (λ _ e. absurd (true≢false (sym e)))
    (λ b. pick_all P (eqb phase 1) _ _
    (λ t _.
    record { room_enough = ltb-false room longest a; below = leb-false limit silence b; counted = λ not. absurd (not (eqb-true phase 1 t)) })
    (λ _ e. record { room_enough = ltb-false room longest a; below = leb-false limit silence b; counted = λ _. eqb-true phase 2 e })))

-- What is counted fits its word.
pub sum_fits : (silence limit : ℕ) → silence < limit → limit ≤ 10000 → Fits w32 silence
sum_fits silence limit h l = record { fits = omega arith }

module _ (accepted : Accepted) (short silence elapsed made : ℕ) (settings : Settings) (below : silence + elapsed < settings.limit) where
  tick_counts : (code : ℕ) → ((code ≡ 1 → ⊥) → code ≡ 2)
      → receiver_tick_of (receiver_phase_of code accepted short) silence elapsed made settings
      ≡ tick (receiver_phase_of code accepted short) (silence + elapsed) made Passed
  unfolding receiver_phase_of pick
  tick_counts zero h = let two = h (λ e. absurd (omega arith)) in absurd (omega arith)
  tick_counts (suc zero) h = transfer_quiet silence elapsed made settings below _
  tick_counts (suc (suc zero)) h = await_quiet silence elapsed made settings below accepted
  tick_counts (suc (suc (suc code))) h = let two = h (λ e. absurd (omega arith)) in absurd (omega arith)

-- A word that is stored as it stood, behind a store to another.
stays : (w : List ℕ) (i j a : ℕ) → (j ≡ i → ⊥) → set (set w i a) j (word_at w j) ≡ set w i a
stays w i j a n = ap (set (set w i a) j) (sym (get_or-set_other w i j a 0 n)) ∙ set-get_or (set w i a) j 0

module _ (w : List ℕ) (ok : is_receiver_session w ≡ true) (elapsed : ℕ) (out : List ℕ) where
  abbrev settings : Settings
  settings = record { limit = word_at w 0 % 65536; resends = word_at w 1 % 256 }

  ticks : word_at w 7 + elapsed < word_at w 0 → ((word_at w 3 ≡ 1 → ⊥) → word_at w 3 ≡ 2)
      → receiver_tick_of (phase_at w) (word_at w 7 % 65536) elapsed (word_at w 8 % 256) settings
      ≡ tick (phase_at w) (word_at w 7 % 65536 + elapsed) (word_at w 8 % 256) Passed
  unfolding phase_at
  ticks below counted =
      let high = (session_valid w ok).within.high in
      let low = (session_valid w ok).short_silence in
      tick_counts _ (word_at w 6) (word_at w 7 % 65536) elapsed (word_at w 8 % 256) settings (omega arith) (word_at w 3) counted

  pub counts : (silence : ℕ) → silence ≡ word_at w 7 + elapsed → Counts (word_at w 3) silence (word_at w 0) (length out)
      → timed_at w elapsed out ≡ receiver_timed 0 0 (set w 7 silence) out
  unfolding timed_at session_at reply_of reply_bytes
  counts silence is c =
      let below = c.below in
      let first = ap (receiver_passed w) (time_passes (session_at w) elapsed out c.room_enough) in
      let second = ap (λ (t : Tick). receiver_passed w (receiver_ticked_of (session_at w) t out)) (ticks (omega arith) c.counted) in
      first ∙ second
      ∙ rw (silence_fits w ok, resends_fit w ok, phase_kept w ok (word_at w 7 + elapsed) (word_at w 8), ← is, stays w 7 8 silence (λ e. absurd (omega arith)))

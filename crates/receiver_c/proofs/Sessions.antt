-- `is_session` is true of exactly those words that are a session's in the paper's own numbers (specs/Valid.antt).
use Prim.Native.Nat.{ℕ, ◌≤◌}
use mathlib.Core.Bool.{Bool, true, false, true≢false, not}
use mathlib.Core.Path.{◌≡◌, refl, sym}
use mathlib.Core.List.{List}
use native.Mathlib.Omega.{arith}
use borrow.Author.Tests.{ltb-false, leb-true, eqb-true, eqb-false}
use lib.Dec.{eqb, ltb}
use Rattle.basis.specs.Pick.{pick, pick_all, pick_both, tests}
use Rattle.silence.specs.Settings.{limit_least, limit_most, resends_most}
use Rattle.silence.specs.Within.{Within}
use Rattle.wire.specs.Codes.{image_size_most}
use Rattle.width.specs.Words.{word_at}
use Rattle.receiver_c.specs.Words.{zero_words, are_settings, fit_fields, is_receiver_phase, is_receiver_session}
use Rattle.receiver_c.specs.Valid.{ReceiverPhaseValid, ReceiverSessionValid}

module _ (limit resends capacity : ℕ) where
  settings_within : are_settings limit resends capacity ≡ true → Within limit resends × (capacity ≤ 1048575)
  unfolding are_settings
  settings_within =
      let P : Bool → Type 0 = λ b. b ≡ true → Within limit resends × (capacity ≤ 1048575) in
      pick_all P (ltb image_size_most capacity) _ _ (λ _ e. absurd (true≢false (sym e)))
      (λ a. pick_all P (ltb limit limit_least) _ _ (λ _ e. absurd (true≢false (sym e)))
      (λ b. pick_all P (ltb limit_most limit) _ _ (λ _ e. absurd (true≢false (sym e)))
      (λ d e.
      let room = ltb-false image_size_most capacity a in
      let low = ltb-false limit limit_least b in
      let high = ltb-false limit_most limit d in
      let few = leb-true resends resends_most e in
      (record { low = omega arith; high = omega arith; few = omega arith }, omega arith))))

  within_settings : Within limit resends → capacity ≤ 1048575 → are_settings limit resends capacity ≡ true
  unfolding are_settings
  within_settings w room =
      let low : limit_least ≤ limit = omega arith in
      let high : limit ≤ limit_most = omega arith in
      let few : resends ≤ resends_most = omega arith in
      let small : capacity ≤ image_size_most = omega arith in
      search tests

pub record Fitting (blocks silence resends flags : ℕ) : Type 0 where
  pub few_blocks : blocks ≤ 65535
  pub short_silence : silence ≤ 65535
  pub few_resends : resends ≤ 255
  pub three_flags : flags ≤ 16777215

module _ (blocks silence resends flags : ℕ) where
  fields_fit : fit_fields blocks silence resends flags ≡ true → Fitting blocks silence resends flags
  unfolding fit_fields
  fields_fit =
      let P : Bool → Type 0 = λ b. b ≡ true → Fitting blocks silence resends flags in
      pick_all P (ltb 65535 blocks) _ _ (λ _ e. absurd (true≢false (sym e)))
      (λ a. pick_all P (ltb 65535 silence) _ _ (λ _ e. absurd (true≢false (sym e)))
      (λ b. pick_all P (ltb 255 resends) _ _ (λ _ e. absurd (true≢false (sym e)))
      (λ d e.
      record {
        few_blocks = ltb-false 65535 blocks a;
        short_silence = ltb-false 65535 silence b;
        few_resends = ltb-false 255 resends d;
        three_flags = leb-true flags 16777215 e;
      })))

  fit_fields_lem : Fitting blocks silence resends flags → fit_fields blocks silence resends flags ≡ true
  unfolding fit_fields
  fit_fields_lem f =
      let a = f.few_blocks in
      let b = f.short_silence in
      let d = f.few_resends in
      let e = f.three_flags in
      search tests

module _ (code blocks bytes short : ℕ) where
  phase_valid : is_receiver_phase code blocks bytes short ≡ true → ReceiverPhaseValid code blocks bytes short
  unfolding is_receiver_phase
  phase_valid =
      let P : Bool → Type 0 = λ b. b ≡ true → ReceiverPhaseValid code blocks bytes short in
      pick_all P (eqb code 1) _ _
      (λ t e.
      let one = eqb-true code 1 t in
      record { phases = omega arith; flag = leb-true short 1 e; transfer_alone = λ not. absurd (not one); idle_empty = λ z. absurd (omega arith) })
      (λ _. pick_all P (eqb short 0) _ _
      (λ t.
      let is_zero = eqb-true short 0 t in
      pick_all P (eqb code 0) _ _
      (λ z e.
      let zero = eqb-true code 0 z in
      let both = pick_both (eqb blocks 0) (eqb bytes 0) e in
      record {
        phases = omega arith;
        flag = omega arith;
        transfer_alone = λ _. is_zero;
        idle_empty = λ _. (eqb-true blocks 0 both.0, eqb-true bytes 0 both.1);
      })
      (λ z e.
      let few = leb-true code 3 e in
      record { phases = few; flag = omega arith; transfer_alone = λ _. is_zero; idle_empty = λ zero. absurd (eqb-false code 0 z zero) }))
      (λ _ e. absurd (true≢false (sym e))))

  valid_phase : ReceiverPhaseValid code blocks bytes short → is_receiver_phase code blocks bytes short ≡ true
  unfolding is_receiver_phase
  valid_phase s =
      let P : Bool → Type 0 = λ b. b ≡ true in
      let few = s.phases in
      pick_all P (eqb code 1) _ _ (λ t. let flag = s.flag in search tests)
      (λ t. let is_zero = s.transfer_alone (eqb-false code 1 t) in pick_all P (eqb short 0) _ _
      (λ _. pick_all P (eqb code 0) _ _
      (λ z. let both = s.idle_empty (eqb-true code 0 z) in let none = both.0 in let empty = both.1 in search tests)
      (λ z. search tests))
      (λ n. absurd (eqb-false short 0 n is_zero)))

neither : (t a : Bool) → pick (not t) false a ≡ true → (t ≡ true) × (a ≡ true)
unfolding pick
neither true a e = (refl, e)
neither false a e = absurd (true≢false (sym e))

pub session_valid : (w : List ℕ) → is_receiver_session w ≡ true → ReceiverSessionValid w
unfolding is_receiver_session
session_valid w e =
    let first = neither _ _ e in
    let second = neither _ _ first.1 in
    let taken = settings_within (word_at w 0) (word_at w 1) (word_at w 2) first.0 in
    let fits = fields_fit (word_at w 4) (word_at w 7) (word_at w 8) (word_at w 13) second.0 in
    record {
      within = taken.0;
      room = taken.1;
      in_phase = phase_valid (word_at w 3) (word_at w 4) (word_at w 5) (word_at w 6) second.1;
      few_blocks = fits.few_blocks;
      short_silence = fits.short_silence;
      few_resends = fits.few_resends;
      three_flags = fits.three_flags;
    }

pub valid_session : (w : List ℕ) → ReceiverSessionValid w → is_receiver_session w ≡ true
unfolding is_receiver_session pick
valid_session w v =
    let made = within_settings (word_at w 0) (word_at w 1) (word_at w 2) v.within v.room in
    let fits = fit_fields_lem (word_at w 4) (word_at w 7) (word_at w 8) (word_at w 13)
    (record { few_blocks = v.few_blocks; short_silence = v.short_silence; few_resends = v.few_resends; three_flags = v.three_flags }) in
    let phase = valid_phase (word_at w 3) (word_at w 4) (word_at w 5) (word_at w 6) v.in_phase in
    rw (made, fits, phase)

-- All zero is no session: its silence limit is 0.
pub zero_none : is_receiver_session zero_words ≡ true → ⊥
zero_none e = let low = (session_valid zero_words e).within.low in omega arith

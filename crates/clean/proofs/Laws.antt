-- The result of a whole clean session, in the paper's own numbers: done exactly where the settings are legal, the file is newer and it fits;
-- else the first of 29, 46, 42, 43 (demand 3).
use Prim.Native.Nat.{ℕ, ◌+◌, ◌≤◌, ◌<◌}
use mathlib.Core.Bool.{true}
use mathlib.Core.Path.{◌≡◌, refl, sym, ◌∙◌, ap}
use mathlib.Core.List.{List, [], ◌∷◌, ◌++◌, map}
use native.Mathlib.Omega.{arith}
use borrow.Author.Tests.{eq-eqb, ne_eqb, lt-ltb, le-ltb, eqb-false, ltb-false}
use lib.Dec.{eqb, ltb}
use lib.ListN.{length, take, drop}
use lib.Seq.{take-append_seam}
use Rattle.std.proofs.Common.{Ok, Err}
use Rattle.basis.specs.Pick.{pick, pick_all}
use Rattle.basis.specs.Left.{Left, left}
use Rattle.silence.specs.Settings as silent
use Rattle.silence.specs.Settings.{Checked}
use Rattle.silence.specs.Within.{Within}
use Rattle.silence.proofs.Laws.{within_made, made_within, outside_29}
use Rattle.image.specs.Blocks.{blocks_of}
use Rattle.wire.specs.declared.response.Identity.{Identity}
use Rattle.wire.specs.Codes.{image_size_most}
use Rattle.indoor_state.specs.declared.plan.Release.{Release}
use Rattle.indoor_state.specs.declared.phase.Reason.{Reason}
use Rattle.indoor_state.specs.declared.phase.Reason.TheVariants.{NotNewer, TooLarge}
use Rattle.indoor_state.specs.declared.phase.Phase.TheVariants.{Done, Failed}
use Rattle.indoor_rules.specs.Newer.{newer_of}
use Rattle.indoor_rules.proofs.Compared.{Newer, newer_only, newer_yes, newer_no}
use Rattle.clean.specs.Run.{Ran, ended, clean_number_of, transferred_of, clean_carried_of, clean_begun_of, checked_of, clean_run_of}
use Rattle.clean.specs.declared.ran.Ended.{Ended}
use Rattle.clean.specs.declared.ran.NotRun.TheVariants.{Settings, FileSize}

-- 01, Numbers we answer: 29, 46, 42, 43, and 0 where the session ends done.
pub ran_rows : (requests : ℕ) →
    map clean_number_of (Err Settings ∷ Err FileSize ∷ Ok (ended (Failed NotNewer) requests) ∷ Ok (ended (Failed TooLarge) requests) ∷ Ok (ended Done requests) ∷ [])
    ≡ 29 ∷ 46 ∷ 42 ∷ 43 ∷ 0 ∷ []
ran_rows requests = refl

same_ended : (a b : Ended) → ◌≡◌ {A = Ran} (Ok a) (Ok b) → a ≡ b
same_ended a b e = cc

failed_done : (reason : Reason) (count requests : ℕ) → ◌≡◌ {A = Ran} (Ok (ended (Failed reason) count)) (Ok (ended Done requests)) → ⊥
failed_done reason count requests e =
    let phase = ap (λ (x : Ended). x.phase) (same_ended (ended (Failed reason) count) (ended Done requests) e) in
    cc

ended_count : (count requests : ℕ) → ◌≡◌ {A = Ran} (Ok (ended Done count)) (Ok (ended Done requests)) → requests ≡ count
ended_count count requests e = ap (λ (x : Ended). x.requests) (sym (same_ended (ended Done count) (ended Done requests) e))

module _ (limit resends : ℕ) (identity : Identity) (release : Release) (file image : List ℕ) where
  abbrev ran : Left Ran
  ran = clean_run_of limit resends identity release file image

  -- 29 whatever the file is
  pub run_29_capacity : 1048575 < length image → ran ≡ left (Err Settings) image
  unfolding clean_run_of pick
  run_29_capacity h = rw (lt-ltb 1048575 (length image) h)

  refused : (x : Checked) → silent.settings_number_of x ≡ 29 → checked_of x release identity file image ≡ left (Err Settings) image
  unfolding checked_of
  refused (Ok settings) e = absurd (omega arith)
  refused (Err refusal) e = refl

  pub run_29_settings : (Within limit resends → ⊥) → ran ≡ left (Err Settings) image
  unfolding clean_run_of
  run_29_settings h =
      pick_all (λ (x : Left Ran). x ≡ left (Err Settings) image) (ltb image_size_most (length image)) _ _ (λ _. refl)
      (λ _. refused (silent.settings_of limit resends) (outside_29 limit resends h))

  module _ (room : length image ≤ 1048575) (within : Within limit resends) where
    begins : ran ≡ clean_begun_of release identity file image
    unfolding clean_run_of checked_of pick
    begins = rw (le-ltb 1048575 (length image) room, within_made limit resends within)

    -- 46 whatever the receiver is
    pub run_46_empty : length file ≡ 0 → ran ≡ left (Err FileSize) image
    unfolding clean_begun_of pick
    run_46_empty h = begins ∙ rw (eq-eqb (length file) 0 h)

    pub run_46_long : 1048575 < length file → ran ≡ left (Err FileSize) image
    unfolding clean_begun_of pick
    run_46_long h = begins ∙ rw (ne_eqb (length file) 0 (λ e. omega arith), lt-ltb 1048575 (length file) h)

    module _ (some : 1 ≤ length file) (most : length file ≤ 1048575) where
      carried : ran ≡ clean_carried_of release identity file image
      unfolding clean_begun_of pick
      carried = begins ∙ rw (ne_eqb (length file) 0 (λ e. omega arith), le-ltb 1048575 (length file) most)

      -- 42 also where the file is too large; nothing but GET_FW_ID was sent, and the image is as it was.
      pub run_42 : (Newer release identity → ⊥) → ran ≡ left (Ok (ended (Failed NotNewer) 1)) image
      unfolding clean_carried_of pick
      run_42 h = carried ∙ rw (newer_no release identity h)

      module _ (newer : Newer release identity) where
        -- 43: GET_FW_ID, INITIATE and ABORT were sent, and the image is as it was.
        pub run_43 : length image < length file → ran ≡ left (Ok (ended (Failed TooLarge) 3)) image
        unfolding clean_carried_of transferred_of pick
        run_43 h = carried ∙ rw (newer_yes release identity newer, lt-ltb (length image) (length file) h)

        -- Done after exactly n + 4 requests: the image begins with the file, and goes on as it lay.
        pub run_done : length file ≤ length image → ran ≡ left (Ok (ended Done (blocks_of (length file) + 4))) (file ++ drop (length file) image)
        unfolding clean_carried_of transferred_of pick
        run_done h = carried ∙ rw (newer_yes release identity newer, le-ltb (length image) (length file) h)

        pub run_begins : length file ≤ length image → take (length file) ran.memory ≡ file
        run_begins h = ap (λ (x : Left Ran). take (length file) x.memory) (run_done h) ∙ take-append_seam file (drop (length file) image)

  -- What holds wherever a session ends done: what it was started with, and what it left.
  pub record Succeeded (requests : ℕ) (left : List ℕ) : Type 0 where
    pub legal : Within limit resends
    pub room : length image ≤ 1048575
    pub some : 1 ≤ length file
    pub fits : length file ≤ length image
    pub newer : Newer release identity
    pub exactly : requests ≡ blocks_of (length file) + 4
    pub begins : take (length file) left ≡ file

  abbrev Only : Left Ran → Type 0
  Only x = (requests : ℕ) → x.answer ≡ Ok (ended Done requests) → Succeeded requests x.memory

  transferred_only : Within limit resends → length image ≤ image_size_most → 1 ≤ length file → newer_of release identity ≡ true → Only (transferred_of file image)
  unfolding transferred_of
  transferred_only legal room some new =
      pick_all Only (ltb (length image) (length file)) _ _
      (λ _ requests e. absurd (failed_done TooLarge 3 requests e))
      (λ t requests e. record {
        legal = legal;
        room = room;
        some = some;
        fits = ltb-false (length image) (length file) t;
        newer = newer_only release identity new;
        exactly = ended_count (blocks_of (length file) + 4) requests e;
        begins = take-append_seam file (drop (length file) image);
      })

  begun_only : Within limit resends → length image ≤ image_size_most → Only (clean_begun_of release identity file image)
  unfolding clean_begun_of clean_carried_of
  begun_only legal room =
      pick_all Only (eqb (length file) 0) _ _ (λ _ requests e. cc)
      (λ a. let none = eqb-false (length file) 0 a in
      pick_all Only (ltb image_size_most (length file)) _ _ (λ _ requests e. cc)
      (λ _. pick_all Only (newer_of release identity) _ _
      (λ new. transferred_only legal room (omega arith) new)
      (λ _ requests e. absurd (failed_done NotNewer 1 requests e))))

  checked_only : (x : Checked) → silent.settings_of limit resends ≡ x → length image ≤ image_size_most → Only (checked_of x release identity file image)
  unfolding checked_of
  checked_only (Ok settings) e room = begun_only (made_within limit resends settings e) room
  checked_only (Err refusal) e room = λ requests d. cc

  -- No other session ends done.
  pub done_only : Only ran
  unfolding clean_run_of
  done_only =
      pick_all Only (ltb image_size_most (length image)) _ _ (λ _ requests e. cc)
      (λ t. checked_only (silent.settings_of limit resends) refl (ltb-false image_size_most (length image) t))

-- `is_session` is true of exactly those words that are a session's in the paper's own numbers (specs/Valid.antt).
use Prim.Native.Nat.{ℕ, ◌≤◌}
use mathlib.Core.Bool.{Bool, true, false, true≢false}
use mathlib.Core.Path.{◌≡◌, refl, sym, ◌∙◌}
use mathlib.Core.List.{List}
use native.Mathlib.Omega.{arith}
use borrow.Author.Tests.{ltb-false, leb-true, eqb-true, eqb-false, eq-eqb}
use lib.Dec.{eqb, ltb}
use Rattle.basis.specs.Pick.{pick, pick_all, pick_yes, pick_both, tests}
use Rattle.silence.specs.Within.{Within}
use Rattle.silence.specs.Settings.{settings_of, settings_number_of}
use Rattle.silence.specs.Settings.{Checked}
use Rattle.silence.proofs.Laws.{made_within, within_made}
use Rattle.wire.specs.Codes.{image_size_most}
use Rattle.width.specs.Words.{word_at}
use Rattle.indoor_c.specs.PhaseWords.{is_transfer_phase, is_failed_phase, is_plain_phase, is_indoor_phase}
use Rattle.indoor_c.specs.Words.{phase_words_at, is_indoor_session, no_words}
use Rattle.indoor_c.specs.Valid.{IndoorPhaseValid, IndoorSessionValid}
use Rattle.indoor_c.specs.declared.phase_words.PhaseWords.{PhaseWords}
use Rattle.std.specs.Prelude.{Ok, Err}

-- A choice that is false under its test.
pub refused_both : (t a : Bool) → pick t false a ≡ true → (t ≡ false) × (a ≡ true)
unfolding pick
refused_both true a e = absurd (true≢false (sym e))
refused_both false a e = (refl, e)

module _ (p : PhaseWords) where
  transfer_valid : p.phase ≡ 2 → is_transfer_phase p ≡ true → IndoorPhaseValid p
  unfolding is_transfer_phase
  transfer_valid two e =
      let a = refused_both (ltb 65535 p.asked) _ e in
      let b = refused_both (ltb 65535 p.wait) _ a.1 in
      let c = pick_both (eqb p.reason 0) _ b.1 in
      record {
        phases = omega arith;
        flag = leb-true p.emptied 1 c.1;
        blocks = ltb-false 65535 p.asked a.0;
        waits = ltb-false 65535 p.wait b.0;
        transfer_alone = λ not. absurd (not two);
        wait_alone = λ _ not _. absurd (not two);
        failed_alone = λ _. eqb-true p.reason 0 c.0;
        reasons = λ five. absurd (omega arith);
      }

  failed_valid : p.phase ≡ 5 → is_failed_phase p ≡ true → IndoorPhaseValid p
  unfolding is_failed_phase
  failed_valid five e =
      let a = pick_both (eqb p.asked 0) _ e in
      let b = pick_both (eqb p.wait 0) _ a.1 in
      let c = pick_both (eqb p.emptied 0) _ b.1 in
      let asked = eqb-true p.asked 0 a.0 in
      let wait = eqb-true p.wait 0 b.0 in
      let emptied = eqb-true p.emptied 0 c.0 in
      let reasons = refused_both (ltb p.reason 40) _ c.1 in
      record {
        phases = omega arith;
        flag = omega arith;
        blocks = omega arith;
        waits = omega arith;
        transfer_alone = λ _. (emptied, asked);
        wait_alone = λ _ _ _. wait;
        failed_alone = λ not. absurd (not five);
        reasons = λ _. (ltb-false p.reason 40 reasons.0, leb-true p.reason 45 reasons.1);
      }

  -- Of a phase that has no number but a wait.
  bare_valid : (p.phase ≡ 5 → ⊥) → p.phase ≤ 4 → p.asked ≡ 0 → p.emptied ≡ 0 → p.reason ≡ 0 → p.wait ≤ 65535
      → ((p.phase ≡ 1 → ⊥) → (p.phase ≡ 3 → ⊥) → p.wait ≡ 0)
      → IndoorPhaseValid p
  bare_valid not few asked emptied reason waits wait =
      record {
        phases = omega arith;
        flag = omega arith;
        blocks = omega arith;
        waits = waits;
        transfer_alone = λ _. (emptied, asked);
        wait_alone = λ one _ three. wait one three;
        failed_alone = λ _. reason;
        reasons = λ five. absurd (not five);
      }

  plain_valid : (p.phase ≡ 5 → ⊥) → is_plain_phase p ≡ true → IndoorPhaseValid p
  unfolding is_plain_phase
  plain_valid not e =
      let P : Bool → Type 0 = λ b. b ≡ true → IndoorPhaseValid p in
      let a = pick_both (eqb p.asked 0) _ e in
      let b = pick_both (eqb p.emptied 0) _ a.1 in
      let c = pick_both (eqb p.reason 0) _ b.1 in
      let asked = eqb-true p.asked 0 a.0 in
      let emptied = eqb-true p.emptied 0 b.0 in
      let reason = eqb-true p.reason 0 c.0 in
      pick_all P (eqb p.phase 1) _ _
      (λ t h. let one = eqb-true p.phase 1 t in bare_valid not (omega arith) asked emptied reason (leb-true p.wait 65535 h) (λ n _. absurd (n one)))
      (λ _. pick_all P (eqb p.phase 3) _ _
      (λ t h. let three = eqb-true p.phase 3 t in bare_valid not (omega arith) asked emptied reason (leb-true p.wait 65535 h) (λ _ n. absurd (n three)))
      (λ _ h.
      let d = pick_both (eqb p.wait 0) _ h in
      let wait = eqb-true p.wait 0 d.0 in
      bare_valid not (leb-true p.phase 4 d.1) asked emptied reason (omega arith) (λ _ _. wait)))
      c.1

  phase_valid : is_indoor_phase p ≡ true → IndoorPhaseValid p
  unfolding is_indoor_phase
  phase_valid =
      let P : Bool → Type 0 = λ b. b ≡ true → IndoorPhaseValid p in
      pick_all P (eqb p.phase 2) _ _ (λ t. transfer_valid (eqb-true p.phase 2 t))
      (λ _. pick_all P (eqb p.phase 5) _ _ (λ t. failed_valid (eqb-true p.phase 5 t))
      (λ f. plain_valid (eqb-false p.phase 5 f)))

  valid_transfer : IndoorPhaseValid p → p.phase ≡ 2 → is_transfer_phase p ≡ true
  unfolding is_transfer_phase
  valid_transfer s two =
      let blocks = s.blocks in
      let waits = s.waits in
      let flag = s.flag in
      let reason = s.failed_alone (λ e. omega arith) in
      search tests

  valid_failed : IndoorPhaseValid p → p.phase ≡ 5 → is_failed_phase p ≡ true
  unfolding is_failed_phase
  valid_failed s five =
      let is_zero = s.transfer_alone (λ e. omega arith) in
      let emptied = is_zero.0 in
      let asked = is_zero.1 in
      let wait = s.wait_alone (λ e. omega arith) (λ e. omega arith) (λ e. omega arith) in
      let reasons = s.reasons five in
      let least = reasons.0 in
      let most = reasons.1 in
      search tests

  valid_plain : IndoorPhaseValid p → (p.phase ≡ 2 → ⊥) → (p.phase ≡ 5 → ⊥) → is_plain_phase p ≡ true
  unfolding is_plain_phase
  valid_plain s two five =
      let P : Bool → Type 0 = λ b. b ≡ true in
      let is_zero = s.transfer_alone two in
      let emptied = is_zero.0 in
      let asked = is_zero.1 in
      let reason = s.failed_alone five in
      let waits = s.waits in
      let few = s.phases in
      pick_yes _ _ _ (eq-eqb p.asked 0 asked) ∙ pick_yes _ _ _ (eq-eqb p.emptied 0 emptied) ∙ pick_yes _ _ _ (eq-eqb p.reason 0 reason)
      ∙ pick_all P (eqb p.phase 1) _ _ (λ _. search tests)
      (λ t. pick_all P (eqb p.phase 3) _ _ (λ _. search tests)
      (λ u.
      let wait = s.wait_alone (eqb-false p.phase 1 t) two (eqb-false p.phase 3 u) in
      let most : p.phase ≤ 4 = omega (arith, five) in
      search tests))

  valid_phase : IndoorPhaseValid p → is_indoor_phase p ≡ true
  unfolding is_indoor_phase
  valid_phase s =
      let P : Bool → Type 0 = λ b. b ≡ true in
      pick_all P (eqb p.phase 2) _ _ (λ t. valid_transfer s (eqb-true p.phase 2 t))
      (λ u. pick_all P (eqb p.phase 5) _ _ (λ t. valid_failed s (eqb-true p.phase 5 t))
      (λ f. valid_plain s (eqb-false p.phase 2 u) (eqb-false p.phase 5 f)))

checked_within : (limit resends : ℕ) (x : Checked) → settings_of limit resends ≡ x → settings_number_of x ≡ 0 → Within limit resends
checked_within limit resends (Ok s) p e = made_within limit resends s p
checked_within limit resends (Err refusal) p e = absurd (omega arith)

pub session_valid : (w : List ℕ) → is_indoor_session w ≡ true → IndoorSessionValid w
unfolding is_indoor_session
session_valid w e =
    let a = pick_both (eqb (settings_number_of (settings_of (word_at w 0) (word_at w 1))) 0) _ e in
    let some = refused_both (eqb (word_at w 2) 0) _ a.1 in
    let most = refused_both (ltb image_size_most (word_at w 2)) _ some.1 in
    let silent = refused_both (ltb 65535 (word_at w 7)) _ most.1 in
    let resent = refused_both (ltb 255 (word_at w 8)) _ silent.1 in
    let not = eqb-false (word_at w 2) 0 some.0 in
    record {
      within = checked_within (word_at w 0) (word_at w 1) _ refl (eqb-true _ 0 a.0);
      some = omega (arith, not);
      most = ltb-false image_size_most (word_at w 2) most.0;
      silent = ltb-false 65535 (word_at w 7) silent.0;
      resent = ltb-false 255 (word_at w 8) resent.0;
      in_phase = phase_valid (phase_words_at w) resent.1;
    }

-- Where all but the phase has been tested, the phase decides.
pub session_in_phase : (w : List ℕ) → Within (word_at w 0) (word_at w 1) → (word_at w 2 ≡ 0 → ⊥) → word_at w 2 ≤ image_size_most → word_at w 7 ≤ 65535 → word_at w 8 ≤ 255
    → is_indoor_session w ≡ is_indoor_phase (phase_words_at w)
unfolding is_indoor_session
session_in_phase w within some most silent resent = rw (within_made (word_at w 0) (word_at w 1) within) (search tests)

pub some_not : (n : ℕ) → 1 ≤ n → n ≡ 0 → ⊥
some_not n h e = omega arith

pub valid_session : (w : List ℕ) → IndoorSessionValid w → is_indoor_session w ≡ true
valid_session w v =
    session_in_phase w v.within (some_not (word_at w 2) v.some) v.most v.silent v.resent ∙ valid_phase (phase_words_at w) v.in_phase

-- All zero is no session: its silence limit is 0.
pub none_session : is_indoor_session no_words ≡ true → ⊥
none_session e = let low = (session_valid no_words e).within.low in omega arith

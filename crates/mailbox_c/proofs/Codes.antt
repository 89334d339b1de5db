-- The codes of the commands that run, in the header's own numbers (include/harsolvek.h; 01, The mailbox).
use Prim.Native.Nat.{ℕ, ◌≤◌}
use mathlib.Core.Bool.{Bool, true, false, true≢false}
use mathlib.Core.Logic.{◌⊎◌, inl, inr}
use mathlib.Core.Path.{◌≡◌, refl, sym, ◌∙◌}
use native.Mathlib.Omega.{arith}
use borrow.Author.Tests.{eqb-true, eqb-false, eq-eqb, ne_eqb}
use lib.Dec.{eqb}
use Rattle.basis.specs.Pick.{pick, pick_all}
use Rattle.commands.specs.Table.{entry_of}
use Rattle.commands.specs.declared.table.Class.{Class}
use Rattle.commands.specs.declared.table.Class.TheVariants.{Reset, Cancel, Acknowledge, Enable, Run, NotSupported}
use Rattle.commands.specs.declared.table.Entry.{Entry}
use Rattle.mailbox_rules.specs.Refusal.{is}
use Rattle.mailbox_c.specs.Running.{code_runs}

module _ (code : ℕ) where
  pub runs_3 : code ≡ 3 → code_runs code ≡ true
  unfolding code_runs entry_of pick
  runs_3 e = rw e

  pub runs_6 : code ≡ 6 → code_runs code ≡ true
  unfolding code_runs entry_of pick
  runs_6 e = rw e

  pub runs_7 : code ≡ 7 → code_runs code ≡ true
  unfolding code_runs entry_of pick
  runs_7 e = rw e

  abbrev Alone : Entry → Type 0
  Alone entry = is Run entry.class ≡ eqb code 18

  other : (n : ℕ) → eqb code n ≡ true → (n ≡ 18 → ⊥) → false ≡ eqb code 18
  other n t not = let same = eqb-true code n t in sym (ne_eqb code 18 (λ e. not (sym same ∙ e)))

  -- Besides 3, 6 and 7 it is 0x12 alone.
  pub runs_18 : (code ≡ 3 → ⊥) → (code ≡ 6 → ⊥) → (code ≡ 7 → ⊥) → code_runs code ≡ eqb code 18
  unfolding code_runs entry_of
  runs_18 a b c =
      pick_all Alone _ _ _ (λ t. other 1 t (λ e. omega arith))
      (λ _. pick_all Alone _ _ _ (λ t. other 2 t (λ e. omega arith))
      (λ _. pick_all Alone _ _ _ (λ t. other 4 t (λ e. omega arith))
      (λ _. pick_all Alone _ _ _ (λ t. other 5 t (λ e. omega arith))
      (λ _. pick_all Alone _ _ _ (λ t. absurd (b (eqb-true code 6 t)))
      (λ _. pick_all Alone _ _ _ (λ t. absurd (a (eqb-true code 3 t)))
      (λ _. pick_all Alone _ _ _ (λ t. absurd (c (eqb-true code 7 t)))
      (λ _. pick_all Alone _ _ _ (λ t. sym t) (λ t. sym t))))))))

  -- As the code asks: 6 and 7 are next to each other, and 3 and 0x12 stand alone.
  pub runs_pair : 6 ≤ code → code ≤ 7 → true ≡ code_runs code
  runs_pair low high =
      let at : (t : Bool) → eqb code 6 ≡ t → true ≡ code_runs code
      = λ t. elim t as (λ u. eqb code 6 ≡ u → true ≡ code_runs code) [ true ↦ λ e. sym (runs_6 (eqb-true code 6 e)) | false ↦ λ e. let six = eqb-false code 6 e in sym (runs_7 (omega arith)) ] in
      at (eqb code 6) refl

  pub runs_alone : (code ≡ 3) ⊎ (code ≡ 18) → true ≡ code_runs code
  runs_alone (inl e) = sym (runs_3 e)
  runs_alone (inr e) = sym (runs_18 (λ z. omega arith) (λ z. omega arith) (λ z. omega arith) ∙ eq-eqb code 18 e)

  pub runs_none : (code ≡ 3 → ⊥) → (code ≡ 6 → ⊥) → (code ≡ 7 → ⊥) → (code ≡ 18 → ⊥) → false ≡ code_runs code
  runs_none a b c d = sym (runs_18 a b c ∙ ne_eqb code 18 d)

  abbrev Small : Entry → Type 0
  Small entry = is Run entry.class ≡ true → code ≤ 18

  -- A code that runs has 8 bits.
  pub runs_small : code_runs code ≡ true → code ≤ 18
  unfolding code_runs entry_of
  runs_small =
      let few : (n : ℕ) → n ≤ 18 → eqb code n ≡ true → code ≤ 18 = λ n h t. let same = eqb-true code n t in omega arith in
      pick_all Small _ _ _ (λ t _. few 1 (omega arith) t)
      (λ _. pick_all Small _ _ _ (λ t _. few 2 (omega arith) t)
      (λ _. pick_all Small _ _ _ (λ t _. few 4 (omega arith) t)
      (λ _. pick_all Small _ _ _ (λ t _. few 5 (omega arith) t)
      (λ _. pick_all Small _ _ _ (λ t _. few 6 (omega arith) t)
      (λ _. pick_all Small _ _ _ (λ t _. few 3 (omega arith) t)
      (λ _. pick_all Small _ _ _ (λ t _. few 7 (omega arith) t)
      (λ _. pick_all Small _ _ _ (λ t _. few 18 (omega arith) t) (λ _ e. absurd (true≢false (sym e))))))))))

pub is_run : (class : Class) → is Run class ≡ true → class ≡ Run
is_run Run e = refl
is_run Reset e = absurd (true≢false (sym e))
is_run Cancel e = absurd (true≢false (sym e))
is_run Acknowledge e = absurd (true≢false (sym e))
is_run Enable e = absurd (true≢false (sym e))
is_run NotSupported e = absurd (true≢false (sym e))

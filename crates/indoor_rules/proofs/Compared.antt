-- Newer means that vendor and product agree and the file's four numbers come later (02 a).
use Prim.Native.Nat.{ℕ, ◌<◌}
use mathlib.Core.Bool.{Bool, true, false, true≢false}
use mathlib.Core.List.{List, [], ◌∷◌}
use mathlib.Core.Path.{◌≡◌, refl, sym, ◌∙◌}
use native.Mathlib.Omega.{arith}
use lib.Dec.{ltb}
use borrow.Author.Tests.{lt-ltb, ltb-true}
use Rattle.basis.specs.Pick.{pick_yes, pick_no, pick_all, differ, differ_false, eq_differ, ne_differ}
use Rattle.wire.specs.declared.response.Identity.{Identity}
use Rattle.indoor_rules.specs.Newer.{places_of, later_of, newer_of}
use Rattle.indoor_state.specs.declared.plan.Release.{Release}

-- The numbers agree up to a place, and there the file's is greater (001 section 5.3.1).
pub data Later : List ℕ → List ℕ → Type 0 where
  greater : (file reported : ℕ) {within within' : List ℕ} → reported < file → Later (file ∷ within) (reported ∷ within')
  alike : (file reported : ℕ) {within within' : List ℕ} → file ≡ reported → Later within within' → Later (file ∷ within) (reported ∷ within')

module _ (file reported : ℕ) (within within' : List ℕ) where
  -- A place that differs decides, whatever lies within it.
  pub decides : (file ≡ reported → ⊥) → later_of (file ∷ within) (reported ∷ within') ≡ ltb reported file
  unfolding later_of
  decides h = pick_yes (differ file reported) _ _ (ne_differ file reported h)

  -- Where it agrees, what lies within it does.
  pub agrees : file ≡ reported → later_of (file ∷ within) (reported ∷ within') ≡ later_of within within'
  unfolding later_of
  agrees h = pick_no (differ file reported) _ _ (eq_differ file reported h)

pub later_yes : {file reported : List ℕ} → Later file reported → later_of file reported ≡ true
later_yes (greater f r h) = decides f r _ _ (λ e. omega arith) ∙ lt-ltb r f h
later_yes (alike f r e l) = agrees f r _ _ e ∙ later_yes l

pub later_only : (file reported : List ℕ) → later_of file reported ≡ true → Later file reported
unfolding later_of
later_only (f ∷ within) (r ∷ within') =
    pick_all (λ t. t ≡ true → Later (f ∷ within) (r ∷ within')) (differ f r) _ _
    (λ _ t. greater f r (ltb-true r f t))
    (λ e t. alike f r (differ_false f r e) (later_only within within' t))
later_only (f ∷ within) [] = λ e. absurd (true≢false (sym e))
later_only [] reported = λ e. absurd (true≢false (sym e))

-- Nothing else is looked at: not the hardware, the bank or the flags.
pub record Newer (file : Release) (reported : Identity) : Type 0 where
  pub vendor : file.vendor ≡ reported.vendor
  pub product : file.product ≡ reported.product
  pub later : Later (places_of file.versions) (places_of reported.versions)

module _ (file : Release) (reported : Identity) where
  pub newer_only : newer_of file reported ≡ true → Newer file reported
  unfolding newer_of
  newer_only =
      let P : Bool → Type 0 = λ t. t ≡ true → Newer file reported in
      pick_all P (differ file.vendor reported.vendor) _ _ (λ _ e. absurd (true≢false (sym e)))
      (λ v. pick_all P (differ file.product reported.product) _ _ (λ _ e. absurd (true≢false (sym e)))
      (λ p t. record {
        vendor = differ_false file.vendor reported.vendor v;
        product = differ_false file.product reported.product p;
        later = later_only (places_of file.versions) (places_of reported.versions) t;
      }))

  -- Within one vendor and product the four numbers decide.
  pub newer_later : file.vendor ≡ reported.vendor → file.product ≡ reported.product
      → newer_of file reported ≡ later_of (places_of file.versions) (places_of reported.versions)
  unfolding newer_of
  newer_later v p =
      pick_no (differ file.vendor reported.vendor) _ _ (eq_differ file.vendor reported.vendor v)
      ∙ pick_no (differ file.product reported.product) _ _ (eq_differ file.product reported.product p)

  pub newer_yes : Newer file reported → newer_of file reported ≡ true
  newer_yes n = newer_later n.vendor n.product ∙ later_yes n.later

  not_true : (b : Bool) → (b ≡ true → ⊥) → b ≡ false
  not_true true h = absurd (h refl)
  not_true false h = refl

  -- Else not newer.
  pub newer_no : (Newer file reported → ⊥) → newer_of file reported ≡ false
  newer_no h = not_true (newer_of file reported) (λ t. h (newer_only t))

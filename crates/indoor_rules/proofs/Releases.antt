-- Which of the releases of one product is offered to a receiver that runs another: a strict total order, decided place by place (02 a).
use Prim.Native.Nat.{ℕ, ◌<◌}
use mathlib.Core.Bool.{Bool, true, false, not}
use mathlib.Core.List.{List, [], ◌∷◌}
use mathlib.Core.Path.{◌≡◌, refl, sym, ap, subst, ◌∙◌}
use native.Mathlib.Omega.{arith}
use lib.Dec.{ltb}
use lib.ListN.{length, get_or}
use borrow.Author.Tests.{ltb-true, ltb-false, lt-ltb, le-ltb}
use Rattle.basis.specs.Pick.{pick, pick_yes, pick_all, differ, differ_true, differ_false, ne_differ}
use Rattle.wire.specs.declared.request.Versions.{Versions}
use Rattle.wire.specs.declared.response.Identity.{Identity}
use Rattle.indoor_rules.specs.Newer.{places_of, later_of, newer_of}
use Rattle.indoor_state.specs.declared.plan.Release.{Release}
use Rattle.indoor_rules.proofs.Compared.{Later, greater, alike, decides, agrees, newer_later, newer_only, newer_yes}

-- The identity of a receiver that runs a release. The hardware, the bank and the flags are any.
pub record Runs (receiver : Identity) (release : Release) : Type 0 where
  pub vendor : receiver.vendor ≡ release.vendor
  pub product : receiver.product ≡ release.product
  pub versions : receiver.versions ≡ release.versions

module _ (file : Release) (reported : Identity) where
  -- Another vendor or product is never newer.
  pub other_vendor : (file.vendor ≡ reported.vendor → ⊥) → newer_of file reported ≡ false
  unfolding newer_of
  other_vendor h = pick_yes (differ file.vendor reported.vendor) _ _ (ne_differ file.vendor reported.vendor h)

  pub other_product : (file.product ≡ reported.product → ⊥) → newer_of file reported ≡ false
  unfolding newer_of
  other_product h =
      pick_all (λ t. t ≡ false) (differ file.vendor reported.vendor) _ _ (λ _. refl)
      (λ _. pick_yes (differ file.product reported.product) _ _ (ne_differ file.product reported.product h))

  module _ (vendor : file.vendor ≡ reported.vendor) (product : file.product ≡ reported.product) where
    abbrev ours : Versions
    ours = file.versions

    abbrev theirs : Versions
    theirs = reported.versions

    -- The first place that differs decides, each by itself.
    pub first_decides : (ours.first ≡ theirs.first → ⊥) → newer_of file reported ≡ ltb theirs.first ours.first
    unfolding places_of
    first_decides h = newer_later file reported vendor product ∙ decides _ _ _ _ h

    pub second_decides : ours.first ≡ theirs.first → (ours.second ≡ theirs.second → ⊥) → newer_of file reported ≡ ltb theirs.second ours.second
    unfolding places_of
    second_decides a h = newer_later file reported vendor product ∙ agrees _ _ _ _ a ∙ decides _ _ _ _ h

    pub third_decides : ours.first ≡ theirs.first → ours.second ≡ theirs.second
        → (ours.third ≡ theirs.third → ⊥) → newer_of file reported ≡ ltb theirs.third ours.third
    unfolding places_of
    third_decides a b h = newer_later file reported vendor product ∙ agrees _ _ _ _ a ∙ agrees _ _ _ _ b ∙ decides _ _ _ _ h

    pub fourth_decides : ours.first ≡ theirs.first → ours.second ≡ theirs.second → ours.third ≡ theirs.third
        → (ours.fourth ≡ theirs.fourth → ⊥) → newer_of file reported ≡ ltb theirs.fourth ours.fourth
    unfolding places_of
    fourth_decides a b c h = newer_later file reported vendor product ∙ agrees _ _ _ _ a ∙ agrees _ _ _ _ b ∙ agrees _ _ _ _ c ∙ decides _ _ _ _ h

    -- Release 3.2 goes to a receiver on 3.1, and 3.1.9.9 to none on 3.2.
    pub release_3_2 : places_of ours ≡ 3 ∷ 2 ∷ 0 ∷ 0 ∷ [] → places_of theirs ≡ 3 ∷ 1 ∷ 0 ∷ 0 ∷ [] → newer_of file reported ≡ true
    unfolding later_of differ pick
    release_3_2 h k = newer_later file reported vendor product ∙ rw (h, k)

    pub release_3_1_9_9 : places_of ours ≡ 3 ∷ 1 ∷ 9 ∷ 9 ∷ [] → places_of theirs ≡ 3 ∷ 2 ∷ 0 ∷ 0 ∷ [] → newer_of file reported ≡ false
    unfolding later_of differ pick
    release_3_1_9_9 h k = newer_later file reported vendor product ∙ rw (h, k)

    -- What document 01's own rule offered, a greater FWVersion1, still goes out.
    pub offered_before : theirs.first < ours.first → newer_of file reported ≡ true
    offered_before h = first_decides (λ e. omega arith) ∙ lt-ltb theirs.first ours.first h

-- Equal is not newer.
later_self : (l : List ℕ) → later_of l l ≡ false
unfolding later_of
later_self [] = refl
later_self (x ∷ l) = agrees x x l l refl ∙ later_self l

pub own_release : (receiver : Identity) (release : Release) → Runs receiver release → newer_of release receiver ≡ false
own_release receiver release runs =
    newer_later release receiver (sym runs.vendor) (sym runs.product)
    ∙ ap (λ (v : Versions). later_of (places_of release.versions) (places_of v)) runs.versions
    ∙ later_self (places_of release.versions)

-- What is newer than a newer release is newer.
later_trans : {a b c : List ℕ} → Later a b → Later b c → Later a c
later_trans (greater x y h) (greater y' z k) = greater x z (omega arith)
later_trans (greater x y h) (alike y' z f m) = greater x z (omega arith)
later_trans (alike x y e l) (greater y' z k) = greater x z (omega arith)
later_trans (alike x y e l) (alike y' z f m) = alike x z (e ∙ f) (later_trans l m)

pub newer_trans : (receiver between : Identity) (middle latest : Release) → Runs between middle
    → newer_of middle receiver ≡ true → newer_of latest between ≡ true → newer_of latest receiver ≡ true
newer_trans receiver between middle latest runs e f =
    let h = newer_only middle receiver e in
    let k = newer_only latest between f in
    newer_yes latest receiver (record {
      vendor = k.vendor ∙ runs.vendor ∙ h.vendor;
      product = k.product ∙ runs.product ∙ h.product;
      later = later_trans (subst (λ (v : Versions). Later (places_of latest.versions) (places_of v)) runs.versions k.later) h.later;
    })

-- Of two different releases exactly one is newer.
less_other : (m n : ℕ) → (m ≡ n → ⊥) → (t : Bool) → ltb n m ≡ t → ltb m n ≡ not t
less_other m n h true e = le-ltb m n (let less = ltb-true n m e in omega arith)
less_other m n h false e = lt-ltb m n (let least = ltb-false n m e in omega arith)

either : (P : Bool → Type 0) (t : Bool) → P true → P false → P t
either P true y n = y
either P false y n = n

later_other : (a b : List ℕ) → length a ≡ length b → (a ≡ b → ⊥) → later_of b a ≡ not (later_of a b)
later_other [] [] q h = absurd (h refl)
later_other [] (y ∷ b) q h = absurd (omega arith)
later_other (x ∷ a) [] q h = absurd (omega arith)
later_other (x ∷ a) (y ∷ b) q h =
    let P : Bool → Type 0 = λ t. differ x y ≡ t → later_of (y ∷ b) (x ∷ a) ≡ not (later_of (x ∷ a) (y ∷ b)) in
    either P (differ x y)
    (λ e. decides y x b a (λ s. differ_true x y e (sym s))
    ∙ less_other x y (differ_true x y e) (ltb y x) refl
    ∙ ap not (sym (decides x y a b (differ_true x y e))))
    (λ e. agrees y x b a (sym (differ_false x y e))
    ∙ later_other a b (omega arith) (λ s. h (ap (λ l. x ∷ l) s ∙ ap (λ z. z ∷ b) (differ_false x y e)))
    ∙ ap not (sym (agrees x y a b (differ_false x y e))))
    refl

-- A release is its six numbers.
same_release : (a b : Release) → a.vendor ≡ b.vendor → a.product ≡ b.product → places_of a.versions ≡ places_of b.versions → a ≡ b
unfolding places_of
same_release a b vendor product same =
    let place : (k : ℕ) → get_or (places_of a.versions) k 0 ≡ get_or (places_of b.versions) k 0 = λ k. ap (λ (l : List ℕ). get_or l k 0) same in
    let first : a.versions.first ≡ b.versions.first = place 0 in
    let second : a.versions.second ≡ b.versions.second = place 1 in
    let third : a.versions.third ≡ b.versions.third = place 2 in
    let fourth : a.versions.fourth ≡ b.versions.fourth = place 3 in
    let made : ℕ → ℕ → ℕ → ℕ → ℕ → ℕ → Release = λ v p f s t u. record { vendor = v; product = p; versions = record { first = f; second = s; third = t; fourth = u } } in
    let whole : made a.vendor a.product a.versions.first a.versions.second a.versions.third a.versions.fourth
    ≡ made b.vendor b.product b.versions.first b.versions.second b.versions.third b.versions.fourth
    = rw (vendor, product, first, second, third, fourth) in
    whole

pub one_newer : (ofA ofB : Identity) (a b : Release) → Runs ofA a → Runs ofB b → a.vendor ≡ b.vendor → a.product ≡ b.product
    → (a ≡ b → ⊥) → newer_of b ofA ≡ not (newer_of a ofB)
unfolding places_of
one_newer ofA ofB a b runsA runsB vendor product other =
    newer_later b ofA (sym vendor ∙ sym runsA.vendor) (sym product ∙ sym runsA.product)
    ∙ ap (λ (v : Versions). later_of (places_of b.versions) (places_of v)) runsA.versions
    ∙ later_other (places_of a.versions) (places_of b.versions) refl (λ s. other (same_release a b vendor product s))
    ∙ ap (λ (v : Versions). not (later_of (places_of a.versions) (places_of v))) (sym runsB.versions)
    ∙ ap not (sym (newer_later a ofB (vendor ∙ sym runsB.vendor) (product ∙ sym runsB.product)))

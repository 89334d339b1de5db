-- A choice by a test, and the laws by which a proof rewrites tests.
use Rattle.std.specs.Prelude.{ℕ, Bool, true, false, not, ◌≡◌, refl, eqb}
use Rattle.std.proofs.Common.{true≢false, sym, ap, eqb-true, lt-ltb, le-ltb, le-leb, eq-eqb, ne_eqb}
use Rattle.std.proofs.lemmas.Bool.{eqb-false, not-true, not-false, lt-leb}

unfoldable pub pick : {A : Type 0} → Bool → A → A → A
pick true a b = a
pick false a b = b

pub pick_yes : {A : Type 0} (t : Bool) (a b : A) → t ≡ true → pick t a b ≡ a
unfolding pick
pick_yes t a b h = ap (λ (u : Bool). pick u a b) h

pub pick_no : {A : Type 0} (t : Bool) (a b : A) → t ≡ false → pick t a b ≡ b
unfolding pick
pick_no t a b h = ap (λ (u : Bool). pick u a b) h

pub not_yes : (t : Bool) → t ≡ false → not t ≡ true
not_yes t h = ap not h

pub not_no : (t : Bool) → t ≡ true → not t ≡ false
not_no t h = ap not h

-- The test of a rule that refuses numbers which are not equal.
unfoldable pub differ : ℕ → ℕ → Bool
differ m n = not (eqb m n)

pub ne_differ : (m n : ℕ) → (m ≡ n → ⊥) → differ m n ≡ true
unfolding differ
ne_differ m n h = ap not (ne_eqb m n h)

pub eq_differ : (m n : ℕ) → m ≡ n → differ m n ≡ false
unfolding differ
eq_differ m n h = ap not (eq-eqb m n h)

pub differ_true : (m n : ℕ) → differ m n ≡ true → m ≡ n → ⊥
unfolding differ
differ_true m n e = eqb-false m n (not-true (eqb m n) e)

pub differ_false : (m n : ℕ) → differ m n ≡ false → m ≡ n
unfolding differ
differ_false m n e = eqb-true m n (not-false (eqb m n) e)

-- `search tests` finds each premise among the tests that the code has passed.
pub ruleset tests = (pick_yes, pick_no, lt-ltb, le-ltb, le-leb, lt-leb, eq-eqb, ne_eqb, eq_differ, ne_differ, not_yes, not_no)

-- What holds of both choices, each under its test, holds of the choice.
pub pick_all : {A : Type 0} (P : A → Type 0) (t : Bool) (a b : A) → (t ≡ true → P a) → (t ≡ false → P b) → P (pick t a b)
unfolding pick
pick_all P true a b y n = y refl
pick_all P false a b y n = n refl

-- A choice that is false without its test.
pub pick_both : (t a : Bool) → pick t a false ≡ true → (t ≡ true) × (a ≡ true)
unfolding pick
pick_both true a e = (refl, e)
pick_both false a e = absurd (true≢false (sym e))

-- What has to hold only where a test does.
abbrev pub When : Bool → Type 0 → Type 0
When true A = A
When false A = Unit

pub when_met : {A : Type 0} (t : Bool) → When t A → t ≡ true → A
when_met true a e = a
when_met false a e = absurd (true≢false (sym e))

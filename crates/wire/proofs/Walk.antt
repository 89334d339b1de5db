-- What holds of every message that a byte string can be read as, from what holds along each way that the reader takes.
-- Requests and responses are read alike, so it is said once: R is the message, P the reader's answer.
use borrow.Author.Tests.{ltb-false, le-ltb, eqb-true, not-false}
use Prim.Native.Nat.{ℕ, ◌≤◌}
use mathlib.Core.Bool.{Bool, true, false, not}
use mathlib.Core.Path.{◌≡◌}
use mathlib.Core.List.{List}
use native.Mathlib.Omega.{arith}
use lib.ListN.{length}
use lib.Dec.{eqb, ltb}
use Rattle.basis.specs.Pick.{pick, pick_all, differ, differ_false}
use Rattle.wire.specs.Header.{headed}
use Rattle.basis.specs.Bytes.{byte_at}

pub record Headed (m : List ℕ) : Type 0 where
  pub long : 2 ≤ length m
  pub short : length m ≤ 260
  pub version : byte_at m 0 ≡ 1

pub says_header : (m : List ℕ) → Headed m → headed m ≡ true
unfolding headed pick
says_header m h = rw (le-ltb (length m) 2 h.long, le-ltb 260 (length m) h.short, h.version)

pub header_says : (m : List ℕ) → headed m ≡ true → Headed m
unfolding headed
header_says m =
    let P : Bool → Type 0 = λ b. b ≡ true → Headed m in
    let no : P false = λ e. let z : ◌≡◌ {A = ℕ} 0 1 = cc in absurd (omega arith) in
    pick_all P (ltb (length m) 2) _ _ (λ _. no)
    (λ a. pick_all P (ltb 260 (length m)) _ _ (λ _. no)
    (λ b e. record { long = ltb-false (length m) 2 a; short = ltb-false 260 (length m) b; version = eqb-true (byte_at m 0) 1 e }))

-- A reader's answers: what is valid, and the one that is not.
pub record Reader (R P : Type 0) : Type 0 where
  pub valid : R → P
  pub malformed : P
  pub inner : (a b : R) → valid a ≡ valid b → a ≡ b
  pub apart : (r : R) → malformed ≡ valid r → ⊥

-- Whatever message p holds, Q holds of it.
unfoldable pub HoldsOf : {R P : Type 0} → Reader R P → (R → Type 0) → P → Type 0
HoldsOf {R} k Q p = (r : R) → p ≡ k.valid r → Q r

module _ {R P : Type 0} (k : Reader R P) (Q : R → Type 0) where
  pub refused : HoldsOf k Q k.malformed
  unfolding HoldsOf
  refused r e = absurd (k.apart r e)

  pub valid_holds : (q : R) → Q q → HoldsOf k Q (k.valid q)
  unfolding HoldsOf
  valid_holds q h r e = rw (← (k.inner q r e)) h

  pub of_length : (m : List ℕ) (n : ℕ) (q : R) → (length m ≡ n → Q q) → HoldsOf k Q (pick (differ (length m) n) k.malformed (k.valid q))
  of_length m n q f = pick_all (HoldsOf k Q) (differ (length m) n) _ _ (λ _. refused) (λ t. valid_holds q (f (differ_false (length m) n t)))

  pub of_type : (t c : ℕ) (p rest : P) → (t ≡ c → HoldsOf k Q p) → HoldsOf k Q rest → HoldsOf k Q (pick (eqb t c) p rest)
  of_type t c p rest f g = pick_all (HoldsOf k Q) (eqb t c) p rest (λ e. f (eqb-true t c e)) (λ _. g)

  pub with_header : (m : List ℕ) (p : P) → (Headed m → HoldsOf k Q p) → HoldsOf k Q (pick (not (headed m)) k.malformed p)
  with_header m p f = pick_all (HoldsOf k Q) (not (headed m)) _ _ (λ _. refused) (λ t. f (header_says m (not-false (headed m) t)))

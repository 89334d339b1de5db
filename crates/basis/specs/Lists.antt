-- Laws on lists that the kit's library does not have.
use Prim.Native.Nat.{ℕ, zero, suc, ◌+◌, ◌-◌, ◌≤◌}
use Rattle.std.specs.Prelude.{◌≡◌, refl, length, take, drop}
use Rattle.std.proofs.Common.{◌∙◌, le_refl, length-drop, take_all}
use Rattle.std.proofs.Math.Path.{ap}
use mathlib.Core.List.{List, [], ◌∷◌}
use native.Mathlib.Omega.{arith}
use Rattle.std.proofs.Math.ListN.{get_or}
use Rattle.std.proofs.Math.Seq.{drop-cons, drop-length}

-- A callee sees `&s[n..]` as the left side.
pub tail_all : {A : Type 0} (n : ℕ) (s : List A) → take (length s - n) (drop n s) ≡ drop n s
tail_all n s = take_all (length s - n) (drop n s) (simp length-drop (le_refl (length s - n)))

-- The front of a list that is as long as a front of it is that front.
pub take_own : {A : Type 0} (m : ℕ) (l : List A) → take (length (take m l)) l ≡ take m l
take_own zero l = refl
take_own (suc m) [] = refl
take_own (suc m) (x ∷ l) = ap (λ t. x ∷ t) (take_own m l)

-- The k elements of a list from the place i on, one by one, and then the rest; d is what a list has behind its end.
module _ {A : Type 0} (d : A) where
  unfoldable pub spell : List A → ℕ → ℕ → List A → List A
  spell m i zero rest = rest
  spell m i (suc k) rest = get_or m i d ∷ spell m (suc i) k rest

  pub spelled : (k : ℕ) (m : List A) (i e : ℕ) → e ≡ i + k → e ≤ length m → drop i m ≡ spell m i k (drop e m)
  unfolding spell
  spelled zero m i e q h =
      let p : i ≡ e = omega arith in
      rw p
  spelled (suc k) m i e q h = drop-cons m i d (omega arith) ∙ ap (λ (l : List A). get_or m i d ∷ l) (spelled k m (suc i) e (omega arith) h)

  pub spelled_all : (k : ℕ) (m : List A) → length m ≡ k → m ≡ spell m 0 k []
  spelled_all k m h = spelled k m 0 (length m) (omega arith) (le_refl (length m)) ∙ ap (spell m 0 k) (drop-length m)

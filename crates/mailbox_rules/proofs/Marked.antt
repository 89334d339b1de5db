-- One connector marked as waiting, or as waiting no more; the others are as they were (01, The mailbox).
use Prim.Native.Nat.{ℕ, zero, suc, ◌-◌, ◌≤◌}
use mathlib.Core.Bool.{Bool, false}
use mathlib.Core.List.{List, [], ◌∷◌}
use mathlib.Core.Path.{◌≡◌, refl}
use native.Mathlib.Omega.{arith}
use borrow.Author.Tests.{le-ltb, ne_eqb}
use lib.ListN.{length, get_or, set}
use lib.Seq.{get_or-set_same, get_or-set_other}
use Rattle.basis.specs.Pick.{pick, pick_all}
use Rattle.mailbox_rules.specs.Changes.{marked_of}

module _ (w : List Bool) (c : ℕ) (b : Bool) where
  pub marked_is : 1 ≤ c → c ≤ 8 → marked_of w c b ≡ set w (c - 1) b
  unfolding marked_of pick
  marked_is low high = rw (ne_eqb c 0 (λ e. omega arith), le-ltb 8 c high)

  pub marked : 1 ≤ c → c ≤ 8 → length w ≡ 8 → get_or (marked_of w c b) (c - 1) false ≡ b
  marked low high e = rw (marked_is low high) (get_or-set_same w (c - 1) b false (omega arith))

  pub marked_other : (j : ℕ) → (j ≡ c - 1 → ⊥) → get_or (marked_of w c b) j false ≡ get_or w j false
  unfolding marked_of
  marked_other j h =
      pick_all (λ (v : List Bool). get_or v j false ≡ get_or w j false) _ _ _ (λ y. refl)
      (λ n. pick_all (λ (v : List Bool). get_or v j false ≡ get_or w j false) _ _ _ (λ y. refl) (λ m. get_or-set_other w (c - 1) j b false h))

set_false : (w : List Bool) (i j : ℕ) → get_or w j false ≡ false → get_or (set w i false) j false ≡ false
set_false [] i j h = refl
set_false (x ∷ w) zero zero h = refl
set_false (x ∷ w) zero (suc j) h = h
set_false (x ∷ w) (suc i) zero h = h
set_false (x ∷ w) (suc i) (suc j) h = set_false w i j h

-- A connector that does not wait still does not once one is marked as waiting no more.
pub unmarked : (w : List Bool) (c j : ℕ) → get_or w j false ≡ false → get_or (marked_of w c false) j false ≡ false
unfolding marked_of
unmarked w c j h =
    pick_all (λ (v : List Bool). get_or v j false ≡ false) _ _ _ (λ y. h)
    (λ n. pick_all (λ (v : List Bool). get_or v j false ≡ false) _ _ _ (λ y. h) (λ m. set_false w (c - 1) j h))

-- Every other connector waits as it did; connector 0, which there is not, is not marked.
pub marked_others : (w : List Bool) (c : ℕ) (b : Bool) (j : ℕ) → 1 ≤ j → (j ≡ c → ⊥) → get_or (marked_of w c b) (j - 1) false ≡ get_or w (j - 1) false
unfolding marked_of pick
marked_others w zero b j low h = refl
marked_others w (suc c) b j low h = marked_other w (suc c) b (j - 1) (λ e. h (omega (arith, low, e)))

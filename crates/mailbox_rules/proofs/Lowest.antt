-- The lowest waiting connector (01, The mailbox): it waits, and none below it does.
use Prim.Native.Nat.{ℕ, zero, suc, ◌+◌, ◌-◌, ◌≤◌, ◌<◌}
use mathlib.Core.Bool.{Bool, true, false}
use mathlib.Core.List.{List, [], ◌∷◌}
use mathlib.Core.Path.{◌≡◌, refl, sym, ◌∙◌, subst}
use native.Mathlib.Omega.{arith}
use native.Mathlib.Nat.{add-zero, add-suc, suc-add, le_of_suc-le-suc, not-suc-le-zero}
use lib.ListN.{get_or}
use Rattle.mailbox_rules.specs.Changes.{lowest_from}

-- In a list whose first is connector c.
pub data First (c : ℕ) (waiting : List Bool) (r : ℕ) : Type 0 where
  none : r ≡ 0 → ((j : ℕ) → get_or waiting j false ≡ false) → First c waiting r
  first : (i : ℕ) → r ≡ c + i → get_or waiting i false ≡ true → ((j : ℕ) → j < i → get_or waiting j false ≡ false) → First c waiting r

later : (c : ℕ) (w : List Bool) (r : ℕ) → First (suc c) w r → First c (false ∷ w) r
later c w r (none e h) = none e (λ j. behind j)
  where
    behind : (j : ℕ) → get_or (false ∷ w) j false ≡ false
    behind zero = refl
    behind (suc j) = h j
later c w r (first i e t l) = first (suc i) (e ∙ suc-add c i ∙ sym (add-suc c i)) t below
  where
    below : (j : ℕ) → j < suc i → get_or (false ∷ w) j false ≡ false
    below zero h = refl
    below (suc j) h = l j (le_of_suc-le-suc h)

pub lowest_first : (c : ℕ) (w : List Bool) → First c w (lowest_from c w)
unfolding lowest_from
lowest_first c [] = none refl (λ j. refl)
lowest_first c (true ∷ w) = first 0 (sym (add-zero c)) refl (λ j h. absurd (not-suc-le-zero h))
lowest_first c (false ∷ w) = later c w (lowest_from (suc c) w) (lowest_first (suc c) w)

-- The same in connectors, from 1 on: the lowest waits, none below it does, and it is 0 only if none waits.
module _ {w : List Bool} {c : ℕ} where
  pub lowest_waits : First 1 w c → 1 ≤ c → get_or w (c - 1) false ≡ true
  lowest_waits (none e h) low = absurd (omega (arith, e, low))
  lowest_waits (first i e t l) low = subst (λ (n : ℕ). get_or w n false ≡ true) (omega (arith, e)) t

  pub lowest_least : First 1 w c → (j : ℕ) → 1 ≤ j → j < c → get_or w (j - 1) false ≡ false
  lowest_least (none e h) j one below = h (j - 1)
  lowest_least (first i e t l) j one below = l (j - 1) (omega (arith, e, one, below))

  pub lowest_none : First 1 w c → c ≡ 0 → (j : ℕ) → get_or w (j - 1) false ≡ false
  lowest_none (none e h) z j = h (j - 1)
  lowest_none (first i e t l) z j = absurd (omega (arith, e, z))

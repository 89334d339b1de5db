-- The connector shown and those that wait are connectors of the mailbox, and none waits while none is shown (01, The mailbox).
use Prim.Native.Nat.{ℕ, zero, suc, ◌+◌, ◌≤◌}
use mathlib.Core.Bool.{Bool, true, false, true≢false}
use mathlib.Core.Path.{◌≡◌, refl, sym, ◌∙◌}
use native.Mathlib.Omega.{arith}
use borrow.Author.Tests.{eqb-false, ltb-true, ltb-false}
use lib.Dec.{ltb}
use lib.ListN.{get_or, replicate}
use Rattle.basis.specs.Pick.{pick_all}
use Rattle.mailbox_state.specs.State.{changes, no_changes}
use Rattle.mailbox_state.specs.declared.state.Changes.{Changes}
use Rattle.mailbox_rules.specs.Changes.{lowest_of, marked_of, noted_of, next_shown_of}
use Rattle.mailbox_rules.specs.WellFormed.{Within}
use Rattle.mailbox_rules.proofs.Lowest.{First, none, first, lowest_first}
use Rattle.mailbox_rules.proofs.Marked.{marked_other, unmarked}

-- None waits while none is shown.
abbrev pub Behind : Changes → Type 0
Behind now = now.shown ≡ 0 → (j : ℕ) → get_or now.waiting j false ≡ false

all_false : (k j : ℕ) → get_or (replicate k false) j false ≡ false
all_false zero j = refl
all_false (suc k) zero = refl
all_false (suc k) (suc j) = all_false k j

pub none_within : (count : ℕ) → Within count no_changes
none_within count = record { shown = omega arith; waiting = λ j h. all_false 8 j }

pub none_behind : Behind no_changes
none_behind e j = all_false 8 j

-- A change on a connector of the mailbox is noted.
module _ (now : Changes) (c : ℕ) (low : 1 ≤ c) where
  pub noted_within : (count : ℕ) → c ≤ count → Within count now → Within count (noted_of now c)
  unfolding noted_of
  noted_within count high w =
      pick_all (Within count) _ _ _ (λ y. record { shown = high; waiting = w.waiting })
      (λ n. record { shown = w.shown; waiting = λ j h. marked_other now.waiting c true j (λ e. omega arith) ∙ w.waiting j h })

  pub noted_behind : Behind (noted_of now c)
  unfolding noted_of
  noted_behind = pick_all Behind _ _ _ (λ y e. absurd (omega arith)) (λ n e. absurd (eqb-false now.shown 0 n e))

-- The one shown is acknowledged, and the lowest that waits is shown.
module _ (now : Changes) where
  lowest_within : (count : ℕ) → Within count now → (r : ℕ) → First 1 now.waiting r → Within count (changes r (marked_of now.waiting r false))
  lowest_within count w r f = record { shown = by f; waiting = λ j k. unmarked now.waiting r j (w.waiting j k) }
    where
      below : (i : ℕ) → r ≡ 1 + i → get_or now.waiting i false ≡ true → (b : Bool) → ltb i count ≡ b → r ≤ count
      below i e t true y = let h = ltb-true i count y in omega (arith, h, e)
      below i e t false n = absurd (true≢false (sym t ∙ w.waiting i (ltb-false i count n)))

      by : First 1 now.waiting r → r ≤ count
      by (none e h) = omega (arith, e)
      by (first i e t l) = below i e t (ltb i count) refl

  lowest_behind : (r : ℕ) → First 1 now.waiting r → Behind (changes r (marked_of now.waiting r false))
  lowest_behind r (none e h) = λ z j. unmarked now.waiting r j (h j)
  lowest_behind r (first i e t l) = λ z. absurd (omega (arith, e, z))

  pub next_within : (count : ℕ) → Within count now → Within count (next_shown_of now)
  unfolding next_shown_of
  next_within count w = lowest_within count w (lowest_of now.waiting) (lowest_first 1 now.waiting)

  pub next_behind : Behind (next_shown_of now)
  unfolding next_shown_of
  next_behind = lowest_behind (lowest_of now.waiting) (lowest_first 1 now.waiting)

-- What an accepted ACK with bit 16 leaves: the lowest waiting connector is shown, and it alone waits no more (01, The mailbox).
use Prim.Native.Nat.{ℕ, zero, suc, ◌-◌, ◌≤◌}
use mathlib.Core.Bool.{Bool, false}
use mathlib.Core.List.{List, [], ◌∷◌}
use mathlib.Core.Path.{◌≡◌, refl, ◌∙◌, ap}
use lib.ListN.{get_or, set}
use Rattle.mailbox_state.specs.declared.state.Changes.{Changes}
use Rattle.mailbox_rules.specs.Changes.{lowest_of, next_shown_of}
use Rattle.mailbox_rules.proofs.Marked.{marked_is, marked_others}

set_here : (w : List Bool) (i : ℕ) → get_or (set w i false) i false ≡ false
set_here [] i = refl
set_here (x ∷ w) zero = refl
set_here (x ∷ w) (suc i) = set_here w i

module _ (now : Changes) where
  abbrev lowest : ℕ
  lowest = lowest_of now.waiting

  pub next_shows : (next_shown_of now).shown ≡ lowest
  unfolding next_shown_of
  next_shows = refl

  pub next_waits_no_more : 1 ≤ lowest → lowest ≤ 8 → get_or (next_shown_of now).waiting (lowest - 1) false ≡ false
  unfolding next_shown_of
  next_waits_no_more low high =
      ap (λ (w : List Bool). get_or w (lowest - 1) false) (marked_is now.waiting lowest false low high) ∙ set_here now.waiting (lowest - 1)

  pub next_others : (j : ℕ) → 1 ≤ j → (j ≡ lowest → ⊥) → get_or (next_shown_of now).waiting (j - 1) false ≡ get_or now.waiting (j - 1) false
  unfolding next_shown_of
  next_others = marked_others now.waiting lowest false

-- The lowest that waits is the one behind the first place that waits (01, The mailbox).
use Prim.Native.Nat.{ℕ, ◌+◌}
use mathlib.Core.Bool.{Bool, true, false}
use mathlib.Core.List.{List, [], ◌∷◌}
use mathlib.Core.Path.{◌≡◌, refl, ◌∙◌, ap}
use native.Mathlib.Numerals.{add-one}
use Rattle.std.specs.List.{position_from}
use Rattle.std.specs.Option.{option_map_or}
use Rattle.std.specs.Prelude.{Option}
use Rattle.mailbox_rules.specs.Changes.{lowest_from, lowest_of}

-- Place j is connector j + 1, and 0 is none.
abbrev connector_at : Option ℕ → ℕ
connector_at place = option_map_or (λ (j : ℕ). j + 1) place 0

from_place : (i : ℕ) (w : List Bool) → connector_at (position_from (λ (waits : Bool). waits) i w) ≡ lowest_from (i + 1) w
unfolding lowest_from
from_place i [] = refl
from_place i (true ∷ w) = refl
from_place i (false ∷ w) = from_place (i + 1) w ∙ ap (λ (k : ℕ). lowest_from k w) (add-one (i + 1))

pub shown : (w : List Bool) (place : Option ℕ) → place ≡ position_from (λ (waits : Bool). waits) 0 w → connector_at place ≡ lowest_of w
shown w place e = ap connector_at e ∙ from_place 0 w

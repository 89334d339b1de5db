-- Every phase but Failed has the number 0.
use mathlib.Core.Path.{◌≡◌, refl}
use mathlib.Core.List.{[], ◌∷◌}
use denote.Enum.Declared.{tag_of}
use types.Run.{OneOf, miss}
use Rattle.indoor_state.specs.contracts.phase.Phase.{the_type}
use Rattle.indoor_state.specs.declared.phase.Phase.{Phase}
use Rattle.indoor_state.specs.declared.phase.Phase.TheVariants.{Identify, Initiate, Transfer, Validate, Done, Failed}
use Rattle.clean.specs.Run.{phase_number}

pub not_failed : (phase : Phase) → OneOf (0 ∷ 1 ∷ 2 ∷ 3 ∷ 4 ∷ []) (tag_of the_type phase) → 0 ≡ phase_number phase
not_failed Identify h = refl
not_failed (Initiate wait) h = refl
not_failed (Transfer p) h = refl
not_failed (Validate wait) h = refl
not_failed Done h = refl
not_failed (Failed reason) h = absurd (miss (0 ∷ 1 ∷ 2 ∷ 3 ∷ 4 ∷ []) 5 tt h)

-- A class is itself and no other (01, The mailbox).
use mathlib.Core.Bool.{true, false}
use mathlib.Core.Path.{◌≡◌, refl}
use mathlib.Core.List.{List, [], ◌∷◌, map}
use Rattle.commands.specs.declared.table.Class.{Class}
use Rattle.commands.specs.declared.table.Class.TheVariants.{Reset, Cancel, Acknowledge, Enable, Run, NotSupported}
use Rattle.mailbox_rules.specs.Refusal.{is}

abbrev classes : List Class
classes = Reset ∷ Cancel ∷ Acknowledge ∷ Enable ∷ Run ∷ NotSupported ∷ []

pub is_rows :
    map (λ (one : Class). map (is one) classes) classes
    ≡ (true ∷ false ∷ false ∷ false ∷ false ∷ false ∷ [])
    ∷ (false ∷ true ∷ false ∷ false ∷ false ∷ false ∷ [])
    ∷ (false ∷ false ∷ true ∷ false ∷ false ∷ false ∷ [])
    ∷ (false ∷ false ∷ false ∷ true ∷ false ∷ false ∷ [])
    ∷ (false ∷ false ∷ false ∷ false ∷ true ∷ false ∷ [])
    ∷ (false ∷ false ∷ false ∷ false ∷ false ∷ true ∷ [])
    ∷ []
is_rows = refl

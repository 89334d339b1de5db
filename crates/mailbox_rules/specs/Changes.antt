-- The connector shown and those that wait (01, The mailbox).
use Rattle.std.specs.Prelude.{ℕ, suc, ◌-◌, Bool, true, false, List, [], ◌∷◌, set, eqb, ltb}
use Rattle.basis.specs.Pick.{pick}
use Rattle.mailbox_state.specs.Connectors.{connectors_most}
use Rattle.mailbox_state.specs.State.{changes}
use Rattle.mailbox_state.specs.declared.state.Changes.{Changes}

-- The first of a list that waits, where the list's first is connector c; 0 if none waits.
unfoldable pub lowest_from : ℕ → List Bool → ℕ
lowest_from c [] = 0
lowest_from c (true ∷ waiting) = c
lowest_from c (false ∷ waiting) = lowest_from (suc c) waiting

abbrev pub lowest_of : List Bool → ℕ
lowest_of waiting = lowest_from 1 waiting

-- Connector c waits, or waits no more; there is no connector 0, and none above 8.
unfoldable pub marked_of : List Bool → ℕ → Bool → List Bool
marked_of waiting c waits = pick (eqb c 0) waiting (pick (ltb connectors_most c) waiting (set waiting (c - 1) waits))

-- With none shown, a change becomes the shown one. The same connector waits once; a new change on the one shown waits like any other.
unfoldable pub noted_of : Changes → ℕ → Changes
noted_of now c = pick (eqb now.shown 0) (record now { shown = c }) (record now { waiting = marked_of now.waiting c true })

-- The one shown is acknowledged: then the lowest waiting one is shown.
unfoldable pub next_shown_of : Changes → Changes
next_shown_of now = changes (lowest_of now.waiting) (marked_of now.waiting (lowest_of now.waiting) false)

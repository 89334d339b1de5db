-- What holds in every session that calls lead to: the accepted blocks, in order, are the first bytes of the image, and the counts are theirs.
use Prim.Native.Nat.{ℕ, ◌*◌, ◌<◌, ◌≤◌}
use mathlib.Core.Bool.{Bool, false}
use mathlib.Core.Path.{◌≡◌, refl}
use mathlib.Core.List.{List, [], ◌∷◌}
use native.Mathlib.Omega.{arith}
use borrow.Author.Tests.{ltb-false}
use lib.Dec.{ltb}
use lib.ListN.{length, take, length-append}
use Rattle.receiver_state.specs.declared.phase.Accepted.{Accepted}
use Rattle.receiver_state.specs.declared.phase.Phase.{Phase}
use Rattle.receiver_state.specs.declared.phase.Phase.TheVariants.{Idle, Transfer, Await, Good}
use Rattle.receiver_state.specs.Phase.{nothing_accepted}
use Rattle.receiver_rules.specs.Decide.{receiver_progress}
use Rattle.receiver_rules.specs.History.{in_order, forgets}

abbrev pub Whole : List (List ℕ) → Type 0
Whole [] = Unit
Whole (block ∷ taken) = (length block ≡ 256) × Whole taken

-- All are 256 bytes but the newest, which holds at least one.
abbrev pub Sizes : List (List ℕ) → Type 0
Sizes [] = Unit
Sizes (block ∷ taken) = (0 < length block) × (length block ≤ 256) × Whole taken

abbrev pub short_of : List (List ℕ) → Bool
short_of [] = false
short_of (block ∷ taken) = ltb (length block) 256

pub record Counts (capacity : ℕ) (a : Accepted) (image : List ℕ) (taken : List (List ℕ)) : Type 0 where
  pub blocks : a.blocks ≡ length taken
  pub bytes : a.bytes ≡ length (in_order taken)
  pub front : take a.bytes image ≡ in_order taken
  pub sizes : Sizes taken
  pub few : a.blocks ≤ 4096
  pub room : a.bytes ≤ capacity

abbrev pub Held : ℕ → List ℕ → List (List ℕ) → Phase → Type 0
Held capacity image taken Idle = taken ≡ []
Held capacity image taken (Transfer p) = Counts capacity p.accepted image taken × (p.short ≡ short_of taken)
Held capacity image taken (Await a) = Counts capacity a image taken × (0 < a.blocks)
Held capacity image taken (Good a) = Counts capacity a image taken × (0 < a.blocks)

pub whole_bytes : (taken : List (List ℕ)) → Whole taken → length (in_order taken) ≡ 256 * length taken
whole_bytes [] h = refl
whole_bytes (block ∷ taken) h =
    let l = length-append (in_order taken) block in
    let r = whole_bytes taken h.1 in
    let s = h.0 in
    omega arith

-- Where the newest is not short, all are 256 bytes.
pub not_short : (taken : List (List ℕ)) → Sizes taken → short_of taken ≡ false → Whole taken
not_short [] h e = tt
not_short (block ∷ taken) h e =
    let most = h.1 in
    let least = ltb-false (length block) 256 e in
    (omega arith, h.2)

pub nothing_counts : (capacity : ℕ) (image : List ℕ) (taken : List (List ℕ)) → taken ≡ [] → Counts capacity nothing_accepted image taken
nothing_counts capacity image taken e = rw e (record { blocks = refl; bytes = refl; front = refl; sizes = tt; few = omega arith; room = omega arith })

pub nothing_held : (capacity : ℕ) (image : List ℕ) (taken : List (List ℕ)) → taken ≡ [] → Held capacity image taken (Transfer (receiver_progress nothing_accepted false))
nothing_held capacity image taken e = (nothing_counts capacity image taken e, rw e refl)

pub none_taken : (taken : List (List ℕ)) → length taken ≡ 0 → taken ≡ []
none_taken [] h = refl
none_taken (block ∷ taken) h = absurd (omega arith)

pub forgets_held : (capacity : ℕ) (image : List ℕ) (taken : List (List ℕ)) (phase : Phase) → Held capacity image taken phase → Held capacity image (forgets phase taken) phase
forgets_held capacity image taken Idle h = refl
forgets_held capacity image taken (Transfer p) h = h
forgets_held capacity image taken (Await a) h = h
forgets_held capacity image taken (Good a) h = h

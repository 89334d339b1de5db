-- A piece is added where there is room for it, and left out where there is none.
use Prim.Native.Nat.{ℕ, ◌+◌, ◌≤◌}
use mathlib.Core.Bool.{Bool, true, false}
use mathlib.Core.List.{List}
use mathlib.Core.Path.{◌≡◌, refl, sym, ◌∙◌, ap}
use borrow.Author.Tests.{ltb-false}
use lib.Dec.{ltb}
use lib.ListN.{length}
use Rattle.basis.specs.Pick.{pick, pick_yes, pick_no}
use Rattle.basis.specs.Left.{Left, left}
use Rattle.lent.specs.Put.{Placed, no_room, stored, pasted, put_of}
use Rattle.saying.specs.Said.{said, appended_of}

module _ (d : List ℕ) (at : ℕ) (s : List ℕ) where
  abbrev put : Bool → Left Placed
  put passes = pick passes (left no_room d) (left stored (pasted d at s))

  has_room : (passes : Bool) → (put passes).answer ≡ stored → passes ≡ false
  unfolding pick
  has_room true e = cc
  has_room false e = refl

  no_room_for : (passes : Bool) → (put passes).answer ≡ no_room → passes ≡ true
  unfolding pick
  no_room_for true e = refl
  no_room_for false e = cc

  module _ (x : Left Placed) (is : x ≡ put_of d at s) where
    answer : x.answer ≡ (put_of d at s).answer
    answer = ap (λ (y : Left Placed). y.answer) is

    fits : x.answer ≡ stored → ltb (length d) (at + length s) ≡ false
    unfolding put_of
    fits e = has_room (ltb (length d) (at + length s)) (sym answer ∙ e)

    pub stored_fits : x.answer ≡ stored → at + length s ≤ length d
    stored_fits e = ltb-false (length d) (at + length s) (fits e)

    pub text_added : x.answer ≡ stored → said (at + length s) x.memory ≡ appended_of (said at d) s
    unfolding put_of appended_of
    text_added e =
        ap (λ (y : Left Placed). said (at + length s) y.memory) (is ∙ pick_no _ (left no_room d) (left stored (pasted d at s)) (fits e))
        ∙ sym (pick_no _ (said at d) (said (at + length s) (pasted d at s)) (fits e))

    pub text_kept : x.answer ≡ no_room → said at d ≡ appended_of (said at d) s
    unfolding put_of appended_of
    text_kept e = sym (pick_yes _ (said at d) (said (at + length s) (pasted d at s)) (no_room_for (ltb (length d) (at + length s)) (sym answer ∙ e)))

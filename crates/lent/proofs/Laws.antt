-- What `put` leaves, said of its parts: for callers that know whether there is room.
use Prim.Native.Nat.{ℕ, ◌+◌, ◌<◌, ◌≤◌}
use mathlib.Core.Path.{◌≡◌, refl, ◌∙◌}
use mathlib.Core.List.{List, ◌++◌}
use native.Mathlib.Nat.{zero-add}
use native.Mathlib.Omega.{arith}
use borrow.Author.Tests.{ltb-false}
use lib.ListN.{length, take, drop, length-append, length-take, length-drop}
use lib.Dec.{ltb}
use lib.Seq.{take_at, drop_at, length-take-le, drop-drop, take-append_seam, drop-append-add}
use Rattle.basis.specs.Pick.{tests, pick_all}
use Rattle.basis.specs.Left.{Left, left}
use Rattle.lent.specs.Put.{Placed, stored, no_room, pasted, put_of}
use Rattle.lent.specs.Written.{written_into}

pub put_fits : (d : List ℕ) (at : ℕ) (s : List ℕ) → at + length s ≤ length d → put_of d at s ≡ left stored (pasted d at s)
unfolding put_of
put_fits d at s h = simp tests

pub put_passes : (d : List ℕ) (at : ℕ) (s : List ℕ) → length d < at + length s → put_of d at s ≡ left no_room d
unfolding put_of
put_passes d at s h = simp tests

-- A message put at the start of a buffer is its first bytes, and the rest is kept.
pub put_leads : (s d : List ℕ) → length s ≤ length d → put_of d 0 s ≡ left stored (written_into s d)
put_leads s d h = put_fits d 0 s (simp zero-add h) ∙ simp zero-add

-- Up to the part's end lie what was before the place and the part, and behind it all is as it was.
module _ (d : List ℕ) (at : ℕ) (s : List ℕ) (h : at ≤ length d) where
  pub pasted_there : take (at + length s) (pasted d at s) ≡ take at d ++ s
  pasted_there =
      let e = length-take-le at d h in
      take_at (take at d ++ s) (drop (at + length s) d) (at + length s) (simp length-append (omega arith))

  pub pasted_behind : drop (at + length s) (pasted d at s) ≡ drop (at + length s) d
  pasted_behind =
      let e = length-take-le at d h in
      drop_at (take at d ++ s) (drop (at + length s) d) (at + length s) (simp length-append (omega arith))

-- Lent memory is neither longer nor shorter afterwards.
pub pasted_length : (d : List ℕ) (at : ℕ) (s : List ℕ) → at + length s ≤ length d → length (pasted d at s) ≡ length d
pasted_length d at s h = simp (length-append, length-take, length-drop) (omega arith)

pub put_length : (d : List ℕ) (at : ℕ) (s : List ℕ) → length (put_of d at s).memory ≡ length d
unfolding put_of
put_length d at s =
    pick_all (λ (x : Left Placed). length x.memory ≡ length d) (ltb (length d) (at + length s)) _ _
    (λ _. refl)
    (λ f. pasted_length d at s (ltb-false (length d) (at + length s) f))

-- A head, and then a block put behind it, are one message in the first bytes of the buffer.
pub two_written : (h b d : List ℕ) → length h + length b ≤ length d → put_of (written_into h d) (length h) b ≡ left stored (written_into (h ++ b) d)
two_written h b d k =
    let l : length (written_into h d) ≡ length d = simp (length-append, length-drop) (omega arith) in
    let front : take (length h) (written_into h d) ≡ h = take-append_seam h (drop (length h) d) in
    let rest : drop (length h + length b) (written_into h d) ≡ drop (length (h ++ b)) d =
    drop-append-add h (drop (length h) d) (length b) ∙ simp (drop-drop, length-append) in
    put_fits (written_into h d) (length h) b (omega arith) ∙ rw (front, rest)

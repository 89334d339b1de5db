-- What is read at a place depends neither on the bytes before the place nor on those after the record.
use Prim.Native.Nat.{ℕ, ◌+◌, ◌-◌, ◌<◌, ◌≤◌}
use mathlib.Core.Bool.{Bool, true, false}
use mathlib.Core.Path.{◌≡◌, refl, sym, ◌∙◌, ap, subst}
use mathlib.Core.List.{List, ◌++◌}
use native.Mathlib.Nat.{add_assoc, add-zero, sub-zero}
use native.Mathlib.Omega.{arith}
use borrow.Author.Tests.{le-leb, lt-leb, leb-true, leb-false}
use lib.Dec.{eqb, ltb, leb}
use lib.ListN.{length, take, drop, length-drop, length-append, get_or-append}
use lib.Seq.{get_or-drop, drop-drop, drop-append-le, take-append-le}
use Rattle.basis.specs.Pick.{pick}
use Rattle.basis.specs.Lists.{tail_all}
use Rattle.basis.specs.Bytes.{byte_at}
use Rattle.recording.specs.Reading.{found, control_at, change_at, next_record_of}
use Rattle.recording.proofs.Cases.{next_all}
use Rattle.recording.proofs.ByKind.{kind_1, kind_2, kind_3, kind_4, kind_unknown}
use Rattle.recording.specs.declared.record.Record.{Record}
use Rattle.recording.specs.declared.record.Record.TheVariants.{Control, Success, Failure}
use Rattle.recording.specs.declared.reader.Ending.TheVariants.{Whole, Cut, UnknownKind}
use Rattle.std.specs.Prelude.{Result, Ok, Err}
use Rattle.recording.specs.declared.reader.Found.{Found}
use Rattle.recording.specs.declared.reader.Ending.{Ending}

-- The same record, with the place after it moved by n.
abbrev pub moved : ℕ → Result Found Ending → Result Found Ending
moved by (Ok f) = found f.«record» (by + f.next)
moved by (Err e) = Err e

-- What is read, one test after the other: at the end, of each of the four kinds, and cut for the first three.
rows : Bool → Bool → Bool → Bool → Bool → Bool → Bool → Bool → ℕ → Record → Record → Record → Result Found Ending
rows end one two three four cut-one cut-two cut-three at x y z =
    pick end (Err Whole)
    (pick one (pick cut-one (Err Cut) (found x (at + 9)))
    (pick two (pick cut-two (Err Cut) (found y (at + 4)))
    (pick three (pick cut-three (Err Cut) (found z (at + 2)))
    (pick four (found Failure (at + 1))
    (Err UnknownKind)))))

moved_rows : (e a b c d f g h : Bool) (at : ℕ) (x y z : Record) → moved at (rows e a b c d f g h 0 x y z) ≡ rows e a b c d f g h at x y z
unfolding rows pick
moved_rows true a b c d f g h at x y z = refl
moved_rows false true b c d true g h at x y z = refl
moved_rows false true b c d false g h at x y z = refl
moved_rows false false true c d f true h at x y z = refl
moved_rows false false true c d f false h at x y z = refl
moved_rows false false false true d f g true at x y z = refl
moved_rows false false false true d f g false at x y z = refl
moved_rows false false false false true f g h at x y z = refl
moved_rows false false false false false f g h at x y z = refl

module _ (s : List ℕ) (at : ℕ) where
  byte_moved : (i : ℕ) → byte_at (drop at s) i ≡ byte_at s (at + i)
  byte_moved i = get_or-drop at s i 0

  end_moved : leb (length (drop at s)) 0 ≡ leb (length s) at
  end_moved = tested (leb (length s) at) refl
    where
      tested : (t : Bool) → leb (length s) at ≡ t → leb (length (drop at s)) 0 ≡ leb (length s) at
      tested true e = let h = leb-true (length s) at e in le-leb (length (drop at s)) 0 (simp length-drop (omega arith)) ∙ sym e
      tested false e = let h = leb-false (length s) at e in lt-leb (length (drop at s)) 0 (simp length-drop (omega arith)) ∙ sym e

  further : (i j : ℕ) → byte_at (drop at s) (i + j) ≡ byte_at s (at + i + j)
  further i j = byte_moved (i + j) ∙ ap (byte_at s) (sym (add_assoc at i j))

  control_moved : control_at (drop at s) 1 ≡ control_at s (at + 1)
  control_moved = ap (λ (l : List ℕ). Control (take 8 l)) (drop-drop 1 at s)

  change_moved : change_at (drop at s) 1 ≡ change_at s (at + 1)
  change_moved = rw (byte_moved 1, further 1 1, further 1 2)

  pub next_drop : next_record_of s at ≡ moved at (next_record_of (drop at s) 0)
  unfolding next_record_of rows
  next_drop =
      let first : byte_at (drop at s) 0 ≡ byte_at s at = byte_moved 0 ∙ ap (byte_at s) (add-zero at) in
      let left : length (drop at s) - 0 ≡ length s - at = sub-zero (length (drop at s)) ∙ length-drop at s in
      sym (rw (end_moved, first, left, control_moved, change_moved, byte_moved 1)
      (moved_rows (leb (length s) at) (eqb (byte_at s at) 1) (eqb (byte_at s at) 2) (eqb (byte_at s at) 3) (eqb (byte_at s at) 4)
      (ltb (length s - at) 9) (ltb (length s - at) 4) (ltb (length s - at) 2) at
      (control_at s (at + 1)) (change_at s (at + 1)) (Success (byte_at s (at + 1)))))

-- Read at the start of the bytes from the place on.
pub next_from : (s rest : List ℕ) (at : ℕ) → rest ≡ take (length s - at) (drop at s) → (x : Result Found Ending) → x ≡ next_record_of rest 0 → moved at x ≡ next_record_of s at
next_from s rest at r x e = sym (next_drop s at ∙ ap (moved at) (ap (λ (l : List ℕ). next_record_of l 0) (sym (r ∙ tail_all at s)) ∙ sym e))

-- A record that is found is found there whatever follows, and an unknown kind stays unknown.
module _ (s t : List ℕ) (at : ℕ) where
  Stays : Result Found Ending → Type 0
  Stays (Ok f) = next_record_of (s ++ t) at ≡ Ok f
  Stays (Err Whole) = Unit
  Stays (Err Cut) = Unit
  Stays (Err UnknownKind) = next_record_of (s ++ t) at ≡ Err UnknownKind

  same : (i : ℕ) → i < length s → byte_at (s ++ t) i ≡ byte_at s i
  same i h = get_or-append s t 0 i h

  eight : at + 9 ≤ length s → take 8 (drop (at + 1) (s ++ t)) ≡ take 8 (drop (at + 1) s)
  eight h =
      let l = length-drop (at + 1) s in
      ap (take 8) (drop-append-le (at + 1) s t (omega arith)) ∙ take-append-le 8 (drop (at + 1) s) t (omega arith)

  next_stays : Stays (next_record_of s at)
  unfolding Stays
  next_stays = next_all Stays s at (λ _. tt) (λ _ _. tt)
      (λ h k. kind_unknown (s ++ t) at (simp length-append (omega arith)) (rw (same at h) k))
      (λ k h. kind_1 (s ++ t) at (same at (omega arith) ∙ k) (simp length-append (omega arith))
      ∙ ap (λ (c : List ℕ). found (Control c) (at + 9)) (eight h))
      (λ k h. kind_2 (s ++ t) at (same at (omega arith) ∙ k) (simp length-append (omega arith))
      ∙ rw (same (at + 1) (omega arith), same (at + 1 + 1) (omega arith), same (at + 1 + 2) (omega arith)))
      (λ k h. kind_3 (s ++ t) at (same at (omega arith) ∙ k) (simp length-append (omega arith)) ∙ rw (same (at + 1) (omega arith)))
      (λ k h. kind_4 (s ++ t) at (same at (omega arith) ∙ k) (simp length-append (omega arith)))

  pub found_stays : (r : Record) (next : ℕ) → next_record_of s at ≡ found r next → next_record_of (s ++ t) at ≡ found r next
  unfolding Stays
  found_stays r next e = subst Stays e next_stays

  pub unknown_stays : next_record_of s at ≡ Err UnknownKind → next_record_of (s ++ t) at ≡ Err UnknownKind
  unfolding Stays
  unknown_stays e = subst Stays e next_stays

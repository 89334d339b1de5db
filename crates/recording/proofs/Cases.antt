-- What is read at a place, case by case, and how far it reaches (01, Replay program).
use Prim.Native.Nat.{ℕ, zero, suc, ◌+◌, ◌-◌, ◌<◌, ◌≤◌}
use mathlib.Core.Logic.{◌⊎◌, inl, inr}
use mathlib.Core.Path.{◌≡◌, refl, subst}
use mathlib.Core.List.{List}
use native.Mathlib.Omega.{arith}
use borrow.Author.Tests.{ltb-true, ltb-false, leb-true, leb-false, eqb-true, eqb-false}
use lib.Dec.{eqb, ltb, leb}
use lib.ListN.{length, take, drop, length-drop}
use lib.Seq.{length-take-le}
use Rattle.basis.specs.Pick.{pick_all}
use Rattle.basis.specs.Bytes.{byte_at}
use Rattle.recording.specs.Reading.{found, control_at, change_at, whole, next_record_of}
use Rattle.recording.specs.Record.{Eight}
use Rattle.recording.specs.Writing.{record_bytes_of}
use Rattle.recording.specs.declared.record.Record.{Record}
use Rattle.recording.specs.declared.record.Record.TheVariants.{Success, Failure}
use Rattle.recording.specs.declared.reader.Ending.TheVariants.{Whole, Cut, UnknownKind}
use Rattle.std.specs.Prelude.{Result, Ok, Err}
use Rattle.recording.specs.declared.reader.Found.{Found}
use Rattle.recording.specs.declared.reader.Ending.{Ending}

-- A byte that is none of the paper's four kinds.
abbrev pub Strange : ℕ → Type 0
Strange kind = (kind ≡ 0) ⊎ (4 < kind)

strange : (kind : ℕ) → (kind ≡ 1 → ⊥) → (kind ≡ 2 → ⊥) → (kind ≡ 3 → ⊥) → (kind ≡ 4 → ⊥) → Strange kind
strange zero a b c d = inl refl
strange (suc zero) a b c d = absurd (a refl)
strange (suc (suc zero)) a b c d = absurd (b refl)
strange (suc (suc (suc zero))) a b c d = absurd (c refl)
strange (suc (suc (suc (suc zero)))) a b c d = absurd (d refl)
strange (suc (suc (suc (suc (suc n))))) a b c d = inr (omega arith)

-- A property holds of what is read if it holds in each case: at the end, of a known kind that is whole, of one that is cut, of an unknown kind.
pub next_all : (P : Result Found Ending → Type 0) (s : List ℕ) (at : ℕ)
    → (length s ≤ at → P (Err Whole))
    → (at < length s → length s < at + 9 → P (Err Cut))
    → (at < length s → Strange (byte_at s at) → P (Err UnknownKind))
    → (byte_at s at ≡ 1 → at + 9 ≤ length s → P (found (control_at s (at + 1)) (at + 9)))
    → (byte_at s at ≡ 2 → at + 4 ≤ length s → P (found (change_at s (at + 1)) (at + 4)))
    → (byte_at s at ≡ 3 → at + 2 ≤ length s → P (found (Success (byte_at s (at + 1))) (at + 2)))
    → (byte_at s at ≡ 4 → at + 1 ≤ length s → P (found Failure (at + 1)))
    → P (next_record_of s at)
unfolding next_record_of
next_all P s at end cut unknown control change success failure =
    pick_all P (leb (length s) at) _ _ (λ t. end (leb-true (length s) at t))
    (λ t. let h = leb-false (length s) at t in
    pick_all P (eqb (byte_at s at) 1) _ _
    (λ k. sized 9 (control_at s (at + 1)) (omega arith) (control (eqb-true (byte_at s at) 1 k)) h)
    (λ a. pick_all P (eqb (byte_at s at) 2) _ _
    (λ k. sized 4 (change_at s (at + 1)) (omega arith) (change (eqb-true (byte_at s at) 2 k)) h)
    (λ b. pick_all P (eqb (byte_at s at) 3) _ _
    (λ k. sized 2 (Success (byte_at s (at + 1))) (omega arith) (success (eqb-true (byte_at s at) 3 k)) h)
    (λ c. pick_all P (eqb (byte_at s at) 4) _ _
    (λ k. failure (eqb-true (byte_at s at) 4 k) (omega arith))
    (λ d. unknown h (strange (byte_at s at) (eqb-false (byte_at s at) 1 a) (eqb-false (byte_at s at) 2 b) (eqb-false (byte_at s at) 3 c) (eqb-false (byte_at s at) 4 d)))))))
  where
    sized : (size : ℕ) (r : Record) → size ≤ 9 → (at + size ≤ length s → P (found r (at + size))) → at < length s → P (whole s at size r)
    sized size r most found h = pick_all P (ltb (length s - at) size) _ _ (λ u. let k = ltb-true (length s - at) size u in cut h (omega arith))
        (λ u. let k = ltb-false (length s - at) size u in found (omega arith))

-- A record that is found has at least one byte and ends within the recording, and the place after it is that end.
abbrev pub Past : List ℕ → ℕ → Result Found Ending → Type 0
Past s at (Ok f) = (f.next ≡ at + length (record_bytes_of f.«record»)) × (at < f.next) × (f.next ≤ length s)
Past s at (Err e) = Unit

pub next_past : (s : List ℕ) (at : ℕ) → Past s at (next_record_of s at)
unfolding record_bytes_of
next_past s at =
    next_all (Past s at) s at (λ _. tt) (λ _ _. tt) (λ _ _. tt)
    (λ _ h. let l = eight h in (omega arith, omega arith, h)) (λ _ h. (refl, omega arith, h)) (λ _ h. (refl, omega arith, h)) (λ _ h. (refl, omega arith, h))
  where
    eight : at + 9 ≤ length s → length (take 8 (drop (at + 1) s)) ≡ 8
    eight h = length-take-le 8 (drop (at + 1) s) (simp length-drop (omega arith))

pub found_past : (s : List ℕ) (at : ℕ) (r : Record) (next : ℕ) → next_record_of s at ≡ found r next → Past s at (found r next)
found_past s at r next e = subst (Past s at) e (next_past s at)

-- A record of CONTROL that is found has its eight bytes.
abbrev pub FoundEight : Result Found Ending → Type 0
FoundEight (Ok f) = Eight f.«record»
FoundEight (Err e) = Unit

pub next_eight : (s : List ℕ) (at : ℕ) → FoundEight (next_record_of s at)
next_eight s at =
    next_all FoundEight s at (λ _. tt) (λ _ _. tt) (λ _ _. tt)
    (λ _ h. length-take-le 8 (drop (at + 1) s) (simp length-drop (omega arith))) (λ _ _. tt) (λ _ _. tt) (λ _ _. tt)

-- After a whole recording no byte is left, and of a cut record at most 8 bytes are: the longest record has 9.
abbrev pub Short : List ℕ → ℕ → Result Found Ending → Type 0
Short s at (Ok f) = Unit
Short s at (Err Whole) = length s - at ≤ 0
Short s at (Err Cut) = length s - at ≤ 8
Short s at (Err UnknownKind) = Unit

pub next_short : (s : List ℕ) (at : ℕ) → Short s at (next_record_of s at)
next_short s at =
    next_all (Short s at) s at (λ h. omega arith) (λ h k. omega arith) (λ _ _. tt)
    (λ _ _. tt) (λ _ _. tt) (λ _ _. tt) (λ _ _. tt)

-- What is written reads back, and what is read was written so (01, Replay program).
use Prim.Native.Nat.{ℕ, ◌+◌, ◌/◌, ◌%◌}
use mathlib.Core.Path.{◌≡◌, refl, sym, ◌∙◌, ap, subst}
use mathlib.Core.List.{List, ◌∷◌, ◌++◌}
use native.Mathlib.Omega.{arith}
use lib.ListN.{length, take, drop, length-append, take-append-drop}
use lib.Seq.{take_at, drop-append_seam, drop-drop, get_or-drop}
use Rattle.basis.specs.Lists.{spell, spelled}
use Rattle.basis.specs.Bytes.{byte_at, Bytes}
use Rattle.recording.specs.Reading.{found, next_record_of, pair_of}
use Rattle.recording.specs.Record.{Eight}
use Rattle.recording.specs.Writing.{record_bytes_of}
use Rattle.recording.proofs.ByKind.{kind_1, kind_2, kind_3, kind_4}
use Rattle.recording.proofs.Moved.{moved, next_drop}
use Rattle.recording.proofs.Cases.{next_all}
use Rattle.recording.specs.declared.record.Record.{Record}
use Rattle.recording.specs.declared.record.Record.TheVariants.{Control, Change, Success, Failure}
use Rattle.std.specs.Prelude.{Result, Ok, Err}
use Rattle.recording.specs.declared.reader.Found.{Found}
use Rattle.recording.specs.declared.reader.Ending.{Ending}

-- The two bytes of a reason, low byte first, are the reason.
halves : (reason : ℕ) → pair_of (reason % 256) (reason / 256) ≡ reason
halves reason = omega arith

pub read_back : (r : Record) → Eight r → (behind : List ℕ) → next_record_of (record_bytes_of r ++ behind) 0 ≡ found r (length (record_bytes_of r))
unfolding record_bytes_of
read_back (Control c) eight behind =
    let size : length (c ++ behind) ≡ 8 + length behind = simp length-append (omega arith) in
    kind_1 (record_bytes_of (Control c) ++ behind) 0 refl (omega arith) ∙ rw (take_at c behind 8 eight, eight)
read_back (Change connector reason) eight behind = kind_2 (record_bytes_of (Change connector reason) ++ behind) 0 refl (omega arith) ∙ rw (halves reason)
read_back (Success n) eight behind = kind_3 (record_bytes_of (Success n) ++ behind) 0 refl (omega arith)
read_back Failure eight behind = kind_4 (record_bytes_of Failure ++ behind) 0 refl (omega arith)

-- The same at any place of a recording.
pub written_reads : (before : List ℕ) (r : Record) → Eight r → (behind : List ℕ)
    → next_record_of (before ++ (record_bytes_of r ++ behind)) (length before) ≡ found r (length before + length (record_bytes_of r))
written_reads before r eight behind =
    next_drop (before ++ (record_bytes_of r ++ behind)) (length before)
    ∙ ap (λ (s : List ℕ). moved (length before) (next_record_of s 0)) (drop-append_seam before (record_bytes_of r ++ behind))
    ∙ ap (moved (length before)) (read_back r eight behind)

-- A record's bytes are consumed exactly: from its place on the recording has the record's own bytes, and then what follows it.
abbrev pub Consumes : List ℕ → ℕ → Result Found Ending → Type 0
Consumes s at (Ok f) = drop at s ≡ record_bytes_of f.«record» ++ drop f.next s
Consumes s at (Err e) = Unit

-- Read at the start, where every place is a number.
first : (s : List ℕ) → Bytes s → Consumes s 0 (next_record_of s 0)
unfolding record_bytes_of spell
first s b =
    next_all (Consumes s 0) s 0 (λ _. tt) (λ _ _. tt) (λ _ _. tt)
    (λ k h. spelled 0 1 s 0 1 refl (omega arith) ∙ rw k (ap (λ (l : List ℕ). 1 ∷ l) (sym (take-append-drop 8 (drop 1 s)) ∙ ap (λ (l : List ℕ). take 8 (drop 1 s) ++ l) (drop-drop 8 1 s))))
    (λ k h. let l = b 2 in let low : pair_of (byte_at s 2) (byte_at s 3) % 256 ≡ byte_at s 2 = omega arith in
    let high : pair_of (byte_at s 2) (byte_at s 3) / 256 ≡ byte_at s 3 = omega arith in
    spelled 0 4 s 0 4 refl h ∙ rw (k, low, high))
    (λ k h. spelled 0 2 s 0 2 refl h ∙ rw k)
    (λ k h. spelled 0 1 s 0 1 refl h ∙ rw k)

pub consumed : (s : List ℕ) (at : ℕ) → Bytes s → Consumes s at (next_record_of s at)
consumed s at b =
    subst (Consumes s at) (sym (next_drop s at))
    (onward (next_record_of (drop at s) 0) (first (drop at s) (λ i. rw (get_or-drop at s i 0) (b (at + i)))))
  where
    onward : (x : Result Found Ending) → Consumes (drop at s) 0 x → Consumes s at (moved at x)
    onward (Ok f) e = e ∙ ap (λ (l : List ℕ). record_bytes_of f.«record» ++ l) (drop-drop f.next at s)
    onward (Err ending) e = tt

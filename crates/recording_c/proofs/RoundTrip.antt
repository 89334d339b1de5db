-- A record that is written and read back gives the same numbers, and what is read is written again as it stood (include/harsolvek.h).
use Prim.Native.Nat.{ℕ, suc, ◌+◌, ◌-◌, ◌≤◌}
use mathlib.Core.Path.{◌≡◌, refl, ◌∙◌, ap, subst}
use mathlib.Core.List.{List, ◌++◌}
use native.Mathlib.Omega.{arith}
use lib.ListN.{length, take, drop}
use lib.Seq.{take-append_seam, take_at}
use Rattle.basis.specs.Bytes.{Bytes}
use Rattle.basis.specs.Pick.{pick}
use Rattle.recording.specs.Reading.{found, next_record_of}
use Rattle.recording.specs.Record.{Eight}
use Rattle.recording.specs.Writing.{record_bytes_of}
use Rattle.recording.specs.declared.record.Record.{Record}
use Rattle.recording.specs.declared.record.Record.TheVariants.{Control, Change, Success, Failure}
use Rattle.recording.proofs.Cases.{found_past}
use Rattle.recording.proofs.RoundTrip.{written_reads, Consumes, consumed}
use Rattle.recording_c.specs.Reads.{numbers, zeros, numbers_of, reading, reading_of, harsolvek_record_read}
use Rattle.recording_c.specs.Writes.{Wrote, wrote, given_of, harsolvek_record_write}
use Rattle.recording_c.specs.declared.read_call.Reading.{Reading}
use Rattle.std.specs.Prelude.{Some}
use Rattle.recording_c.proofs.WriteRows.{known_written}

-- The bytes that a call wrote, as a part of a recording.
abbrev pub within : List ℕ → Wrote → List ℕ → List ℕ
within before w behind = before ++ (take w.written w.out ++ behind)

module _ (reason connector bytes : ℕ) (control out : List ℕ) (h : 9 ≤ length out) (before behind : List ℕ) where
  -- What is read where the bytes that were written begin.
  abbrev pub Back : ℕ → Reading
  Back kind = harsolvek_record_read (within before (harsolvek_record_write kind reason connector bytes control out) behind) (length before)

  known_back : (kind : ℕ) (r : Record) → Eight r → given_of kind reason connector bytes control ≡ Some r → Back kind ≡ reading 0 (numbers_of r) (length before + length (record_bytes_of r))
  unfolding reading_of
  known_back kind r formed known =
      ap (λ (w : Wrote). harsolvek_record_read (within before w behind) (length before)) (known_written reason connector bytes control out h kind r known)
      ∙ ap (λ (front : List ℕ). harsolvek_record_read (before ++ (front ++ behind)) (length before)) (take-append_seam (record_bytes_of r) (drop (length (record_bytes_of r)) out))
      ∙ ap (reading_of (length before)) (written_reads before r formed behind)

  pub control_back : length control ≡ 8 → Back 1 ≡ reading 0 (numbers 1 0 0 0 control) (length before + 9)
  unfolding given_of pick record_bytes_of numbers_of
  control_back eight = known_back 1 (Control control) eight refl ∙ ap (λ (n : ℕ). reading 0 (numbers 1 0 0 0 control) (length before + suc n)) eight

  pub change_back : Back 2 ≡ reading 0 (numbers 2 reason connector 0 zeros) (length before + 4)
  unfolding given_of pick record_bytes_of numbers_of
  change_back = known_back 2 (Change connector reason) tt refl

  pub success_back : Back 3 ≡ reading 0 (numbers 3 0 0 bytes zeros) (length before + 2)
  unfolding given_of pick record_bytes_of numbers_of
  success_back = known_back 3 (Success bytes) tt refl

  pub failure_back : Back 4 ≡ reading 0 (numbers 4 0 0 0 zeros) (length before + 1)
  unfolding given_of pick record_bytes_of numbers_of
  failure_back = known_back 4 Failure tt refl

-- A record's numbers are that record's.
pub numbers_given : (r : Record) → let n = numbers_of r in given_of n.kind n.reason n.connector n.length n.control ≡ Some r
unfolding numbers_of given_of pick
numbers_given (Control c) = refl
numbers_given (Change connector reason) = refl
numbers_given (Success bytes) = refl
numbers_given Failure = refl

-- What was found in a recording is written as the bytes that stand there.
pub written_again : (s : List ℕ) (at : ℕ) → Bytes s → (r : Record) (next : ℕ) → next_record_of s at ≡ found r next → (out : List ℕ) → 9 ≤ length out
    → let n = numbers_of r in harsolvek_record_write n.kind n.reason n.connector n.length n.control out ≡ wrote 0 (next - at) (take (next - at) (drop at s) ++ drop (next - at) out)
written_again s at small r next found out h =
    let n = numbers_of r in
    let past = found_past s at r next found in
    let size : length (record_bytes_of r) ≡ next - at = omega (arith, past.0) in
    let eats : drop at s ≡ record_bytes_of r ++ drop next s = subst (Consumes s at) found (consumed s at small) in
    let front : take (next - at) (drop at s) ≡ record_bytes_of r = rw eats (take_at (record_bytes_of r) (drop next s) (next - at) size) in
    known_written n.reason n.connector n.length n.control out h n.kind r (numbers_given r) ∙ rw (size, front)

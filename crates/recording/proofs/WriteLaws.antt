-- What the writer leaves (01, Numbers we answer).
use Prim.Native.Nat.{ℕ, ◌<◌, ◌≤◌}
use mathlib.Core.Path.{◌≡◌, refl, sym, ◌∙◌, ap}
use native.Mathlib.Omega.{arith}
use mathlib.Core.List.{List, ◌++◌}
use borrow.Author.Tests.{lt-ltb, le-ltb}
use lib.ListN.{length, drop}
use Rattle.basis.specs.Pick.{pick_yes, pick_no}
use Rattle.basis.specs.Left.{left}
use Rattle.recording.specs.Reading.{found, next_record_of}
use Rattle.recording.specs.Writing.{record_bytes_of, fitted_of, too_short, record_write_of, record_write_number_of}
use Rattle.recording.specs.Record.{Eight}
use Rattle.recording.proofs.RoundTrip.{read_back}
use Rattle.recording.proofs.Sizes.{record_sized}
use Rattle.recording.specs.declared.record.Record.{Record}
use Rattle.std.specs.Prelude.{Ok}

-- Under 9 bytes every record is refused with 27, also one that would fit, and the buffer is kept.
pub write_short : (r : Record) (out : List ℕ) → length out < 9 → record_write_of r out ≡ left too_short out
unfolding record_write_of
write_short r out h = pick_yes _ _ _ (lt-ltb (length out) 9 h)

pub short_27 : record_write_number_of too_short ≡ 27
short_27 = refl

pub whole_0 : (n : ℕ) → record_write_number_of (Ok n) ≡ 0
whole_0 n = refl

-- From 9 bytes on the record is written, and the bytes after its own are kept.
pub write_whole : (r : Record) (out : List ℕ) → 9 ≤ length out → record_write_of r out ≡ left (Ok (length (record_bytes_of r))) (record_bytes_of r ++ drop (length (record_bytes_of r)) out)
unfolding record_write_of
write_whole r out h = pick_no _ _ _ (le-ltb (length out) 9 h)

-- Reading back what was written gives the record again.
pub write_read : (r : Record) → Eight r → (out : List ℕ) → 9 ≤ length out → next_record_of (record_write_of r out).memory 0 ≡ found r (length (record_bytes_of r))
write_read r eight out h = ap (λ x. next_record_of x.memory 0) (write_whole r out h) ∙ read_back r eight (drop (length (record_bytes_of r)) out)

-- Where there is room for the longest record, every record's bytes fit.
pub fitted : (r : Record) → Eight r → (bytes out : List ℕ) → bytes ≡ record_bytes_of r → 9 ≤ length out → fitted_of bytes out ≡ record_write_of r out
unfolding fitted_of record_write_of
fitted r eight bytes out e h =
    let s = record_sized r eight in
    rw e (pick_no _ _ _ (le-ltb (length out) (length (record_bytes_of r)) (omega arith)) ∙ sym (pick_no _ _ _ (le-ltb (length out) 9 h)))

-- What writing a record leaves for C (include/harsolvek.h).
use Rattle.std.specs.Prelude.{ℕ, List, eqb, ltb, length, Option, Some, None, Result, Ok, Err}
use Rattle.basis.specs.Pick.{pick}
use Rattle.basis.specs.Left.{Left}
use Rattle.recording.specs.Writing.{room_least, record_write_of, record_write_number_of}
use Rattle.recording.specs.declared.record.Record.TheVariants.{Control, Change, Success, Failure}
use Rattle.recording.specs.declared.record.Record.{Record}
use Rattle.recording.specs.declared.writer.TooShort.{TooShort}

-- The number, how many bytes were written, and the output buffer.
pub record Wrote : Type 0 where
  pub number : ℕ
  pub written : ℕ
  pub out : List ℕ

abbrev pub wrote : ℕ → ℕ → List ℕ → Wrote
wrote number written out = record { number = number; written = written; out = out }

-- The record of a kind, whatever there is beside what the kind has.
unfoldable pub given_of : ℕ → ℕ → ℕ → ℕ → List ℕ → Option Record
given_of kind reason connector bytes control =
    pick (eqb kind 1) (Some (Control control))
    (pick (eqb kind 2) (Some (Change connector reason))
    (pick (eqb kind 3) (Some (Success bytes))
    (pick (eqb kind 4) (Some Failure)
    None)))

abbrev pub count_of : Result ℕ TooShort → ℕ
count_of (Ok n) = n
count_of (Err short) = 0

abbrev pub wrote_of : Left (Result ℕ TooShort) → Wrote
wrote_of x = wrote (record_write_number_of x.answer) (count_of x.answer) x.memory

abbrev pub wrote_given : Option Record → List ℕ → Wrote
wrote_given (Some r) out = wrote_of (record_write_of r out)
wrote_given None out = wrote 20 0 out

-- 27 under 9 bytes, whatever the record, then 20 for a kind that there is not.
unfoldable pub harsolvek_record_write : ℕ → ℕ → ℕ → ℕ → List ℕ → List ℕ → Wrote
harsolvek_record_write kind reason connector bytes control out =
    pick (ltb (length out) room_least) (wrote 27 0 out)
    (wrote_given (given_of kind reason connector bytes control) out)

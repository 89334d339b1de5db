-- What reading a record leaves for C (include/harsolvek.h).
use Rattle.std.specs.Prelude.{ℕ, List, replicate}
use Rattle.recording.specs.Reading.{next_record_of}
use Rattle.recording.specs.declared.record.Record.{Record}
use Rattle.recording.specs.declared.record.Record.TheVariants.{Control, Change, Success, Failure}
use Rattle.recording.specs.declared.reader.Ending.{Ending}
use Rattle.recording.specs.declared.reader.Ending.TheVariants.{Whole, Cut, UnknownKind}
use Rattle.recording_c.specs.declared.read_call.Numbers.{Numbers}
use Rattle.recording_c.specs.declared.read_call.Reading.{Reading}
use Rattle.std.specs.Prelude.{Result, Ok, Err}
use Rattle.recording.specs.declared.reader.Found.{Found}

abbrev pub numbers : ℕ → ℕ → ℕ → ℕ → List ℕ → Numbers
numbers kind reason connector length control = record { kind = kind; reason = reason; connector = connector; length = length; control = control }

abbrev pub zeros : List ℕ
zeros = replicate 8 0

abbrev pub no_numbers : Numbers
no_numbers = numbers 0 0 0 0 zeros

-- Its kind, and what the kind has; the rest is 0.
unfoldable pub numbers_of : Record → Numbers
numbers_of (Control c) = numbers 1 0 0 0 c
numbers_of (Change connector reason) = numbers 2 reason connector 0 zeros
numbers_of (Success length) = numbers 3 0 0 length zeros
numbers_of Failure = numbers 4 0 0 0 zeros

abbrev pub ending_number_of : Ending → ℕ
ending_number_of Whole = 1
ending_number_of Cut = 2
ending_number_of UnknownKind = 3

abbrev pub reading : ℕ → Numbers → ℕ → Reading
reading number numbers next = record { number = number; numbers = numbers; next = next }

-- A record that is found, and the place behind it; else all zero, and the place that was asked for.
unfoldable pub reading_of : ℕ → Result Found Ending → Reading
reading_of at (Ok f) = reading 0 (numbers_of f.«record») f.next
reading_of at (Err ending) = reading (ending_number_of ending) no_numbers at

abbrev pub harsolvek_record_read : List ℕ → ℕ → Reading
harsolvek_record_read s at = reading_of at (next_record_of s at)

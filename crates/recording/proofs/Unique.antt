-- Each public contract leaves one answer and one state of the lent memory. Written from the contracts by tools/contracts.
use Rattle.std.specs.Prelude.{List, ℕ, Result, ◌≡◌}
use Rattle.basis.specs.Left.{left}
use Rattle.basis.specs.Only.{only}
use Rattle.recording.specs.Reading.{next_record_of}
use Rattle.recording.specs.Writing.{record_write_of}
use Rattle.recording.specs.declared.reader.Ending.{Ending}
use Rattle.recording.specs.declared.reader.Found.{Found}
use Rattle.recording.specs.declared.record.Record.{Record}
use Rattle.recording.specs.declared.writer.TooShort.{TooShort}

pub one_next : (recording : List ℕ) (at : ℕ) (r r' : Result Found Ending)
    → r ≡ next_record_of recording at
    → r' ≡ next_record_of recording at
    → r ≡ r'
one_next recording at r r' is is' = only is is'

pub one_write : («record» : Record) (out : List ℕ) (r r' : Result ℕ TooShort) (out_left out_left' : List ℕ)
    → left r out_left ≡ record_write_of «record» out
    → left r' out_left' ≡ record_write_of «record» out
    → left r out_left ≡ left r' out_left'
one_write «record» out r r' out_left out_left' is is' = only is is'

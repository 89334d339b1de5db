-- A whole recording taken apart: its records, and why there is no further one after the last (01, Replay program).
use Rattle.std.specs.Prelude.{ℕ, zero, suc, List, [], ◌∷◌, ◌++◌, length, drop}
use Rattle.recording.specs.Reading.{next_record_of}
use Rattle.recording.specs.Writing.{record_bytes_of}
use Rattle.recording.specs.declared.record.Record.{Record}
use Rattle.recording.specs.declared.reader.Ending.{Ending}
use Rattle.recording.specs.declared.reader.Ending.TheVariants.{Whole}
use Rattle.std.specs.Prelude.{Result, Ok, Err}
use Rattle.recording.specs.declared.reader.Found.{Found}

pub record Apart : Type 0 where
  pub records : List Record
  pub ending : Ending

abbrev pub apart : List Record → Ending → Apart
apart records ending = record { records = records; ending = ending }

-- A record that was read at the start comes first, and `rest` takes the rest apart; where none is found it ends.
abbrev pub onward : (List ℕ → Apart) → List ℕ → Result Found Ending → Apart
onward rest s (Ok f) = apart (f.«record» ∷ (rest (drop f.next s)).records) (rest (drop f.next s)).ending
onward rest s (Err ending) = apart [] ending

-- One record a turn. A record has at least one byte, so that as many turns as there are bytes are enough.
unfoldable pub turns : ℕ → List ℕ → Apart
turns zero s = apart [] Whole
turns (suc left) s = onward (turns left) s (next_record_of s 0)

unfoldable pub apart_of : List ℕ → Apart
apart_of s = turns (length s) s

-- Records written one after the other.
abbrev pub written_of : List Record → List ℕ
written_of [] = []
written_of (r ∷ rs) = record_bytes_of r ++ written_of rs

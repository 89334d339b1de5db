-- A record as bytes, and what its writer leaves (01, Replay program; 01, Numbers we answer).
use Rattle.std.specs.Prelude.{ℕ, ◌/◌, ◌%◌, List, [], ◌∷◌, length, ltb, Result, Ok, Err}
use Rattle.basis.specs.Pick.{pick}
use Rattle.basis.specs.Left.{Left, left}
use Rattle.lent.specs.Written.{written_into}
use Rattle.numbers.specs.Number.{number_in}
use Rattle.recording.specs.declared.record.Record.{Record}
use Rattle.recording.specs.declared.record.Record.TheVariants.{Control, Change, Success, Failure}
use Rattle.recording.specs.declared.writer.TooShort.{TooShort}

unfoldable pub record_bytes_of : Record → List ℕ
record_bytes_of (Control c) = 1 ∷ c
record_bytes_of (Change connector reason) = 2 ∷ connector ∷ reason % 256 ∷ reason / 256 ∷ []
record_bytes_of (Success length) = 3 ∷ length ∷ []
record_bytes_of Failure = 4 ∷ []

-- The length of the longest record, CONTROL's.
abbrev pub room_least : ℕ
room_least = 9

abbrev pub too_short : Result ℕ TooShort
too_short = Err (record {})

-- Bytes that are written where there is room for them, and nothing else.
unfoldable pub fitted_of : List ℕ → List ℕ → Left (Result ℕ TooShort)
fitted_of bytes out = pick (ltb (length out) (length bytes)) (left too_short out) (left (Ok (length bytes)) (written_into bytes out))

-- 27 under 9 bytes, whatever the record, and the buffer is kept; else the record's own bytes, and nothing else, are written.
unfoldable pub record_write_of : Record → List ℕ → Left (Result ℕ TooShort)
record_write_of r out =
    pick (ltb (length out) room_least) (left too_short out)
    (left (Ok (length (record_bytes_of r))) (written_into (record_bytes_of r) out))

abbrev pub too_short_number_of : TooShort → ℕ
too_short_number_of short = 27

abbrev pub record_write_number_of : Result ℕ TooShort → ℕ
record_write_number_of done = number_in too_short_number_of done

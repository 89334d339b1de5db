-- The record at a place: one byte of kind, then the body (01, Replay program).
use Rattle.std.specs.Prelude.{ℕ, ◌+◌, ◌*◌, ◌-◌, List, length, take, drop, eqb, ltb, leb, Result, Ok, Err}
use Rattle.basis.specs.Bytes.{byte_at}
use Rattle.basis.specs.Pick.{pick}
use Rattle.recording.specs.declared.record.Record.{Record}
use Rattle.recording.specs.declared.record.Record.TheVariants.{Control, Change, Success, Failure}
use Rattle.recording.specs.declared.reader.Found.{Found}
use Rattle.recording.specs.declared.reader.Ending.{Ending}
use Rattle.recording.specs.declared.reader.Ending.TheVariants.{Whole, Cut, UnknownKind}

abbrev pub found : Record → ℕ → Result Found Ending
found r next = Ok (record { «record» = r; next = next })

abbrev pub control_at : List ℕ → ℕ → Record
control_at s i = Control (take 8 (drop i s))

-- Low byte first (01, Sizes and numbers).
abbrev pub pair_of : ℕ → ℕ → ℕ
pair_of low high = low + 256 * high

abbrev pub change_at : List ℕ → ℕ → Record
change_at s i = Change (byte_at s i) (pair_of (byte_at s (i + 1)) (byte_at s (i + 2)))

-- A record of `size` bytes, its kind included, if the recording has them; else it is cut.
abbrev pub whole : List ℕ → ℕ → ℕ → Record → Result Found Ending
whole s at size r = pick (ltb (length s - at) size) (Err Cut) (found r (at + size))

-- Kind 1: CONTROL, 8 bytes.
abbrev pub control_from : List ℕ → ℕ → Result Found Ending
control_from s at = whole s at 9 (control_at s (at + 1))

-- 2: connector, reason, 1 + 2 bytes.
abbrev pub change_from : List ℕ → ℕ → Result Found Ending
change_from s at = whole s at 4 (change_at s (at + 1))

-- 3: port success, 1 byte.
abbrev pub success_from : List ℕ → ℕ → Result Found Ending
success_from s at = whole s at 2 (Success (byte_at s (at + 1)))

-- 4: port failure, 0 bytes.
unfoldable pub next_record_of : List ℕ → ℕ → Result Found Ending
next_record_of s at =
    pick (leb (length s) at) (Err Whole)
    (pick (eqb (byte_at s at) 1) (control_from s at)
    (pick (eqb (byte_at s at) 2) (change_from s at)
    (pick (eqb (byte_at s at) 3) (success_from s at)
    (pick (eqb (byte_at s at) 4) (found Failure (at + 1))
    (Err UnknownKind)))))

-- How many bytes a record has (01, Replay program).
use Prim.Native.Nat.{◌≤◌}
use native.Mathlib.Omega.{arith}
use lib.ListN.{length}
use Rattle.recording.specs.Record.{Eight}
use Rattle.recording.specs.Writing.{record_bytes_of, room_least}
use Rattle.recording.specs.declared.record.Record.{Record}
use Rattle.recording.specs.declared.record.Record.TheVariants.{Control, Change, Success, Failure}

-- At least the byte of kind, and at most the nine bytes that the writer asks for.
pub record_sized : (r : Record) → Eight r → (1 ≤ length (record_bytes_of r)) × (length (record_bytes_of r) ≤ room_least)
unfolding record_bytes_of
record_sized (Control c) eight = (omega arith, omega arith)
record_sized (Change connector reason) eight = (omega arith, omega arith)
record_sized (Success n) eight = (omega arith, omega arith)
record_sized Failure eight = (omega arith, omega arith)

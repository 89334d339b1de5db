-- Records as bytes, in the paper's own numbers (01, Replay program).
use Prim.Native.Nat.{ℕ}
use mathlib.Core.Path.{◌≡◌, refl}
use mathlib.Core.List.{[], ◌∷◌}
use Rattle.recording.specs.Writing.{record_bytes_of}
use Rattle.recording.specs.Apart.{written_of}
use Rattle.recording.specs.declared.record.Record.{Record}
use Rattle.recording.specs.declared.record.Record.TheVariants.{Control, Change, Success, Failure}

abbrev control : ℕ → ℕ → ℕ → Record
control code low high = Control (code ∷ 0 ∷ low ∷ high ∷ 0 ∷ 0 ∷ 0 ∷ 0 ∷ [])

-- The records of the paper's whole case.
pub whole_case_bytes : written_of (control 0x05 0xFF 0xFF ∷ control 0x04 0x02 0x00 ∷ Change 2 0x0002 ∷ control 0x12 0x02 0x00 ∷ Success 9 ∷ control 0x04 0x03 0x00 ∷ [])
    ≡ 0x01 ∷ 0x05 ∷ 0x00 ∷ 0xFF ∷ 0xFF ∷ 0x00 ∷ 0x00 ∷ 0x00 ∷ 0x00
    ∷ 0x01 ∷ 0x04 ∷ 0x00 ∷ 0x02 ∷ 0x00 ∷ 0x00 ∷ 0x00 ∷ 0x00 ∷ 0x00
    ∷ 0x02 ∷ 0x02 ∷ 0x02 ∷ 0x00
    ∷ 0x01 ∷ 0x12 ∷ 0x00 ∷ 0x02 ∷ 0x00 ∷ 0x00 ∷ 0x00 ∷ 0x00 ∷ 0x00
    ∷ 0x03 ∷ 0x09
    ∷ 0x01 ∷ 0x04 ∷ 0x00 ∷ 0x03 ∷ 0x00 ∷ 0x00 ∷ 0x00 ∷ 0x00 ∷ 0x00 ∷ []
unfolding record_bytes_of
whole_case_bytes = refl

-- CONTROL's bytes are written in their order.
pub control_in_order : record_bytes_of (Control (0x11 ∷ 0x22 ∷ 0x33 ∷ 0x44 ∷ 0x55 ∷ 0x66 ∷ 0x77 ∷ 0x88 ∷ []))
    ≡ 0x01 ∷ 0x11 ∷ 0x22 ∷ 0x33 ∷ 0x44 ∷ 0x55 ∷ 0x66 ∷ 0x77 ∷ 0x88 ∷ []
unfolding record_bytes_of
control_in_order = refl

-- The reason goes low byte first, and a failure is its kind alone.
pub low_byte_first : record_bytes_of (Change 1 0x1234) ≡ 0x02 ∷ 0x01 ∷ 0x34 ∷ 0x12 ∷ []
unfolding record_bytes_of
low_byte_first = refl

pub failure_bytes : record_bytes_of Failure ≡ 0x04 ∷ []
unfolding record_bytes_of
failure_bytes = refl

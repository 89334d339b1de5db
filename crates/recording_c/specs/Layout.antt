-- What the layout function answers (include/harsolvek.h).
use Rattle.std.specs.Prelude.{ℕ}
use Rattle.recording.specs.Writing.{room_least}

-- The bytes of the longest record.
abbrev pub harsolvek_recording_layout : ℕ
harsolvek_recording_layout = room_least

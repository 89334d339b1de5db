-- What printing a line leaves for C (include/harsolvek.h).
use Rattle.std.specs.Prelude.{ℕ, List, ltb, length}
use Rattle.basis.specs.Pick.{pick}
use Rattle.lent.specs.Written.{written_into}
use Rattle.printing.specs.Line.{text_of, stop_text, line_longest}
use Rattle.recording_c.specs.Writes.{Wrote, wrote}

-- 27 under 13 bytes, whatever the text; else the text's own bytes, and nothing else, are written.
unfoldable pub printed_of : List ℕ → List ℕ → Wrote
printed_of text out = pick (ltb (length out) line_longest) (wrote 27 0 out) (wrote 0 (length text) (written_into text out))

abbrev pub harsolvek_record_line : ℕ → ℕ → List ℕ → Wrote
harsolvek_record_line cci number out = printed_of (text_of cci number) out

abbrev pub harsolvek_record_stop : List ℕ → Wrote
harsolvek_record_stop out = printed_of stop_text out

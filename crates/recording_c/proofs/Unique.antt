-- Each public contract leaves one answer and one state of the lent memory. Written from the contracts by tools/contracts.
use Rattle.std.specs.Prelude.{ℕ, ◌≡◌, List}
use Rattle.basis.specs.Only.{only}
use Rattle.recording_c.specs.Layout.{harsolvek_recording_layout}
use Rattle.recording_c.specs.Lines.{harsolvek_record_line, harsolvek_record_stop}
use Rattle.recording_c.specs.Reads.{reading, numbers, harsolvek_record_read}
use Rattle.recording_c.specs.Writes.{wrote, harsolvek_record_write}

pub one_harsolvek_recording_layout_1 : (r r' : ℕ)
    → r ≡ harsolvek_recording_layout
    → r' ≡ harsolvek_recording_layout
    → r ≡ r'
one_harsolvek_recording_layout_1 r r' is is' = only is is'

pub one_harsolvek_record_line_raw : (cci number : ℕ) (out : List ℕ) (written r r' : ℕ) (out_left out_left' : List ℕ) (written_left written_left' : ℕ)
    → wrote r written_left out_left ≡ harsolvek_record_line cci number out
    → wrote r' written_left' out_left' ≡ harsolvek_record_line cci number out
    → wrote r written_left out_left ≡ wrote r' written_left' out_left'
one_harsolvek_record_line_raw cci number out written r r' out_left out_left' written_left written_left' is is' = only is is'

pub one_harsolvek_record_stop_raw : (out : List ℕ) (written r r' : ℕ) (out_left out_left' : List ℕ) (written_left written_left' : ℕ)
    → wrote r written_left out_left ≡ harsolvek_record_stop out
    → wrote r' written_left' out_left' ≡ harsolvek_record_stop out
    → wrote r written_left out_left ≡ wrote r' written_left' out_left'
one_harsolvek_record_stop_raw out written r r' out_left out_left' written_left written_left' is is' = only is is'

pub one_harsolvek_record_read_raw : (recording : List ℕ) (at kind reason connector length : ℕ) (control : List ℕ) (next r r' kind_left kind_left' reason_left reason_left' connector_left connector_left' length_left length_left' : ℕ) (control_left control_left' : List ℕ) (next_left next_left' : ℕ)
    → reading r (numbers kind_left reason_left connector_left length_left control_left) next_left ≡ harsolvek_record_read recording at
    → reading r' (numbers kind_left' reason_left' connector_left' length_left' control_left') next_left' ≡ harsolvek_record_read recording at
    → reading r (numbers kind_left reason_left connector_left length_left control_left) next_left ≡ reading r' (numbers kind_left' reason_left' connector_left' length_left' control_left') next_left'
one_harsolvek_record_read_raw recording at kind reason connector length control next r r' kind_left kind_left' reason_left reason_left' connector_left connector_left' length_left length_left' control_left control_left' next_left next_left' is is' = only is is'

pub one_harsolvek_record_write_raw : (kind reason connector length : ℕ) (control out : List ℕ) (written r r' : ℕ) (out_left out_left' : List ℕ) (written_left written_left' : ℕ)
    → wrote r written_left out_left ≡ harsolvek_record_write kind reason connector length control out
    → wrote r' written_left' out_left' ≡ harsolvek_record_write kind reason connector length control out
    → wrote r written_left out_left ≡ wrote r' written_left' out_left'
one_harsolvek_record_write_raw kind reason connector length control out written r r' out_left out_left' written_left written_left' is is' = only is is'

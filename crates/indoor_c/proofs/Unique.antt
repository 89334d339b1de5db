-- Each public contract leaves one answer and one state of the lent memory. Written from the contracts by tools/contracts.
use Rattle.std.specs.Prelude.{List, ℕ, ◌≡◌}
use Rattle.basis.specs.Flag.{byte_of}
use Rattle.basis.specs.Only.{only}
use Rattle.indoor_c.specs.Calls.{indoor_called, harsolvek_indoor_response, harsolvek_indoor_start, harsolvek_indoor_time}
use Rattle.indoor_c.specs.Words.{is_indoor_session}

pub one_harsolvek_indoor_is_session_raw : (words : List ℕ) (r r' : ℕ)
    → r ≡ byte_of (is_indoor_session words)
    → r' ≡ byte_of (is_indoor_session words)
    → r ≡ r'
one_harsolvek_indoor_is_session_raw words r r' is is' = only is is'

pub one_harsolvek_indoor_response_raw : (words file response out : List ℕ) (written r r' : ℕ) (words_left words_left' out_left out_left' : List ℕ) (written_left written_left' : ℕ)
    → indoor_called r written_left words_left out_left ≡ harsolvek_indoor_response words file response out
    → indoor_called r' written_left' words_left' out_left' ≡ harsolvek_indoor_response words file response out
    → indoor_called r written_left words_left out_left ≡ indoor_called r' written_left' words_left' out_left'
one_harsolvek_indoor_response_raw words file response out written r r' words_left words_left' out_left out_left' written_left written_left' is is' = only is is'

pub one_harsolvek_indoor_start_raw : (words settings release file out : List ℕ) (written r r' : ℕ) (words_left words_left' out_left out_left' : List ℕ) (written_left written_left' : ℕ)
    → indoor_called r written_left words_left out_left ≡ harsolvek_indoor_start settings release file out
    → indoor_called r' written_left' words_left' out_left' ≡ harsolvek_indoor_start settings release file out
    → indoor_called r written_left words_left out_left ≡ indoor_called r' written_left' words_left' out_left'
one_harsolvek_indoor_start_raw words settings release file out written r r' words_left words_left' out_left out_left' written_left written_left' is is' = only is is'

pub one_harsolvek_indoor_time_raw : (words file : List ℕ) (elapsed : ℕ) (out : List ℕ) (written r r' : ℕ) (words_left words_left' out_left out_left' : List ℕ) (written_left written_left' : ℕ)
    → indoor_called r written_left words_left out_left ≡ harsolvek_indoor_time words file elapsed out
    → indoor_called r' written_left' words_left' out_left' ≡ harsolvek_indoor_time words file elapsed out
    → indoor_called r written_left words_left out_left ≡ indoor_called r' written_left' words_left' out_left'
one_harsolvek_indoor_time_raw words file elapsed out written r r' words_left words_left' out_left out_left' written_left written_left' is is' = only is is'

pub one_harsolvek_indoor_layout_1 : (r r' : ℕ)
    → r ≡ 13
    → r' ≡ 13
    → r ≡ r'
one_harsolvek_indoor_layout_1 r r' is is' = only is is'

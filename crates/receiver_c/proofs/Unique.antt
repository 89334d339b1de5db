-- Each public contract leaves one answer and one state of the lent memory. Written from the contracts by tools/contracts.
use Rattle.std.specs.Prelude.{List, ℕ, ◌≡◌}
use Rattle.basis.specs.Flag.{byte_of}
use Rattle.basis.specs.Left.{left}
use Rattle.basis.specs.Only.{only}
use Rattle.receiver_c.specs.Calls.{receiver_called, harsolvek_receiver_request, harsolvek_receiver_start, receiver_summed, harsolvek_receiver_sum, receiver_timed, harsolvek_receiver_time}
use Rattle.receiver_c.specs.Words.{is_receiver_session, receiver_words}

pub one_harsolvek_receiver_is_session_raw : (words : List ℕ) (r r' : ℕ)
    → r ≡ byte_of (is_receiver_session words)
    → r' ≡ byte_of (is_receiver_session words)
    → r ≡ r'
one_harsolvek_receiver_is_session_raw words r r' is is' = only is is'

pub one_harsolvek_receiver_request_raw : (words image request given out : List ℕ) (written r r' : ℕ) (words_left words_left' image_left image_left' out_left out_left' : List ℕ) (written_left written_left' : ℕ)
    → receiver_called r written_left words_left image_left out_left ≡ harsolvek_receiver_request words image request given out
    → receiver_called r' written_left' words_left' image_left' out_left' ≡ harsolvek_receiver_request words image request given out
    → receiver_called r written_left words_left image_left out_left ≡ receiver_called r' written_left' words_left' image_left' out_left'
one_harsolvek_receiver_request_raw words image request given out written r r' words_left words_left' image_left image_left' out_left out_left' written_left written_left' is is' = only is is'

pub one_harsolvek_receiver_start_raw : (words settings numbers bytes : List ℕ) (capacity r r' : ℕ) (words_left words_left' : List ℕ)
    → left r words_left ≡ harsolvek_receiver_start settings numbers bytes capacity
    → left r' words_left' ≡ harsolvek_receiver_start settings numbers bytes capacity
    → left r words_left ≡ left r' words_left'
one_harsolvek_receiver_start_raw words settings numbers bytes capacity r r' words_left words_left' is is' = only is is'

pub one_harsolvek_receiver_sum_raw : (words image : List ℕ) (sum r r' sum_left sum_left' : ℕ)
    → receiver_summed r sum_left ≡ harsolvek_receiver_sum words image
    → receiver_summed r' sum_left' ≡ harsolvek_receiver_sum words image
    → receiver_summed r sum_left ≡ receiver_summed r' sum_left'
one_harsolvek_receiver_sum_raw words image sum r r' sum_left sum_left' is is' = only is is'

pub one_harsolvek_receiver_time_raw : (words : List ℕ) (elapsed : ℕ) (out : List ℕ) (written r r' : ℕ) (words_left words_left' out_left out_left' : List ℕ) (written_left written_left' : ℕ)
    → receiver_timed r written_left words_left out_left ≡ harsolvek_receiver_time words elapsed out
    → receiver_timed r' written_left' words_left' out_left' ≡ harsolvek_receiver_time words elapsed out
    → receiver_timed r written_left words_left out_left ≡ receiver_timed r' written_left' words_left' out_left'
one_harsolvek_receiver_time_raw words elapsed out written r r' words_left words_left' out_left out_left' written_left written_left' is is' = only is is'

pub one_harsolvek_receiver_layout_1 : (r r' : ℕ)
    → r ≡ receiver_words
    → r' ≡ receiver_words
    → r ≡ r'
one_harsolvek_receiver_layout_1 r r' is is' = only is is'

-- What the receiver's calls for C return and leave: what the rules say of the session that the words are, and 29 where they are none.
use Rattle.std.specs.Prelude.{ℕ, Bool, true, false, not, List, Ok, Err, ltb, leb, eqb}
use Rattle.basis.specs.Pick.{pick}
use Rattle.basis.specs.Left.{Left, left}
use Rattle.wire.specs.Codes.{longest}
use Rattle.wire.specs.declared.response.Identity.{Identity}
use Rattle.receiver_state.specs.Answer.{receiver_number_of}
use Rattle.receiver_state.specs.Session.{Outcome, Started, receiver_start_number_of}
use Rattle.receiver_state.specs.Sum.{Summed, image_sum_number_of}
use Rattle.receiver_rules.specs.Session.{receiver_start_of}
use Rattle.receiver_rules.specs.Request.{Effect, receiver_request_of}
use Rattle.receiver_rules.specs.Time.{receiver_time_of}
use Rattle.receiver_rules.specs.Sum.{receiver_sum_of}
use Rattle.width.specs.Words.{word_at}
use Rattle.receiver_c.specs.Words.{session_at, words_of, zero_words, laid, is_receiver_session}
use Rattle.receiver_c.specs.Verdict.{verdict_of}

-- The identity of a start: vendor, product and the four versions; hardware, silicon, bank and the four flags.
unfoldable pub identity_of : List ℕ → List ℕ → Identity
identity_of numbers bytes = record {
  vendor = word_at numbers 0;
  product = word_at numbers 1;
  hardware = word_at bytes 0;
  silicon = word_at bytes 1;
  versions = record { first = word_at numbers 2; second = word_at numbers 3; third = word_at numbers 4; fourth = word_at numbers 5 };
  bank = word_at bytes 2;
  flags1 = word_at bytes 3;
  flags2 = word_at bytes 4;
  flags3 = word_at bytes 5;
  flags4 = word_at bytes 6;
}

-- A refused start leaves no session.
unfoldable pub started_words : Started → List ℕ
started_words (Ok r) = words_of r
started_words (Err refusal) = zero_words

abbrev pub receiver_started : Started → Left ℕ
receiver_started started = left (receiver_start_number_of started) (started_words started)

-- The number, and the words.
unfoldable pub harsolvek_receiver_start : List ℕ → List ℕ → List ℕ → ℕ → Left ℕ
harsolvek_receiver_start settings numbers bytes capacity =
    receiver_started (receiver_start_of (word_at settings 0) (word_at settings 1) (identity_of numbers bytes) capacity)

-- The number, how many bytes were written, the words, the image and the output buffer.
pub record ReceiverCalled : Type 0 where
  pub number : ℕ
  pub written : ℕ
  pub words : List ℕ
  pub image : List ℕ
  pub out : List ℕ

abbrev pub receiver_called : ℕ → ℕ → List ℕ → List ℕ → List ℕ → ReceiverCalled
receiver_called number written words image out = record { number = number; written = written; words = words; image = image; out = out }

abbrev pub receiver_requested : List ℕ → Effect → ReceiverCalled
receiver_requested w e =
    receiver_called (receiver_number_of e.outcome.answer) e.outcome.written (laid w e.outcome.session) e.image e.out

-- `given` is the readiness, the verdict's code and the wait of a later verdict.
unfoldable pub harsolvek_receiver_request : List ℕ → List ℕ → List ℕ → List ℕ → List ℕ → ReceiverCalled
harsolvek_receiver_request w image request given out =
    pick (not (is_receiver_session w)) (receiver_called 29 0 w image out)
    (receiver_requested w
    (receiver_request_of (session_at w) image request (word_at given 0) (verdict_of (word_at given 1) (word_at given 2)) out))

-- The number, how many bytes were written, the words and the output buffer.
pub record ReceiverTimed : Type 0 where
  pub number : ℕ
  pub written : ℕ
  pub words : List ℕ
  pub out : List ℕ

abbrev pub receiver_timed : ℕ → ℕ → List ℕ → List ℕ → ReceiverTimed
receiver_timed number written words out = record { number = number; written = written; words = words; out = out }

abbrev pub receiver_passed : List ℕ → Left Outcome → ReceiverTimed
receiver_passed w l = receiver_timed (receiver_number_of l.answer.answer) l.answer.written (laid w l.answer.session) l.memory

unfoldable pub timed_at : List ℕ → ℕ → List ℕ → ReceiverTimed
timed_at w elapsed out = receiver_passed w (receiver_time_of (session_at w) elapsed out)

unfoldable pub harsolvek_receiver_time : List ℕ → ℕ → List ℕ → ReceiverTimed
harsolvek_receiver_time w elapsed out = pick (not (is_receiver_session w)) (receiver_timed 29 0 w out) (timed_at w elapsed out)

-- The output buffer is long enough, the silence stays below its limit, and it is counted in this phase.
unfoldable pub only_counts : ℕ → ℕ → ℕ → ℕ → Bool
only_counts phase silence limit room =
    pick (ltb room longest) false
    (pick (leb limit silence) false
    (pick (eqb phase 1) true
    (eqb phase 2)))

-- The number and the sum.
pub record ReceiverSummed : Type 0 where
  pub number : ℕ
  pub sum : ℕ

abbrev pub receiver_summed : ℕ → ℕ → ReceiverSummed
receiver_summed number sum = record { number = number; sum = sum }

-- A refused sum is 0.
abbrev pub sum_value_of : Summed → ℕ
sum_value_of (Ok s) = s
sum_value_of (Err refusal) = 0

abbrev pub receiver_sum_said : Summed → ReceiverSummed
receiver_sum_said s = receiver_summed (image_sum_number_of s) (sum_value_of s)

unfoldable pub harsolvek_receiver_sum : List ℕ → List ℕ → ReceiverSummed
harsolvek_receiver_sum w image = pick (not (is_receiver_session w)) (receiver_summed 29 0) (receiver_sum_said (receiver_sum_of (session_at w) image))

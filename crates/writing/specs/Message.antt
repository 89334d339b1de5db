-- A message that was made, and what a lent buffer holds after it was sent there.
use Rattle.std.specs.Prelude.{ℕ, List, length, take, replicate, ltb, Result, Ok, Err}
use Rattle.basis.specs.Pick.{pick}
use Rattle.basis.specs.Left.{Left, left}
use Rattle.lent.specs.Written.{written_into}
use Rattle.wire.specs.Codes.{get_fw_id_response_length}
use Rattle.writing.specs.declared.message.Message.{Message}
use Rattle.writing.specs.declared.message.TooShort.{TooShort}

abbrev pub Sent : Type 0
Sent = Result ℕ TooShort

abbrev pub too_short : Sent
too_short = Err (record {})

-- 001 T5-18: the longest message that has no block
abbrev pub most : ℕ
most = get_fw_id_response_length

-- The bytes of a message, and zeros behind them to the array's end.
unfoldable pub message_of : List ℕ → Message
message_of l = record { bytes = written_into l (replicate most 0); len = length l }

-- The first bytes are the message's and the rest is kept; where it does not fit, all is kept (01, Numbers we answer).
unfoldable pub sent_of : List ℕ → ℕ → List ℕ → Left Sent
sent_of bytes len out =
    pick (ltb most len) (left too_short out)
    (pick (ltb (length out) len) (left too_short out)
    (left (Ok len) (written_into (take len bytes) out)))

abbrev pub send_of : Message → List ℕ → Left Sent
send_of m out = sent_of m.bytes m.len out

-- A request in two parts: what it does, without the identity, and then the response.
use Rattle.std.specs.Prelude.{ℕ, Bool, true, false, List, Result, Ok, Err, ltb, length}
use Rattle.basis.specs.Left.{Left, left}
use Rattle.basis.specs.Pick.{pick, differ}
use Rattle.lent.specs.Written.{returns_written}
use Rattle.wire.specs.Codes.{longest}
use Rattle.wire.specs.Request as message
use Rattle.wire.specs.Request.{Parsed}
use Rattle.wire.specs.declared.response.Identity.{Identity}
use Rattle.receiver_state.specs.Answer.{get_fw_id_reply, reply_of}
use Rattle.receiver_state.specs.declared.answer.Answer.{Answer}
use Rattle.receiver_state.specs.declared.answer.Answer.TheVariants.{Identified, Offered, Asking, Closed, Success, Later, Aborted, Passed, Malformed, UnexpectedInitiate, UnexpectedData, UnexpectedValidate, Unexpected, NotDue, PassesCapacity, WrongFile, VerdictBad, OutOfRange, BufferShort, ImageLength}
use Rattle.receiver_state.specs.declared.phase.Phase.{Phase}
use Rattle.receiver_state.specs.declared.step.Step.{Step}
use Rattle.receiver_state.specs.declared.verdict.Verdict.{Verdict}
use Rattle.receiver_rules.specs.Decide.{receiver_decide_of}
use Rattle.receiver_rules.specs.Range.{out_of_range}
use Rattle.receiver_rules.specs.Request.{image_after}
use Rattle.receiver_rules.specs.Respond.{reply_bytes}
use Rattle.receiver_state.specs.declared.step.Heard.{Heard}

abbrev pub heard : Phase → Answer → Heard
heard phase answer = record { phase = phase; answer = answer }

-- A request that was refused unheard: nothing changes, and silence and resends are not set to zero either.
abbrev pub receiver_kept : Answer → Result Heard Answer
receiver_kept answer = Err answer

abbrev pub receiver_done : Step → List ℕ → List ℕ → Left (Result Heard Answer)
receiver_done step image request = left (Ok (heard step.phase step.answer)) (image_after step.store image request)

-- 20, and then what the request asks for
unfoldable pub heard_read_of : Phase → ℕ → Parsed → List ℕ → List ℕ → ℕ → Verdict → Left (Result Heard Answer)
heard_read_of phase capacity (Err refusal) image request readiness verdict = left (receiver_kept Malformed) image
heard_read_of phase capacity (Ok valid) image request readiness verdict =
    receiver_done (receiver_decide_of phase valid capacity readiness verdict) image request

-- 28, 27, 26, 20, and then what the request asks for; `room` is the output buffer's length
unfoldable pub heard_of : Phase → ℕ → List ℕ → List ℕ → ℕ → Verdict → ℕ → Left (Result Heard Answer)
heard_of phase capacity image request readiness verdict room =
    pick (differ (length image) capacity) (left (receiver_kept ImageLength) image)
    (pick (ltb room longest) (left (receiver_kept BufferShort) image)
    (pick (out_of_range readiness verdict) (left (receiver_kept OutOfRange) image)
    (heard_read_of phase capacity (message.parsed_request_of request) image request readiness verdict)))

-- The answer to GET_FW_ID alone.
abbrev pub has_identity : Answer → Bool
has_identity Identified = true
has_identity (Offered wait) = false
has_identity (Asking wait number) = false
has_identity (Closed number) = false
has_identity Success = false
has_identity (Later wait) = false
has_identity Aborted = false
has_identity Passed = false
has_identity Malformed = false
has_identity UnexpectedInitiate = false
has_identity UnexpectedData = false
has_identity UnexpectedValidate = false
has_identity Unexpected = false
has_identity (NotDue due) = false
has_identity PassesCapacity = false
has_identity WrongFile = false
has_identity VerdictBad = false
has_identity OutOfRange = false
has_identity BufferShort = false
has_identity ImageLength = false

abbrev pub no_identity : Identity
no_identity = record {
  vendor = 0;
  product = 0;
  hardware = 0;
  silicon = 0;
  versions = record { first = 0; second = 0; third = 0; fourth = 0 };
  bank = 0;
  flags1 = 0;
  flags2 = 0;
  flags3 = 0;
  flags4 = 0;
}

-- A buffer that is too short for every response is not written.
abbrev pub sent_of : List ℕ → List ℕ → Left ℕ
sent_of bytes out = pick (ltb (length out) longest) (left 0 out) (returns_written bytes out)

-- The response to GET_FW_ID.
unfoldable pub identity_sent_of : Identity → List ℕ → Left ℕ
identity_sent_of identity out = sent_of (reply_bytes (get_fw_id_reply identity)) out

-- The response of every other answer.
unfoldable pub answer_sent_of : ℕ → Answer → List ℕ → Left ℕ
answer_sent_of capacity answer out = sent_of (reply_bytes (reply_of no_identity capacity answer)) out

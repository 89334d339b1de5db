-- For every case of the answer, document 01's number and the values of the response that goes out with it (01, Numbers we answer).
use Rattle.std.specs.Prelude.{ℕ, Bool, true, false, Option, Some, None}
use Rattle.wire.specs.Codes.{unable}
use Rattle.wire.specs.Status.{code_of}
use Rattle.wire.specs.declared.response.Identity.{Identity}
use Rattle.wire.specs.declared.response.Response.TheVariants as Res
use Rattle.wire.specs.declared.status.Status.{Status}
use Rattle.wire.specs.declared.status.Status.TheVariants.{Ok, File, Address, UnexpectedRequest}
use Rattle.receiver_state.specs.declared.answer.Answer.{Answer}
use Rattle.receiver_state.specs.declared.answer.Answer.TheVariants.{Identified, Offered, Asking, Closed, Success, Later, Aborted, Passed, Malformed, UnexpectedInitiate, UnexpectedData, UnexpectedValidate, Unexpected, NotDue, PassesCapacity, WrongFile, VerdictBad, OutOfRange, BufferShort, ImageLength}
use Rattle.wire.specs.declared.response.Response.{Response}

abbrev pub receiver_number_of : Answer → ℕ
receiver_number_of Identified = 0
receiver_number_of (Offered wait) = 0
receiver_number_of (Asking wait number) = 0
receiver_number_of (Closed number) = 0
receiver_number_of Success = 0
receiver_number_of (Later wait) = 0
receiver_number_of Aborted = 0
receiver_number_of Passed = 0
receiver_number_of Malformed = 20
receiver_number_of UnexpectedInitiate = 21
receiver_number_of UnexpectedData = 21
receiver_number_of UnexpectedValidate = 21
receiver_number_of Unexpected = 21
receiver_number_of (NotDue due) = 22
receiver_number_of PassesCapacity = 23
receiver_number_of WrongFile = 24
receiver_number_of VerdictBad = 25
receiver_number_of OutOfRange = 26
receiver_number_of BufferShort = 27
receiver_number_of ImageLength = 28

-- The response of each type (001 T5-18, T5-20, T5-22, T5-24)
unfoldable pub get_fw_id_reply : Identity → Option Response
get_fw_id_reply identity = Some (Res.GetFwId (code_of Ok) identity)

unfoldable pub initiate_reply : Status → ℕ → ℕ → Option Response
initiate_reply status wait size = Some (Res.Initiate (code_of status) wait size)

unfoldable pub data_reply : Status → ℕ → ℕ → Option Response
data_reply status wait number = Some (Res.Data (code_of status) wait number)

unfoldable pub validate_reply : Status → ℕ → Bool → Option Response
validate_reply status wait success = Some (Res.Validate (code_of status) wait success)

-- An INITIATE answer carries the capacity, the closing answer WaitTime 255 and the accepted count. Any answer with a status other than OK
-- has WaitTime 255 and its later fields zero.
unfoldable pub reply_of : Identity → ℕ → Answer → Option Response
reply_of identity capacity Identified = get_fw_id_reply identity
reply_of identity capacity (Offered wait) = initiate_reply Ok wait capacity
reply_of identity capacity (Asking wait number) = data_reply Ok wait number
reply_of identity capacity (Closed number) = data_reply Ok unable number
reply_of identity capacity Success = validate_reply Ok 0 true
reply_of identity capacity (Later wait) = validate_reply Ok wait false
reply_of identity capacity Aborted = None
reply_of identity capacity Passed = None
reply_of identity capacity Malformed = None
reply_of identity capacity UnexpectedInitiate = initiate_reply UnexpectedRequest unable 0
reply_of identity capacity UnexpectedData = data_reply UnexpectedRequest unable 0
reply_of identity capacity UnexpectedValidate = validate_reply UnexpectedRequest unable false
reply_of identity capacity Unexpected = None
reply_of identity capacity (NotDue due) = data_reply Ok 0 due
reply_of identity capacity PassesCapacity = data_reply Address unable 0
reply_of identity capacity WrongFile = data_reply File unable 0
reply_of identity capacity VerdictBad = validate_reply Ok 0 false
reply_of identity capacity OutOfRange = None
reply_of identity capacity BufferShort = None
reply_of identity capacity ImageLength = None

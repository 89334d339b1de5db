-- For every case of the answer, document 01's number and the request that goes out with it (01, Numbers we answer).
use Rattle.std.specs.Prelude.{ℕ, Option, Some, None}
use Rattle.indoor_state.specs.Phase.{reason_number}
use Rattle.indoor_state.specs.declared.phase.Reason.{Reason}
use Rattle.indoor_state.specs.declared.phase.Reason.TheVariants.{Silence, Refused, NotNewer, TooLarge, WrongNumber, NotValid}
use Rattle.indoor_state.specs.declared.answer.Answer.{Answer}
use Rattle.indoor_state.specs.declared.answer.Answer.TheVariants.{Identifying, Initiating, Sending, Validating, Waiting, Finished, Passed, Malformed, Unexpected, BufferShort, FileLength, Failed}
use Rattle.indoor_state.specs.declared.answer.Sends.{Sends}
use Rattle.indoor_state.specs.declared.answer.Sends.TheVariants.{GetFwId, Initiate, Block, Validate, Abort}

abbrev pub indoor_number_of : Answer → ℕ
indoor_number_of Identifying = 0
indoor_number_of Initiating = 0
indoor_number_of (Sending number) = 0
indoor_number_of Validating = 0
indoor_number_of Waiting = 0
indoor_number_of Finished = 0
indoor_number_of Passed = 0
indoor_number_of Malformed = 20
indoor_number_of Unexpected = 21
indoor_number_of BufferShort = 27
indoor_number_of FileLength = 28
indoor_number_of (Failed reason) = reason_number reason

-- ABORT is sent once at 40, 43 and 44.
abbrev pub aborts_of : Reason → Option Sends
aborts_of Silence = Some Abort
aborts_of Refused = None
aborts_of NotNewer = None
aborts_of TooLarge = Some Abort
aborts_of WrongNumber = Some Abort
aborts_of NotValid = None

abbrev pub sends_of : Answer → Option Sends
sends_of Identifying = Some GetFwId
sends_of Initiating = Some Initiate
sends_of (Sending number) = Some (Block number)
sends_of Validating = Some Validate
sends_of Waiting = None
sends_of Finished = None
sends_of Passed = None
sends_of Malformed = None
sends_of Unexpected = None
sends_of BufferShort = None
sends_of FileLength = None
sends_of (Failed reason) = aborts_of reason

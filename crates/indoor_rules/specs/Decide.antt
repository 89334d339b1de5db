-- What the indoor end does with a well-formed response, by its phase: 21, 41, then 42, 43, 44, 45 (01, The indoor end's phases; 01, Numbers we
-- answer).
use Rattle.std.specs.Prelude.{ℕ, ◌*◌, Bool, false, not, ltb, eqb}
use Rattle.basis.specs.Pick.{pick, differ}
use Rattle.wire.specs.Codes.{unable}
use Rattle.wire.specs.Status.{code_of}
use Rattle.wire.specs.declared.status.Status.TheVariants.{Ok}
use Rattle.wire.specs.declared.response.Identity.{Identity}
use Rattle.wire.specs.declared.response.Response.{Response}
use Rattle.wire.specs.declared.response.Response.TheVariants as Res
use Rattle.indoor_state.specs.Phase.{indoor_progress}
use Rattle.indoor_state.specs.Step.{indoor_step}
use Rattle.indoor_rules.specs.Step.{goes, fails, empty_number, block_sent}
use Rattle.indoor_rules.specs.Newer.{newer_of}
use Rattle.indoor_state.specs.declared.plan.Plan.{Plan}
use Rattle.indoor_state.specs.declared.phase.Reason.TheVariants.{Refused, NotNewer, TooLarge, WrongNumber, NotValid}
use Rattle.indoor_state.specs.declared.phase.Progress.{Progress}
use Rattle.indoor_state.specs.declared.phase.Phase.{Phase}
use Rattle.indoor_state.specs.declared.phase.Phase.TheVariants.{Identify, Initiate, Transfer, Validate, Done, Failed}
use Rattle.indoor_state.specs.declared.phase.State.{State}
use Rattle.indoor_state.specs.declared.answer.Answer.TheVariants as Ans
use Rattle.indoor_state.specs.declared.step.Step.{Step}

-- A response of another type than the one due is passed over.
abbrev pub passed_over : State → Step
passed_over state = indoor_step state Ans.Unexpected

-- Accepted, and this block goes out.
abbrev pub sends_block : Plan → ℕ → Bool → Step
sends_block plan number emptied = goes (block_sent plan number emptied) (Ans.Sending number)

-- OK is 00 (001 T5-29).
unfoldable pub not_ok : ℕ → Bool
not_ok status = differ status (code_of Ok)

-- 41: every status but OK, whatever else the response says.
unfoldable pub where_ok : ℕ → Step → Step
where_ok status further = pick (not_ok status) (fails Refused) further

-- GET_FW_ID: 42 where the file is not newer, else INITIATE goes out.
unfoldable pub compared_of : Plan → Identity → Step
compared_of plan reported = pick (not (newer_of plan.release reported)) (fails NotNewer) (goes (Initiate 0) Ans.Initiating)

-- A ready INITIATE answer brings block 0, or 43 where the file is larger than its MaxImageSize.
unfoldable pub ready_of : Plan → ℕ → Step
ready_of plan size = pick (ltb size plan.length) (fails TooLarge) (sends_block plan 0 false)

-- WaitTime counts 10 ms in an INITIATE response. 255 is 41, any other but 0 means wait, then send again.
unfoldable pub indoor_offered_of : Plan → ℕ → ℕ → Step
indoor_offered_of plan wait size =
    pick (eqb wait unable) (fails Refused)
    (pick (eqb wait 0) (ready_of plan size)
    (goes (Initiate (10 * wait)) Ans.Waiting))

-- WaitTime 255 is the close only if the empty block has been sent and the number is n, else 44. The close brings VALIDATE.
unfoldable pub indoor_close_number_of : Plan → ℕ → Step
indoor_close_number_of plan number = pick (differ number (empty_number plan)) (fails WrongNumber) (goes (Validate 0) Ans.Validating)

unfoldable pub indoor_close_of : Plan → Bool → ℕ → Step
indoor_close_of plan emptied number = pick (not emptied) (fails WrongNumber) (indoor_close_number_of plan number)

-- Asked for j: 44 above n; else block j goes out, after the wait where there is one. A DATA response's WaitTime counts 1 ms.
unfoldable pub block_asked_of : Plan → Bool → ℕ → ℕ → Step
block_asked_of plan emptied wait number =
    pick (ltb (empty_number plan) number) (fails WrongNumber)
    (pick (eqb wait 0) (sends_block plan number emptied)
    (goes (Transfer (indoor_progress number wait emptied)) Ans.Waiting))

-- A DATA response: WaitTime 255 is a close, any other asks for a block.
unfoldable pub indoor_data_of : Plan → Bool → ℕ → ℕ → Step
indoor_data_of plan emptied wait number = pick (eqb wait unable) (indoor_close_of plan emptied number) (block_asked_of plan emptied wait number)

-- Status OK and wait 0: 45 with the success bit clear, else Done.
unfoldable pub indoor_success_of : Bool → Step
indoor_success_of success = pick (not success) (fails NotValid) (goes Done Ans.Finished)

-- WaitTime counts 1 ms in a VALIDATE response (001 T5-24). 255 is 41, any other but 0 means wait, then send again.
unfoldable pub indoor_validated_of : ℕ → Bool → Step
indoor_validated_of wait success =
    pick (eqb wait unable) (fails Refused)
    (pick (eqb wait 0) (indoor_success_of success)
    (goes (Validate wait) Ans.Waiting))

-- In each phase the response of one type is due; any other is 21.
unfoldable pub indoor_identify_of : Plan → State → Response → Step
indoor_identify_of plan state (Res.GetFwId status reported) = where_ok status (compared_of plan reported)
indoor_identify_of plan state (Res.Initiate status wait size) = passed_over state
indoor_identify_of plan state (Res.Data status wait number) = passed_over state
indoor_identify_of plan state (Res.Validate status wait success) = passed_over state
indoor_identify_of plan state Res.NotBuilt = passed_over state

unfoldable pub indoor_initiate_of : Plan → State → Response → Step
indoor_initiate_of plan state (Res.GetFwId status reported) = passed_over state
indoor_initiate_of plan state (Res.Initiate status wait size) = where_ok status (indoor_offered_of plan wait size)
indoor_initiate_of plan state (Res.Data status wait number) = passed_over state
indoor_initiate_of plan state (Res.Validate status wait success) = passed_over state
indoor_initiate_of plan state Res.NotBuilt = passed_over state

unfoldable pub indoor_transfer_of : Plan → State → Progress → Response → Step
indoor_transfer_of plan state p (Res.GetFwId status reported) = passed_over state
indoor_transfer_of plan state p (Res.Initiate status wait size) = passed_over state
indoor_transfer_of plan state p (Res.Data status wait number) = where_ok status (indoor_data_of plan p.emptied wait number)
indoor_transfer_of plan state p (Res.Validate status wait success) = passed_over state
indoor_transfer_of plan state p Res.NotBuilt = passed_over state

unfoldable pub indoor_validate_of : State → Response → Step
indoor_validate_of state (Res.GetFwId status reported) = passed_over state
indoor_validate_of state (Res.Initiate status wait size) = passed_over state
indoor_validate_of state (Res.Data status wait number) = passed_over state
indoor_validate_of state (Res.Validate status wait success) = where_ok status (indoor_validated_of wait success)
indoor_validate_of state Res.NotBuilt = passed_over state

-- A later response of the due type is judged afresh and ends a wait. Done and Failed stay.
unfoldable pub indoor_decide_in : Plan → State → Phase → Response → Step
indoor_decide_in plan state Identify response = indoor_identify_of plan state response
indoor_decide_in plan state (Initiate wait) response = indoor_initiate_of plan state response
indoor_decide_in plan state (Transfer p) response = indoor_transfer_of plan state p response
indoor_decide_in plan state (Validate wait) response = indoor_validate_of state response
indoor_decide_in plan state Done response = passed_over state
indoor_decide_in plan state (Failed reason) response = passed_over state

abbrev pub indoor_decide_of : Plan → State → Response → Step
indoor_decide_of plan state response = indoor_decide_in plan state state.phase response

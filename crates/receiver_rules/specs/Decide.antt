-- What the receiver does with a well-formed request, by its phase: a definition for each row (01, The receiver's phases).
use Rattle.std.specs.Prelude.{ℕ, ◌+◌, Bool, true, false, Some, None, ltb, eqb}
use Rattle.basis.specs.Pick.{pick, differ}
use Rattle.image.specs.Blocks.{block_size, place_of, block_passes_of}
use Rattle.wire.specs.declared.request.Request.{Request}
use Rattle.wire.specs.declared.request.Request.TheVariants as Req
use Rattle.receiver_state.specs.Phase.{accepted_counts, nothing_accepted}
use Rattle.receiver_state.specs.declared.phase.Accepted.{Accepted}
use Rattle.receiver_state.specs.declared.phase.Progress.{Progress}
use Rattle.receiver_state.specs.declared.phase.Phase.{Phase}
use Rattle.receiver_state.specs.declared.phase.Phase.TheVariants.{Idle, Transfer, Await, Good}
use Rattle.receiver_state.specs.declared.verdict.Verdict.{Verdict}
use Rattle.receiver_state.specs.declared.verdict.Verdict.TheVariants as Ver
use Rattle.receiver_state.specs.declared.answer.Answer.{Answer}
use Rattle.receiver_state.specs.declared.answer.Answer.TheVariants.{Identified, Offered, Asking, Closed, Success, Later, Aborted, UnexpectedInitiate, UnexpectedData, UnexpectedValidate, Unexpected, NotDue, PassesCapacity, WrongFile, VerdictBad}
use Rattle.receiver_state.specs.declared.step.Step.{Step}

-- The phase after the request, and the answer; no block is put.
abbrev pub goes_to : Phase → Answer → Step
goes_to phase answer = record { phase = phase; answer = answer; store = None }

abbrev pub receiver_progress : Accepted → Bool → Progress
receiver_progress accepted short = record { accepted = accepted; short = short }

-- INITIATE where it is taken. Readiness 0: ready, phase Transfer with nothing accepted. Above 0: that wait, phase kept.
unfoldable pub receiver_offer_of : Phase → ℕ → Step
receiver_offer_of phase readiness =
    pick (eqb readiness 0) (goes_to (Transfer (receiver_progress nothing_accepted false)) (Offered 0))
    (goes_to phase (Offered readiness))

-- INITIATE in Transfer: 21 with a block accepted.
unfoldable pub initiate_in_transfer_of : Progress → ℕ → Step
initiate_in_transfer_of p readiness = pick (differ p.accepted.blocks 0) (goes_to (Transfer p) UnexpectedInitiate) (receiver_offer_of (Transfer p) readiness)

-- INITIATE: in Idle, or Transfer with nothing accepted. Elsewhere 21.
unfoldable pub receiver_initiate_of : Phase → ℕ → Step
receiver_initiate_of Idle readiness = receiver_offer_of Idle readiness
receiver_initiate_of (Transfer p) readiness = initiate_in_transfer_of p readiness
receiver_initiate_of (Await a) readiness = goes_to (Await a) UnexpectedInitiate
receiver_initiate_of (Good a) readiness = goes_to (Good a) UnexpectedInitiate

-- An image of 1,048,575 bytes has no block above this number.
abbrev pub last_number : ℕ
last_number = 4095

-- 23. A number above the last one passes every capacity.
unfoldable pub passes_capacity : ℕ → ℕ → ℕ → Bool
passes_capacity number size capacity = pick (ltb last_number number) true (block_passes_of number size capacity)

-- The empty block: 24 with none accepted, else phase Await and the closing answer.
unfoldable pub close_transfer_of : Accepted → Step
close_transfer_of accepted = pick (eqb accepted.blocks 0) (goes_to Idle WrongFile) (goes_to (Await accepted) (Closed accepted.blocks))

-- A block that is taken: put at 256 × number, counted, answered with the readiness wait, asking for the next number.
unfoldable pub take_block_of : ℕ → ℕ → ℕ → Step
take_block_of number size readiness = record {
  phase = Transfer (receiver_progress (accepted_counts (number + 1) (place_of number + size)) (ltb size block_size));
  answer = Asking readiness (number + 1);
  store = Some number;
}

-- DATA in Transfer: 22, 24, 23, or taken.
unfoldable pub receiver_transfer_of : Progress → ℕ → ℕ → ℕ → ℕ → Step
receiver_transfer_of p number size capacity readiness =
    pick (differ number p.accepted.blocks) (goes_to (Transfer p) (NotDue p.accepted.blocks))
    (pick (eqb size 0) (close_transfer_of p.accepted)
    (pick p.short (goes_to Idle WrongFile)
    (pick (passes_capacity number size capacity) (goes_to Idle PassesCapacity)
    (take_block_of number size readiness))))

-- DATA. Await: the closing answer again. Idle or Good: 21.
unfoldable pub receiver_data_of : Phase → ℕ → ℕ → ℕ → ℕ → Step
receiver_data_of Idle number size capacity readiness = goes_to Idle UnexpectedData
receiver_data_of (Transfer p) number size capacity readiness = receiver_transfer_of p number size capacity readiness
receiver_data_of (Await a) number size capacity readiness = goes_to (Await a) (Closed a.blocks)
receiver_data_of (Good a) number size capacity readiness = goes_to (Good a) UnexpectedData

-- VALIDATE in Await. Good: phase Good, success. Bad: 25, Idle. Later: its wait, phase kept.
unfoldable pub receiver_verdict_of : Accepted → Verdict → Step
receiver_verdict_of accepted Ver.Good = goes_to (Good accepted) Success
receiver_verdict_of accepted Ver.Bad = goes_to Idle VerdictBad
receiver_verdict_of accepted (Ver.Later wait) = goes_to (Await accepted) (Later wait)

-- VALIDATE. Good: success again whatever verdict is given. Idle or Transfer: 21.
unfoldable pub receiver_validate_of : Phase → Verdict → Step
receiver_validate_of Idle verdict = goes_to Idle UnexpectedValidate
receiver_validate_of (Transfer p) verdict = goes_to (Transfer p) UnexpectedValidate
receiver_validate_of (Await a) verdict = receiver_verdict_of a verdict
receiver_validate_of (Good a) verdict = goes_to (Good a) Success

-- ABORT: Transfer or Await go to Idle. Else 21.
unfoldable pub receiver_abort_of : Phase → Step
receiver_abort_of Idle = goes_to Idle Unexpected
receiver_abort_of (Transfer p) = goes_to Idle Aborted
receiver_abort_of (Await a) = goes_to Idle Aborted
receiver_abort_of (Good a) = goes_to (Good a) Unexpected

-- GET_FW_ID: answered in every phase, phase kept. DATA_NR, DATA_PAUSE and VENDOR_SPECIFIC, which are not built: 21 in every phase
-- (01, The parts of the cable job).
unfoldable pub receiver_decide_of : Phase → Request → ℕ → ℕ → Verdict → Step
receiver_decide_of phase Req.GetFwId capacity readiness verdict = goes_to phase Identified
receiver_decide_of phase (Req.Initiate versions) capacity readiness verdict = receiver_initiate_of phase readiness
receiver_decide_of phase (Req.Data number size) capacity readiness verdict = receiver_data_of phase number size capacity readiness
receiver_decide_of phase Req.Validate capacity readiness verdict = receiver_validate_of phase verdict
receiver_decide_of phase Req.Abort capacity readiness verdict = receiver_abort_of phase
receiver_decide_of phase Req.NotBuilt capacity readiness verdict = goes_to phase Unexpected

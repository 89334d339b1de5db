-- What the indoor end does when time passes (01, The indoor end's phases; 01, Sizes and numbers).
use Rattle.std.specs.Prelude.{ℕ, ◌-◌, ltb, eqb, Option, Some, None}
use Rattle.basis.specs.Pick.{pick}
use Rattle.silence.specs.Expiry.{grown_of}
use Rattle.silence.specs.declared.Grown.{Grown}
use Rattle.silence.specs.declared.Event.{Event}
use Rattle.silence.specs.declared.Event.TheVariants.{Quiet, Resend, NoneLeft}
use Rattle.indoor_state.specs.Phase.{indoor_progress, indoor_state}
use Rattle.indoor_state.specs.Step.{indoor_step}
use Rattle.indoor_rules.specs.Step.{fails, block_sent}
use Rattle.indoor_state.specs.declared.plan.Plan.{Plan}
use Rattle.indoor_state.specs.declared.phase.Reason.TheVariants.{Silence}
use Rattle.indoor_state.specs.declared.phase.Progress.{Progress}
use Rattle.indoor_state.specs.declared.phase.Phase.{Phase}
use Rattle.indoor_state.specs.declared.phase.Phase.TheVariants.{Identify, Initiate, Transfer, Validate, Done, Failed}
use Rattle.indoor_state.specs.declared.phase.State.{State}
use Rattle.indoor_state.specs.declared.answer.Answer.{Answer}
use Rattle.indoor_state.specs.declared.answer.Answer.TheVariants.{Identifying, Initiating, Sending, Validating, Passed}
use Rattle.indoor_state.specs.declared.step.Step.{Step}

-- In Identify, Initiate and Validate the request is resent at each silence limit while resends are left; with none left: 40.
unfoldable pub resend_on_event : Phase → Answer → Grown → Event → Step
resend_on_event phase again grown Quiet = indoor_step (indoor_state phase grown.silence grown.resends) Passed
resend_on_event phase again grown Resend = indoor_step (indoor_state phase grown.silence grown.resends) again
resend_on_event phase again grown NoneLeft = fails Silence

-- The first expiry in Transfer: 40.
unfoldable pub transfer_on_event : Phase → Grown → Event → Step
transfer_on_event phase grown Quiet = indoor_step (indoor_state phase grown.silence grown.resends) Passed
transfer_on_event phase grown Resend = fails Silence
transfer_on_event phase grown NoneLeft = fails Silence

-- Silence and resends after a call, and whether the limit was reached.
abbrev pub indoor_silence_of : Plan → State → ℕ → Grown
indoor_silence_of plan state elapsed = grown_of state.silence elapsed state.resends plan.settings

unfoldable pub resends_of : Plan → State → Answer → ℕ → Step
resends_of plan state again elapsed = resend_on_event state.phase again (indoor_silence_of plan state elapsed) (indoor_silence_of plan state elapsed).event

unfoldable pub transfer_expires_of : Plan → State → ℕ → Step
transfer_expires_of plan state elapsed = transfer_on_event state.phase (indoor_silence_of plan state elapsed) (indoor_silence_of plan state elapsed).event

-- Both by what goes out again, if anything: in Transfer nothing is resent.
abbrev pub expires_of : Plan → State → Option Answer → ℕ → Step
expires_of plan state (Some again) elapsed = resends_of plan state again elapsed
expires_of plan state None elapsed = transfer_expires_of plan state elapsed

-- Silence doesn't grow in a wait.
abbrev pub waits_on : State → Phase → Step
waits_on state phase = indoor_step (indoor_state phase state.silence state.resends) Passed

-- The call that ends a wait sends, and its leftover time is dropped; this isn't a resend.
abbrev pub wait_over : State → Phase → Answer → Step
wait_over state phase answer = indoor_step (indoor_state phase 0 state.resends) answer

-- Time in Initiate, Transfer and Validate, each in three cases: outside a wait (0 ms left) silence grows; the wait goes on; the wait is over.
unfoldable pub initiate_tick_of : Plan → State → ℕ → ℕ → Step
initiate_tick_of plan state wait elapsed =
    pick (eqb wait 0) (resends_of plan state Initiating elapsed)
    (pick (ltb elapsed wait) (waits_on state (Initiate (wait - elapsed)))
    (wait_over state (Initiate 0) Initiating))

-- The first and the third are the same rule of another phase and request; `left` is the phase with what is left of its wait.
unfoldable pub request_tick_of : Plan → State → ℕ → Phase → Answer → ℕ → Step
request_tick_of plan state wait left answer elapsed =
    pick (eqb wait 0) (resends_of plan state answer elapsed)
    (pick (ltb elapsed wait) (waits_on state left)
    (wait_over state left answer))

unfoldable pub transfer_tick_of : Plan → State → Progress → ℕ → Step
transfer_tick_of plan state p elapsed =
    pick (eqb p.wait 0) (transfer_expires_of plan state elapsed)
    (pick (ltb elapsed p.wait) (waits_on state (Transfer (indoor_progress p.asked (p.wait - elapsed) p.emptied)))
    (wait_over state (block_sent plan p.asked p.emptied) (Sending p.asked)))

unfoldable pub validate_tick_of : Plan → State → ℕ → ℕ → Step
validate_tick_of plan state wait elapsed =
    pick (eqb wait 0) (resends_of plan state Validating elapsed)
    (pick (ltb elapsed wait) (waits_on state (Validate (wait - elapsed)))
    (wait_over state (Validate 0) Validating))

-- In Done and Failed time does nothing.
unfoldable pub indoor_tick_in : Plan → State → Phase → ℕ → Step
indoor_tick_in plan state Identify elapsed = resends_of plan state Identifying elapsed
indoor_tick_in plan state (Initiate wait) elapsed = initiate_tick_of plan state wait elapsed
indoor_tick_in plan state (Transfer p) elapsed = transfer_tick_of plan state p elapsed
indoor_tick_in plan state (Validate wait) elapsed = validate_tick_of plan state wait elapsed
indoor_tick_in plan state Done elapsed = indoor_step state Passed
indoor_tick_in plan state (Failed reason) elapsed = indoor_step state Passed

abbrev pub indoor_tick_of : Plan → State → ℕ → Step
indoor_tick_of plan state elapsed = indoor_tick_in plan state state.phase elapsed

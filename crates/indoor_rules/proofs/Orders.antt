-- What the indoor end does with the response that is due, in the paper's order and its own numbers: 41, then 42, 43, 44, 45, or accepted
-- (01, The indoor end's phases; 01, Numbers we answer).
use Prim.Native.Nat.{ℕ, ◌*◌, ◌<◌, ◌≤◌}
use mathlib.Core.Bool.{Bool, true, false}
use mathlib.Core.Path.{◌≡◌, refl}
use native.Mathlib.Omega.{arith}
use borrow.Author.Tests.{ne_eqb, lt-ltb, le-ltb}
use Rattle.basis.specs.Pick.{pick, differ, eq_differ, ne_differ}
use Rattle.image.specs.Blocks.{blocks_of}
use Rattle.wire.specs.declared.response.Identity.{Identity}
use Rattle.wire.specs.declared.response.Response.{Response}
use Rattle.wire.specs.declared.response.Response.TheVariants as Res
use Rattle.indoor_state.specs.Phase.{indoor_progress, indoor_state}
use Rattle.indoor_state.specs.Step.{indoor_step}
use Rattle.indoor_rules.specs.Step.{emptied_by}
use Rattle.indoor_rules.specs.Decide.{not_ok, where_ok, compared_of, ready_of, indoor_offered_of, indoor_close_number_of, indoor_close_of, block_asked_of, indoor_data_of, indoor_success_of, indoor_validated_of, indoor_identify_of, indoor_initiate_of, indoor_transfer_of, indoor_validate_of, indoor_decide_in, indoor_decide_of}
use Rattle.indoor_state.specs.declared.plan.Plan.{Plan}
use Rattle.indoor_state.specs.declared.phase.Reason.{Reason}
use Rattle.indoor_state.specs.declared.phase.Reason.TheVariants.{Refused, NotNewer, TooLarge, WrongNumber, NotValid}
use Rattle.indoor_state.specs.declared.phase.Phase.{Phase}
use Rattle.indoor_state.specs.declared.phase.Phase.TheVariants.{Identify, Initiate, Transfer, Validate, Done, Failed}
use Rattle.indoor_state.specs.declared.answer.Answer.{Answer}
use Rattle.indoor_state.specs.declared.answer.Answer.TheVariants as Ans
use Rattle.indoor_state.specs.declared.step.Step.{Step}
use Rattle.indoor_rules.proofs.Compared.{Newer, newer_yes, newer_no}

-- Accepted: silence and resends are zero. Failed: nothing is left but the reason.
abbrev pub accepted : Phase → Answer → Step
accepted phase answer = indoor_step (indoor_state phase 0 0) answer

abbrev pub failed : Reason → Step
failed reason = indoor_step (indoor_state (Failed reason) 0 0) (Ans.Failed reason)

module _ (plan : Plan) (silence resends : ℕ) where
  abbrev then : Phase → Response → Step
  then phase response = indoor_decide_of plan (indoor_state phase silence resends) response

  abbrev pub n : ℕ
  n = blocks_of plan.length

  -- GET_FW_ID in Identify
  module _ (reported : Identity) where
    -- 41 whatever is reported
    pub identify_41 : (status : ℕ) → (status ≡ 0 → ⊥) → then Identify (Res.GetFwId status reported) ≡ failed Refused
    unfolding indoor_decide_in indoor_identify_of where_ok not_ok pick
    identify_41 status h = rw (ne_differ status 0 h)

    pub identify_42 : (Newer plan.release reported → ⊥) → then Identify (Res.GetFwId 0 reported) ≡ failed NotNewer
    unfolding indoor_decide_in indoor_identify_of compared_of where_ok not_ok differ pick
    identify_42 h = rw (newer_no plan.release reported h)

    pub identified : Newer plan.release reported → then Identify (Res.GetFwId 0 reported) ≡ accepted (Initiate 0) Ans.Initiating
    unfolding indoor_decide_in indoor_identify_of compared_of where_ok not_ok differ pick
    identified h = rw (newer_yes plan.release reported h)

  -- INITIATE in Initiate, in a wait or not
  module _ (left size : ℕ) where
    -- 41 whatever the wait and the size are
    pub initiate_41_status : (status wait : ℕ) → (status ≡ 0 → ⊥) → then (Initiate left) (Res.Initiate status wait size) ≡ failed Refused
    unfolding indoor_decide_in indoor_initiate_of where_ok not_ok pick
    initiate_41_status status wait h = rw (ne_differ status 0 h)

    pub initiate_41_wait : then (Initiate left) (Res.Initiate 0 255 size) ≡ failed Refused
    unfolding indoor_decide_in indoor_initiate_of indoor_offered_of where_ok not_ok differ pick
    initiate_41_wait = refl

    -- The size of a waiting answer is not looked at. WaitTime counts 10 ms.
    pub initiate_waits : (wait : ℕ) → 0 < wait → wait ≤ 254 → then (Initiate left) (Res.Initiate 0 wait size) ≡ accepted (Initiate (10 * wait)) Ans.Waiting
    unfolding indoor_decide_in indoor_initiate_of indoor_offered_of where_ok not_ok differ pick
    initiate_waits wait some most = rw (ne_eqb wait 255 (λ e. omega arith), ne_eqb wait 0 (λ e. omega arith))

    pub initiate_43 : size < plan.length → then (Initiate left) (Res.Initiate 0 0 size) ≡ failed TooLarge
    unfolding indoor_decide_in indoor_initiate_of indoor_offered_of ready_of where_ok not_ok differ pick
    initiate_43 h = rw (lt-ltb size plan.length h)

    -- A ready INITIATE answer brings block 0.
    pub initiated : plan.length ≤ size → 0 < n → then (Initiate left) (Res.Initiate 0 0 size) ≡ accepted (Transfer (indoor_progress 0 0 false)) (Ans.Sending 0)
    unfolding indoor_decide_in indoor_initiate_of indoor_offered_of ready_of where_ok not_ok differ emptied_by pick
    initiated h some = rw (le-ltb size plan.length h, ne_eqb 0 n (λ e. omega arith))

  -- DATA in Transfer, in a wait or not
  module _ (asked left : ℕ) (emptied : Bool) (number : ℕ) where
    abbrev on_data : ℕ → ℕ → Step
    on_data status wait = then (Transfer (indoor_progress asked left emptied)) (Res.Data status wait number)

    -- 41 whatever the wait and the number are
    pub transfer_41 : (status wait : ℕ) → (status ≡ 0 → ⊥) → on_data status wait ≡ failed Refused
    unfolding indoor_decide_in indoor_transfer_of where_ok not_ok pick
    transfer_41 status wait h = rw (ne_differ status 0 h)

    -- WaitTime 255 is the close only if the empty block has been sent and the number is n, else 44.
    pub closed : emptied ≡ true → number ≡ n → on_data 0 255 ≡ accepted (Validate 0) Ans.Validating
    unfolding indoor_decide_in indoor_transfer_of indoor_data_of indoor_close_of indoor_close_number_of where_ok not_ok differ pick
    closed e h = rw (e, eq_differ number n h)

    pub close_44_early : emptied ≡ false → on_data 0 255 ≡ failed WrongNumber
    unfolding indoor_decide_in indoor_transfer_of indoor_data_of indoor_close_of where_ok not_ok differ pick
    close_44_early e = rw e

    pub close_44_number : emptied ≡ true → (number ≡ n → ⊥) → on_data 0 255 ≡ failed WrongNumber
    unfolding indoor_decide_in indoor_transfer_of indoor_data_of indoor_close_of indoor_close_number_of where_ok not_ok differ pick
    close_44_number e h = rw (e, ne_differ number n h)

    pub asked_44 : (wait : ℕ) → wait ≤ 254 → n < number → on_data 0 wait ≡ failed WrongNumber
    unfolding indoor_decide_in indoor_transfer_of indoor_data_of block_asked_of where_ok not_ok differ pick
    asked_44 wait most h = rw (ne_eqb wait 255 (λ e. omega arith), lt-ltb n number h)

    -- Block j goes out at once ..
    pub asked_sends : number ≤ n → on_data 0 0 ≡ accepted (Transfer (indoor_progress number 0 (emptied_by plan number emptied))) (Ans.Sending number)
    unfolding indoor_decide_in indoor_transfer_of indoor_data_of block_asked_of where_ok not_ok differ pick
    asked_sends h = rw (le-ltb n number h)

    -- .. or after the wait. WaitTime counts 1 ms.
    pub asked_waits : (wait : ℕ) → 0 < wait → wait ≤ 254 → number ≤ n → on_data 0 wait ≡ accepted (Transfer (indoor_progress number wait emptied)) Ans.Waiting
    unfolding indoor_decide_in indoor_transfer_of indoor_data_of block_asked_of where_ok not_ok differ pick
    asked_waits wait some most h = rw (ne_eqb wait 255 (λ e. omega arith), le-ltb n number h, ne_eqb wait 0 (λ e. omega arith))

  -- VALIDATE in Validate, in a wait or not
  module _ (left : ℕ) (success : Bool) where
    -- 41 whatever the wait and the success bit are
    pub validate_41_status : (status wait : ℕ) → (status ≡ 0 → ⊥) → then (Validate left) (Res.Validate status wait success) ≡ failed Refused
    unfolding indoor_decide_in indoor_validate_of where_ok not_ok pick
    validate_41_status status wait h = rw (ne_differ status 0 h)

    pub validate_41_wait : then (Validate left) (Res.Validate 0 255 success) ≡ failed Refused
    unfolding indoor_decide_in indoor_validate_of indoor_validated_of where_ok not_ok differ pick
    validate_41_wait = refl

    -- WaitTime counts 1 ms, and the success bit of a waiting answer is not looked at.
    pub validate_waits : (wait : ℕ) → 0 < wait → wait ≤ 254 → then (Validate left) (Res.Validate 0 wait success) ≡ accepted (Validate wait) Ans.Waiting
    unfolding indoor_decide_in indoor_validate_of indoor_validated_of where_ok not_ok differ pick
    validate_waits wait some most = rw (ne_eqb wait 255 (λ e. omega arith), ne_eqb wait 0 (λ e. omega arith))

  pub validate_45 : (left : ℕ) → then (Validate left) (Res.Validate 0 0 false) ≡ failed NotValid
  unfolding indoor_decide_in indoor_validate_of indoor_validated_of indoor_success_of where_ok not_ok differ pick
  validate_45 left = refl

  pub validated : (left : ℕ) → then (Validate left) (Res.Validate 0 0 true) ≡ accepted Done Ans.Finished
  unfolding indoor_decide_in indoor_validate_of indoor_validated_of indoor_success_of where_ok not_ok differ pick
  validated left = refl

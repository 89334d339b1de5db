-- The rows of the phases, one by one, as the paper has them (01, The receiver's phases). DATA in Transfer is in DataOrders.
use Prim.Native.Nat.{ℕ, ◌<◌}
use mathlib.Core.Bool.{false}
use mathlib.Core.Path.{◌≡◌, refl}
use native.Mathlib.Omega.{arith}
use borrow.Author.Tests.{ne_eqb}
use Rattle.basis.specs.Pick.{pick, eq_differ, ne_differ}
use Rattle.wire.specs.declared.request.Versions.{Versions}
use Rattle.wire.specs.declared.request.Request.TheVariants as Req
use Rattle.receiver_state.specs.Phase.{nothing_accepted}
use Rattle.receiver_state.specs.declared.answer.Answer.TheVariants.{Identified, Offered, Closed, Success, Later, Aborted, UnexpectedInitiate, UnexpectedData, UnexpectedValidate, Unexpected, VerdictBad}
use Rattle.receiver_state.specs.declared.phase.Accepted.{Accepted}
use Rattle.receiver_state.specs.declared.phase.Progress.{Progress}
use Rattle.receiver_state.specs.declared.phase.Phase.{Phase}
use Rattle.receiver_state.specs.declared.phase.Phase.TheVariants.{Idle, Transfer, Await, Good}
use Rattle.receiver_rules.specs.Decide.{goes_to, receiver_progress, receiver_offer_of, initiate_in_transfer_of, receiver_initiate_of, receiver_data_of, receiver_verdict_of, receiver_validate_of, receiver_abort_of, receiver_decide_of}
use Rattle.receiver_state.specs.declared.verdict.Verdict.{Verdict}
use Rattle.receiver_state.specs.declared.verdict.Verdict.TheVariants as Ver

module _ (capacity : ℕ) where
  -- GET_FW_ID: answered in every phase, phase kept.
  pub identified_everywhere : (phase : Phase) (readiness : ℕ) (verdict : Verdict) → receiver_decide_of phase Req.GetFwId capacity readiness verdict ≡ goes_to phase Identified
  unfolding receiver_decide_of
  identified_everywhere phase readiness verdict = refl

  -- DATA_NR, DATA_PAUSE and VENDOR_SPECIFIC: 21 in every phase, no response.
  pub not_built_everywhere : (phase : Phase) (readiness : ℕ) (verdict : Verdict) → receiver_decide_of phase Req.NotBuilt capacity readiness verdict ≡ goes_to phase Unexpected
  unfolding receiver_decide_of
  not_built_everywhere phase readiness verdict = refl

  module _ (v : Versions) (verdict : Verdict) where
    -- INITIATE in Idle, or Transfer with nothing accepted. Readiness 0: ready, phase Transfer with nothing accepted.
    pub idle_ready : receiver_decide_of Idle (Req.Initiate v) capacity 0 verdict ≡ goes_to (Transfer (receiver_progress nothing_accepted false)) (Offered 0)
    unfolding receiver_decide_of receiver_initiate_of receiver_offer_of pick
    idle_ready = refl

    pub transfer_ready : (p : Progress) → p.accepted.blocks ≡ 0
        → receiver_decide_of (Transfer p) (Req.Initiate v) capacity 0 verdict ≡ goes_to (Transfer (receiver_progress nothing_accepted false)) (Offered 0)
    unfolding receiver_decide_of receiver_initiate_of initiate_in_transfer_of receiver_offer_of pick
    transfer_ready p none = rw (eq_differ p.accepted.blocks 0 none)

    -- Above 0: that wait, phase kept.
    pub idle_waits : (readiness : ℕ) → 0 < readiness → receiver_decide_of Idle (Req.Initiate v) capacity readiness verdict ≡ goes_to Idle (Offered readiness)
    unfolding receiver_decide_of receiver_initiate_of receiver_offer_of pick
    idle_waits readiness h = rw (ne_eqb readiness 0 (λ e. omega arith))

    pub transfer_waits : (p : Progress) (readiness : ℕ) → p.accepted.blocks ≡ 0 → 0 < readiness
        → receiver_decide_of (Transfer p) (Req.Initiate v) capacity readiness verdict ≡ goes_to (Transfer p) (Offered readiness)
    unfolding receiver_decide_of receiver_initiate_of initiate_in_transfer_of receiver_offer_of pick
    transfer_waits p readiness none h = rw (eq_differ p.accepted.blocks 0 none, ne_eqb readiness 0 (λ e. omega arith))

    -- Elsewhere 21.
    pub initiate_21_transfer : (p : Progress) (readiness : ℕ) → 0 < p.accepted.blocks
        → receiver_decide_of (Transfer p) (Req.Initiate v) capacity readiness verdict ≡ goes_to (Transfer p) UnexpectedInitiate
    unfolding receiver_decide_of receiver_initiate_of initiate_in_transfer_of pick
    initiate_21_transfer p readiness some = rw (ne_differ p.accepted.blocks 0 (λ e. omega arith))

    pub initiate_21_await : (a : Accepted) (readiness : ℕ) → receiver_decide_of (Await a) (Req.Initiate v) capacity readiness verdict ≡ goes_to (Await a) UnexpectedInitiate
    unfolding receiver_decide_of receiver_initiate_of
    initiate_21_await a readiness = refl

    pub initiate_21_good : (a : Accepted) (readiness : ℕ) → receiver_decide_of (Good a) (Req.Initiate v) capacity readiness verdict ≡ goes_to (Good a) UnexpectedInitiate
    unfolding receiver_decide_of receiver_initiate_of
    initiate_21_good a readiness = refl

  module _ (number size readiness : ℕ) (verdict : Verdict) where
    -- DATA, Await: the closing answer again, with the accepted count. Idle or Good: 21.
    pub closed_again : (a : Accepted) → receiver_decide_of (Await a) (Req.Data number size) capacity readiness verdict ≡ goes_to (Await a) (Closed a.blocks)
    unfolding receiver_decide_of receiver_data_of
    closed_again a = refl

    pub data_21_idle : receiver_decide_of Idle (Req.Data number size) capacity readiness verdict ≡ goes_to Idle UnexpectedData
    unfolding receiver_decide_of receiver_data_of
    data_21_idle = refl

    pub data_21_good : (a : Accepted) → receiver_decide_of (Good a) (Req.Data number size) capacity readiness verdict ≡ goes_to (Good a) UnexpectedData
    unfolding receiver_decide_of receiver_data_of
    data_21_good a = refl

  module _ (readiness : ℕ) (a : Accepted) where
    -- VALIDATE, Await with good: phase Good, success. Bad: 25, Idle. Later: its wait, phase kept.
    pub verdict_good : receiver_decide_of (Await a) Req.Validate capacity readiness Ver.Good ≡ goes_to (Good a) Success
    unfolding receiver_decide_of receiver_validate_of receiver_verdict_of
    verdict_good = refl

    pub verdict_bad : receiver_decide_of (Await a) Req.Validate capacity readiness Ver.Bad ≡ goes_to Idle VerdictBad
    unfolding receiver_decide_of receiver_validate_of receiver_verdict_of
    verdict_bad = refl

    pub verdict_later : (wait : ℕ) → receiver_decide_of (Await a) Req.Validate capacity readiness (Ver.Later wait) ≡ goes_to (Await a) (Later wait)
    unfolding receiver_decide_of receiver_validate_of receiver_verdict_of
    verdict_later wait = refl

    -- Good: success again whatever verdict is given.
    pub success_again : (verdict : Verdict) → receiver_decide_of (Good a) Req.Validate capacity readiness verdict ≡ goes_to (Good a) Success
    unfolding receiver_decide_of receiver_validate_of
    success_again verdict = refl

  module _ (readiness : ℕ) (verdict : Verdict) where
    -- Else 21.
    pub validate_21_idle : receiver_decide_of Idle Req.Validate capacity readiness verdict ≡ goes_to Idle UnexpectedValidate
    unfolding receiver_decide_of receiver_validate_of
    validate_21_idle = refl

    pub validate_21_transfer : (p : Progress) → receiver_decide_of (Transfer p) Req.Validate capacity readiness verdict ≡ goes_to (Transfer p) UnexpectedValidate
    unfolding receiver_decide_of receiver_validate_of
    validate_21_transfer p = refl

    -- ABORT: Transfer or Await go to Idle, no response. Else 21, no response.
    pub transfer_aborted : (p : Progress) → receiver_decide_of (Transfer p) Req.Abort capacity readiness verdict ≡ goes_to Idle Aborted
    unfolding receiver_decide_of receiver_abort_of
    transfer_aborted p = refl

    pub await_aborted : (a : Accepted) → receiver_decide_of (Await a) Req.Abort capacity readiness verdict ≡ goes_to Idle Aborted
    unfolding receiver_decide_of receiver_abort_of
    await_aborted a = refl

    pub abort_21_idle : receiver_decide_of Idle Req.Abort capacity readiness verdict ≡ goes_to Idle Unexpected
    unfolding receiver_decide_of receiver_abort_of
    abort_21_idle = refl

    pub abort_21_good : (a : Accepted) → receiver_decide_of (Good a) Req.Abort capacity readiness verdict ≡ goes_to (Good a) Unexpected
    unfolding receiver_decide_of receiver_abort_of
    abort_21_good a = refl

-- A block that was taken and comes again, because the response to it was lost, is 22 and stored nowhere.
use Prim.Native.Nat.{ℕ, ◌+◌, ◌≤◌}
use mathlib.Core.Bool.{Bool, false}
use mathlib.Core.Path.{◌≡◌, ◌∙◌, ap}
use mathlib.Core.List.{List}
use native.Mathlib.Omega.{arith}
use lib.ListN.{length}
use Rattle.wire.specs.declared.request.Request.TheVariants as Req
use Rattle.receiver_state.specs.Phase.{accepted_counts}
use Rattle.receiver_state.specs.declared.answer.Answer.TheVariants.{NotDue}
use Rattle.receiver_state.specs.declared.phase.Phase.{Phase}
use Rattle.receiver_state.specs.declared.phase.Phase.TheVariants.{Transfer}
use Rattle.receiver_rules.specs.Range.{out_of_range}
use Rattle.receiver_rules.specs.Decide.{goes_to, receiver_progress, receiver_decide_of}
use Rattle.receiver_rules.proofs.DataOrders.{answers_22}
use Rattle.receiver_state.specs.declared.verdict.Verdict.{Verdict}
use Rattle.receiver_rules.specs.Request.{request_done, receiver_request_of}
use Rattle.receiver_state.specs.declared.session.Receiver.{Receiver}
use Rattle.receiver_rules.proofs.Answers.{answers_step}
use Rattle.receiver_rules.proofs.Stored.{Stored}

module _ (number size capacity readiness : ℕ) (verdict : Verdict) where
  counted_22 : (phase : Phase) (bytes : ℕ) (short : Bool) → phase ≡ Transfer (receiver_progress (accepted_counts (number + 1) bytes) short)
      → receiver_decide_of phase (Req.Data number size) capacity readiness verdict ≡ goes_to phase (NotDue (number + 1))
  counted_22 phase bytes short e =
      rw e (answers_22 (receiver_progress (accepted_counts (number + 1) bytes) short) number size capacity readiness verdict (λ n. omega arith))

-- r is the session that taking the block led to, and image the image that it left.
module _ (before : Phase) (request image₀ image : List ℕ) (r : Receiver) (taken : Stored before r.capacity request image₀ image r.phase) where
  pub repeated_22 : (readiness : ℕ) (verdict : Verdict) (out : List ℕ) → length image ≡ r.capacity → 260 ≤ length out → out_of_range readiness verdict ≡ false
      → receiver_request_of r image request readiness verdict out ≡ request_done r (goes_to r.phase (NotDue (taken.number + 1))) image request out
  repeated_22 readiness verdict out lent room range =
      answers_step r image request readiness verdict out lent room (Req.Data taken.number taken.size) range taken.parsed
      ∙ ap (λ s. request_done r s image request out) (counted_22 taken.number taken.size r.capacity readiness verdict r.phase _ _ taken.counted)

-- Every message of a type that is known and not built, whatever its body: 21 in every phase, no response. Being well formed, it sets silence and
-- resends to zero, and nothing else changes (01, The parts of the cable job; 01, The receiver's phases).
use Prim.Native.Nat.{ℕ, ◌≤◌}
use mathlib.Core.Bool.{false}
use mathlib.Core.Path.{◌≡◌}
use mathlib.Core.List.{List, ◌∷◌, Memᴰ}
use lib.ListN.{length}
use Rattle.wire.specs.Codes.{requests_not_built}
use Rattle.wire.specs.declared.request.Request.TheVariants.{NotBuilt}
use Rattle.wire.proofs.LayoutRead.{request_not_built_reads}
use Rattle.receiver_state.specs.Answer.{reply_of}
use Rattle.receiver_state.specs.declared.answer.Answer.TheVariants.{Unexpected}
use Rattle.receiver_state.specs.declared.verdict.Verdict.{Verdict}
use Rattle.receiver_state.specs.declared.session.Receiver.{Receiver}
use Rattle.receiver_rules.specs.Range.{out_of_range}
use Rattle.receiver_rules.specs.Decide.{receiver_decide_of}
use Rattle.receiver_rules.specs.Respond.{reply_bytes}
use Rattle.receiver_rules.specs.Session.{receiver_returns, receiver_moved}
use Rattle.receiver_rules.specs.Request.{effect, image_after, receiver_request_of}
use Rattle.receiver_rules.proofs.Answers.{answers_step}

module _ (r : Receiver) (image : List ℕ) (readiness : ℕ) (verdict : Verdict) (out : List ℕ) where
  pub not_built_21 : length image ≡ r.capacity → 260 ≤ length out → out_of_range readiness verdict ≡ false
      → (t : ℕ) → Memᴰ t requests_not_built → (body : List ℕ) → length body ≤ 258
      → receiver_request_of r image (0x01 ∷ t ∷ body) readiness verdict out ≡ effect (receiver_returns (receiver_moved r r.phase 0 0) Unexpected 0) image out
  unfolding receiver_decide_of reply_bytes reply_of image_after
  not_built_21 lent room range t known body most =
      answers_step r image (0x01 ∷ t ∷ body) readiness verdict out lent room NotBuilt range (request_not_built_reads body most t known)

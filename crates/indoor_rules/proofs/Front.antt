-- A request that is written into the front of the lent buffer, an array that has room for the longest, is written into the buffer.
use Prim.Native.Nat.{ℕ, ◌≤◌}
use mathlib.Core.Path.{◌≡◌, ap, ◌∙◌}
use mathlib.Core.List.{List, ◌++◌}
use native.Mathlib.Omega.{arith}
use lib.ListN.{length, take, drop}
use Rattle.basis.specs.Left.{Left, left}
use Rattle.lent.proofs.Front.{front_written}
use Rattle.wire.specs.Codes.{longest}
use Rattle.wire.specs.Written.{request_bytes, bare_bytes}
use Rattle.wire.specs.declared.request.Request.TheVariants as Req
use Rattle.indoor_state.specs.declared.plan.Plan.{Plan}
use Rattle.indoor_state.specs.declared.step.Step.{Step}
use Rattle.indoor_state.specs.Session.{IndoorOutcome, IndoorStart}
use Rattle.indoor_rules.specs.Send.{indoor_bytes_of}
use Rattle.indoor_rules.specs.Session.{indoor_done}
use Rattle.indoor_rules.specs.Start.{indoor_begun}
use Rattle.indoor_rules.proofs.Written.{bytes_most}

-- What a call leaves of the front, and the rest of the buffer behind it.
abbrev with_rest : {A : Type 0} → List ℕ → Left A → Left A
with_rest rest x = left x.answer (x.memory ++ rest)

module _ (plan : Plan) (out : List ℕ) (long : longest ≤ length out) where
  pub done_in_front : (step : Step) (file : List ℕ) (o : IndoorOutcome) (front : List ℕ) → left o front ≡ indoor_done plan step file (take longest out)
      → left o (front ++ drop longest out) ≡ indoor_done plan step file out
  done_in_front step file o front e =
      ap (with_rest (drop longest out)) e
      ∙ ap (left _) (front_written (indoor_bytes_of plan file step.answer) out longest (bytes_most plan file step.answer) long)

  pub begun_in_front : (start : IndoorStart) (front : List ℕ) → left start front ≡ indoor_begun plan (take longest out)
      → left start (front ++ drop longest out) ≡ indoor_begun plan out
  unfolding request_bytes bare_bytes
  begun_in_front start front e = ap (with_rest (drop longest out)) e ∙ ap (left _) (front_written (request_bytes Req.GetFwId) out longest (omega arith) long)

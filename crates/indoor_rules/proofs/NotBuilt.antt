-- Every response of a type that is known and not built, whatever its body: 21 in every phase, and nothing changes (01, The parts of the cable
-- job; 01, Numbers we answer).
use Prim.Native.Nat.{ℕ, ◌≤◌}
use mathlib.Core.Path.{◌≡◌}
use mathlib.Core.List.{List, ◌∷◌, Memᴰ}
use lib.ListN.{length}
use Rattle.basis.specs.Left.{left}
use Rattle.wire.specs.Codes.{responses_not_built}
use Rattle.wire.specs.declared.response.Response.TheVariants.{NotBuilt}
use Rattle.wire.proofs.LayoutRead.{response_not_built_reads}
use Rattle.indoor_state.specs.declared.answer.Answer.TheVariants.{Unexpected}
use Rattle.indoor_state.specs.declared.phase.Phase.{Phase}
use Rattle.indoor_state.specs.declared.phase.Phase.TheVariants.{Identify, Initiate, Transfer, Validate, Done, Failed}
use Rattle.indoor_state.specs.declared.session.Indoor.{Indoor}
use Rattle.indoor_rules.specs.Session.{indoor_returns}
use Rattle.indoor_rules.specs.Send.{sends_bytes}
use Rattle.indoor_rules.specs.Response.{indoor_response_of}
use Rattle.indoor_rules.proofs.Answers.{response_step}
use Rattle.indoor_rules.proofs.Due.{Due, passed_over_lem}

never_due : (phase : Phase) → Due phase NotBuilt → ⊥
never_due Identify h = h
never_due (Initiate left) h = h
never_due (Transfer p) h = h
never_due (Validate left) h = h
never_due Done h = h
never_due (Failed reason) h = h

module _ (s : Indoor) (file out : List ℕ) where
  pub not_built_21 : length file ≡ s.plan.length → 260 ≤ length out
      → (t : ℕ) → Memᴰ t responses_not_built → (body : List ℕ) → length body ≤ 258
      → indoor_response_of s file (0x01 ∷ t ∷ body) out ≡ left (indoor_returns s Unexpected 0) out
  unfolding sends_bytes
  not_built_21 lent room t known body most =
      rw (
        response_step s file (0x01 ∷ t ∷ body) out lent room NotBuilt (response_not_built_reads body most t known),
        passed_over_lem s.plan s.state NotBuilt (never_due s.state.phase),
      )

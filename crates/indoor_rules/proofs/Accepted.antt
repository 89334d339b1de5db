-- An accepted response, a failure, n, and how it is kept that the empty block was sent (01, The indoor end's phases).
use Prim.Native.Nat.{ℕ, ◌*◌, ◌≤◌}
use mathlib.Core.Bool.{Bool, true}
use mathlib.Core.Logic.{◌⊎◌, inl, inr}
use mathlib.Core.Path.{◌≡◌, refl}
use borrow.Author.Tests.{eq-eqb, eqb-true}
use Rattle.basis.specs.Pick.{pick, pick_all}
use Rattle.image.proofs.Laws.{enough, least}
use Rattle.indoor_state.specs.Phase.{indoor_state}
use Rattle.indoor_state.specs.Step.{indoor_step}
use Rattle.indoor_rules.specs.Step.{goes, fails, empty_number, emptied_by}
use Rattle.indoor_state.specs.declared.plan.Plan.{Plan}
use Rattle.indoor_state.specs.declared.phase.Reason.{Reason}
use Rattle.indoor_state.specs.declared.phase.Phase.{Phase}
use Rattle.indoor_state.specs.declared.phase.Phase.TheVariants.{Failed}
use Rattle.indoor_state.specs.declared.answer.Answer.{Answer}
use Rattle.indoor_state.specs.declared.answer.Answer.TheVariants as Ans

-- Silence and resends are zero.
pub accepted : (phase : Phase) (answer : Answer) → goes phase answer ≡ indoor_step (indoor_state phase 0 0) answer
accepted phase answer = refl

-- Nothing is left but the reason, and it is the answer too.
pub failed : (reason : Reason) → fails reason ≡ indoor_step (indoor_state (Failed reason) 0 0) (Ans.Failed reason)
failed reason = refl

-- n is the least whole number with 256·n ≥ L.
pub last_enough : (plan : Plan) → plan.length ≤ 256 * empty_number plan
last_enough plan = enough plan.length

pub last_least : (plan : Plan) (n : ℕ) → plan.length ≤ 256 * n → empty_number plan ≤ n
last_least plan n h = least plan.length n h

module _ (plan : Plan) (number : ℕ) (emptied : Bool) where
  pub emptied_stays : emptied ≡ true → emptied_by plan number emptied ≡ true
  unfolding emptied_by pick
  emptied_stays e = rw e

  pub emptied_last : number ≡ empty_number plan → emptied_by plan number emptied ≡ true
  unfolding emptied_by
  emptied_last h = pick_all (λ (t : Bool). t ≡ true) emptied _ _ (λ _. refl) (λ _. eq-eqb number (empty_number plan) h)

  pub emptied_only : emptied_by plan number emptied ≡ true → (emptied ≡ true) ⊎ (number ≡ empty_number plan)
  unfolding emptied_by
  emptied_only =
      pick_all (λ (t : Bool). t ≡ true → (emptied ≡ true) ⊎ (number ≡ empty_number plan)) emptied _ _
      (λ e _. inl e)
      (λ _ t. inr (eqb-true number (empty_number plan) t))

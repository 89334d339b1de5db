-- What a report of the port owes (01, The mailbox; 01, Numbers we answer: 7, then 8).
use Prim.Native.Nat.{ℕ, ◌≤◌, ◌<◌}
use mathlib.Core.Bool.{true, false}
use mathlib.Core.Path.{◌≡◌, refl}
use native.Mathlib.Omega.{arith}
use borrow.Author.Tests.{lt-ltb, le-ltb, ltb-false}
use Rattle.std.specs.Prelude.{Ok}
use Rattle.basis.specs.Pick.{pick, pick_all}
use Rattle.mailbox_state.specs.Answer.{mailbox_number_of}
use Rattle.mailbox_state.specs.Step.{mailbox_step, refused}
use Rattle.mailbox_state.specs.Status.{runs_of}
use Rattle.mailbox_state.specs.declared.answer.Refusal.TheVariants.{NothingRuns, DataTooLong}
use Rattle.mailbox_state.specs.declared.status.CommandStatus.TheVariants.{Completed, Failed}
use Rattle.mailbox_state.specs.declared.state.State.{State}
use Rattle.mailbox_state.specs.declared.step.MessageEffect.TheVariants.{ZeroedAtCompletion, Filled}
use Rattle.mailbox_state.specs.declared.step.Step.{Step}
use Rattle.mailbox_rules.specs.Report.{data_most, success_step_of, failure_step_of}
use Rattle.mailbox_rules.specs.Write.{with_status}

module _ (state : State) where
  -- 7 comes before 8: of any length.
  pub success_7 : (n : ℕ) → runs_of state.status ≡ false → success_step_of state n ≡ refused state NothingRuns
  unfolding success_step_of pick
  success_7 n e = rw e

  pub success_8 : (n : ℕ) → runs_of state.status ≡ true → 255 < n → success_step_of state n ≡ refused state DataTooLong
  unfolding success_step_of pick
  success_8 n e h = rw (e, lt-ltb 255 n h)

  pub success_completes : (n : ℕ) → runs_of state.status ≡ true → n ≤ 255 → success_step_of state n ≡ mailbox_step (with_status state (Completed n)) (Ok tt) Filled
  unfolding success_step_of pick
  success_completes n e h = rw (e, le-ltb 255 n h)

  pub failure_7 : runs_of state.status ≡ false → failure_step_of state ≡ refused state NothingRuns
  unfolding failure_step_of pick
  failure_7 e = rw e

  pub failure_completes : runs_of state.status ≡ true → failure_step_of state ≡ mailbox_step (with_status state Failed) (Ok tt) ZeroedAtCompletion
  unfolding failure_step_of pick
  failure_completes e = rw e

abbrev Fits : ℕ → Step → Type 0
Fits n step = mailbox_number_of step.answer ≡ 0 → n ≤ data_most

-- A success that is taken has at most 255 bytes.
pub success_fits : (state : State) (n : ℕ) → Fits n (success_step_of state n)
unfolding success_step_of
success_fits state n =
    pick_all (Fits n) _ _ _ (λ still e. absurd (omega arith))
    (λ runs. pick_all (Fits n) _ _ _ (λ long e. absurd (omega arith)) (λ short e. ltb-false data_most n short))

-- A report leaves the connector shown and those that wait.
abbrev Leaves : State → Step → Type 0
Leaves state step = step.state.changes ≡ state.changes

pub success_leaves : (state : State) (n : ℕ) → Leaves state (success_step_of state n)
unfolding success_step_of
success_leaves state n = pick_all (Leaves state) _ _ _ (λ y. refl) (λ n. pick_all (Leaves state) _ _ _ (λ y. refl) (λ n. refl))

pub failure_leaves : (state : State) → Leaves state (failure_step_of state)
unfolding failure_step_of
failure_leaves state = pick_all (Leaves state) _ _ _ (λ y. refl) (λ n. refl)

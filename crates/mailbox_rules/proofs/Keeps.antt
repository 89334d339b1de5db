-- A refused event keeps the state, and MESSAGE_IN too (01, Numbers we answer: kept).
use Prim.Native.Nat.{ℕ}
use lib.ListN.{length}
use mathlib.Core.Path.{◌≡◌, refl, ap}
use Rattle.std.specs.Prelude.{Result, Ok, Err}
use Rattle.basis.specs.Pick.{pick_all}
use Rattle.commands.specs.Table.{entry_of}
use Rattle.commands.proofs.Rows.{named}
use Rattle.commands.specs.Control.{control_of}
use Rattle.commands.specs.declared.control.Control.{Control}
use Rattle.commands.specs.declared.control.WrongLength.{WrongLength}
use Rattle.mailbox_state.specs.Answer.{mailbox_number_of}
use Rattle.mailbox_state.specs.Step.{mailbox_step}
use Rattle.mailbox_state.specs.declared.step.MessageEffect.TheVariants.{Kept}
use Rattle.mailbox_state.specs.declared.state.State.{State}
use Rattle.mailbox_state.specs.declared.step.Step.{Step}
use Rattle.mailbox_rules.specs.Change.{present_step_of, change_step_of}
use Rattle.mailbox_rules.specs.Events.{Event, writes, succeeds, fails, changes, parsed_step_of, event_step_of}
use Rattle.mailbox_rules.specs.Report.{success_step_of, failure_step_of}
use Rattle.mailbox_rules.specs.Write.{control_step_of}
use Rattle.mailbox_rules.proofs.Command.{judged_all, taken_takes}

abbrev pub Keeps : State → Step → Type 0
Keeps state step = (mailbox_number_of step.answer ≡ 0 → ⊥) → step ≡ mailbox_step state step.answer Kept

module _ (state : State) where
  pub write_keeps : (control : Control) → Keeps state (control_step_of state control)
  write_keeps control =
      judged_all (Keeps state) state (entry_of control.code) control _ (λ refusal e h. refl)
      (λ e h. absurd (h (ap mailbox_number_of (taken_takes state control (entry_of control.code).class (entry_of control.code).connector (named control.code)).answer)))

  parsed_keeps : (parsed : Result Control WrongLength) → Keeps state (parsed_step_of state parsed)
  unfolding parsed_step_of
  parsed_keeps (Ok control) = write_keeps control
  parsed_keeps (Err wrong) = λ h. refl

  success_keeps : (n : ℕ) → Keeps state (success_step_of state n)
  unfolding success_step_of
  success_keeps n = pick_all (Keeps state) _ _ _ (λ still h. refl) (λ runs. pick_all (Keeps state) _ _ _ (λ long h. refl) (λ short h. absurd (h refl)))

  failure_keeps : Keeps state (failure_step_of state)
  unfolding failure_step_of
  failure_keeps = pick_all (Keeps state) _ _ _ (λ y h. refl) (λ n h. absurd (h refl))

  change_keeps : (c reason : ℕ) → Keeps state (change_step_of state c reason)
  unfolding change_step_of present_step_of
  change_keeps c reason =
      pick_all (Keeps state) _ _ _ (λ absent h. refl) (λ there. pick_all (Keeps state) _ _ _ (λ not h. refl) (λ heard h. absurd (h refl)))

  pub event_keeps : (e : Event) → Keeps state (event_step_of state e)
  event_keeps (writes control) = parsed_keeps (control_of control)
  event_keeps (succeeds bytes) = success_keeps (length bytes)
  event_keeps fails = failure_keeps
  event_keeps (changes c reason) = change_keeps c reason

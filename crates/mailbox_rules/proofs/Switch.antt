-- Nothing but PPM_RESET and SET_NOTIFICATION_ENABLE alters the mask, or switches notifications on or off (01, The mailbox).
use Prim.Native.Nat.{ℕ}
use mathlib.Core.Bool.{Bool}
use mathlib.Core.List.{List}
use mathlib.Core.Logic.{◌⊎◌, inl, inr}
use mathlib.Core.Path.{◌≡◌, refl, ap}
use lib.ListN.{length}
use Rattle.std.specs.Prelude.{Result}
use Rattle.basis.specs.Pick.{pick_all, differ_false}
use Rattle.commands.specs.Control.{fields_of, control_of}
use Rattle.commands.specs.Table.{entry_of}
use Rattle.commands.proofs.Rows.{Named, named}
use Rattle.commands.specs.declared.control.Control.{Control}
use Rattle.commands.specs.declared.control.WrongLength.{WrongLength}
use Rattle.commands.specs.declared.table.Class.{Class}
use Rattle.commands.specs.declared.table.Class.TheVariants as class
use Rattle.mailbox_state.specs.declared.state.State.{State}
use Rattle.mailbox_state.specs.declared.step.Step.{Step}
use Rattle.mailbox_rules.specs.Events.{Event, writes, succeeds, fails, changes, parsed_step_of, event_step_of}
use Rattle.mailbox_rules.specs.Report.{success_step_of, failure_step_of}
use Rattle.mailbox_rules.specs.Sentences.{MaySwitch}
use Rattle.mailbox_rules.specs.Write.{starts_command, taken_step_of, control_step_of}
use Rattle.mailbox_rules.proofs.Command.{judged_all}
use Rattle.mailbox_rules.proofs.Noted.{change_alters}

abbrev Leaves : State → Step → Type 0
Leaves state step = step.state.notifications ≡ state.notifications

module _ (state : State) where
  success_mask : (n : ℕ) → Leaves state (success_step_of state n)
  unfolding success_step_of
  success_mask n = pick_all (Leaves state) _ _ _ (λ still. refl) (λ runs. pick_all (Leaves state) _ _ _ (λ long. refl) (λ short. refl))

  failure_mask : Leaves state (failure_step_of state)
  unfolding failure_step_of
  failure_mask = pick_all (Leaves state) _ _ _ (λ still. refl) (λ runs. refl)

  module _ (control : Control) where
    abbrev Switches : Step → Type 0
    Switches step = Leaves state step ⊎ ((control.code ≡ 0x01) ⊎ (control.code ≡ 0x05))

    taken_mask : (class : Class) (needs : Bool) → Named control.code class → Switches (taken_step_of state class needs control)
    unfolding taken_step_of starts_command
    taken_mask class.Reset needs h = inr (inl h)
    taken_mask class.Cancel needs h = inl refl
    taken_mask class.Acknowledge needs h = inl refl
    taken_mask class.Enable needs h = inr (inr h)
    taken_mask class.Run needs h = inl (pick_all (Leaves state) _ _ _ (λ absent. refl) (λ there. refl))
    taken_mask class.NotSupported needs h = inl refl

    control_mask : Switches (control_step_of state control)
    control_mask =
        judged_all Switches state (entry_of control.code) control _ (λ refusal e. inl refl)
        (λ e. taken_mask (entry_of control.code).class (entry_of control.code).connector (named control.code))

  write_mask : (control : List ℕ) → Leaves state (event_step_of state (writes control)) ⊎ MaySwitch (writes control)
  unfolding control_of parsed_step_of
  write_mask control =
      pick_all (λ (p : Result Control WrongLength). Leaves state (parsed_step_of state p) ⊎ MaySwitch (writes control)) _ _ _ (λ y. inl refl)
      (λ n. by (differ_false (length control) 8 n) (control_mask (fields_of control)))
    where
      by : length control ≡ 8 → {A : Type 0} → A ⊎ (((fields_of control).code ≡ 0x01) ⊎ ((fields_of control).code ≡ 0x05))
          → A ⊎ MaySwitch (writes control)
      by e (inl a) = inl a
      by e (inr (inl h)) = inr (inl (record { eight = e; coded = h }))
      by e (inr (inr h)) = inr (inr (record { eight = e; coded = h }))

  pub event_mask : (e : Event) → Leaves state (event_step_of state e) ⊎ MaySwitch e
  event_mask (writes control) = write_mask control
  event_mask (succeeds bytes) = inl (success_mask (length bytes))
  event_mask fails = inl failure_mask
  event_mask (changes c reason) = inl (ap (λ (s : State). s.notifications) (change_alters state c reason).others)

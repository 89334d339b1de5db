-- What a write owes, whatever it is (01, The mailbox).
use mathlib.Core.Bool.{Bool, true}
use mathlib.Core.Logic.{◌⊎◌, inl, inr}
use mathlib.Core.Path.{◌≡◌, refl, sym, ◌∙◌, ap, subst}
use Rattle.std.specs.Prelude.{Ok, Err}
use Rattle.basis.specs.Pick.{pick, pick_all}
use Rattle.commands.specs.Table.{entry_of}
use Rattle.commands.proofs.Rows.{Named, named}
use Rattle.commands.specs.declared.table.Class.{Class}
use Rattle.commands.specs.declared.table.Class.TheVariants as class
use Rattle.commands.specs.declared.table.Entry.{Entry}
use Rattle.commands.specs.declared.control.Control.{Control}
use Rattle.mailbox_state.specs.Answer.{Answer}
use Rattle.mailbox_state.specs.declared.answer.Refusal.{Refusal}
use Rattle.mailbox_state.specs.Status.{runs_of}
use Rattle.mailbox_state.specs.State.{no_changes}
use Rattle.mailbox_state.specs.Step.{refused}
use Rattle.mailbox_state.specs.declared.status.CommandStatus.{CommandStatus}
use Rattle.mailbox_state.specs.declared.status.CommandStatus.TheVariants.{Nothing, ResetDone, Busy, Completed, Failed, NotSupported, Cancelled, Acknowledged}
use Rattle.mailbox_state.specs.declared.state.Changes.{Changes}
use Rattle.mailbox_state.specs.declared.state.State.{State}
use Rattle.mailbox_state.specs.declared.step.MessageEffect.{MessageEffect}
use Rattle.mailbox_state.specs.declared.step.MessageEffect.TheVariants as effect
use Rattle.mailbox_state.specs.declared.step.Step.{Step}
use Rattle.mailbox_rules.specs.Changes.{next_shown_of}
use Rattle.mailbox_rules.specs.Refusal.{situation_of, refusal_of}
use Rattle.mailbox_rules.specs.Write.{starts_command, taken_step_of, judged_step_of, control_step_of}

-- What holds of a refused write, and of a taken one, holds of a judged one.
pub judged_all : (P : Step → Type 0) (state : State) (entry : Entry) (control : Control) (answer : Answer) → ((refusal : Refusal) → answer ≡ Err refusal → P (refused state refusal))
    → (answer ≡ Ok tt → P (taken_step_of state entry.class entry.connector control)) → P (judged_step_of state entry control answer)
unfolding judged_step_of
judged_all P state entry control (Ok taken) refuses takes = takes refl
judged_all P state entry control (Err refusal) refuses takes = refuses refusal refl

-- The shown connector and those that wait change by PPM_RESET, or by an accepted ACK with bit 16, and else stay.
pub data ShownBy (control : Control) (a : Answer) (before after : Changes) : Type 0 where
  stays : after ≡ before → ShownBy control a before after
  reset : control.code ≡ 0x01 → after ≡ no_changes → ShownBy control a before after
  acknowledged : control.code ≡ 0x04 → control.change ≡ true → a ≡ Ok tt → after ≡ next_shown_of before → ShownBy control a before after

-- The status after a write that is taken, by its class: a command completes or is cancelled, and then an acknowledgement is due, or it runs.
abbrev pub StatusOf : Class → CommandStatus → Type 0
StatusOf class.Reset status = status ≡ ResetDone
StatusOf class.Cancel status = status ≡ Cancelled
StatusOf class.Acknowledge status = status ≡ Acknowledged
StatusOf class.Enable status = status ≡ Completed 0
StatusOf class.Run status = (runs_of status ≡ true) ⊎ (status ≡ Failed)
StatusOf class.NotSupported status = status ≡ NotSupported

-- Start and ACK keep MESSAGE_IN; reset, cancel and a completion without data zero it. A write never fills it.
abbrev pub EffectOf : CommandStatus → MessageEffect → Type 0
EffectOf Nothing e = ⊥
EffectOf ResetDone e = e ≡ effect.ZeroedAtReset
EffectOf (Busy command) e = e ≡ effect.Kept
EffectOf (Completed length) e = e ≡ effect.ZeroedAtCompletion
EffectOf Failed e = e ≡ effect.ZeroedAtCompletion
EffectOf NotSupported e = e ≡ effect.ZeroedAtCompletion
EffectOf Cancelled e = e ≡ effect.ZeroedAtCancel
EffectOf Acknowledged e = e ≡ effect.Kept

pub record Takes (state : State) (class : Class) (control : Control) (step : Step) : Type 0 where
  pub answer : step.answer ≡ Ok tt
  pub connectors : step.state.connectors ≡ state.connectors
  pub status : StatusOf class step.state.status
  pub effect : EffectOf step.state.status step.effect
  pub shown : ShownBy control step.answer state.changes step.state.changes

module _ (state : State) (control : Control) where
  begun : (needs : Bool) → Takes state class.Run control (starts_command state needs control)
  unfolding starts_command runs_of
  begun needs =
      pick_all (Takes state class.Run control) _ _ _
      (λ y. record { answer = refl; connectors = refl; status = inr refl; effect = refl; shown = stays refl })
      (λ n. record { answer = refl; connectors = refl; status = inl refl; effect = refl; shown = stays refl })

  acked : control.code ≡ 0x04 → ShownBy control (Ok tt) state.changes (pick control.change (next_shown_of state.changes) state.changes)
  acked e = pick_all (ShownBy control (Ok tt) state.changes) _ _ _ (λ y. acknowledged e y refl refl) (λ n. stays refl)

  pub taken_takes : (class : Class) (needs : Bool) → Named control.code class → Takes state class control (taken_step_of state class needs control)
  unfolding taken_step_of
  taken_takes class.Reset needs h = record { answer = refl; connectors = refl; status = refl; effect = refl; shown = reset h refl }
  taken_takes class.Cancel needs h = record { answer = refl; connectors = refl; status = refl; effect = refl; shown = stays refl }
  taken_takes class.Acknowledge needs h = record { answer = refl; connectors = refl; status = refl; effect = refl; shown = acked h }
  taken_takes class.Enable needs h = record { answer = refl; connectors = refl; status = refl; effect = refl; shown = stays refl }
  taken_takes class.Run needs h = begun needs
  taken_takes class.NotSupported needs h = record { answer = refl; connectors = refl; status = refl; effect = refl; shown = stays refl }

  abbrev of_class : Class
  of_class = (entry_of control.code).class

  abbrev judged : Answer
  judged = refusal_of of_class (situation_of state control)

  -- A write that is taken does what its class says.
  pub write_takes : judged ≡ Ok tt → Takes state of_class control (control_step_of state control)
  unfolding judged_step_of
  write_takes e =
      subst (λ (a : Answer). Takes state of_class control (judged_step_of state (entry_of control.code) control a)) (sym e)
      (taken_takes of_class (entry_of control.code).connector (named control.code))

  -- A write that is refused keeps everything.
  pub write_refused : (refusal : Refusal) → judged ≡ Err refusal → control_step_of state control ≡ refused state refusal
  unfolding judged_step_of
  write_refused refusal e = ap (judged_step_of state (entry_of control.code) control) e

  -- A write is answered what it is judged.
  pub write_answer : (control_step_of state control).answer ≡ judged
  write_answer =
      judged_all (λ (s : Step). s.answer ≡ judged) state (entry_of control.code) control judged (λ refusal e. sym e)
      (λ e. (taken_takes of_class (entry_of control.code).connector (named control.code)).answer ∙ sym e)

  pub write_shown : ShownBy control (control_step_of state control).answer state.changes (control_step_of state control).state.changes
  write_shown =
      judged_all (λ (s : Step). ShownBy control s.answer state.changes s.state.changes) state (entry_of control.code) control judged
      (λ refusal e. stays refl)
      (λ e. (taken_takes of_class (entry_of control.code).connector (named control.code)).shown)

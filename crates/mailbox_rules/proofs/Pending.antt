-- When an acknowledgement is due, and what ends that and a run (01, The mailbox).
use Prim.Native.Nat.{ℕ}
use mathlib.Core.Bool.{Bool, true, false}
use mathlib.Core.Logic.{◌⊎◌, inl, inr}
use mathlib.Core.Path.{◌≡◌, refl, sym, ◌∙◌, ap}
use Rattle.std.specs.Prelude.{Ok}
use Rattle.commands.specs.Table.{entry_of}
use Rattle.commands.proofs.Rows.{Named, named}
use Rattle.commands.specs.declared.table.Class.{Class}
use Rattle.commands.specs.declared.table.Class.TheVariants as class
use Rattle.commands.specs.declared.control.Control.{Control}
use Rattle.mailbox_state.specs.Status.{runs_of, due_of}
use Rattle.mailbox_state.specs.declared.situation.Situation.{Situation}
use Rattle.mailbox_state.specs.declared.status.CommandStatus.{CommandStatus}
use Rattle.mailbox_state.specs.declared.status.CommandStatus.TheVariants.{Nothing, ResetDone, Busy, Completed, Failed, NotSupported, Cancelled, Acknowledged}
use Rattle.mailbox_state.specs.declared.state.State.{State}
use Rattle.mailbox_state.specs.declared.step.Step.{Step}
use Rattle.mailbox_rules.specs.Refusal.{situation_of, refusal_of}
use Rattle.mailbox_rules.specs.Until.{ResetOrAcknowledge, reset, acknowledged, ResetOrCancel, by_reset, by_cancel}
use Rattle.mailbox_rules.specs.Write.{control_step_of}
use Rattle.mailbox_rules.proofs.Answers.{off_2, running_3, due_4}
use Rattle.mailbox_rules.proofs.Command.{StatusOf, judged_all, write_takes}

pub due_still : (status : CommandStatus) → due_of status ≡ true → runs_of status ≡ false
unfolding due_of runs_of
due_still Nothing e = refl
due_still ResetDone e = refl
due_still (Busy command) e = sym e
due_still (Completed length) e = refl
due_still Failed e = refl
due_still NotSupported e = refl
due_still Cancelled e = refl
due_still Acknowledged e = refl

ending : (class : Class) (s : Situation) (off completed : Bool) (code : ℕ) → s.off ≡ off → s.completed ≡ completed → s.runs ≡ false → s.due ≡ true
    → refusal_of class s ≡ Ok tt → Named code class → ResetOrAcknowledge code completed
ending class.Reset s off completed code o c r d e h = reset h
ending class.Acknowledge s true completed code o c r d e h = cc (sym (off_2 s o).acknowledge ∙ e)
ending class.Acknowledge s false true code o c r d e h = acknowledged h refl
ending class.Acknowledge s false false code o c r d e h = cc (sym ((due_4 s r d).acknowledge o c) ∙ e)
ending class.Cancel s true completed code o c r d e h = cc (sym (off_2 s o).cancel ∙ e)
ending class.Cancel s false completed code o c r d e h = cc (sym ((due_4 s r d).cancel o) ∙ e)
ending class.Enable s off completed code o c r d e h = cc (sym (due_4 s r d).enable ∙ e)
ending class.Run s true completed code o c r d e h = cc (sym (off_2 s o).run ∙ e)
ending class.Run s false completed code o c r d e h = cc (sym ((due_4 s r d).run o) ∙ e)
ending class.NotSupported s true completed code o c r d e h = cc (sym (off_2 s o).not_supported ∙ e)
ending class.NotSupported s false completed code o c r d e h = cc (sym ((due_4 s r d).not_supported o) ∙ e)

abbrev IsDue : Step → Type 0
IsDue step = due_of step.state.status ≡ true

module _ (state : State) (control : Control) where
  abbrev class_of : Class
  class_of = (entry_of control.code).class

  abbrev situation : Situation
  situation = situation_of state control

  pub due_stays : due_of state.status ≡ true → IsDue (control_step_of state control) ⊎ ResetOrAcknowledge control.code control.completed
  due_stays h =
      judged_all (λ (s : Step). IsDue s ⊎ ResetOrAcknowledge control.code control.completed) state (entry_of control.code) control
      (refusal_of class_of situation)
      (λ refusal e. inl h)
      (λ e. inr (ending class_of situation _ _ control.code refl refl (due_still state.status h) h e (named control.code)))

stopping : (class : Class) (s : Situation) (off : Bool) (code : ℕ) → s.off ≡ off → s.runs ≡ true → refusal_of class s ≡ Ok tt → Named code class → ResetOrCancel code
stopping class.Reset s off code o r e h = by_reset h
stopping class.Cancel s off code o r e h = by_cancel h
stopping class.Acknowledge s true code o r e h = cc (sym (off_2 s o).acknowledge ∙ e)
stopping class.Acknowledge s false code o r e h = cc (sym ((running_3 s r).acknowledge o) ∙ e)
stopping class.Enable s off code o r e h = cc (sym (running_3 s r).enable ∙ e)
stopping class.Run s true code o r e h = cc (sym (off_2 s o).run ∙ e)
stopping class.Run s false code o r e h = cc (sym ((running_3 s r).run o) ∙ e)
stopping class.NotSupported s true code o r e h = cc (sym (off_2 s o).not_supported ∙ e)
stopping class.NotSupported s false code o r e h = cc (sym ((running_3 s r).not_supported o) ∙ e)

pub run_stays : (state : State) (control : Control) → runs_of state.status ≡ true → ((control_step_of state control).state.status ≡ state.status) ⊎ ResetOrCancel control.code
run_stays state control h =
    judged_all (λ (s : Step). (s.state.status ≡ state.status) ⊎ ResetOrCancel control.code) state (entry_of control.code) control
    (refusal_of (class_of state control) (situation state control))
    (λ refusal e. inl refl)
    (λ e. inr (stopping (class_of state control) (situation state control) _ control.code refl h e (named control.code)))

-- Every completion and cancel leaves an acknowledgement due; what does not complete at once runs.
abbrev pub Leaves : Class → CommandStatus → Type 0
Leaves class.Reset status = Unit
Leaves class.Acknowledge status = Unit
Leaves class.Cancel status = due_of status ≡ true
Leaves class.Enable status = due_of status ≡ true
Leaves class.Run status = (runs_of status ≡ true) ⊎ (due_of status ≡ true)
Leaves class.NotSupported status = due_of status ≡ true

leaves : (class : Class) (status : CommandStatus) → StatusOf class status → Leaves class status
unfolding due_of
leaves class.Reset status e = tt
leaves class.Acknowledge status e = tt
leaves class.Cancel status e = ap due_of e
leaves class.Enable status e = ap due_of e
leaves class.Run status (inl r) = inl r
leaves class.Run status (inr e) = inr (ap due_of e)
leaves class.NotSupported status e = ap due_of e

pub write_leaves : (state : State) (control : Control) → refusal_of (entry_of control.code).class (situation_of state control) ≡ Ok tt → Leaves (entry_of control.code).class (control_step_of state control).state.status
write_leaves state control e = leaves (entry_of control.code).class (control_step_of state control).state.status (write_takes state control e).status

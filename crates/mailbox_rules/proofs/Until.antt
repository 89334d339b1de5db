-- Every completion and cancel leaves an acknowledgement due, and only ACK with bit 17 or PPM_RESET ends that; what ends a run
-- (01, The mailbox).
use Prim.Native.Nat.{ℕ, ◌≤◌}
use mathlib.Core.Bool.{true}
use mathlib.Core.List.{List}
use mathlib.Core.Logic.{◌⊎◌, inl, inr}
use mathlib.Core.Path.{◌≡◌, refl, ◌∙◌, ap}
use lib.ListN.{length}
use Rattle.std.specs.Prelude.{Result, Ok, Err}
use Rattle.commands.specs.Control.{fields_of, control_of}
use Rattle.commands.specs.declared.control.Control.{Control}
use Rattle.commands.specs.declared.control.WrongLength.{WrongLength}
use Rattle.commands.proofs.Fields.{eight_or_not}
use Rattle.mailbox_state.specs.Status.{runs_of, due_of}
use Rattle.mailbox_state.specs.declared.state.State.{State}
use Rattle.mailbox_rules.proofs.Pending.{run_stays, due_still, due_stays}
use Rattle.mailbox_rules.proofs.Noted.{change_alters}
use Rattle.mailbox_rules.proofs.Report.{success_7, success_completes, failure_7, failure_completes}
use Rattle.mailbox_rules.specs.Until.{MayEndDue, MayEndRun}
use Rattle.mailbox_rules.specs.Events.{Event, writes, succeeds, fails, changes, parsed_step_of, event_of}
use Rattle.mailbox_state.specs.declared.mailbox.Mailbox.{Mailbox}

abbrev pub IsDue : Mailbox → Type 0
IsDue m = due_of m.state.status ≡ true

module _ (m : Mailbox) (r : runs_of m.state.status ≡ true) where
  pub success_due : (bytes : List ℕ) → length bytes ≤ 255 → IsDue (event_of m (succeeds bytes)).mailbox
  unfolding due_of
  success_due bytes h = rw (success_completes m.state (length bytes) r h)

  pub failure_due : IsDue (event_of m fails).mailbox
  unfolding due_of
  failure_due = rw (failure_completes m.state r)

module _ (m : Mailbox) (d : IsDue m) where
  due_parsed : (control : List ℕ) (parsed : Result Control WrongLength) → (parsed ≡ Ok (fields_of control)) ⊎ (parsed ≡ Err (record {}))
      → (due_of (parsed_step_of m.state parsed).state.status ≡ true) ⊎ MayEndDue (writes control)
  unfolding parsed_step_of
  due_parsed control parsed (inl e) = rw e (due_stays m.state (fields_of control) d)
  due_parsed control parsed (inr e) = rw e (inl d)

  pub due_until_lem : (e : Event) → IsDue (event_of m e).mailbox ⊎ MayEndDue e
  due_until_lem (writes control) = due_parsed control (control_of control) (eight_or_not control)
  due_until_lem (succeeds bytes) = inl (rw (success_7 m.state (length bytes) (due_still m.state.status d)) d)
  due_until_lem fails = inl (rw (failure_7 m.state (due_still m.state.status d)) d)
  due_until_lem (changes c reason) = inl (ap (λ (s : State). due_of s.status) (change_alters m.state c reason).others ∙ d)

-- A command runs until the port reports, but for CANCEL and PPM_RESET.
module _ (m : Mailbox) (r : runs_of m.state.status ≡ true) where
  run_parsed : (control : List ℕ) (parsed : Result Control WrongLength) → (parsed ≡ Ok (fields_of control)) ⊎ (parsed ≡ Err (record {}))
      → ((parsed_step_of m.state parsed).state.status ≡ m.state.status) ⊎ MayEndRun (writes control)
  unfolding parsed_step_of
  run_parsed control parsed (inl e) = rw e (run_stays m.state (fields_of control) r)
  run_parsed control parsed (inr e) = rw e (inl refl)

  pub run_until : (e : Event) → ((event_of m e).mailbox.state.status ≡ m.state.status) ⊎ MayEndRun e
  run_until (writes control) = run_parsed control (control_of control) (eight_or_not control)
  run_until (succeeds bytes) = inr tt
  run_until fails = inr tt
  run_until (changes c reason) = inl (ap (λ (s : State). s.status) (change_alters m.state c reason).others)

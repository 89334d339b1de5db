-- A fresh mailbox is well-formed, and every event keeps a mailbox so (01, The mailbox).
use Prim.Native.Nat.{ℕ, ◌≤◌}
use mathlib.Core.Bool.{Bool, true, false, true≢false, not, ◌&&◌}
use mathlib.Core.Path.{◌≡◌, refl, sym, ◌∙◌, ap, subst}
use native.Mathlib.Omega.{arith}
use borrow.Author.Tests.{not-false}
use lib.ListN.{length}
use Rattle.std.specs.Prelude.{Ok, Result, Err}
use Rattle.basis.specs.Pick.{pick, pick_all}
use Rattle.commands.specs.Control.{control_of}
use Rattle.commands.specs.Table.{entry_of}
use Rattle.commands.specs.declared.control.Control.{Control}
use Rattle.commands.specs.declared.control.WrongLength.{WrongLength}
use Rattle.commands.specs.declared.table.Class.{Class}
use Rattle.commands.specs.declared.table.Class.TheVariants as class
use Rattle.mailbox_state.specs.State.{off_of}
use Rattle.mailbox_state.specs.Status.{runs_of}
use Rattle.mailbox_state.specs.declared.state.State.{State}
use Rattle.mailbox_state.specs.declared.status.Command.{Command}
use Rattle.mailbox_state.specs.declared.status.CommandStatus.{CommandStatus}
use Rattle.mailbox_state.specs.declared.status.CommandStatus.TheVariants.{Busy, Completed, Failed}
use Rattle.mailbox_state.specs.declared.step.Step.{Step}
use Rattle.mailbox_rules.specs.Events.{Event, writes, succeeds, fails, changes, parsed_step_of, event_step_of}
use Rattle.mailbox_rules.specs.Mailbox.{fresh_mailbox}
use Rattle.mailbox_rules.specs.Refusal.{situation_of, refusal_of}
use Rattle.mailbox_rules.specs.Report.{success_step_of, failure_step_of}
use Rattle.mailbox_rules.specs.WellFormed.{Within, MayRun, RunsWell, WellFormed}
use Rattle.mailbox_rules.specs.Write.{connector_there, with_status, resets, cancels, acknowledges, enables, command_of, starts_command, unsupported, taken_step_of, control_step_of}
use Rattle.mailbox_rules.proofs.Absent.{there_only}
use Rattle.mailbox_rules.proofs.Answers.{off_2}
use Rattle.mailbox_rules.proofs.Command.{judged_all}
use Rattle.mailbox_rules.proofs.Noted.{change_alters}
use Rattle.mailbox_rules.proofs.Places.{none_within, noted_within, next_within}
use Rattle.mailbox_rules.proofs.Steps.{event_connectors, event_changes}

pub not_busy : (status : CommandStatus) (command : Command) → runs_of status ≡ false → status ≡ Busy command → ⊥
unfolding runs_of
not_busy status command e busy = true≢false (sym (ap runs_of busy) ∙ e)

pub busy_same : (a b : Command) → Busy a ≡ Busy b → a ≡ b
busy_same a b e = cc

still : (state : State) → runs_of state.status ≡ false → RunsWell state
still state e command busy = absurd (not_busy state.status command e busy)

module _ (state : State) (control : Control) where
  abbrev needs_of : Bool
  needs_of = (entry_of control.code).connector

  may_run_lem : (needs : Bool) → (entry_of control.code).class ≡ class.Run
      → (needs && not (connector_there control.connector state.connectors)) ≡ false → MayRun state.connectors (command_of needs control)
  unfolding pick
  may_run_lem true run there = record { class = run; there = (there_only _ _ (not-false _ there)).1 }
  may_run_lem false run there = record { class = run; there = omega arith }

  -- A command is refused with 2 while notifications are off.
  not_off : refusal_of class.Run (situation_of state control) ≡ Ok tt → (off : Bool) → off_of state.notifications ≡ off → off ≡ false
  not_off e false o = refl
  not_off e true o = cc (sym (off_2 (situation_of state control) o).run ∙ e)

  starts_well : (entry_of control.code).class ≡ class.Run → refusal_of class.Run (situation_of state control) ≡ Ok tt
      → RunsWell (starts_command state needs_of control).state
  unfolding starts_command runs_of
  starts_well run taken =
      pick_all (λ (s : Step). RunsWell s.state) _ _ _ (λ absent. still (with_status state Failed) refl)
      (λ there command busy.
      record { on = not_off taken _ refl; may_run = subst (MayRun state.connectors) (busy_same _ command busy) (may_run_lem needs_of run there) })

  taken_well : (class : Class) → (entry_of control.code).class ≡ class → refusal_of class (situation_of state control) ≡ Ok tt
      → RunsWell (taken_step_of state class needs_of control).state
  unfolding taken_step_of runs_of
  taken_well class.Reset e taken = still (resets state).state refl
  taken_well class.Cancel e taken = still (cancels state).state refl
  taken_well class.Acknowledge e taken = still (acknowledges state control.change).state refl
  taken_well class.Enable e taken = still (enables state control.mask).state refl
  taken_well class.Run e taken = starts_well e taken
  taken_well class.NotSupported e taken = still (unsupported state).state refl

  write_well : RunsWell state → RunsWell (control_step_of state control).state
  write_well h =
      let class = (entry_of control.code).class in
      let answer = refusal_of class (situation_of state control) in
      judged_all (λ (s : Step). RunsWell s.state) state (entry_of control.code) control answer (λ refusal e. h) (λ e. taken_well class refl e)

module _ (state : State) (h : RunsWell state) where
  abbrev Keeps : Step → Type 0
  Keeps step = RunsWell step.state

  parsed_well : (parsed : Result Control WrongLength) → Keeps (parsed_step_of state parsed)
  unfolding parsed_step_of
  parsed_well (Ok control) = write_well state control h
  parsed_well (Err wrong) = h

  success_well : (n : ℕ) → Keeps (success_step_of state n)
  unfolding success_step_of runs_of
  success_well n = pick_all Keeps _ _ _ (λ none. h) (λ runs. pick_all Keeps _ _ _ (λ long. h) (λ short. still (with_status state (Completed n)) refl))

  failure_well : Keeps (failure_step_of state)
  unfolding failure_step_of runs_of
  failure_well = pick_all Keeps _ _ _ (λ none. h) (λ runs. still (with_status state Failed) refl)

  event_well : (e : Event) → Keeps (event_step_of state e)
  event_well (writes control) = parsed_well (control_of control)
  event_well (succeeds bytes) = success_well (length bytes)
  event_well fails = failure_well
  event_well (changes c reason) = subst RunsWell (sym (change_alters state c reason).others) h

pub event_formed : (state : State) (e : Event) → WellFormed state → WellFormed (event_step_of state e).state
event_formed state e w =
    let count = event_connectors state e in
    record {
      low = rw count w.low;
      high = rw count w.high;
      within =
          rw count
          (event_changes (Within state.connectors) (none_within state.connectors) state (next_within state.changes state.connectors)
          (λ c low high. noted_within state.changes c low state.connectors high) w.within e);
      runs_well = event_well state w.runs_well e;
    }

pub fresh_formed : (count : ℕ) → 1 ≤ count → count ≤ 8 → WellFormed (fresh_mailbox count).state
unfolding fresh_mailbox runs_of
fresh_formed count low high = record { low = low; high = high; within = none_within count; runs_well = still (fresh_mailbox count).state refl }

-- What every event leaves of the connectors: how many there are, and what holds of those shown and waiting (01, The mailbox).
use Prim.Native.Nat.{ℕ, ◌≤◌}
use lib.ListN.{length}
use mathlib.Core.Logic.{◌⊎◌, inl, inr}
use mathlib.Core.Path.{◌≡◌, refl, sym, ap, subst}
use Rattle.std.specs.Prelude.{Result, Ok, Err}
use Rattle.basis.specs.Pick.{pick_all}
use Rattle.commands.specs.Table.{entry_of}
use Rattle.commands.proofs.Rows.{named}
use Rattle.commands.specs.Control.{control_of}
use Rattle.commands.specs.declared.control.Control.{Control}
use Rattle.commands.specs.declared.control.WrongLength.{WrongLength}
use Rattle.mailbox_state.specs.State.{no_changes}
use Rattle.mailbox_state.specs.Answer.{Answer}
use Rattle.mailbox_state.specs.declared.state.Changes.{Changes}
use Rattle.mailbox_state.specs.declared.state.State.{State}
use Rattle.mailbox_state.specs.declared.step.Step.{Step}
use Rattle.mailbox_rules.specs.Changes.{noted_of, next_shown_of}
use Rattle.mailbox_rules.specs.Events.{Event, writes, succeeds, fails, changes, parsed_step_of, event_step_of}
use Rattle.mailbox_rules.specs.Report.{success_step_of, failure_step_of}
use Rattle.mailbox_rules.specs.Write.{control_step_of}
use Rattle.mailbox_rules.proofs.Command.{ShownBy, stays, reset, acknowledged, judged_all, taken_takes, write_shown}
use Rattle.mailbox_rules.proofs.Noted.{Recorded, change_alters}
use Rattle.mailbox_rules.proofs.Report.{success_leaves, failure_leaves}

module _ (state : State) where
  abbrev Counts : Step → Type 0
  Counts step = step.state.connectors ≡ state.connectors

  write_counts : (control : Control) → Counts (control_step_of state control)
  write_counts control =
      judged_all Counts state (entry_of control.code) control _ (λ refusal e. refl)
      (λ e. (taken_takes state control (entry_of control.code).class (entry_of control.code).connector (named control.code)).connectors)

  parsed_counts : (parsed : Result Control WrongLength) → Counts (parsed_step_of state parsed)
  unfolding parsed_step_of
  parsed_counts (Ok control) = write_counts control
  parsed_counts (Err wrong) = refl

  success_counts : (n : ℕ) → Counts (success_step_of state n)
  unfolding success_step_of
  success_counts n = pick_all Counts _ _ _ (λ still. refl) (λ runs. pick_all Counts _ _ _ (λ long. refl) (λ short. refl))

  failure_counts : Counts (failure_step_of state)
  unfolding failure_step_of
  failure_counts = pick_all Counts _ _ _ (λ still. refl) (λ runs. refl)

  -- The connectors are fixed at the start.
  pub event_connectors : (e : Event) → Counts (event_step_of state e)
  event_connectors (writes control) = parsed_counts (control_of control)
  event_connectors (succeeds bytes) = success_counts (length bytes)
  event_connectors fails = failure_counts
  event_connectors (changes c reason) = ap (λ (s : State). s.connectors) (change_alters state c reason).others

-- What holds of the changes with none, and is kept where the one shown is acknowledged and where one is noted, is kept by every event.
module _
    (P : Changes → Type 0)
    (none : P no_changes)
    (state : State)
    (next : P state.changes → P (next_shown_of state.changes))
    (noted : (c : ℕ) → 1 ≤ c → c ≤ state.connectors → P state.changes → P (noted_of state.changes c))
    (now : P state.changes) where
  by_write : {control : Control} {a : Answer} {after : Changes} → ShownBy control a state.changes after → P after
  by_write (stays e) = subst P (sym e) now
  by_write (reset h e) = subst P (sym e) none
  by_write (acknowledged h b t e) = subst P (sym e) (next now)

  by_parsed : (parsed : Result Control WrongLength) → P (parsed_step_of state parsed).state.changes
  unfolding parsed_step_of
  by_parsed (Ok control) = by_write (write_shown state control)
  by_parsed (Err wrong) = now

  by_change : {c reason : ℕ} {after : Changes} → (after ≡ state.changes) ⊎ (Recorded state c reason × (after ≡ noted_of state.changes c)) → P after
  by_change (inl e) = subst P (sym e) now
  by_change {c} (inr (r, e)) = subst P (sym e) (noted c r.low r.high now)

  pub event_changes : (e : Event) → P (event_step_of state e).state.changes
  event_changes (writes control) = by_parsed (control_of control)
  event_changes (succeeds bytes) = subst P (sym (success_leaves state (length bytes))) now
  event_changes fails = subst P (sym (failure_leaves state)) now
  event_changes (changes c reason) = by_change (change_alters state c reason).noted

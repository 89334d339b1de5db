-- The shown connector changes only by PPM_RESET, by a recorded change while none is shown, or by an accepted ACK with bit 16
-- (01, The mailbox).
use Prim.Native.Nat.{ℕ}
use mathlib.Core.Bool.{true}
use mathlib.Core.List.{List}
use mathlib.Core.Logic.{◌⊎◌, inl, inr}
use mathlib.Core.Path.{◌≡◌, refl, ap}
use borrow.Author.Tests.{eqb-true}
use lib.ListN.{length}
use Rattle.std.specs.Prelude.{Ok, Result, Err}
use Rattle.basis.specs.Pick.{pick_all}
use Rattle.commands.specs.Control.{fields_of, control_of}
use Rattle.commands.specs.declared.control.Control.{Control}
use Rattle.commands.specs.declared.control.WrongLength.{WrongLength}
use Rattle.commands.proofs.Fields.{eight_or_not}
use Rattle.mailbox_state.specs.Answer.{Answer}
use Rattle.mailbox_state.specs.declared.state.Changes.{Changes}
use Rattle.mailbox_rules.specs.Changes.{lowest_of, noted_of, next_shown_of}
use Rattle.mailbox_rules.proofs.Command.{ShownBy, stays, reset, acknowledged, write_shown}
use Rattle.mailbox_rules.proofs.Noted.{Recorded, change_alters}
use Rattle.mailbox_rules.proofs.Report.{success_leaves, failure_leaves}
use Rattle.mailbox_rules.specs.Events.{Event, writes, succeeds, fails, changes, parsed_step_of, event_of}
use Rattle.mailbox_state.specs.declared.mailbox.Mailbox.{Mailbox}
use Rattle.mailbox_state.specs.declared.mailbox.Outcome.{Outcome}

abbrev pub shown_of : Mailbox → ℕ
shown_of m = m.state.changes.shown

-- By this event, with this answer, this connector is shown.
pub data Shows (m : Mailbox) : Event → Answer → ℕ → Type 0 where
  as_before : {e : Event} {a : Answer} {shown : ℕ} → shown ≡ shown_of m → Shows m e a shown
  none : {control : List ℕ} {a : Answer} {shown : ℕ} → (fields_of control).code ≡ 0x01 → shown ≡ 0 → Shows m (writes control) a shown
  next : {control : List ℕ} {a : Answer} {shown : ℕ} → (fields_of control).code ≡ 0x04 → (fields_of control).change ≡ true → a ≡ Ok tt → shown ≡ lowest_of m.state.changes.waiting → Shows m (writes control) a shown
  noticed : {c reason : ℕ} {a : Answer} {shown : ℕ} → shown_of m ≡ 0 → Recorded m.state c reason → shown ≡ c → Shows m (changes c reason) a shown

abbrev Showing : Mailbox → Event → Outcome → Type 0
Showing m e o = Shows m e o.answer (shown_of o.mailbox)

module _ (m : Mailbox) where
  by_write : (control : List ℕ) (a : Answer) (after : Changes) → ShownBy (fields_of control) a m.state.changes after → Shows m (writes control) a after.shown
  unfolding next_shown_of
  by_write control a after (stays e) = as_before (ap (λ (s : Changes). s.shown) e)
  by_write control a after (reset h e) = none h (ap (λ (s : Changes). s.shown) e)
  by_write control a after (acknowledged h b t e) = next h b t (ap (λ (s : Changes). s.shown) e)

  by_change : (c reason : ℕ) (a : Answer) → Recorded m.state c reason → Shows m (changes c reason) a (noted_of m.state.changes c).shown
  unfolding noted_of
  by_change c reason a r =
      pick_all (λ (s : Changes). Shows m (changes c reason) a s.shown) _ _ _ (λ y. noticed (eqb-true (shown_of m) 0 y) r refl) (λ n. as_before refl)

  by_noted : (c reason : ℕ) (a : Answer) (after : Changes) → (after ≡ m.state.changes) ⊎ (Recorded m.state c reason × (after ≡ noted_of m.state.changes c)) → Shows m (changes c reason) a after.shown
  by_noted c reason a after (inl e) = as_before (ap (λ (s : Changes). s.shown) e)
  by_noted c reason a after (inr (r, e)) = rw e (by_change c reason a r)

  by_parsed : (control : List ℕ) (parsed : Result Control WrongLength) → (parsed ≡ Ok (fields_of control)) ⊎ (parsed ≡ Err (record {}))
      → Shows m (writes control) (parsed_step_of m.state parsed).answer (parsed_step_of m.state parsed).state.changes.shown
  unfolding parsed_step_of
  by_parsed control parsed (inl e) = rw e (by_write control _ _ (write_shown m.state (fields_of control)))
  by_parsed control parsed (inr e) = rw e (as_before refl)

  pub shown_moves : (e : Event) → Showing m e (event_of m e)
  shown_moves (writes control) = by_parsed control (control_of control) (eight_or_not control)
  shown_moves (succeeds bytes) = as_before (ap (λ (s : Changes). s.shown) (success_leaves m.state (length bytes)))
  shown_moves fails = as_before (ap (λ (s : Changes). s.shown) (failure_leaves m.state))
  shown_moves (changes c reason) = by_noted c reason _ _ (change_alters m.state c reason).noted

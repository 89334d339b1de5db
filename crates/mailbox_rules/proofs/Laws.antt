-- What every event owes, said back in the paper's words (01, The mailbox; 01, Numbers we answer).
use Prim.Native.Nat.{ℕ, zero, suc, ◌/◌, ◌%◌, ◌^◌, ◌≤◌, ◌<◌}
use mathlib.Core.Bool.{true, false}
use mathlib.Core.List.{List, []}
use mathlib.Core.Path.{◌≡◌, refl, sym, ◌∙◌, ap}
use native.Mathlib.Omega.{arith}
use borrow.Author.Tests.{ltb-false}
use lib.ListN.{length, replicate}
use Rattle.std.specs.Prelude.{Result, Ok, Err, IfOk, ltb}
use Rattle.basis.specs.Pick.{pick_all}
use Rattle.commands.specs.Control.{fields_of}
use Rattle.commands.proofs.Fields.{eight_read, others_not}
use Rattle.mailbox_state.specs.Answer.{Answer, mailbox_number_of}
use Rattle.mailbox_state.specs.Connectors.{connectors_least, connectors_most, connectors_of}
use Rattle.mailbox_state.specs.Status.{runs_of}
use Rattle.mailbox_state.specs.Step.{refused}
use Rattle.mailbox_state.proofs.Numbers.{none_refused, many_refused, counted}
use Rattle.mailbox_state.specs.declared.answer.Refusal.TheVariants.{ControlLength, NoSuchConnector}
use Rattle.mailbox_state.specs.declared.state.Notifications.TheVariants.{Off}
use Rattle.mailbox_state.specs.declared.state.State.{State}
use Rattle.mailbox_state.specs.declared.status.CommandStatus.{CommandStatus}
use Rattle.mailbox_state.specs.declared.status.CommandStatus.TheVariants.{Nothing}
use Rattle.mailbox_state.specs.declared.step.Step.{Step}
use Rattle.mailbox_state.specs.declared.mailbox.Mailbox.{Mailbox}
use Rattle.mailbox_state.specs.declared.mailbox.Outcome.{Outcome}
use Rattle.mailbox_state.specs.declared.mailbox.NoMailbox.{NoMailbox}
use Rattle.mailbox_rules.specs.Cci.{cci_bits_of}
use Rattle.mailbox_rules.specs.Change.{change_step_of}
use Rattle.mailbox_rules.specs.Report.{success_step_of, failure_step_of}
use Rattle.mailbox_rules.specs.Write.{control_step_of}
use Rattle.mailbox_rules.specs.MessageIn.{zero_message_in, settled_of}
use Rattle.mailbox_rules.specs.Mailbox.{mailbox, fresh_mailbox, counted_mailbox, mailbox_fresh_of, mailbox_cci_of, mailbox_returns}
use Rattle.mailbox_rules.specs.Events.{Event, writes, succeeds, fails, changes, parsed_step_of, port_bytes, step_returns, event_of}
use Rattle.mailbox_rules.proofs.Bits.{in_run_alone, outside_shows, others_stay, bit_0_clear}
use Rattle.mailbox_rules.proofs.Keeps.{event_keeps}
use Rattle.mailbox_rules.proofs.Noted.{change_alters, change_9_zero, change_9_above}

-- Each event is the step that the rules decide, with MESSAGE_IN as its effect says; written out, so that a slip in `step_returns` is refused.
abbrev pub moved : Mailbox → Step → List ℕ → Outcome
moved m step bytes = mailbox_returns (mailbox step.state (settled_of m.message step.effect bytes)) step.answer

-- Nothing changes, and the refusal is answered.
abbrev pub kept : Mailbox → Answer → Outcome
kept m answer = mailbox_returns m answer

module _ (m : Mailbox) where
  pub write_step : (control : List ℕ) → length control ≡ 8 → event_of m (writes control) ≡ moved m (control_step_of m.state (fields_of control)) []
  unfolding parsed_step_of
  write_step control e = ap (λ p. step_returns m (parsed_step_of m.state p) []) (eight_read control e)

  pub success_step : (bytes : List ℕ) → event_of m (succeeds bytes) ≡ moved m (success_step_of m.state (length bytes)) bytes
  success_step bytes = refl

  pub failure_step : event_of m fails ≡ moved m (failure_step_of m.state) []
  failure_step = refl

  pub change_step : (c reason : ℕ) → event_of m (changes c reason) ≡ moved m (change_step_of m.state c reason) []
  change_step c reason = refl

  -- 1 comes before everything, before PPM_RESET too.
  pub control_1 : (control : List ℕ) → (length control ≡ 8 → ⊥) → event_of m (writes control) ≡ kept m (Err ControlLength)
  unfolding parsed_step_of settled_of
  control_1 control h = ap (λ p. step_returns m (parsed_step_of m.state p) []) (others_not control h)

-- A refused event keeps the whole mailbox.
pub refused_keeps : (m : Mailbox) (e : Event) → (mailbox_number_of (event_of m e).answer ≡ 0 → ⊥) → event_of m e ≡ kept m (event_of m e).answer
unfolding settled_of
refused_keeps m e h = ap (λ (s : Step). step_returns m s (port_bytes e)) (event_keeps m.state e h)

-- CCI is bit 28 alone in a run; outside a run bits 1 to 7 are the connector shown.
module _ (m : Mailbox) where
  pub cci_in_run : runs_of m.state.status ≡ true → mailbox_cci_of m ≡ 2 ^ 28
  cci_in_run e = in_run_alone m.state.status m.state.changes.shown e

  pub cci_outside : runs_of m.state.status ≡ false → mailbox_cci_of m / 2 ^ 1 % 2 ^ 7 ≡ m.state.changes.shown % 128
  cci_outside e = outside_shows m.state.status m.state.changes.shown e

-- A change alters nothing but the connector shown and those that wait.
pub record Altered (m after : Mailbox) : Type 0 where
  pub connectors : after.state.connectors ≡ m.state.connectors
  pub notifications : after.state.notifications ≡ m.state.notifications
  pub status : after.state.status ≡ m.state.status
  pub message : after.message ≡ m.message

pub change_altered : (m : Mailbox) (c reason : ℕ) → Altered m (event_of m (changes c reason)).mailbox
unfolding settled_of
change_altered m c reason =
    let a = change_alters m.state c reason in
    record {
      connectors = ap (λ (s : State). s.connectors) a.others;
      notifications = ap (λ (s : State). s.notifications) a.others;
      status = ap (λ (s : State). s.status) a.others;
      message = ap (λ e. settled_of m.message e []) a.effect;
    }

-- A change alters only bits 1 to 7 of CCI, and in a run none.
module _ (m : Mailbox) (c reason : ℕ) where
  abbrev changed : Mailbox
  changed = (event_of m (changes c reason)).mailbox

  pub change_cci_high : mailbox_cci_of changed / 2 ^ 8 ≡ mailbox_cci_of m / 2 ^ 8
  change_cci_high =
      ap (λ (t : CommandStatus). cci_bits_of t changed.state.changes.shown / 2 ^ 8) (change_altered m c reason).status
      ∙ others_stay m.state.status changed.state.changes.shown m.state.changes.shown

  pub change_cci_low : mailbox_cci_of changed % 2 ≡ mailbox_cci_of m % 2
  change_cci_low = bit_0_clear changed.state.status changed.state.changes.shown ∙ sym (bit_0_clear m.state.status m.state.changes.shown)

  pub change_cci_in_run : runs_of m.state.status ≡ true → mailbox_cci_of changed ≡ mailbox_cci_of m
  change_cci_in_run e = cci_in_run changed (ap runs_of (change_altered m c reason).status ∙ e) ∙ sym (cci_in_run m e)

-- A fresh mailbox: CCI 0, notifications off, MESSAGE_IN zero, nothing running, none shown and none waiting.
pub record Fresh (m : Mailbox) : Type 0 where
  pub cci : mailbox_cci_of m ≡ 0
  pub notifications : m.state.notifications ≡ Off
  pub message : m.message ≡ replicate 256 0
  pub status : m.state.status ≡ Nothing
  pub changes : m.state.changes ≡ record { shown = 0; waiting = replicate 8 false }

pub fresh : (count : ℕ) → Fresh (fresh_mailbox count)
unfolding fresh_mailbox zero_message_in cci_bits_of
fresh count = record { cci = refl; notifications = refl; message = refl; status = refl; changes = refl }

-- A count that is not 1 to 8 is 29, and no mailbox is made.
module _ (count : ℕ) where
  pub fresh_29_above : 8 < count → mailbox_fresh_of count ≡ Err (record {})
  unfolding mailbox_fresh_of
  fresh_29_above h = ap counted_mailbox (many_refused count h)

  pub fresh_29_zero : count ≡ 0 → mailbox_fresh_of count ≡ Err (record {})
  unfolding mailbox_fresh_of
  fresh_29_zero e = ap counted_mailbox (none_refused count e)

  -- A count from 1 to 8 makes a fresh mailbox with so many connectors.
  pub fresh_made : 1 ≤ count → count ≤ 8 → mailbox_fresh_of count ≡ Ok (fresh_mailbox count)
  unfolding mailbox_fresh_of
  fresh_made low high = ap counted_mailbox (counted count low high)

  pub fresh_counts : (fresh_mailbox count).state.connectors ≡ count
  unfolding fresh_mailbox
  fresh_counts = refl

  -- What holds where none is made, and of the fresh mailbox of a count from 1 to 8, holds of every start.
  pub fresh_all : (P : Result Mailbox NoMailbox → Type 0) → P (Err (record {})) → (1 ≤ count → count ≤ 8 → P (Ok (fresh_mailbox count))) → P (mailbox_fresh_of count)
  unfolding mailbox_fresh_of connectors_of
  fresh_all P none made =
      let Q : Result ℕ NoMailbox → Type 0 = λ r. P (counted_mailbox r) in
      pick_all Q (ltb count connectors_least) _ _ (λ few. none)
      (λ low. pick_all Q (ltb connectors_most count) _ _ (λ many. none) (λ high. made (ltb-false count connectors_least low) (ltb-false connectors_most count high)))

  pub fresh_is : IfOk (mailbox_fresh_of count) Fresh
  fresh_is = fresh_all (λ r. IfOk r Fresh) tt (λ low high. fresh count)

-- In a mailbox that has no connector every change is refused with 9: none is answered 0 and lost.
pub none_9 : (m : Mailbox) (c reason : ℕ) → m.state.connectors ≡ 0 → event_of m (changes c reason) ≡ kept m (Err NoSuchConnector)
unfolding settled_of
none_9 m c reason e = ap (λ (s : Step). step_returns m s []) (all_absent c)
  where
    all_absent : (c : ℕ) → change_step_of m.state c reason ≡ refused m.state NoSuchConnector
    all_absent zero = change_9_zero m.state 0 reason refl
    all_absent (suc c) = change_9_above m.state (suc c) reason (rw e (omega arith))

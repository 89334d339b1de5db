-- Document 01's sentences on the mailbox, proved of every mailbox that a history leads to (01, The mailbox; 01, Numbers we answer).
use Prim.Native.Nat.{ℕ, zero, suc, ◌-◌, ◌≤◌, ◌<◌}
use mathlib.Core.Bool.{true, false}
use mathlib.Core.List.{List, [], ◌∷◌, ◌++◌}
use mathlib.Core.Logic.{◌⊎◌, inl, inr}
use mathlib.Core.Path.{◌≡◌, refl, sym, ◌∙◌, ap, subst}
use native.Mathlib.Omega.{arith}
use lib.ListN.{length, get_or, replicate}
use Rattle.std.specs.Prelude.{Ok, Err, IfOk, IsErr}
use Rattle.mailbox_state.specs.Answer.{mailbox_number_of}
use Rattle.mailbox_state.specs.State.{off_of}
use Rattle.mailbox_state.specs.Status.{runs_of, due_of}
use Rattle.mailbox_state.specs.Step.{mailbox_step}
use Rattle.mailbox_state.specs.declared.mailbox.Mailbox.{Mailbox}
use Rattle.mailbox_state.specs.declared.mailbox.Outcome.{Outcome}
use Rattle.mailbox_state.specs.declared.state.Changes.{Changes}
use Rattle.mailbox_state.specs.declared.state.Notifications.TheVariants.{Off, On}
use Rattle.mailbox_state.specs.declared.state.State.{State}
use Rattle.mailbox_state.specs.declared.step.MessageEffect.TheVariants.{Kept, Filled}
use Rattle.mailbox_state.specs.declared.step.Step.{Step}
use Rattle.mailbox_rules.specs.Change.{meets_of, change_step_of}
use Rattle.mailbox_rules.specs.Changes.{noted_of}
use Rattle.mailbox_rules.specs.Events.{writes, succeeds, fails, changes, step_returns}
use Rattle.mailbox_rules.specs.History.{Reached}
use Rattle.mailbox_rules.specs.Mailbox.{fresh_mailbox, start_number_of, mailbox_fresh_of, message_in_of, mailbox_cci_of}
use Rattle.mailbox_rules.specs.MessageIn.{zero_message_in, settled_of}
use Rattle.mailbox_rules.specs.Sentences.{answers, next, off, runs, due, shown, waits, NoChange, Completes, zeros, Start, Sentences, MailboxKeeps}
use Rattle.mailbox_rules.proofs.Bits.{completed_says, failed_says}
use Rattle.mailbox_rules.proofs.Laws.{control_1, refused_keeps, cci_in_run, change_cci_high, change_cci_low, change_cci_in_run, change_altered, fresh, fresh_made, fresh_29_zero, fresh_29_above, fresh_all}
use Rattle.mailbox_rules.proofs.Marked.{marked_others}
use Rattle.mailbox_rules.proofs.Message.{filled}
use Rattle.mailbox_rules.proofs.Noted.{altering, change_9_zero, change_9_above, change_off, change_dropped, change_recorded, noted_none, noted_waits}
use Rattle.mailbox_rules.proofs.Reached.{made, reached_formed, reached_sizes, reached_count, reached_width, reached_marked}
use Rattle.mailbox_rules.proofs.Report.{success_7, success_8, success_completes, failure_7, failure_completes}
use Rattle.mailbox_rules.proofs.Until.{due_until_lem, run_until}
use Rattle.mailbox_rules.proofs.Switch.{event_mask}
use Rattle.mailbox_rules.proofs.Taken.{numbered, completes}
use Rattle.mailbox_rules.proofs.Writes.{reset_step, reset_gives, reset_still_lem, enable_step, enable_completes, cancel_completes, capability_starts, connector_reset_starts, connector_capability_starts, connector_status_starts, absent_completes, other_completes, six, completion_acked, change_acked, none_shown_number, neither_number, nothing_due_number, two, three, four}

none_in : (n i : ℕ) → get_or (replicate n false) i false ≡ false
none_in zero i = refl
none_in (suc n) zero = refl
none_in (suc n) (suc i) = none_in n i

no_change_lem : (m : Mailbox) → m.state.changes ≡ record { shown = 0; waiting = replicate 8 false } → NoChange m
no_change_lem m e =
    record {
      none_shown = ap (λ (now : Changes). now.shown) e;
      none_waits = λ c. ap (λ (now : Changes). get_or now.waiting (c - 1) false) e ∙ none_in 8 (c - 1);
    }

module _ {count : ℕ} {m : Mailbox} (r : Reached count m) where
  abbrev state : State
  state = m.state

  -- The port's reports: in a run they complete it, or are 8; else 7.
  module _ (running : runs m ≡ true) where
    reports_success : (bytes : List ℕ) → length bytes ≤ 255
        → Completes m (succeeds bytes) (length bytes) (31 ∷ []) (bytes ++ replicate (256 - length bytes) 0)
    unfolding settled_of due_of
    reports_success bytes few =
        subst (Completes m (succeeds bytes) (length bytes) (31 ∷ [])) (filled bytes (omega arith))
        (completes r (succeeds bytes) _ Filled (success_completes state (length bytes) running few) refl refl
        (completed_says _ (length bytes) (omega arith)))

    reports_failure : Completes m fails 0 (30 ∷ 31 ∷ []) zeros
    unfolding settled_of zero_message_in due_of
    reports_failure = completes r fails _ _ (failure_completes state running) refl refl (failed_says _)

    eight : (bytes : List ℕ) → 255 < length bytes → answers m (succeeds bytes) ≡ 8
    eight bytes long = numbered m (succeeds bytes) _ (success_8 state (length bytes) running long)

  seven : runs m ≡ false → ((bytes : List ℕ) → answers m (succeeds bytes) ≡ 7) × (answers m fails ≡ 7)
  seven still = (λ bytes. numbered m (succeeds bytes) _ (success_7 state (length bytes) still), numbered m fails _ (failure_7 state still))

  -- Changes on a connector: 9, dropped, and recorded.
  module _ (c reason : ℕ) where
    abbrev changed : Mailbox
    changed = next m (changes c reason)

    nine : (c ≡ 0) ⊎ (count < c) → answers m (changes c reason) ≡ 9
    nine (inl z) = numbered m (changes c reason) _ (change_9_zero state c reason z)
    nine (inr above) = numbered m (changes c reason) _ (change_9_above state c reason (omega (arith, reached_count r)))

    module _ (low : 1 ≤ c) (high : c ≤ count) (mask : ℕ) where
      connected : c ≤ state.connectors
      connected = omega (arith, reached_count r)

      dropped : (state.notifications ≡ Off) ⊎ ((state.notifications ≡ On mask) × (meets_of reason mask ≡ false))
          → (answers m (changes c reason) ≡ 0) × (changed ≡ m)
      unfolding settled_of
      dropped h = (numbered m (changes c reason) _ (row h), ap (λ (s : Step). (step_returns m s []).mailbox) (row h))
        where
          row : (state.notifications ≡ Off) ⊎ ((state.notifications ≡ On mask) × (meets_of reason mask ≡ false))
              → change_step_of state c reason ≡ mailbox_step state (Ok tt) Kept
          row (inl e) = change_off state c reason low connected e
          row (inr (e, unmet)) = change_dropped state c reason low connected mask e unmet

      module _ (on : state.notifications ≡ On mask) (met : meets_of reason mask ≡ true) where
        recorded : change_step_of state c reason ≡ mailbox_step (altering state (noted_of state.changes c)) (Ok tt) Kept
        recorded = change_recorded state c reason low connected mask on met

        recorded_0 : answers m (changes c reason) ≡ 0
        recorded_0 = numbered m (changes c reason) _ recorded

        noted_is : (now : Changes) → noted_of state.changes c ≡ now → changed.state.changes ≡ now
        noted_is now e = ap (λ (s : Step). s.state.changes) recorded ∙ e

        becomes_shown_lem : shown m ≡ 0 → (answers m (changes c reason) ≡ 0) × (shown changed ≡ c) × ((j : ℕ) → waits changed j ≡ waits m j)
        becomes_shown_lem z =
            let p = noted_is _ (noted_none state.changes c z) in
            (recorded_0, ap (λ (s : Changes). s.shown) p, λ j. ap (λ (s : Changes). get_or s.waiting (j - 1) false) p)

        becomes_waiting_lem : (shown m ≡ 0 → ⊥)
            → (answers m (changes c reason) ≡ 0) × (shown changed ≡ shown m) × (waits changed c ≡ true)
            × ((j : ℕ) → 1 ≤ j → (j ≡ c → ⊥) → waits changed j ≡ waits m j)
        becomes_waiting_lem h =
            let p = noted_is _ (noted_waits state.changes c h) in
            let w = reached_marked r c low high true in (
              recorded_0,
              ap (λ (s : Changes). s.shown) p,
              ap (λ (s : Changes). get_or s.waiting (c - 1) false) p ∙ w,
              λ j one other. ap (λ (s : Changes). get_or s.waiting (j - 1) false) p ∙ marked_others state.changes.waiting c true j one other,
            )

  every : Sentences count m
  every =
      record {
        low = (made count r.start r.made).low;
        high = (made count r.start r.made).high;
        fixed = reached_count r;
        formed = reached_formed r;
        sizes = reached_sizes r;
        cci_size = reached_width r;
        reset = reset_gives r;
        reset_changes = λ control c. no_change_lem (next m (writes control)) (ap (λ (s : Step). s.state.changes) (reset_step r control c));
        reset_off = λ control c. ap (λ (s : Step). s.state.notifications) (reset_step r control c);
        reset_still = reset_still_lem r;
        enable = λ still none control c. enable_completes r control still none c;
        enable_on = λ still none control c. ap (λ (s : Step). s.state.notifications) (enable_step r control still none c);
        notifications_kept = event_mask state;
        capability = λ ready control c. capability_starts r control ready c;
        connector_reset = λ ready control c low high. connector_reset_starts r control ready low high c;
        connector_capability = λ ready control c low high. connector_capability_starts r control ready low high c;
        connector_status = λ ready control c low high. connector_status_starts r control ready low high c;
        no_connector = λ ready code needs control c h. absent_completes r control ready code needs c h;
        other_codes = λ ready code o control c. other_completes r control ready code o c;
        cancel = λ on running control c. cancel_completes r control on running c;
        runs_until = run_until m;
        due_until = due_until_lem m;
        acknowledge = λ on d control c b k. completion_acked r control c on d b k;
        acknowledge_change = λ on still h control c b k. change_acked r control c on still b k h;
        running = cci_in_run m;
        success = reports_success;
        failure = reports_failure;
        dropped = dropped;
        becomes_shown = becomes_shown_lem;
        becomes_waiting = becomes_waiting_lem;
        change_high = change_cci_high m;
        change_low = change_cci_low m;
        change_in_run = change_cci_in_run m;
        change_status = λ c reason. (change_altered m c reason).status;
        change_message_in = λ c reason. (change_altered m c reason).message;
        kept = λ e h. ap (λ (o : Outcome). o.mailbox) (refused_keeps m e h);
        one = λ control h. ap (λ (o : Outcome). mailbox_number_of o.answer) (control_1 m control h);
        two = λ o code h1 h5 control c. two r control code c h1 o h5;
        three = λ running code h1 h2 enabling control c. three r control code c h1 enabling running h2;
        four = λ d code h1 enabling control c h. four r control code c h1 enabling d h;
        five_neither = λ ready control c b k. neither_number r control ready c b k;
        five_nothing_due = λ ready control c k. nothing_due_number r control ready c k;
        five_none_shown = λ on still z control c b k. none_shown_number r control c on still b k z;
        six = λ ready control c. six r control ready c;
        seven = seven;
        eight = eight;
        nine = nine;
      }

start_keeps : (count : ℕ) → Start count
unfolding off_of runs_of due_of
start_keeps count =
    record {
      counts = λ low high. ap start_number_of (fresh_made count low high);
      others = λ h. (ap start_number_of (refused_start h), subst IsErr (sym (refused_start h)) refl);
      cci = fresh_all count (λ r. IfOk r (λ m. mailbox_cci_of m ≡ 0)) tt (λ low high. (fresh count).cci);
      off = fresh_all count (λ r. IfOk r (λ m. off m ≡ true)) tt (λ low high. ap off_of (fresh count).notifications);
      message_in = fresh_all count (λ r. IfOk r (λ m. message_in_of m ≡ zeros)) tt (λ low high. (fresh count).message);
      still =
          fresh_all count (λ r. IfOk r (λ m. (runs m ≡ false) × (due m ≡ false))) tt
          (λ low high. (ap runs_of (fresh count).status, ap due_of (fresh count).status));
      no_change = fresh_all count (λ r. IfOk r NoChange) tt (λ low high. no_change_lem (fresh_mailbox count) (fresh count).changes);
    }
  where
    refused_start : (count ≡ 0) ⊎ (8 < count) → mailbox_fresh_of count ≡ Err (record {})
    refused_start (inl e) = fresh_29_zero count e
    refused_start (inr h) = fresh_29_above count h

pub sentences : MailboxKeeps
sentences count = (start_keeps count, λ m r. every r)

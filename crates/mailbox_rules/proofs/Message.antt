-- MESSAGE_IN: filled by a success, zeroed by every other completion, by cancel and by reset, kept by a start, by ACK and by a refusal
-- (01, The mailbox).
use Prim.Native.Nat.{ℕ, zero, suc, ◌-◌, ◌≤◌}
use mathlib.Core.Bool.{true}
use mathlib.Core.List.{List, [], ◌++◌}
use mathlib.Core.Path.{◌≡◌, sym, ◌∙◌, ap, subst}
use native.Mathlib.Nat.{sub-zero, suc-sub-suc, zero-sub}
use native.Mathlib.Omega.{arith}
use lib.ListN.{length, drop, replicate, length-replicate}
use Rattle.std.specs.Prelude.{Ok}
use Rattle.basis.specs.Left.{Left}
use Rattle.lent.proofs.Laws.{put_leads}
use Rattle.commands.specs.Control.{fields_of}
use Rattle.commands.specs.Table.{entry_of}
use Rattle.mailbox_state.specs.Status.{runs_of}
use Rattle.mailbox_state.specs.declared.status.CommandStatus.{CommandStatus}
use Rattle.mailbox_state.specs.declared.status.CommandStatus.TheVariants.{Nothing, ResetDone, Busy, Completed, Failed, NotSupported, Cancelled, Acknowledged}
use Rattle.mailbox_state.specs.declared.step.MessageEffect.{MessageEffect}
use Rattle.mailbox_state.specs.declared.step.Step.{Step}
use Rattle.mailbox_rules.specs.Refusal.{situation_of, refusal_of}
use Rattle.mailbox_rules.specs.Write.{with_status, control_step_of}
use Rattle.mailbox_rules.proofs.Command.{EffectOf, write_takes}
use Rattle.mailbox_rules.proofs.Report.{success_completes, failure_completes}
use Rattle.mailbox_rules.specs.MessageIn.{zero_message_in, filled_of, settled_of}
use Rattle.mailbox_rules.specs.Mailbox.{message_in_of, mailbox, mailbox_returns}
use Rattle.mailbox_rules.specs.Events.{writes, succeeds, fails, step_returns, event_of}
use Rattle.mailbox_state.specs.declared.mailbox.Mailbox.{Mailbox}
use Rattle.mailbox_state.specs.declared.mailbox.Outcome.{Outcome}
use Rattle.mailbox_rules.proofs.Laws.{write_step}
use Rattle.lent.specs.Put.{Placed}

dropped : (k n : ℕ) → drop k (replicate n 0) ≡ replicate {A = ℕ} (n - k) 0
dropped zero n = ap (λ (m : ℕ). replicate {A = ℕ} m 0) (sym (sub-zero n))
dropped (suc k) zero = ap (λ (m : ℕ). replicate {A = ℕ} m 0) (sym (zero-sub (suc k)))
dropped (suc k) (suc n) = dropped k n ∙ ap (λ (m : ℕ). replicate {A = ℕ} m 0) (sym (suc-sub-suc n k))

-- Up to 256 bytes, and then the zeros that are behind them.
pub filled : (bytes : List ℕ) → length bytes ≤ 256 → filled_of bytes ≡ bytes ++ replicate (256 - length bytes) 0
unfolding filled_of zero_message_in
filled bytes few =
    ap (λ (x : Left Placed). x.memory) (put_leads bytes (replicate 256 0) (rw (length-replicate {A = ℕ} 256 0) few)) ∙ ap (λ (l : List ℕ). bytes ++ l) (dropped (length bytes) 256)

module _ (m : Mailbox) (bytes : List ℕ) (r : runs_of m.state.status ≡ true) (few : length bytes ≤ 255) where
  pub success_taken : event_of m (succeeds bytes) ≡ mailbox_returns (mailbox (with_status m.state (Completed (length bytes))) (filled_of bytes)) (Ok tt)
  unfolding settled_of
  success_taken = ap (λ (s : Step). step_returns m s bytes) (success_completes m.state (length bytes) r few)

  -- After a success of k bytes: those bytes, and 256 - k zeros.
  pub success_fills : message_in_of (event_of m (succeeds bytes)).mailbox ≡ bytes ++ replicate (256 - length bytes) 0
  success_fills = ap (λ (o : Outcome). o.mailbox.message) success_taken ∙ filled bytes (omega arith)

-- After a write that is taken, by the status then.
abbrev pub After : CommandStatus → List ℕ → List ℕ → Type 0
After Nothing before after = ⊥
After ResetDone before after = after ≡ zero_message_in
After (Busy command) before after = after ≡ before
After (Completed length) before after = after ≡ zero_message_in
After Failed before after = after ≡ zero_message_in
After NotSupported before after = after ≡ zero_message_in
After Cancelled before after = after ≡ zero_message_in
After Acknowledged before after = after ≡ before

module _ (message bytes : List ℕ) where
  after : (status : CommandStatus) (e : MessageEffect) → EffectOf status e → After status message (settled_of message e bytes)
  unfolding settled_of
  after Nothing e p = p
  after ResetDone e p = ap (λ (x : MessageEffect). settled_of message x bytes) p
  after (Busy command) e p = ap (λ (x : MessageEffect). settled_of message x bytes) p
  after (Completed length) e p = ap (λ (x : MessageEffect). settled_of message x bytes) p
  after Failed e p = ap (λ (x : MessageEffect). settled_of message x bytes) p
  after NotSupported e p = ap (λ (x : MessageEffect). settled_of message x bytes) p
  after Cancelled e p = ap (λ (x : MessageEffect). settled_of message x bytes) p
  after Acknowledged e p = ap (λ (x : MessageEffect). settled_of message x bytes) p

module _ (m : Mailbox) (control : List ℕ) where
  abbrev wrote : Mailbox
  wrote = (event_of m (writes control)).mailbox

  abbrev step_of : Step
  step_of = control_step_of m.state (fields_of control)

  pub write_message : length control ≡ 8 → refusal_of (entry_of (fields_of control).code).class (situation_of m.state (fields_of control)) ≡ Ok tt
      → After wrote.state.status (message_in_of m) (message_in_of wrote)
  write_message e t =
      subst (λ (o : Outcome). After o.mailbox.state.status m.message o.mailbox.message) (sym (write_step m control e))
      (after m.message [] step_of.state.status step_of.effect (write_takes m.state (fields_of control) t).effect)

pub failure_zeroes : (m : Mailbox) → runs_of m.state.status ≡ true → message_in_of (event_of m fails).mailbox ≡ zero_message_in
unfolding settled_of
failure_zeroes m e = rw (failure_completes m.state e)

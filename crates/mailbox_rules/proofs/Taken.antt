-- What an event that is taken gives, and what a refused one is answered: read off the step that is decided (01, The mailbox).
use Prim.Native.Nat.{ℕ, suc, ◌%◌}
use mathlib.Core.Bool.{true}
use mathlib.Core.List.{List}
use mathlib.Core.Path.{◌≡◌, refl, sym, ◌∙◌, ap, subst}
use lib.ListN.{length}
use Rattle.std.specs.Prelude.{Ok}
use Rattle.commands.specs.Control.{fields_of}
use Rattle.commands.specs.Table.{entry_of}
use Rattle.commands.proofs.Fields.{eight_read}
use Rattle.mailbox_state.specs.Answer.{mailbox_number_of}
use Rattle.mailbox_state.specs.Status.{due_of}
use Rattle.mailbox_state.specs.Step.{mailbox_step}
use Rattle.mailbox_state.specs.declared.mailbox.Mailbox.{Mailbox}
use Rattle.mailbox_state.specs.declared.state.State.{State}
use Rattle.mailbox_state.specs.declared.step.MessageEffect.{MessageEffect}
use Rattle.mailbox_state.specs.declared.step.Step.{Step}
use Rattle.mailbox_rules.specs.Cci.{cci_bits_of}
use Rattle.mailbox_rules.specs.Events.{Event, writes, parsed_step_of, event_step_of, port_bytes}
use Rattle.mailbox_rules.specs.History.{Reached}
use Rattle.mailbox_rules.specs.Mailbox.{mailbox_cci_of}
use Rattle.mailbox_rules.specs.MessageIn.{settled_of}
use Rattle.mailbox_rules.specs.Refusal.{situation_of, refusal_of}
use Rattle.mailbox_rules.specs.Says.{Says}
use Rattle.mailbox_rules.specs.Sentences.{answers, next, Ready, Gives, Completes}
use Rattle.mailbox_rules.specs.Write.{control_step_of}
use Rattle.mailbox_rules.proofs.ByCode as code
use Rattle.mailbox_rules.proofs.Command.{write_answer}
use Rattle.mailbox_rules.proofs.Reached.{reached_next, shown_fits}

module _ (m : Mailbox) where
  -- A write of 8 bytes is decided by its fields.
  pub write_row : (control : List ℕ) → length control ≡ 8 → (step : Step) → control_step_of m.state (fields_of control) ≡ step
      → event_step_of m.state (writes control) ≡ step
  unfolding parsed_step_of
  write_row control eight step row = ap (parsed_step_of m.state) (eight_read control eight) ∙ row

  pub numbered : (e : Event) (step : Step) → event_step_of m.state e ≡ step → answers m e ≡ mailbox_number_of step.answer
  numbered e step row = ap (λ (s : Step). mailbox_number_of s.answer) row

  -- A write whose refusal has this number is answered it.
  pub refuses : (control : List ℕ) → length control ≡ 8 → (n : ℕ)
      → mailbox_number_of (refusal_of (entry_of (fields_of control).code).class (situation_of m.state (fields_of control))) ≡ suc n
      → answers m (writes control) ≡ suc n
  refuses control eight n e =
      numbered (writes control) _ (write_row control eight _ refl) ∙ ap mailbox_number_of (write_answer m.state (fields_of control)) ∙ e

  pub ready_state : Ready m → code.Ready m.state
  ready_state r = record { on = r.on; still = r.still; acknowledged = r.acknowledged }

module _ {count : ℕ} {m : Mailbox} (r : Reached count m) where
  abbrev state : State
  state = m.state

  -- An event that is taken gives what CCI says of the status then.
  pub gives : (e : Event) (after : State) (effect : MessageEffect) → event_step_of state e ≡ mailbox_step after (Ok tt) effect → {size : ℕ} {set : List ℕ}
      → Says (cci_bits_of after.status after.changes.shown) (after.changes.shown % 128) size set
      → Gives m e size set (settled_of m.message effect (port_bytes e))
  gives e after effect row {size} {set} says =
      record {
        taken = numbered m e _ row;
        cci =
            subst (λ (n : ℕ). Says (mailbox_cci_of (next m e)) n size set) (shown_fits (reached_next count m e r))
            (subst (λ (s : Step). Says (cci_bits_of s.state.status s.state.changes.shown) (s.state.changes.shown % 128) size set) (sym row) says);
        message_in = ap (λ (s : Step). settled_of m.message s.effect (port_bytes e)) row;
      }

  -- An event that completes a command or cancels it.
  pub completes : (e : Event) (after : State) (effect : MessageEffect) → event_step_of state e ≡ mailbox_step after (Ok tt) effect
      → due_of after.status ≡ true → after.changes ≡ state.changes → {size : ℕ} {set : List ℕ}
      → Says (cci_bits_of after.status after.changes.shown) (after.changes.shown % 128) size set
      → Completes m e size set (settled_of m.message effect (port_bytes e))
  completes e after effect row waiting same says =
      record {
        gives = gives e after effect row says;
        waits_for_ack = ap (λ (s : Step). due_of s.state.status) row ∙ waiting;
        changes_kept = ap (λ (s : Step). s.state.changes) row ∙ same;
      }

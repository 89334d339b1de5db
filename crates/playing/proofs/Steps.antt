-- A turn is the step of its record's event, its line, and MESSAGE_IN as the step's effect says.
use Prim.Native.Nat.{ℕ}
use mathlib.Core.List.{List, []}
use mathlib.Core.Path.{◌≡◌, sym, ◌∙◌}
use Rattle.recording.specs.declared.record.Record.{Record}
use Rattle.printing.specs.declared.text.Line.{Line}
use Rattle.mailbox_state.specs.declared.step.Step.{Step}
use Rattle.mailbox_state.specs.declared.mailbox.Mailbox.{Mailbox}
use Rattle.mailbox_rules.specs.Mailbox.{mailbox}
use Rattle.mailbox_rules.specs.MessageIn.{settled_of}
use Rattle.mailbox_rules.specs.Events.{event_step_of}
use Rattle.playing.specs.Turn.{event_in, outcome_of, printed, turn_of}
use Rattle.playing.specs.Step.{zeroed_of, line_after}
use Rattle.playing.proofs.Zeros.{record_zeroes}
use Rattle.playing.specs.declared.turn.Turn.{Turn}

module _ (m : Mailbox) (r : Record) (s : Step) (e : s ≡ event_step_of m.state (event_in r)) where
  abbrev pub turned : Line → List ℕ → Turn
  turned line message = record { mailbox = mailbox s.state message; answer = s.answer; line = line }

  pub turn_is : (line : Line) (message : List ℕ) → line ≡ line_after s.state s.answer → message ≡ settled_of m.message (zeroed_of s.effect) []
      → turned line message ≡ turn_of m r
  unfolding turn_of outcome_of printed
  turn_is line message p q = rw (p, q ∙ sym (record_zeroes m.message s.effect r), e)

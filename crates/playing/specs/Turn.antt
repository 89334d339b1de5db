-- What a record does to a mailbox, and the line that it prints (01, Replay program).
use Rattle.std.specs.Prelude.{ℕ, List, replicate}
use Rattle.recording.specs.declared.record.Record.{Record}
use Rattle.recording.specs.declared.record.Record.TheVariants.{Control, Change, Success, Failure}
use Rattle.printing.specs.Line.{text_of}
use Rattle.mailbox_state.specs.Answer.{mailbox_number_of}
use Rattle.mailbox_rules.specs.Mailbox.{mailbox_cci_of}
use Rattle.mailbox_rules.specs.Events.{Event, writes, succeeds, fails, changes, event_of}
use Rattle.mailbox_state.specs.declared.mailbox.Mailbox.{Mailbox}
use Rattle.mailbox_state.specs.declared.mailbox.Outcome.{Outcome}
use Rattle.playing.specs.declared.turn.Turn.{Turn}

-- Kind 3 has one byte, and that many zero bytes are reported.
unfoldable pub event_in : Record → Event
event_in (Control control) = writes control
event_in (Change connector reason) = changes connector reason
event_in (Success length) = succeeds (replicate length 0)
event_in Failure = fails

unfoldable pub outcome_of : Mailbox → Record → Outcome
outcome_of m r = event_of m (event_in r)

-- CCI after the record, and the answer's number.
unfoldable pub printed : Outcome → List ℕ
printed o = text_of (mailbox_cci_of o.mailbox) (mailbox_number_of o.answer)

unfoldable pub turn_of : Mailbox → Record → Turn
turn_of m r = record { mailbox = (outcome_of m r).mailbox; answer = (outcome_of m r).answer; line = printed (outcome_of m r) }

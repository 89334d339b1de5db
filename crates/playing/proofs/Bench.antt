-- Recordings from their bytes to their lines, by computation (01, Replay program).
use Prim.Native.Nat.{ℕ}
use mathlib.Core.List.{List, [], ◌∷◌, ◌++◌}
use mathlib.Core.Path.{◌≡◌, refl}
use Rattle.basis.specs.Pick.{pick, differ}
use Rattle.commands.specs.Control.{fields_of, control_of}
use Rattle.commands.specs.Table.{entry_of}
use Rattle.printing.specs.Digits.{digit_of, decimal_of}
use Rattle.printing.specs.Line.{tail_of, text_of}
use Rattle.recording.specs.Reading.{next_record_of}
use Rattle.recording.specs.Apart.{turns, apart_of}
use Rattle.mailbox_state.specs.State.{off_of}
use Rattle.mailbox_state.specs.Status.{runs_of, due_of}
use Rattle.mailbox_rules.specs.Cci as cci
use Rattle.mailbox_rules.specs.Change.{meets_of, heard_of, present_step_of}
use Rattle.mailbox_rules.specs.Change as change
use Rattle.mailbox_rules.specs.Changes as changes
use Rattle.mailbox_rules.specs.Refusal.{refusal_of}
use Rattle.mailbox_rules.specs.Report.{success_step_of, failure_step_of}
use Rattle.mailbox_rules.specs.Write.{connector_there, starts_command, taken_step_of, judged_step_of}
use Rattle.mailbox_rules.specs.Mailbox.{fresh_mailbox}
use Rattle.mailbox_rules.specs.Events.{parsed_step_of}
use Rattle.mailbox_rules.specs.History.{history_from}
use Rattle.playing.specs.Turn.{event_in}
use Rattle.playing.specs.Replay.{replayed_of, printed_of}

-- The whole case's bytes.
abbrev bytes : List ℕ
bytes =
    0x01 ∷ 0x05 ∷ 0x00 ∷ 0xFF ∷ 0xFF ∷ 0x00 ∷ 0x00 ∷ 0x00 ∷ 0x00
    ∷ 0x01 ∷ 0x04 ∷ 0x00 ∷ 0x02 ∷ 0x00 ∷ 0x00 ∷ 0x00 ∷ 0x00 ∷ 0x00
    ∷ 0x02 ∷ 0x02 ∷ 0x02 ∷ 0x00
    ∷ 0x01 ∷ 0x12 ∷ 0x00 ∷ 0x02 ∷ 0x00 ∷ 0x00 ∷ 0x00 ∷ 0x00 ∷ 0x00
    ∷ 0x03 ∷ 0x09
    ∷ 0x01 ∷ 0x04 ∷ 0x00 ∷ 0x03 ∷ 0x00 ∷ 0x00 ∷ 0x00 ∷ 0x00 ∷ 0x00 ∷ []

-- SET_NOTIFICATION_ENABLE, ACK_CC_CI and GET_CAPABILITY, which runs.
abbrev running : List ℕ
running =
    0x01 ∷ 0x05 ∷ 0x00 ∷ 0xFF ∷ 0xFF ∷ 0x00 ∷ 0x00 ∷ 0x00 ∷ 0x00
    ∷ 0x01 ∷ 0x04 ∷ 0x00 ∷ 0x02 ∷ 0x00 ∷ 0x00 ∷ 0x00 ∷ 0x00 ∷ 0x00
    ∷ 0x01 ∷ 0x06 ∷ 0x00 ∷ 0x00 ∷ 0x00 ∷ 0x00 ∷ 0x00 ∷ 0x00 ∷ 0x00 ∷ []

-- SET_NOTIFICATION_ENABLE with the mask 0002 alone, and ACK_CC_CI.
abbrev masked : List ℕ
masked =
    0x01 ∷ 0x05 ∷ 0x00 ∷ 0x02 ∷ 0x00 ∷ 0x00 ∷ 0x00 ∷ 0x00 ∷ 0x00
    ∷ 0x01 ∷ 0x04 ∷ 0x00 ∷ 0x02 ∷ 0x00 ∷ 0x00 ∷ 0x00 ∷ 0x00 ∷ 0x00 ∷ []

-- The whole case; a port failure, which shows bits 30 and 31; a change on connector 2, which is there, and on 3, which is not (9); and a
-- change on connector 1 with the reason 0002, which meets the mask, and with 0200, which does not.
pub record Cases : Type 0 where
  pub whole_case : printed_of bytes
      ≡ text_of 0x80000000 0 ++ text_of 0x20000000 0 ++ text_of 0x20000004 0 ++ text_of 0x10000000 0 ++ text_of 0x80000904 0 ++ text_of 0x20000000 0
  pub failure : printed_of (running ++ 0x04 ∷ []) ≡ text_of 0x80000000 0 ++ text_of 0x20000000 0 ++ text_of 0x10000000 0 ++ text_of 0xC0000000 0
  pub second : printed_of (0x02 ∷ 0x02 ∷ 0x02 ∷ 0x00 ∷ []) ≡ text_of 0 0
  pub third : printed_of (0x02 ∷ 0x03 ∷ 0x02 ∷ 0x00 ∷ []) ≡ text_of 0 9
  pub meets : printed_of (masked ++ 0x02 ∷ 0x01 ∷ 0x02 ∷ 0x00 ∷ []) ≡ text_of 0x80000000 0 ++ text_of 0x20000000 0 ++ text_of 0x20000002 0
  pub misses : printed_of (masked ++ 0x02 ∷ 0x01 ∷ 0x00 ∷ 0x02 ∷ []) ≡ text_of 0x80000000 0 ++ text_of 0x20000000 0 ++ text_of 0x20000000 0

pub cases : Cases
unfolding replayed_of history_from apart_of turns next_record_of event_in digit_of decimal_of tail_of fresh_mailbox parsed_step_of control_of fields_of entry_of judged_step_of refusal_of taken_step_of starts_command connector_there pick differ off_of runs_of due_of cci.cci_bits_of success_step_of change.change_step_of present_step_of heard_of meets_of changes.noted_of changes.next_shown_of changes.lowest_from changes.marked_of failure_step_of
cases = record { whole_case = refl; failure = refl; second = refl; third = refl; meets = refl; misses = refl }

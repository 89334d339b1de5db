-- Which refusal a write meets, in the order of document 01: PPM_RESET, 2, 3, 4, 5, 6 (01, Numbers we answer).
use Rattle.std.specs.Prelude.{ℕ, Bool, not, ◌&&◌, ◌||◌, eqb, Ok, Err}
use Rattle.basis.specs.Pick.{pick, differ}
use Rattle.commands.specs.declared.table.Class.{Class}
use Rattle.commands.specs.declared.table.Class.TheVariants.{Reset, Cancel, Acknowledge, Enable, Run, NotSupported}
use Rattle.commands.specs.declared.control.Control.{Control}
use Rattle.mailbox_state.specs.Status.{runs_of, due_of}
use Rattle.mailbox_state.specs.State.{off_of}
use Rattle.mailbox_state.specs.Answer.{Answer}
use Rattle.mailbox_state.specs.declared.answer.Refusal.TheVariants.{NotificationsOff, CommandRuns, AcknowledgementDue, NothingToClear, NothingToCancel}
use Rattle.mailbox_state.specs.declared.situation.Situation.{Situation}
use Rattle.mailbox_state.specs.declared.state.State.{State}

abbrev place : Class → ℕ
place Reset = 0
place Cancel = 1
place Acknowledge = 2
place Enable = 3
place Run = 4
place NotSupported = 5

-- Whether a command's class is this one.
abbrev pub is : Class → Class → Bool
is one class = eqb (place one) (place class)

-- What a write of this CONTROL is judged by.
abbrev pub situation_of : State → Control → Situation
situation_of state control =
    record {
      off = off_of state.notifications;
      runs = runs_of state.status;
      due = due_of state.status;
      shown = differ state.changes.shown 0;
      change = control.change;
      completed = control.completed;
    }

-- ACK with neither bit, or a bit with nothing to clear.
abbrev pub clears_nothing : Situation → Bool
clears_nothing s = not (s.change || s.completed) || (s.change && not s.shown) || (s.completed && not s.due)

-- 2: notifications off, not PPM_RESET or 0x05. 3: running, not CANCEL. 4: acknowledgement due, not ACK with bit 17. 5 and 6 are ACK's and
-- CANCEL's own.
unfoldable pub refusal_of : Class → Situation → Answer
refusal_of class s =
    pick (is Reset class) (Ok tt)
    (pick (s.off && not (is Enable class)) (Err NotificationsOff)
    (pick (s.runs && not (is Cancel class)) (Err CommandRuns)
    (pick (s.due && not (is Acknowledge class && s.completed)) (Err AcknowledgementDue)
    (pick (is Acknowledge class && clears_nothing s) (Err NothingToClear)
    (pick (is Cancel class && not s.runs) (Err NothingToCancel)
    (Ok tt))))))

-- A command that runs while notifications are off: 0x05 is 3, everything else but PPM_RESET is 2.
abbrev pub runs_while_off : Class → Answer
runs_while_off Reset = Ok tt
runs_while_off Cancel = Err NotificationsOff
runs_while_off Acknowledge = Err NotificationsOff
runs_while_off Enable = Err CommandRuns
runs_while_off Run = Err NotificationsOff
runs_while_off NotSupported = Err NotificationsOff

-- What refuses a command outside a run: 2, then 4.
unfoldable pub stopped_of : Bool → Bool → Answer → Answer
stopped_of off due otherwise = pick off (Err NotificationsOff) (pick due (Err AcknowledgementDue) otherwise)

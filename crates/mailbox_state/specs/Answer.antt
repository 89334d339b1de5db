-- For every case of the answer, document 01's number (01, Numbers we answer).
use Rattle.std.specs.Prelude.{ℕ, Result, ⊤}
use Rattle.numbers.specs.Number.{number_in}
use Rattle.mailbox_state.specs.declared.answer.Refusal.{Refusal}
use Rattle.mailbox_state.specs.declared.answer.Refusal.TheVariants.{ControlLength, NotificationsOff, CommandRuns, AcknowledgementDue, NothingToClear, NothingToCancel, NothingRuns, DataTooLong, NoSuchConnector}

-- An event is taken, or refused.
abbrev pub Answer : Type 0
Answer = Result ⊤ Refusal

abbrev pub refusal_number_of : Refusal → ℕ
refusal_number_of ControlLength = 1
refusal_number_of NotificationsOff = 2
refusal_number_of CommandRuns = 3
refusal_number_of AcknowledgementDue = 4
refusal_number_of NothingToClear = 5
refusal_number_of NothingToCancel = 6
refusal_number_of NothingRuns = 7
refusal_number_of DataTooLong = 8
refusal_number_of NoSuchConnector = 9

-- 0 where it is taken.
abbrev pub mailbox_number_of : Answer → ℕ
mailbox_number_of answer = number_in refusal_number_of answer

-- In a run nothing but the class and the notifications matter (01, Numbers we answer: 2 and 3).
use mathlib.Core.Bool.{true, false}
use mathlib.Core.Path.{◌≡◌, refl, sym}
use Rattle.basis.specs.Pick.{pick}
use Rattle.commands.specs.declared.table.Class.{Class}
use Rattle.commands.specs.declared.table.Class.TheVariants.{Reset, Cancel, Acknowledge, Enable, Run, NotSupported}
use Rattle.mailbox_state.specs.Status.{runs_of, due_of}
use Rattle.mailbox_state.specs.declared.situation.Situation.{Situation}
use Rattle.mailbox_state.specs.declared.status.CommandStatus.{CommandStatus}
use Rattle.mailbox_state.specs.declared.status.CommandStatus.TheVariants.{Nothing, ResetDone, Busy, Completed, Failed, NotSupported as Unsupported, Cancelled, Acknowledged}
use Rattle.mailbox_rules.specs.Refusal.{refusal_of, runs_while_off}

-- An acknowledgement is never due in a run.
pub not_due : (status : CommandStatus) → runs_of status ≡ true → due_of status ≡ false
unfolding runs_of due_of
not_due (Busy command) e = refl
not_due Nothing e = refl
not_due ResetDone e = refl
not_due (Completed length) e = sym e
not_due Failed e = sym e
not_due Unsupported e = sym e
not_due Cancelled e = sym e
not_due Acknowledged e = refl

-- A command that runs while notifications are off is judged by the same order.
pub off_in_run : (class : Class) (s : Situation) → s.off ≡ true → s.runs ≡ true → runs_while_off class ≡ refusal_of class s
unfolding refusal_of pick
off_in_run Reset s off runs = refl
off_in_run Cancel s off runs = rw off
off_in_run Acknowledge s off runs = rw off
off_in_run Enable s off runs = rw (off, runs)
off_in_run Run s off runs = rw off
off_in_run NotSupported s off runs = rw off

-- Which events may end an acknowledgement that is due, and which a run (01, The mailbox).
use Rattle.std.specs.Prelude.{ℕ, Bool, true, ◌≡◌}
use Rattle.commands.specs.Control.{fields_of}
use Rattle.mailbox_rules.specs.Events.{Event, writes, succeeds, fails, changes}

-- PPM_RESET, or ACK_CC_CI with bit 17.
pub data ResetOrAcknowledge (code : ℕ) (completed : Bool) : Type 0 where
  reset : code ≡ 0x01 → ResetOrAcknowledge code completed
  acknowledged : code ≡ 0x04 → completed ≡ true → ResetOrAcknowledge code completed

abbrev pub MayEndDue : Event → Type 0
MayEndDue (writes control) = ResetOrAcknowledge (fields_of control).code (fields_of control).completed
MayEndDue (succeeds bytes) = ⊥
MayEndDue fails = ⊥
MayEndDue (changes c reason) = ⊥

-- PPM_RESET, or CANCEL.
pub data ResetOrCancel (code : ℕ) : Type 0 where
  by_reset : code ≡ 0x01 → ResetOrCancel code
  by_cancel : code ≡ 0x02 → ResetOrCancel code

-- A report of the port may too.
abbrev pub MayEndRun : Event → Type 0
MayEndRun (writes control) = ResetOrCancel (fields_of control).code
MayEndRun (succeeds bytes) = Unit
MayEndRun fails = Unit
MayEndRun (changes c reason) = ⊥

-- What is read off the status of the last command (01, The mailbox).
use Rattle.std.specs.Prelude.{Bool, true, false}
use Rattle.mailbox_state.specs.declared.status.CommandStatus.{CommandStatus}
use Rattle.mailbox_state.specs.declared.status.CommandStatus.TheVariants.{Nothing, ResetDone, Busy, Completed, Failed, NotSupported, Cancelled, Acknowledged}

unfoldable pub runs_of : CommandStatus → Bool
runs_of Nothing = false
runs_of ResetDone = false
runs_of (Busy command) = true
runs_of (Completed length) = false
runs_of Failed = false
runs_of NotSupported = false
runs_of Cancelled = false
runs_of Acknowledged = false

-- Every completion and cancel waits for ACK_CC_CI with bit 17 set.
unfoldable pub due_of : CommandStatus → Bool
due_of Nothing = false
due_of ResetDone = false
due_of (Busy command) = false
due_of (Completed length) = true
due_of Failed = true
due_of NotSupported = true
due_of Cancelled = true
due_of Acknowledged = false

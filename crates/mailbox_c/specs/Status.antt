-- The status of the last command as the numbers of include/harsolvek.h, and back.
use Rattle.std.specs.Prelude.{ℕ, eqb}
use Rattle.basis.specs.Pick.{pick}
use Rattle.mailbox_state.specs.declared.status.Command.{Command}
use Rattle.mailbox_state.specs.declared.status.CommandStatus.{CommandStatus}
use Rattle.mailbox_state.specs.declared.status.CommandStatus.TheVariants.{Nothing, ResetDone, Busy, Completed, Failed, NotSupported, Cancelled, Acknowledged}

abbrev pub status_code_of : CommandStatus → ℕ
status_code_of Nothing = 0
status_code_of ResetDone = 1
status_code_of (Busy command) = 2
status_code_of (Completed length) = 3
status_code_of Failed = 4
status_code_of NotSupported = 5
status_code_of Cancelled = 6
status_code_of Acknowledged = 7

-- 0 where a status has no data.
abbrev pub data_length_of : CommandStatus → ℕ
data_length_of Nothing = 0
data_length_of ResetDone = 0
data_length_of (Busy command) = 0
data_length_of (Completed length) = length
data_length_of Failed = 0
data_length_of NotSupported = 0
data_length_of Cancelled = 0
data_length_of Acknowledged = 0

abbrev pub no_command : Command
no_command = record { code = 0; connector = 0; reset_type = 0 }

-- All 0 where no command runs.
abbrev pub running_of : CommandStatus → Command
running_of Nothing = no_command
running_of ResetDone = no_command
running_of (Busy command) = command
running_of (Completed length) = no_command
running_of Failed = no_command
running_of NotSupported = no_command
running_of Cancelled = no_command
running_of Acknowledged = no_command

-- A code that no status has is read as Nothing.
unfoldable pub rest_of : ℕ → CommandStatus
rest_of code =
    pick (eqb code 1) ResetDone
    (pick (eqb code 4) Failed
    (pick (eqb code 5) NotSupported
    (pick (eqb code 6) Cancelled
    (pick (eqb code 7) Acknowledged
    Nothing))))

unfoldable pub status_of : ℕ → ℕ → Command → CommandStatus
status_of code length command = pick (eqb code 2) (Busy command) (pick (eqb code 3) (Completed length) (rest_of code))

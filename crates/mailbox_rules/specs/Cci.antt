-- CCI, bit for bit (01, The mailbox; 000 T3-2).
use Rattle.std.specs.Prelude.{ℕ, ◌+◌, ◌*◌, ◌%◌, ◌^◌}
use Rattle.mailbox_state.specs.declared.status.CommandStatus.{CommandStatus}
use Rattle.mailbox_state.specs.declared.status.CommandStatus.TheVariants.{Nothing, ResetDone, Busy, Completed, Failed, NotSupported, Cancelled, Acknowledged}

-- Bits 1 to 7: the connector shown.
abbrev pub connector : ℕ
connector = 1

abbrev pub connector_size : ℕ
connector_size = 7

-- Bits 8 to 15: the data length.
abbrev pub data_length : ℕ
data_length = 8

abbrev pub not_supported : ℕ
not_supported = 25

abbrev pub cancel_done : ℕ
cancel_done = 26

abbrev pub reset_done : ℕ
reset_done = 27

abbrev pub busy : ℕ
busy = 28

abbrev pub acknowledge : ℕ
acknowledge = 29

abbrev pub error : ℕ
error = 30

abbrev pub complete : ℕ
complete = 31

abbrev pub cci_bit : ℕ → ℕ
cci_bit i = 2 ^ i

abbrev pub shown_bits : ℕ → ℕ
shown_bits shown = shown % 2 ^ connector_size * cci_bit connector

-- While a command runs, CCI is bit 28 alone. Cancel sets bit 26 and what 000 T4-4 prints beside it.
unfoldable pub cci_bits_of : CommandStatus → ℕ → ℕ
cci_bits_of Nothing shown = shown_bits shown
cci_bits_of ResetDone shown = cci_bit reset_done + shown_bits shown
cci_bits_of (Busy command) shown = cci_bit busy
cci_bits_of (Completed length) shown = cci_bit complete + length * cci_bit data_length + shown_bits shown
cci_bits_of Failed shown = cci_bit complete + cci_bit error + shown_bits shown
cci_bits_of NotSupported shown = cci_bit complete + cci_bit not_supported + shown_bits shown
cci_bits_of Cancelled shown = cci_bit complete + cci_bit cancel_done + shown_bits shown
cci_bits_of Acknowledged shown = cci_bit acknowledge + shown_bits shown

-- The codes of the commands that document 01 treats by themselves (002, Table A-1).
use Rattle.std.specs.Prelude.{ℕ}

abbrev pub ppm_reset : ℕ
ppm_reset = 0x01

abbrev pub cancel : ℕ
cancel = 0x02

abbrev pub connector_reset : ℕ
connector_reset = 0x03

abbrev pub ack_cc_ci : ℕ
ack_cc_ci = 0x04

abbrev pub set_notification_enable : ℕ
set_notification_enable = 0x05

abbrev pub get_capability : ℕ
get_capability = 0x06

abbrev pub get_connector_capability : ℕ
get_connector_capability = 0x07

abbrev pub get_connector_status : ℕ
get_connector_status = 0x12

-- How each command code is treated (01, The mailbox).
use Rattle.std.specs.Prelude.{ℕ, Bool, true, false, eqb}
use Rattle.basis.specs.Pick.{pick}
use Rattle.commands.specs.Codes.{ppm_reset, cancel, connector_reset, ack_cc_ci, set_notification_enable, get_capability, get_connector_capability, get_connector_status}
use Rattle.commands.specs.declared.table.Class.{Class}
use Rattle.commands.specs.declared.table.Class.TheVariants.{Reset, Cancel, Acknowledge, Enable, Run, NotSupported}
use Rattle.commands.specs.declared.table.Entry.{Entry}

abbrev pub entry : Class → Bool → Entry
entry class connector = record { class = class; connector = connector }

-- CONNECTOR_RESET, GET_CAPABILITY, GET_CONNECTOR_CAPABILITY and GET_CONNECTOR_STATUS run until the port reports; all but
-- GET_CAPABILITY need a connector number. Every other code is not supported.
unfoldable pub entry_of : ℕ → Entry
entry_of code =
    pick (eqb code ppm_reset) (entry Reset false)
    (pick (eqb code cancel) (entry Cancel false)
    (pick (eqb code ack_cc_ci) (entry Acknowledge false)
    (pick (eqb code set_notification_enable) (entry Enable false)
    (pick (eqb code get_capability) (entry Run false)
    (pick (eqb code connector_reset) (entry Run true)
    (pick (eqb code get_connector_capability) (entry Run true)
    (pick (eqb code get_connector_status) (entry Run true)
    (entry NotSupported false))))))))

-- A state that its words hold: 16 bits of mask, eight flags, and 8 bits of data length and of reset type. Connectors and codes are narrower in
-- every well-formed state.
use Rattle.std.specs.Prelude.{◌≤◌, ◌≡◌, length}
use Rattle.mailbox_state.specs.declared.state.State.{State}
use Rattle.mailbox_c.specs.Notifying.{mask_of}
use Rattle.mailbox_c.specs.Status.{data_length_of, running_of}

pub record Fits (state : State) : Type 0 where
  pub mask : mask_of state.notifications ≤ 65535
  pub eight : length state.changes.waiting ≡ 8
  pub data_length : data_length_of state.status ≤ 255
  pub type : (running_of state.status).reset_type ≤ 255

-- MESSAGE_IN, and what a step does to it (01, The mailbox).
use Rattle.std.specs.Prelude.{ℕ, List, replicate}
use Rattle.lent.specs.Put.{put_of}
use Rattle.mailbox_state.specs.declared.step.MessageEffect.{MessageEffect}
use Rattle.mailbox_state.specs.declared.step.MessageEffect.TheVariants.{Kept, ZeroedAtReset, ZeroedAtCancel, ZeroedAtCompletion, Filled}

-- 000 T3-1: 2048 bits.
abbrev pub message_in_size : ℕ
message_in_size = 256

unfoldable pub zero_message_in : List ℕ
zero_message_in = replicate message_in_size 0

-- The port's bytes, and zeros after. More bytes than it holds are not put there; 8 refuses them before.
unfoldable pub filled_of : List ℕ → List ℕ
filled_of bytes = (put_of zero_message_in 0 bytes).memory

-- MESSAGE_IN after a step with this effect; the bytes are those that the port reports.
unfoldable pub settled_of : List ℕ → MessageEffect → List ℕ → List ℕ
settled_of message Kept bytes = message
settled_of message ZeroedAtReset bytes = zero_message_in
settled_of message ZeroedAtCancel bytes = zero_message_in
settled_of message ZeroedAtCompletion bytes = zero_message_in
settled_of message Filled bytes = filled_of bytes

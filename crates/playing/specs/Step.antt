-- What a record does to MESSAGE_IN, and the line that it prints from the state and the answer alone (01, Replay program).
use Rattle.printing.specs.Line.{text_of}
use Rattle.printing.specs.declared.text.Line.{Line}
use Rattle.mailbox_state.specs.Answer.{Answer, mailbox_number_of}
use Rattle.mailbox_state.specs.declared.state.State.{State}
use Rattle.mailbox_state.specs.declared.step.MessageEffect.{MessageEffect}
use Rattle.mailbox_state.specs.declared.step.MessageEffect.TheVariants.{Kept, ZeroedAtReset, ZeroedAtCancel, ZeroedAtCompletion, Filled}
use Rattle.mailbox_rules.specs.Cci.{cci_bits_of}

-- The bytes of a recorded success are zeros: filling MESSAGE_IN with them zeroes it.
abbrev pub zeroed_of : MessageEffect → MessageEffect
zeroed_of Kept = Kept
zeroed_of ZeroedAtReset = ZeroedAtReset
zeroed_of ZeroedAtCancel = ZeroedAtCancel
zeroed_of ZeroedAtCompletion = ZeroedAtCompletion
zeroed_of Filled = ZeroedAtCompletion

abbrev pub line_after : State → Answer → Line
line_after state answer = text_of (cci_bits_of state.status state.changes.shown) (mailbox_number_of answer)

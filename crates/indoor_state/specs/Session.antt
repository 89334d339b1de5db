-- What a call returns, and a start, with its number in document 01 (01, Numbers we answer).
use Rattle.std.specs.Prelude.{ℕ, Result, Ok}
use Rattle.numbers.specs.Number.{number_in}
use Rattle.lent.specs.declared.outcome.Outcome.{Outcome}
use Rattle.indoor_state.specs.declared.answer.Answer.{Answer}
use Rattle.indoor_state.specs.declared.session.Indoor.{Indoor}
use Rattle.indoor_state.specs.declared.session.Started.{Started}
use Rattle.indoor_state.specs.declared.session.StartRefused.{StartRefused}
use Rattle.indoor_state.specs.declared.session.StartRefused.TheVariants.{Settings, FileSize, BufferShort}

abbrev pub IndoorOutcome : Type 0
IndoorOutcome = Outcome Indoor Answer

abbrev pub IndoorStart : Type 0
IndoorStart = Result Started StartRefused

abbrev pub indoor_made : Indoor → ℕ → IndoorStart
indoor_made session written = Ok (record { session = session; written = written })

abbrev pub indoor_refused_number_of : StartRefused → ℕ
indoor_refused_number_of Settings = 29
indoor_refused_number_of FileSize = 46
indoor_refused_number_of BufferShort = 27

abbrev pub indoor_start_number_of : IndoorStart → ℕ
indoor_start_number_of start = number_in indoor_refused_number_of start

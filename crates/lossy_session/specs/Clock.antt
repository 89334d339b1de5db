-- So many milliseconds pass at one end.
use Rattle.std.specs.Prelude.{ℕ, List}
use Rattle.basis.specs.Left.{Left, left}
use Rattle.receiver_state.specs.declared.session.Receiver.{Receiver}
use Rattle.receiver_state.specs.Session.{Outcome}
use Rattle.receiver_rules.specs.Time.{receiver_time_of}
use Rattle.indoor_state.specs.declared.session.Indoor.{Indoor}
use Rattle.indoor_rules.specs.Time.{indoor_time_of}
use Rattle.luck.specs.declared.way.Way.{Way}
use Rattle.lossy_ends.specs.Called.{Roof, roof_of, Indoors, indoors_left}

abbrev pub roof_timed : Way → Left Outcome → Left Roof
roof_timed falling x = left (roof_of x.answer falling) x.memory

unfoldable pub roof_passes : Receiver → ℕ → Way → List ℕ → Left Roof
roof_passes receiver elapsed falling down = roof_timed falling (receiver_time_of receiver elapsed down)

unfoldable pub indoor_passes : Indoor → ℕ → Way → List ℕ → List ℕ → Left Indoors
indoor_passes indoor elapsed rising file up = indoors_left rising (indoor_time_of indoor file elapsed up)

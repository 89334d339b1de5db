-- Both ends, with what is on its way between them.
use Rattle.receiver_state.specs.declared.session.Receiver.{Receiver}
use Rattle.indoor_state.specs.declared.session.Indoor.{Indoor}
use Rattle.luck.specs.declared.way.Way.{Way}
use Rattle.lossy_ends.specs.Called.{Roof, Indoors}
use Rattle.lossy_ends.specs.declared.ends.Ends.{Ends}

abbrev pub lossy_ends : Receiver → Indoor → Way → Way → Ends
lossy_ends receiver indoor up down = record { receiver = receiver; indoor = indoor; up = up; down = down }

-- After a call of the receiver, with what is still on its way up, and of the indoor end, with what is still on its way down.
abbrev pub roof_ends : Ends → Way → Roof → Ends
roof_ends e rising x = lossy_ends x.session e.indoor rising x.way

abbrev pub indoor_ends : Ends → Way → Indoors → Ends
indoor_ends e falling x = lossy_ends e.receiver x.session x.way falling

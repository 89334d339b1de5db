-- An end after a call, what is then on its way from it, and what the call answered.
use Rattle.std.specs.Prelude.{ℕ}
use Rattle.basis.specs.Left.{Left, left}
use Rattle.lent.specs.declared.outcome.Outcome as lent
use Rattle.receiver_state.specs.Answer.{receiver_number_of}
use Rattle.receiver_state.specs.Session.{Outcome}
use Rattle.receiver_state.specs.declared.session.Receiver.{Receiver}
use Rattle.indoor_state.specs.Answer.{indoor_number_of}
use Rattle.indoor_state.specs.Session.{IndoorOutcome}
use Rattle.indoor_state.specs.declared.session.Indoor.{Indoor}
use Rattle.luck.specs.Way.{after_write_of}
use Rattle.luck.specs.Called.{answered_of}
use Rattle.luck.specs.declared.way.Way.{Way}
use Rattle.lossy_ends.specs.declared.called.Called.{Called}

abbrev pub called_of : {S A : Type 0} → (A → ℕ) → lent.Outcome S A → Way → Called S
called_of number_of x before = record {
  session = x.session;
  way = after_write_of before x.written;
  answered = answered_of (number_of x.answer) before x.written;
}

-- The receiver, whose responses go down.
abbrev pub Roof : Type 0
Roof = Called Receiver

abbrev pub roof_of : Outcome → Way → Roof
roof_of x falling = called_of receiver_number_of x falling

-- The indoor end, whose requests go up, with the buffer that was lent for it too.
abbrev pub Indoors : Type 0
Indoors = Called Indoor

abbrev pub indoors_of : IndoorOutcome → Way → Indoors
indoors_of x rising = called_of indoor_number_of x rising

abbrev pub indoors_left : Way → Left IndoorOutcome → Left Indoors
indoors_left rising x = left (indoors_of x.answer rising) x.memory

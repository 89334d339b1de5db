-- What became of a message that has not arrived.
use Rattle.std.specs.Prelude.{Option, Some, None, Result, Err, eqb}
use Rattle.basis.specs.Pick.{pick}
use Rattle.luck.specs.Way.{no_message}
use Rattle.luck.specs.declared.way.Way.{Way}
use Rattle.luck.specs.declared.luck.Going.{Going}
use Rattle.luck.specs.declared.called.Answered.{Answered}
use Rattle.luck.specs.declared.went.Lost.{Lost}
use Rattle.luck.specs.declared.went.Missed.{Missed}

abbrev pub Went : Type 0
Went = Option (Result Answered Lost)

abbrev pub lost : Went
lost = Some (Err (record {}))

abbrev pub missed : Way → Way → Went → Missed
missed up down went = record { up = up; down = down; went = went }

-- Nothing was on its way, or the message is lost.
unfoldable pub missed_of : Going → Way → Way → Missed
missed_of g rising falling =
    pick (eqb g.way.bytes 0) (missed rising falling None)
    (pick g.rises (missed no_message falling lost) (missed rising no_message lost))

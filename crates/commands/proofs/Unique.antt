-- Each public contract leaves one answer and one state of the lent memory. Written from the contracts by tools/contracts.
use Rattle.std.specs.Prelude.{List, ℕ, Result, ◌≡◌}
use Rattle.basis.specs.Only.{only}
use Rattle.commands.specs.Control.{control_of}
use Rattle.commands.specs.Table.{entry_of}
use Rattle.commands.specs.declared.control.Control.{Control}
use Rattle.commands.specs.declared.control.WrongLength.{WrongLength}
use Rattle.commands.specs.declared.table.Entry.{Entry}

pub one_take_apart : (control : List ℕ) (r r' : Result Control WrongLength)
    → r ≡ control_of control
    → r' ≡ control_of control
    → r ≡ r'
one_take_apart control r r' is is' = only is is'

pub one_look : (code : ℕ) (r r' : Entry)
    → r ≡ entry_of code
    → r' ≡ entry_of code
    → r ≡ r'
one_look code r r' is is' = only is is'

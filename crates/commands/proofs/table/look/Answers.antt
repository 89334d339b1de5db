-- The table is the rule at each of its codes, by computation.
use Rattle.basis.specs.Pick.{pick}
use Rattle.commands.specs.Table.{entry_of}
use Rattle.commands.proofs.Rows.{looked}
use Rattle.commands.proofs.table.look.Goals as goal

pub returns : goal.returns
unfolding entry_of pick
returns c = cc (looked c.from.result c.get.result c.get.ensures.lookup)

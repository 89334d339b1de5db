use Rattle.std.proofs.Common.{rules}
use Rattle.basis.specs.Lists.{spell}
use Rattle.printing.proofs.Texts.{line_of_one, line_of_two, line_of_three}
use Rattle.printing.proofs.text.line_of.Goals as goal

pub returns-in-0-to-9 : goal.returns-in-0-to-9
unfolding spell
returns-in-0-to-9 c = line_of_one c.args.cci c.args.number _ c.digits.ensures (search rules)

pub returns-in-10-to-99 : goal.returns-in-10-to-99
unfolding spell
returns-in-10-to-99 c = line_of_two c.args.cci c.args.number _ c.digits.ensures (search rules) (search rules)

pub returns-in_default : goal.returns-in_default
unfolding spell
returns-in_default c = line_of_three c.args.cci c.args.number _ c.digits.ensures (search rules)

use Rattle.std.proofs.Common.{arith}
use Rattle.mailbox_c.proofs.Codes.{runs_alone, runs_pair, runs_none}
use Rattle.mailbox_c.proofs.test.runs.Goals as goal

pub returns-in_default : goal.returns-in_default
returns-in_default c = runs_none _ (λ e. grind arith) (λ e. grind arith) (λ e. grind arith) (λ e. grind arith)

pub returns-in_default-2 : goal.returns-in_default-2
returns-in_default-2 c = runs_none _ (λ e. grind arith) (λ e. grind arith) (λ e. grind arith) (λ e. grind arith)

pub returns-in-3 : goal.returns-in-3
returns-in-3 c = runs_alone _ c.in-3.is

pub returns-in-3-2 : goal.returns-in-3-2
returns-in-3-2 c = runs_pair _ (omega arith) (omega arith)

use Rattle.std.proofs.Common.{◌∙◌, sym, arith}
use Rattle.receiver_rules.proofs.Within.{within}
use Rattle.receiver_decide.proofs.request.transfer.Goals as goal

pub take-requires-clause-number_le_last_number : goal.take-requires-clause-number_le_last_number
take-requires-clause-number_le_last_number c =
    let w = within c.args.number c.args.size c.args.capacity (sym c.passes_capacity.ensures ∙ c.if-passes_capacity.false) in
    omega arith

pub take-requires-clause-size_bound : goal.take-requires-clause-size_bound
take-requires-clause-size_bound c =
    let w = within c.args.number c.args.size c.args.capacity (sym c.passes_capacity.ensures ∙ c.if-passes_capacity.false) in
    omega arith

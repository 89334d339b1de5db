use Rattle.std.proofs.Common.{◌+◌, ◌*◌, sym, arith, rules, le-ltb, lt-ltb}
use Rattle.image.specs.Blocks.{block_passes_of}
use Rattle.image.proofs.blocks.passes.Statement.{statement}
use Rattle.image.proofs.blocks.passes.Tie as tie

pub passes_spec : {M : Type 1} → statement M
unfolding block_passes_of
passes_spec =
    tie.close
    (tie.spec
    (λ c κs. search rules)
    (λ c. let a = c.before.before.args in sym (lt-ltb a.capacity (256 * a.number + a.size) (omega arith)))
    (λ c. let a = c.before.before.before.args in sym (lt-ltb a.capacity (256 * a.number + a.size) (omega arith)))
    (λ c. let a = c.before.before.before.args in sym (le-ltb a.capacity (256 * a.number + a.size) (omega arith))))

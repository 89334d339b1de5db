use Rattle.image.proofs.Adding.{sum_none, sum_more}
use Rattle.std.proofs.Common.{◌∙◌, ap, ◌+◌, ◌%◌}
use Rattle.image.proofs.sum.sum_all.Goals as goal

pub loop-byte-init : goal.loop-byte-init
loop-byte-init c = sum_none c.args.bytes.now

pub loop-byte-preserved : goal.loop-byte-preserved
loop-byte-preserved c =
    ap (λ b. (c.loop-byte.sum + b) % 65536) c.from-sum.ensures
    ∙ sum_more c.args.bytes.now c.loop-byte.byte-index c.loop-byte.sum c.loop-byte-test.true c.loop-byte.invariant

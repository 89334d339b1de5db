use Rattle.std.proofs.Common.{arith, length-append}
use Rattle.basis.specs.Left.{answers, leaves}
use Rattle.indoor_rules.specs.Send.{block_bytes}
use Rattle.indoor_rules.proofs.Block.{block_written}
use Rattle.indoor.proofs.send.block.Goals as goal

pub returns : goal.returns
unfolding block_bytes
returns c =
    let a = c.args in
    let head = c.message-head.ensures in
    let room = c.told-out in
    rw (leaves c.put.ensures, leaves head, answers head, c.block_at-part.ensures, block_written a.file.now a.number a.out.now (omega arith), length-append)

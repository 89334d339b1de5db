use Rattle.std.proofs.Common.{arith, rules, add-one}
use Rattle.std.proofs.Math.Seq.{paste-suc}
use Rattle.lent.proofs.placing.paste.Goals as goal

pub loop-j-preserved : goal.loop-j-preserved
loop-j-preserved c =
    let a = c.args in
    (search rules, grind (arith, paste-suc a.dst.now a.at a.src.now c.loop-j.j 0 (omega arith) (omega arith), add-one c.loop-j.j))

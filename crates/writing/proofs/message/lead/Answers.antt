use Rattle.std.proofs.Common.{◌≡◌, ◌∙◌, arith, length, take}
use Rattle.std.proofs.Math.Seq.{length-take-le}
use Rattle.basis.specs.Pick.{tests}
use Rattle.basis.specs.Left.{leaves}
use Rattle.lent.proofs.Laws.{put_leads}
use Rattle.writing.specs.Message.{sent_of}
use Rattle.writing.proofs.message.lead.Goals as goal

pub returns : goal.returns
unfolding sent_of
returns c =
    let a = c.args in
    let whole : length (take a.len a.bytes) ≡ a.len = length-take-le a.len a.bytes (omega arith) in
    rw (leaves (c.put.ensures ∙ put_leads (take a.len a.bytes) a.out.now (omega arith))) (search tests)

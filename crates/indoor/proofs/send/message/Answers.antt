use Rattle.std.proofs.Common.{arith}
use Rattle.basis.specs.Left.{leaves}
use Rattle.wire.specs.Written.{request_bytes}
use Rattle.wire.proofs.Fits.{request_fits}
use Rattle.writing.specs.Message.{message_of}
use Rattle.writing.proofs.Laws.{sends_whole}
use Rattle.indoor.proofs.send.message.Goals as goal

pub returns : goal.returns
unfolding message_of
returns c =
    let a = c.args in
    let fits = request_fits a.request in
    let room = c.told-out in
    rw (leaves c.send.ensures, c.write_request-message.ensures, sends_whole (request_bytes a.request) a.out.now fits (omega arith))

use Rattle.std.proofs.Common.{arith}
use Rattle.basis.specs.Left.{leaves}
use Rattle.wire.proofs.Fits.{response_fits}
use Rattle.wire.specs.Written.{response_bytes}
use Rattle.writing.proofs.Laws.{sends_whole}
use Rattle.writing.specs.Message.{message_of}
use Rattle.receiver.proofs.respond.write.Goals as goal

pub returns : goal.returns
unfolding message_of
returns c =
    let a = c.args in
    let fits = response_fits a.response in
    rw (leaves c.send.ensures, c.write_response-message.ensures, sends_whole (response_bytes a.response) a.room.now fits (let long = c.fits-room in omega arith))

use Rattle.std.proofs.Common.{◌∙◌, sym}
use Rattle.wire.proofs.Walk.{header_says}
use Rattle.reading.proofs.response.read_response.Goals as goal

pub bounds-msg-1 : goal.bounds-msg-1
bounds-msg-1 c = (header_says c.args.msg.now (sym c.has_header.ensures ∙ c.if-not-has_header.false)).long

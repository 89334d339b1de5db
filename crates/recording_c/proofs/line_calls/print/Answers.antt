use Rattle.recording_c.proofs.Printed.{text_printed}
use Rattle.recording_c.proofs.line_calls.print.Goals as goal

pub returns : goal.returns
returns c = text_printed c.args.text.now c.args.out.now _ _ c.requires c.if-out-lt-LONGEST.false c.put.ensures

use Rattle.std.proofs.Common.{ap, ◌∙◌}
use Rattle.basis.specs.Left.{answers, leaves}
use Rattle.indoor_c.specs.Calls.{indoor_started}
use Rattle.indoor_c.proofs.Wide.{start_same}
use Rattle.indoor_c.proofs.start_call.harsolvek_indoor_start_raw.Goals as goal

pub returns : goal.returns
returns c =
    rw (answers c.began.ensures, leaves c.began.ensures, c.from.ensures, c.number.ensures, ← c.release_of-release.ensures)
    (ap indoor_started (c.start-started.ensures ∙ start_same _ _ _ _ _ _ _ c.to_half-limit.ensures c.to_byte-resends.ensures))

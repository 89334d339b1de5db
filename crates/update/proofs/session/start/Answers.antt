use Rattle.line.proofs.Widths.{values_wide}
use Rattle.lossy_session.proofs.Starts.{start_over}
use Rattle.update.proofs.session.start.Goals as goal

-- The ends that a start makes are those of a session over the line.
pub run-requires : goal.run-requires
run-requires c =
    let a = c.args in
    let given = c.well_formed.1.0.1.1 in
    let wide = values_wide a.given.release a.given.identity _ _ given.1.1.0 given.1.0 in
    start_over _ _ a.given.identity a.given.release a.file.now a.image.now _ _ wide _ _ (rw c.in-Ok.is at c.start-started.ensures)

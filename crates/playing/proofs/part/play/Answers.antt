use Rattle.std.proofs.Common.{arith, refl, sym, ap, ◌∙◌, length}
use Rattle.mailbox_rules.specs.Mailbox.{mailbox}
use Rattle.recording.proofs.Cases.{found_past}
use Rattle.playing.proofs.Mid.{mid_done, mid_full, mid_turn, line_is}
use Rattle.playing.proofs.Steps.{turn_is}
use Rattle.playing.proofs.part.play.Goals as goal

pub returns-in-Err : goal.returns-in-Err
returns-in-Err c =
    let g = c.args in
    let l = c.loop-found in
    mid_done g.mailbox g.part.now g.out.now (mailbox l.state l.message) l.taken l.written l.out l.invariant _ (sym c.in-Err.ensures)

pub returns-then-out-written : goal.returns-then-out-written
returns-then-out-written c =
    let g = c.args in
    let l = c.loop-found in
    let s = c.step_of-step in
    let turn = turn_is (mailbox l.state l.message) _ s.result s.ensures _ _ c.line_after-line.ensures refl in
    let size = ap length (c.text-text.ensures ∙ line_is _ _ _ turn) in
    mid_full g.mailbox g.part.now g.out.now (mailbox l.state l.message) l.taken l.written l.out l.invariant _ _ (sym c.in-Ok.ensures) (omega (arith, size, c.if-out-written.true))

pub loop-found-smaller : goal.loop-found-smaller
loop-found-smaller c =
    let past = found_past c.args.part.now c.loop-found.taken _ _ (sym c.in-Ok.ensures) in
    omega (arith, past)

pub loop-found-preserved : goal.loop-found-preserved
loop-found-preserved c =
    let g = c.args in
    let l = c.loop-found in
    let s = c.step_of-step in
    let turn = turn_is (mailbox l.state l.message) _ s.result s.ensures _ _ c.line_after-line.ensures c.settle_zeros.ensures in
    mid_turn g.mailbox g.part.now g.out.now (mailbox l.state l.message) l.taken l.written l.out l.invariant _ _ _ _ _ _ (sym c.in-Ok.ensures) turn c.text-text.ensures c.if-out-written.false c.put.ensures

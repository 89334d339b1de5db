use Rattle.std.proofs.Common.{rules, arith, sym, ◌∙◌}
use Rattle.std.proofs.Math.Seq.{length-take-le}
use Rattle.replay.proofs.Carry.{roomy, sized, within, lines_due, held_few, goes_on, goes_no_further}
use Rattle.replay.proofs.progress.Progress.played.Goals as goal

pub slice_bounds-lines-end : goal.slice_bounds-lines-end
slice_bounds-lines-end c =
    let g = c.args in
    let p = c.play-played in
    let w = within g.self g.buffer.now g.out.now g.fresh c.requires.fresh_nonzero c.requires.fresh_in_bounds (roomy c.if-prove.false g.buffer.now g.out.now (search rules) (search rules)) p.result _ p.ensures in
    omega (arith, w)

pub slice_bounds-lines-end-2 : goal.slice_bounds-lines-end-2
slice_bounds-lines-end-2 c =
    let g = c.args in
    let p = c.play-played in
    let w = within g.self g.buffer.now g.out.now g.fresh c.requires.fresh_nonzero c.requires.fresh_in_bounds (roomy c.if-prove.false g.buffer.now g.out.now (search rules) (search rules)) p.result _ p.ensures in
    sym (length-take-le _ _ (omega (arith, w)))

pub lines-requires : goal.lines-requires
lines-requires c =
    let g = c.args in
    let p = c.play-played in
    lines_due g.self g.buffer.now g.out.now g.fresh c.requires.fresh_nonzero c.requires.fresh_in_bounds (roomy c.if-prove.false g.buffer.now g.out.now (search rules) (search rules)) p.result _ p.ensures

pub copy_within-requires-clause-start_le_end : goal.copy_within-requires-clause-start_le_end
copy_within-requires-clause-start_le_end c =
    let g = c.args in
    let p = c.play-played in
    let w = within g.self g.buffer.now g.out.now g.fresh c.requires.fresh_nonzero c.requires.fresh_in_bounds (roomy c.if-prove.false g.buffer.now g.out.now (search rules) (search rules)) p.result _ p.ensures in
    omega (arith, w)

pub overflow_sub-next : goal.overflow_sub-next
overflow_sub-next c =
    let g = c.args in
    let p = c.play-played in
    let w = within g.self g.buffer.now g.out.now g.fresh c.requires.fresh_nonzero c.requires.fresh_in_bounds (roomy c.if-prove.false g.buffer.now g.out.now (search rules) (search rules)) p.result _ p.ensures in
    omega (arith, w)

pub returns-then-is_unknown-clause-goes : goal.returns-then-is_unknown-clause-goes
returns-then-is_unknown-clause-goes c =
    let g = c.args in
    let p = c.play-played in
    let u = sym c.is_unknown.ensures ∙ c.if-is_unknown.true in
    (goes_no_further g.self g.buffer.now g.out.now g.fresh c.requires.fresh_nonzero c.requires.fresh_in_bounds (roomy c.if-prove.false g.buffer.now g.out.now (search rules) (search rules)) p.result _ p.ensures _ c.copy_within.ensures.after c.closed.result u c.closed.ensures).1

pub returns-clause-held_le_held_most : goal.returns-clause-held_le_held_most
returns-clause-held_le_held_most c =
    let g = c.args in
    let p = c.play-played in
    let u = sym c.is_unknown.ensures ∙ c.if-is_unknown.false in
    λ _. held_few g.self g.buffer.now g.out.now g.fresh c.requires.fresh_nonzero c.requires.fresh_in_bounds (roomy c.if-prove.false g.buffer.now g.out.now (search rules) (search rules)) p.result _ p.ensures u

pub returns-clause-goes : goal.returns-clause-goes
returns-clause-goes c =
    let g = c.args in
    let p = c.play-played in
    let u = sym c.is_unknown.ensures ∙ c.if-is_unknown.false in
    goes_on g.self g.buffer.now g.out.now g.fresh c.requires.fresh_nonzero c.requires.fresh_in_bounds (roomy c.if-prove.false g.buffer.now g.out.now (search rules) (search rules)) p.result _ p.ensures _ c.copy_within.ensures.after u

pub shared_ref_as_front-lines : goal.shared_ref_as_front-lines
shared_ref_as_front-lines c =
    let g = c.args in
    let p = c.play-played in
    let w = within g.self g.buffer.now g.out.now g.fresh c.requires.fresh_nonzero c.requires.fresh_in_bounds (roomy c.if-prove.false g.buffer.now g.out.now (search rules) (search rules)) p.result _ p.ensures in
    let o = sized c.if-prove.false g.out.now (search rules) in
    omega (arith, w, o)

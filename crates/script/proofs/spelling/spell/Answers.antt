use Rattle.std.proofs.Common.{sym, ◌∙◌, arith, refl}
use Rattle.script.specs.Spelling.{spelled_zeros}
use Rattle.script.proofs.Mid.{mid_begins, mid_room, mid_done, mid_other, mid_more}
use Rattle.script.proofs.WordLaws.{rest_less}
use Rattle.script.proofs.spelling.spell.Goals as goal

pub loop-words-init : goal.loop-words-init
unfolding spelled_zeros
loop-words-init c = mid_begins _ _ refl

pub returns-in_err-run : goal.returns-in_err-run
returns-in_err-run c =
    let l = c.loop-words in
    c.from_residual.ensures ∙ mid_other _ l.words.now l.bytes l.len l.invariant _ (omega arith) c.first.ensures (sym c.run_of.ensures ∙ c.in_err-run.was)

pub fill-requires-clause-out_len : goal.fill-requires-clause-out_len
fill-requires-clause-out_len c =
    let l = c.loop-words in
    mid_room _ l.words.now l.bytes l.len l.invariant

pub loop-words-smaller : goal.loop-words-smaller
loop-words-smaller c = rest_less c.loop-words.words.now _ c.rest-words.ensures (omega arith)

pub loop-words-preserved : goal.loop-words-preserved
loop-words-preserved c =
    let l = c.loop-words in
    mid_more _ l.words.now l.bytes l.len l.invariant _ (omega arith) c.first.ensures _ _ _ _ (sym c.run_of.ensures ∙ c.in_ok-run.was) c.rest-words.ensures c.min-n.ensures c.fill.ensures

pub returns : goal.returns
returns c =
    let l = c.loop-words in
    mid_done _ l.words.now l.bytes l.len l.invariant (omega arith)

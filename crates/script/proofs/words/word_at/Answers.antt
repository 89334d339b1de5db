use Rattle.std.proofs.Common.{◌∙◌, ap}
use Rattle.script.specs.Words.{first_word_of, script_word_at}
use Rattle.script.proofs.WordLaws.{word_within}
use Rattle.script.proofs.words.word_at.Goals as goal

pub returns-clause-result_value : goal.returns-clause-result_value
unfolding script_word_at
returns-clause-result_value c = c.first.ensures ∙ ap first_word_of c.from.ensures

pub returns-clause-result_in_bounds : goal.returns-clause-result_in_bounds
unfolding script_word_at
returns-clause-result_in_bounds c =
    let a = c.args in
    rw (c.first.ensures ∙ ap first_word_of c.from.ensures) (word_within a.words.now a.at c.requires)

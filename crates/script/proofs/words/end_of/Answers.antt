use Rattle.std.proofs.Common.{◌≡◌, ◌∙◌, rules, tests}
use Rattle.std.proofs.lemmas.Iterator.{IsFirst-from_position, YieldsList-from_slice}
use Rattle.script.specs.Words.{space}
use Rattle.script.proofs.WordLaws.{space_first, end_is}
use Rattle.script.proofs.words.end_of.Goals as goal

pub returns-clause-value : goal.returns-clause-value
returns-clause-value c =
    let s = c.args.s.now in
    let first = IsFirst-from_position _ _ _ (λ x. x ≡ space) (λ x. x ≡ space → ⊥) c.position.ensures.ran (YieldsList-from_slice s cc) (λ x q k. search (rules, tests)) (λ x q k. search (rules, tests)) in
    end_is s _ (c.unwrap_or.ensures ∙ space_first s _ first) (search rules)

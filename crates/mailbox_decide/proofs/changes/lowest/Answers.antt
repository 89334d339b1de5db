use Rattle.std.proofs.Common.{rules, tests, ◌≡◌, Bool, sym, ◌∙◌}
use Rattle.std.specs.List.{position_from}
use Rattle.std.proofs.lemmas.Iterator.Adapters.{position_from-zero}
use Rattle.std.proofs.lemmas.Iterator.Search.{position_from_yields_List}
use Rattle.std.proofs.lemmas.Iterator.{YieldsList-from_slice}
use Rattle.mailbox_decide.proofs.Lowest.{shown}
use Rattle.mailbox_decide.proofs.changes.lowest.Goals as goal

pub returns-in-Some : goal.returns-in-Some
returns-in-Some c =
    let first : c.position.result ≡ position_from (λ (b : Bool). b) 0 c.args.waiting =
    position_from_yields_List (λ (b : Bool). b) _ _ c.position.result c.position.ensures.ran (YieldsList-from_slice c.args.waiting c.iter.ensures.rest)
    (λ x b q k. search (rules, tests))
    ∙ position_from-zero (λ (b : Bool). b) c.args.waiting in
    shown c.args.waiting _ (sym c.in-Some.is ∙ first)

pub returns-in-None : goal.returns-in-None
returns-in-None c =
    let first : c.position.result ≡ position_from (λ (b : Bool). b) 0 c.args.waiting =
    position_from_yields_List (λ (b : Bool). b) _ _ c.position.result c.position.ensures.ran (YieldsList-from_slice c.args.waiting c.iter.ensures.rest)
    (λ x b q k. search (rules, tests))
    ∙ position_from-zero (λ (b : Bool). b) c.args.waiting in
    shown c.args.waiting _ (sym c.in-None.is ∙ first)

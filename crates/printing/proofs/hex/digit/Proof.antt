use Rattle.printing.specs.Digits.{digit_of}
use Rattle.basis.specs.Pick.{tests}
use borrow.Author.Rules.{rules}
use Rattle.printing.proofs.hex.digit.Statement.{statement}
use Rattle.printing.proofs.hex.digit.Tie as tie

pub digit_spec : {M : Type 1} → statement M
unfolding digit_of
digit_spec =
    tie.close
    (tie.spec
    (λ c. search rules)
    (λ c. search rules)
    (λ c. search tests)
    (λ c. search rules)
    (λ c. search tests))

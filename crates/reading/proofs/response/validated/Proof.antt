use Rattle.basis.specs.Pick.{tests}
use Rattle.wire.specs.Response.{validated_in}
use borrow.Author.Rules.{rules}
use Rattle.reading.proofs.response.validated.Statement.{statement}
use Rattle.reading.proofs.response.validated.Tie as tie

pub validated_spec : {M : Type 1} → statement M
unfolding validated_in
validated_spec =
    tie.close
    (tie.spec
    (λ c. search tests)
    (λ c. search rules)
    (λ c. search rules)
    (λ c. search rules)
    (λ c. search tests))

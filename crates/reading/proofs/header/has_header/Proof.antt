use Rattle.basis.specs.Pick.{tests}
use Rattle.wire.specs.Header.{headed}
use borrow.Author.Rules.{rules}
use Rattle.reading.proofs.header.has_header.Statement.{statement}
use Rattle.reading.proofs.header.has_header.Tie as tie

pub has_header_spec : {M : Type 1} → statement M
unfolding headed
has_header_spec =
    tie.close
    (tie.spec
    (λ c. search tests)
    (λ c. search tests)
    (λ c. search rules)
    (λ c. search tests))

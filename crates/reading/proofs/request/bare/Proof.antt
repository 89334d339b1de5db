use Rattle.basis.specs.Pick.{tests}
use Rattle.wire.specs.Request.{bare_in}
use Rattle.reading.proofs.request.bare.Statement.{statement}
use Rattle.reading.proofs.request.bare.Tie as tie

pub bare_spec : {M : Type 1} → statement M
unfolding bare_in
bare_spec =
    tie.close
    (tie.spec
    (λ c. search tests)
    (λ c. search tests))

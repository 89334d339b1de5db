use Rattle.image.proofs.Parts.{behind, short, full}
use Rattle.std.proofs.Common.{rules}
use Rattle.image.proofs.blocks.block_at.Statement.{statement}
use Rattle.image.proofs.blocks.block_at.Tie as tie

pub block_at_spec : {M : Type 1} → statement M
block_at_spec =
    tie.close
    (tie.spec
    (λ c κs. search rules)
    (λ c. search rules)
    (λ c. search rules)
    (λ c. search rules)
    (λ c. search (behind, rules))
    (λ c. search rules)
    (λ c. search rules)
    (λ c. search rules)
    (λ c. search (short, rules))
    (λ c. search rules)
    (λ c. search rules)
    (λ c. search rules)
    (λ c. search rules)
    (λ c. search (full, rules)))

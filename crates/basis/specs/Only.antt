-- Two answers that meet a contract which names the answer are the same (01, Programs that should not pass).
use Rattle.std.specs.Prelude.{◌≡◌}
use Rattle.std.proofs.Common.{◌∙◌, sym}

pub only : {A : Type 0} {a b x : A} → a ≡ x → b ≡ x → a ≡ b
only p q = p ∙ sym q

-- What a call wrote into the buffer that it was lent is one message: the first bytes, as many as the call says. Where it wrote nothing,
-- nothing was sent.
use Rattle.std.specs.Prelude.{ℕ, List, ◌∷◌, eqb, take}
use Rattle.basis.specs.Pick.{pick}

-- The messages sent, the newest first.
abbrev pub with_sent : ℕ → List ℕ → List (List ℕ) → List (List ℕ)
with_sent written out sent = pick (eqb written 0) sent (take written out ∷ sent)

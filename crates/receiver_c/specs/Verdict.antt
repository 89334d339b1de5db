-- The verdict of a code: 1 good, 2 bad, 3 later. Any other code is a later verdict with a wait of 0, which is out of range (26).
use Rattle.std.specs.Prelude.{ℕ, eqb}
use Rattle.basis.specs.Pick.{pick}
use Rattle.receiver_state.specs.declared.verdict.Verdict.{Verdict}
use Rattle.receiver_state.specs.declared.verdict.Verdict.TheVariants.{Good, Bad, Later}

unfoldable pub verdict_of : ℕ → ℕ → Verdict
verdict_of code later = pick (eqb code 1) Good (pick (eqb code 2) Bad (pick (eqb code 3) (Later later) (Later 0)))

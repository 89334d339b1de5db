-- A number, or the most that there may be where it is more.
use Rattle.std.specs.Prelude.{ℕ, ltb}
use Rattle.basis.specs.Pick.{pick}

unfoldable pub at_most : ℕ → ℕ → ℕ
at_most most number = pick (ltb most number) most number

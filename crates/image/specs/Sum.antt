-- The image sum: all bytes added modulo 65,536 (01, Sizes and numbers).
use Rattle.std.specs.Prelude.{ℕ, ◌+◌, ◌%◌, List, [], ◌∷◌}

unfoldable pub total : List ℕ → ℕ
total [] = 0
total (x ∷ l) = x + total l

unfoldable pub sum_of : List ℕ → ℕ
sum_of l = total l % 65536

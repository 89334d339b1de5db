-- Settings within the limits, in the paper's own numbers (01, Sizes and numbers).
use Rattle.std.specs.Prelude.{ℕ, ◌≤◌}

pub record Within (limit resends : ℕ) : Type 0 where
  pub low : 1 ≤ limit
  pub high : limit ≤ 10000
  pub few : resends ≤ 10

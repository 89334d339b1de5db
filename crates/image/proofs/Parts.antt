-- The three parts that `block_at` hands out, each of them the block.
use Rattle.std.proofs.Common.{◌≡◌, ℕ, ◌+◌, ◌-◌, ◌*◌, ◌<◌, ◌≤◌, List, length, take, drop, le_refl, arith, length-drop, drop_of_length-le, take_all}
use Rattle.basis.specs.Lists.{tail_all}
use Rattle.image.specs.Blocks.{block_at}

module _ (s : List ℕ) (number at : ℕ) (e : at ≡ 256 * number) where
  pub behind : length s < at → take (length s - length s) (drop (length s) s) ≡ block_at s number
  unfolding block_at
  behind h =
      let k : length s ≤ 256 * number = omega arith in
      rw (tail_all (length s) s, drop_of_length-le s (le_refl (length s)), drop_of_length-le s k)

  pub short : length s - at < 256 → take (length s - at) (drop at s) ≡ block_at s number
  unfolding block_at
  short h =
      let l = length-drop at s in
      rw (tail_all at s, take_all 256 (drop (256 * number) s) (rw (← e) (omega arith)), e)

  pub full : take (at + 256 - at) (drop at s) ≡ block_at s number
  unfolding block_at
  full =
      let k : at + 256 - at ≡ 256 = omega arith in
      rw (k, e)

-- A file's blocks, put in place one after the other, make the image begin with the file.
use Rattle.std.proofs.Common.{◌≡◌, ℕ, zero, suc, ◌+◌, ◌*◌, ◌≤◌, min, List, length, take, refl, ◌∙◌, arith}
use lib.Seq.{take-length}
use Rattle.basis.specs.Left.{leaves}
use Rattle.lent.specs.Put.{pasted}
use Rattle.lent.proofs.Laws.{put_fits, put_length}
use Rattle.image.specs.Blocks.{blocks_of, put_block_of, block_at}
use Rattle.image.proofs.Laws.{block_length, enough, front_grows}

module _ (image file : List ℕ) (fits : length file ≤ length image) where
  -- The image after the blocks 0 to k - 1.
  pub filled : ℕ → List ℕ
  filled zero = image
  filled (suc k) = (put_block_of (filled k) k (block_at file k)).memory

  pub filled_length : (k : ℕ) → length (filled k) ≡ length image
  unfolding filled
  filled_length zero = refl
  filled_length (suc k) = put_length (filled k) (256 * k) (block_at file k) ∙ filled_length k

  filled_more : (k : ℕ) → 256 * k + length (block_at file k) ≤ length (filled k) → filled (suc k) ≡ pasted (filled k) (256 * k) (block_at file k)
  unfolding filled
  filled_more k h = leaves (put_fits (filled k) (256 * k) (block_at file k) h)

  pub filled_front : (k y : ℕ) → k ≤ blocks_of (length file) → y ≡ min (256 * k) (length file) → take y (filled k) ≡ take y file
  unfolding blocks_of
  filled_front zero y h e = let z : y ≡ 0 = omega arith in rw z
  filled_front (suc k) y h e =
      let l = block_length file k in
      let n = filled_length k in
      let before = filled_front k (256 * k) (omega arith) (omega arith) in
      let end : y ≡ 256 * k + length (block_at file k) = omega arith in
      let more = filled_more k (omega arith) in
      rw (end, more) (front_grows (filled k) file k (omega arith) before)

  pub filled_whole : take (length file) (filled (blocks_of (length file))) ≡ file
  filled_whole =
      let e = enough (length file) in
      filled_front (blocks_of (length file)) (length file) (omega arith) (omega arith) ∙ take-length file

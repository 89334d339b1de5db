-- The paper's sentences on blocks and on the sum, as laws of the definitions (01, Sizes and numbers).
use Rattle.std.proofs.Common.{◌≡◌, ℕ, zero, suc, ◌+◌, ◌-◌, ◌*◌, ◌%◌, ◌<◌, ◌≤◌, min, true, false, List, [], ◌∷◌, ◌++◌, length, take, drop, refl, ◌∙◌, arith, length-drop, drop_of_length-le, length-take, take_all, take-add, ltb-false, ltb-true}
use Rattle.basis.specs.Left.{left}
use Rattle.basis.specs.Lists.{take_own}
use Rattle.lent.specs.Put.{pasted}
use Rattle.lent.proofs.Laws.{put_fits, put_passes, pasted_there}
use Rattle.image.specs.Blocks.{blocks_of, block_passes_of, put_block_of, block_at}
use Rattle.image.specs.Sum.{total, sum_of}
use Rattle.lent.specs.Put.{no_room, stored}

-- n is the least whole number with 256·n ≥ L.
pub enough : (len : ℕ) → len ≤ 256 * blocks_of len
unfolding blocks_of
enough len = omega arith

pub least : (len n : ℕ) → len ≤ 256 * n → blocks_of len ≤ n
unfolding blocks_of
least len n h = omega arith

module _ (file : List ℕ) where
  pub block_length : (i : ℕ) → length (block_at file i) ≡ min 256 (length file - 256 * i)
  unfolding block_at
  block_length i = simp (length-take, length-drop)

  -- All are 256 bytes but the last.
  pub block_whole : (i : ℕ) → i + 1 < blocks_of (length file) → length (block_at file i) ≡ 256
  unfolding blocks_of
  block_whole i h = let l = block_length i in omega arith

  -- The last holds at least one byte and ends where the file ends.
  pub block_last : (i : ℕ) → i + 1 ≡ blocks_of (length file) → (0 < length (block_at file i)) × (256 * i + length (block_at file i) ≡ length file)
  unfolding blocks_of
  block_last i h = let l = block_length i in (omega arith, omega arith)

  -- The block numbered n is the empty one, and so is each above it.
  pub block_behind : (i : ℕ) → blocks_of (length file) ≤ i → block_at file i ≡ []
  unfolding block_at
  block_behind i h =
      let e = enough (length file) in
      rw (drop_of_length-le file {i = 256 * i} (omega arith))

  -- The first n blocks, one after the other.
  pub joined : ℕ → List ℕ
  joined zero = []
  joined (suc n) = joined n ++ block_at file n

  pub joined_front : (n : ℕ) → joined n ≡ take (256 * n) file
  unfolding joined block_at
  joined_front zero = refl
  joined_front (suc n) =
      let k : 256 * suc n ≡ 256 * n + 256 = omega arith in
      rw (k, take-add (256 * n) 256 file, joined_front n)

  -- The n blocks, one after the other, are the file.
  pub blocks_are_file : joined (blocks_of (length file)) ≡ file
  blocks_are_file = joined_front (blocks_of (length file)) ∙ take_all _ file (enough (length file))

-- A block that does not pass the capacity is stored: after it, the image begins with what was before its place and then the block.
module _ (image : List ℕ) (number : ℕ) (block : List ℕ) where
  pub block_stored : block_passes_of number (length block) (length image) ≡ false → put_block_of image number block ≡ left stored (pasted image (256 * number) block)
  unfolding block_passes_of
  block_stored h = put_fits image (256 * number) block (ltb-false (length image) (256 * number + length block) h)

  pub block_refused : block_passes_of number (length block) (length image) ≡ true → put_block_of image number block ≡ left no_room image
  unfolding block_passes_of
  block_refused h = put_passes image (256 * number) block (ltb-true (length image) (256 * number + length block) h)

-- Where the image begins as the file does up to block i's place, block i put there carries that on to the block's end.
pub front_grows : (image file : List ℕ) (i : ℕ) → 256 * i + length (block_at file i) ≤ length image → take (256 * i) image ≡ take (256 * i) file
    → take (256 * i + length (block_at file i)) (pasted image (256 * i) (block_at file i)) ≡ take (256 * i + length (block_at file i)) file
unfolding block_at
front_grows image file i h e =
    let b : List ℕ = block_at file i in
    let there = pasted_there image (256 * i) b (omega arith) in
    there ∙ rw (e, take-add (256 * i) (length b) file, take_own 256 (drop (256 * i) file))

-- Block 4,095 at full capacity (01, Bench examples).
pub last_block_256 : block_passes_of 4095 256 1048575 ≡ true
unfolding block_passes_of
last_block_256 = refl

pub last_block_255 : block_passes_of 4095 255 1048575 ≡ false
unfolding block_passes_of
last_block_255 = refl

total_append : (a b : List ℕ) → total (a ++ b) ≡ total a + total b
unfolding total
total_append [] b = omega arith
total_append (x ∷ a) b = let r = total_append a b in omega arith

-- What was summed up to a place, and the sum of what follows, are the sum of both.
pub sum_append : (a b : List ℕ) → sum_of (a ++ b) ≡ (sum_of a + sum_of b) % 65536
unfolding sum_of
sum_append a b = let r = total_append a b in omega arith

-- The sum is a number of sixteen bits.
pub sum_fits : (l : List ℕ) → sum_of l < 65536
unfolding sum_of
sum_fits l = omega arith

-- Blocks of 256 bytes (01, Sizes and numbers; 001 T5-8).
use Rattle.std.specs.Prelude.{ℕ, ◌+◌, ◌*◌, ◌/◌, Bool, List, take, drop, nat_lt}
use Rattle.basis.specs.Left.{Left}
use Rattle.lent.specs.Put.{put_of}
use Rattle.lent.specs.Put.{Placed}

abbrev pub block_size : ℕ
block_size = 256

-- n, the least whole number with 256·n ≥ L: proofs/Laws.antt has both halves, `enough` and `least`.
unfoldable pub blocks_of : ℕ → ℕ
blocks_of len = (len + 255) / block_size

abbrev pub place_of : ℕ → ℕ
place_of number = block_size * number

-- A block passes a capacity if it ends beyond it.
unfoldable pub block_passes_of : ℕ → ℕ → ℕ → Bool
block_passes_of number size capacity = nat_lt capacity (place_of number + size)

-- The image before the block's place, the block, the image behind it; or all as it was where the block passes its end.
abbrev pub put_block_of : List ℕ → ℕ → List ℕ → Left Placed
put_block_of image number block = put_of image (place_of number) block

-- Block i of a file: 256 bytes, fewer at the end, none behind it.
unfoldable pub block_at : List ℕ → ℕ → List ℕ
block_at file number = take block_size (drop (place_of number) file)

-- Each public contract leaves one answer and one state of the lent memory. Written from the contracts by tools/contracts.
use Rattle.std.specs.Prelude.{ℕ, ◌≡◌, Bool, List, Result, ⊤, take}
use Rattle.basis.specs.Left.{left}
use Rattle.basis.specs.Only.{only}
use Rattle.image.specs.Blocks.{blocks_of, place_of, block_passes_of, put_block_of, block_at}
use Rattle.image.specs.Sum.{sum_of}
use Rattle.lent.specs.declared.placing.NoRoom.{NoRoom}

pub one_blocks_in : (len r r' : ℕ)
    → r ≡ blocks_of len
    → r' ≡ blocks_of len
    → r ≡ r'
one_blocks_in len r r' is is' = only is is'

pub one_place_of : (number r r' : ℕ)
    → r ≡ place_of number
    → r' ≡ place_of number
    → r ≡ r'
one_place_of number r r' is is' = only is is'

pub one_passes : (number size capacity : ℕ) (r r' : Bool)
    → r ≡ block_passes_of number size capacity
    → r' ≡ block_passes_of number size capacity
    → r ≡ r'
one_passes number size capacity r r' is is' = only is is'

pub one_put_block : (image : List ℕ) (number : ℕ) (block : List ℕ) (r r' : Result ⊤ NoRoom) (image_left image_left' : List ℕ)
    → left r image_left ≡ put_block_of image number block
    → left r' image_left' ≡ put_block_of image number block
    → left r image_left ≡ left r' image_left'
one_put_block image number block r r' image_left image_left' is is' = only is is'

pub one_block_at : (file : List ℕ) (number : ℕ) (r r' : List ℕ)
    → r ≡ block_at file number
    → r' ≡ block_at file number
    → r ≡ r'
one_block_at file number r r' is is' = only is is'

pub one_sum_first : (image : List ℕ) (accepted r r' : ℕ)
    → r ≡ sum_of (take accepted image)
    → r' ≡ sum_of (take accepted image)
    → r ≡ r'
one_sum_first image accepted r r' is is' = only is is'

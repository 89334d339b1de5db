-- The bytes of each request that goes out, in the standard's own numbers (001 T5-3 to T5-12).
use Prim.Native.Nat.{ℕ, ◌/◌, ◌%◌}
use Rattle.std.specs.Prelude.{Some, None}
use mathlib.Core.Path.{◌≡◌, refl}
use mathlib.Core.List.{List, [], ◌∷◌, map}
use Rattle.image.specs.Blocks.{block_at}
use Rattle.wire.specs.Numbers.{low, high}
use Rattle.wire.specs.Written.{request_bytes, bare_bytes, initiate_bytes, head_bytes}
use Rattle.wire.specs.declared.request.Versions.{Versions}
use Rattle.indoor_state.specs.declared.answer.Sends.TheVariants.{GetFwId, Initiate, Block, Validate, Abort}
use Rattle.indoor_rules.specs.Send.{block_bytes, sends_bytes}

module _ (v : Versions) (file : List ℕ) where
  pub sends_rows :
      map (sends_bytes v file) (None ∷ Some GetFwId ∷ Some Initiate ∷ Some Validate ∷ Some Abort ∷ [])
      ≡ []
      ∷ (0x01 ∷ 0x81 ∷ [])
      ∷ (0x01 ∷ 0x82 ∷ low v.first ∷ high v.first ∷ low v.second ∷ high v.second ∷ low v.third ∷ high v.third ∷ low v.fourth ∷ high v.fourth ∷ [])
      ∷ (0x01 ∷ 0x85 ∷ [])
      ∷ (0x01 ∷ 0x86 ∷ [])
      ∷ []
  unfolding sends_bytes request_bytes bare_bytes initiate_bytes
  sends_rows = refl

  -- DATA: its number, low byte first, and then the block.
  pub block_row : (number : ℕ) → sends_bytes v file (Some (Block number)) ≡ 0x01 ∷ 0x83 ∷ number % 256 ∷ number / 256 % 256 ∷ block_at file number
  unfolding sends_bytes block_bytes request_bytes head_bytes
  block_row number = refl

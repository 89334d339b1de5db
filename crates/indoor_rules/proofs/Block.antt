-- A DATA request in a buffer that has room for any message: its head of four bytes, and then the block behind it.
use Prim.Native.Nat.{ℕ, ◌≤◌}
use mathlib.Core.Path.{◌≡◌, refl}
use mathlib.Core.List.{List}
use native.Mathlib.Omega.{arith}
use lib.ListN.{length}
use Rattle.basis.specs.Left.{left}
use Rattle.lent.specs.Written.{written_into}
use Rattle.lent.specs.Put.{put_of}
use Rattle.lent.proofs.Laws.{two_written}
use Rattle.image.specs.Blocks.{block_at}
use Rattle.image.proofs.Laws.{block_length}
use Rattle.wire.specs.Codes.{longest}
use Rattle.wire.specs.Written.{request_bytes, head_bytes}
use Rattle.wire.specs.declared.request.Request.TheVariants as Req
use Rattle.indoor_rules.specs.Send.{block_bytes}
use Rattle.lent.specs.Put.{stored}

module _ (file : List ℕ) (number : ℕ) where
  pub block_most : length (block_at file number) ≤ 256
  block_most =
      let h = block_length file number in
      omega arith

  pub head_four : (size : ℕ) → length (request_bytes (Req.Data number size)) ≡ 4
  unfolding request_bytes head_bytes
  head_four size = refl

  pub block_written : (out : List ℕ) → longest ≤ length out
      → put_of (written_into (request_bytes (Req.Data number (length (block_at file number)))) out) (length (request_bytes (Req.Data number (length (block_at file number))))) (block_at file number)
      ≡ left stored (written_into (block_bytes file number) out)
  unfolding block_bytes
  block_written out room =
      let four = head_four (length (block_at file number)) in
      let most = block_most in
      two_written (request_bytes (Req.Data number (length (block_at file number)))) (block_at file number) out (omega arith)

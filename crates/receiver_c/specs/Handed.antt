-- The words that the library leaves: by a start that was taken, and by any call on such words, whatever is lent to it.
use Rattle.std.specs.Prelude.{ℕ, ◌≡◌, List}
use Rattle.basis.specs.Bytes.{Bytes}
use Rattle.receiver_c.specs.Calls.{harsolvek_receiver_start, harsolvek_receiver_request, harsolvek_receiver_time}

-- `bytes` are bytes, as those behind every slice of `u8` are.
pub data HandedReceiver : List ℕ → Type 0 where
  starts : (settings numbers bytes : List ℕ) (capacity : ℕ) → Bytes bytes → (harsolvek_receiver_start settings numbers bytes capacity).answer ≡ 0
      → HandedReceiver (harsolvek_receiver_start settings numbers bytes capacity).memory
  asks : {w : List ℕ} → HandedReceiver w → (image request given out : List ℕ) → HandedReceiver (harsolvek_receiver_request w image request given out).words
  passes : {w : List ℕ} → HandedReceiver w → (elapsed : ℕ) (out : List ℕ) → HandedReceiver (harsolvek_receiver_time w elapsed out).words

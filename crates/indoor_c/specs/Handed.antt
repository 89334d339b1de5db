-- The words that the library hands out: by a start that was taken, and by any call on such words, whatever bytes are lent to it.
use Rattle.std.specs.Prelude.{ℕ, ◌≡◌, List}
use Rattle.basis.specs.Bytes.{Bytes}
use Rattle.indoor_c.specs.Calls.{harsolvek_indoor_start, harsolvek_indoor_response, harsolvek_indoor_time}

pub data HandedIndoor : List ℕ → Type 0 where
  starts : (settings release file out : List ℕ) → (harsolvek_indoor_start settings release file out).number ≡ 0
      → HandedIndoor (harsolvek_indoor_start settings release file out).words
  hears : {w : List ℕ} → HandedIndoor w → (file response out : List ℕ) → Bytes response → HandedIndoor (harsolvek_indoor_response w file response out).words
  passes : {w : List ℕ} → HandedIndoor w → (file : List ℕ) (elapsed : ℕ) (out : List ℕ) → HandedIndoor (harsolvek_indoor_time w file elapsed out).words

-- A byte of a list, and a list of bytes, as every slice of `u8` is.
use Rattle.std.specs.Prelude.{ℕ, zero, suc, ◌<◌, refl, get_or}
use mathlib.Core.List.{List, [], ◌∷◌, Memᴰ}
use Rattle.std.proofs.Common.{arith}

abbrev pub byte_at : List ℕ → ℕ → ℕ
byte_at m i = get_or m i 0

abbrev pub Bytes : List ℕ → Type 0
Bytes m = (i : ℕ) → byte_at m i < 256

-- Each number in it is below 256, and every list of such numbers is one.
pub bytes_below : (m : List ℕ) → Bytes m → (x : ℕ) → Memᴰ x m → x < 256
bytes_below [] small x h = elim h [ ]
bytes_below (y ∷ m) small x (Memᴰ.head e) = rw e (small zero)
bytes_below (y ∷ m) small x (Memᴰ.tail h) = bytes_below m (λ i. small (suc i)) x h

pub below_bytes : (m : List ℕ) → ((x : ℕ) → Memᴰ x m → x < 256) → Bytes m
below_bytes [] small i = omega arith
below_bytes (x ∷ m) small zero = small x (Memᴰ.head refl)
below_bytes (x ∷ m) small (suc i) = below_bytes m (λ y h. small y (Memᴰ.tail h)) i

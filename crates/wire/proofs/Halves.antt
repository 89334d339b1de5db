-- Numbers taken into bytes and put together again.
use Prim.Native.Nat.{ℕ, ◌+◌, ◌*◌, ◌/◌, ◌%◌, ◌<◌, ◌≤◌}
use mathlib.Core.Path.{◌≡◌}
use mathlib.Core.List.{List}
use native.Mathlib.Nat.{mod-mod}
use native.Mathlib.Omega.{arith}
use Rattle.basis.specs.Bytes.{Bytes, byte_at}
use Rattle.wire.specs.Codes.{image_size_most}
use Rattle.wire.specs.Numbers.{word_at}

pub word_back : (n : ℕ) → n < 65536 → n % 256 + 256 * (n / 256 % 256) ≡ n
word_back n h = omega arith

pub size_back : (n : ℕ) → n ≤ image_size_most → n % 256 + 256 * (n / 256 % 256) + 65536 * (n / 65536 % 16 % 16) ≡ n
size_back n h = omega arith

pub upper_twice : (x : ℕ) → x / 16 * 16 / 16 * 16 ≡ x / 16 * 16
upper_twice x = omega arith

pub rest_twice : (k x : ℕ) → x % k % k ≡ x % k
rest_twice k x = mod-mod x k

pub low_back : (a b : ℕ) → a < 256 → (a + 256 * b) % 256 ≡ a
low_back a b h = omega arith

pub high_back : (a b : ℕ) → a < 256 → b < 256 → (a + 256 * b) / 256 % 256 ≡ b
high_back a b h k =
    let q : (a + 256 * b) / 256 ≡ b = omega arith in
    rw q (omega arith)

-- The same of two bytes of a message.
pub bytes_low : (m : List ℕ) → Bytes m → (i j : ℕ) → (byte_at m i + 256 * byte_at m j) % 256 ≡ byte_at m i
bytes_low m small i j = low_back (byte_at m i) (byte_at m j) (small i)

pub bytes_high : (m : List ℕ) → Bytes m → (i j : ℕ) → (byte_at m i + 256 * byte_at m j) / 256 % 256 ≡ byte_at m j
bytes_high m small i j = high_back (byte_at m i) (byte_at m j) (small i) (small j)

pub bytes_word : (m : List ℕ) → Bytes m → (i : ℕ) → word_at m i < 65536
bytes_word m small i =
    let a = small i in
    let b = small (i + 1) in
    omega arith

-- The three bytes of a MaxImageSize.
module _ (a b d : ℕ) (p : a < 256) (q : b < 256) (r : d < 16) where
  pub first_back : (a + 256 * b + 65536 * d) % 256 ≡ a
  first_back = omega arith

  pub second_back : (a + 256 * b + 65536 * d) / 256 % 256 ≡ b
  second_back =
      let x : (a + 256 * b + 65536 * d) / 256 ≡ b + 256 * d = omega arith in
      rw x (omega arith)

  pub third_back : (a + 256 * b + 65536 * d) / 65536 % 16 ≡ d
  third_back =
      let y : (a + 256 * b + 65536 * d) / 65536 ≡ d = omega arith in
      rw y (omega arith)

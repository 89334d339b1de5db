-- Numbers in a message go low byte first (01, Sizes and numbers).
use Rattle.std.specs.Prelude.{ℕ, ◌+◌, ◌*◌, ◌/◌, ◌%◌, List}
use Rattle.basis.specs.Bytes.{byte_at}

abbrev pub word_at : List ℕ → ℕ → ℕ
word_at m i = byte_at m i + 256 * byte_at m (i + 1)

abbrev pub low : ℕ → ℕ
low n = n % 256

abbrev pub high : ℕ → ℕ
high n = n / 256 % 256

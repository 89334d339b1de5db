-- A word of 32 bits from two numbers of 16, the first in its low half, and its two halves.
use Rattle.std.specs.Prelude.{ℕ, ◌+◌, ◌*◌, ◌/◌, ◌%◌}

abbrev pub halves_of : ℕ → ℕ → ℕ
halves_of low high = low + 65536 * high

abbrev pub low_half : ℕ → ℕ
low_half word = word % 65536

abbrev pub high_half : ℕ → ℕ
high_half word = word / 65536 % 65536

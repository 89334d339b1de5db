-- The version as one number (include/harsolvek.h).
use Rattle.std.specs.Prelude.{ℕ, ◌+◌, ◌*◌}

-- A byte for each of three numbers, the first one the highest.
abbrev pub version_of : ℕ → ℕ → ℕ → ℕ
version_of first second third = 65536 * first + 256 * second + third

-- 1.1.0
abbrev pub harsolvek_version : ℕ
harsolvek_version = version_of 1 1 0

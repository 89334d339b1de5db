-- A message in the first bytes of a lent buffer, the rest kept (01, Numbers we answer).
use Rattle.std.specs.Prelude.{ℕ, List, ◌++◌, length, drop}
use Rattle.basis.specs.Left.{Left, left}

abbrev pub written_into : List ℕ → List ℕ → List ℕ
written_into s d = s ++ drop (length s) d

-- How many bytes were written, and the buffer that begins with them.
abbrev pub returns_written : List ℕ → List ℕ → Left ℕ
returns_written bytes out = left (length bytes) (written_into bytes out)

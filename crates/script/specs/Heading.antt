-- Which lines ask for an answer: all but headings.
use Rattle.std.specs.Prelude.{ℕ, Bool, true, not, List, eqb, length}
use Rattle.basis.specs.Bytes.{byte_at}
use Rattle.basis.specs.Pick.{pick}

abbrev pub hash : ℕ
hash = 0x23

-- A heading is an empty line or a comment.
unfoldable pub heading_of : List ℕ → Bool
heading_of line = pick (eqb (length line) 0) true (eqb (byte_at line 0) hash)

abbrev pub asks_of : List ℕ → Bool
asks_of line = not (heading_of line)

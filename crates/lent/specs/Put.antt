-- What a list is after a part was put at a place of it.
use Rattle.std.specs.Prelude.{ℕ, ◌+◌, List, ◌++◌, length, take, drop, ltb, Result, Ok, Err, ⊤}
use Rattle.basis.specs.Pick.{pick}
use Rattle.basis.specs.Left.{Left, left}
use Rattle.lent.specs.declared.placing.NoRoom.{NoRoom}

abbrev pub Placed : Type 0
Placed = Result ⊤ NoRoom

abbrev pub stored : Placed
stored = Ok tt

abbrev pub no_room : Placed
no_room = Err (record {})

-- d with s from the place `at` on: the bytes there are replaced, and all others are kept.
abbrev pub pasted : List ℕ → ℕ → List ℕ → List ℕ
pasted d at s = take at d ++ s ++ drop (at + length s) d

-- Refused where s passes the end of d, and d is as it was.
unfoldable pub put_of : List ℕ → ℕ → List ℕ → Left Placed
put_of d at s = pick (ltb (length d) (at + length s)) (left no_room d) (left stored (pasted d at s))

-- Each public contract leaves one answer and one state of the lent memory. Written from the contracts by tools/contracts.
use Rattle.std.specs.Prelude.{◌≡◌, List, ℕ, Result, ⊤}
use Rattle.basis.specs.Left.{left}
use Rattle.basis.specs.Only.{only}
use Rattle.lent.specs.Outcome.{unwritten}
use Rattle.lent.specs.Put.{put_of}
use Rattle.lent.specs.declared.outcome.Outcome.{Outcome}
use Rattle.lent.specs.declared.placing.NoRoom.{NoRoom}

pub one_unwritten : {S A : Type 0} (session : S) (answer : A) (r r' : Outcome S A)
    → r ≡ unwritten session answer
    → r' ≡ unwritten session answer
    → r ≡ r'
one_unwritten session answer r r' is is' = only is is'

pub one_put : (dst : List ℕ) (at : ℕ) (src : List ℕ) (r r' : Result ⊤ NoRoom) (dst_left dst_left' : List ℕ)
    → left r dst_left ≡ put_of dst at src
    → left r' dst_left' ≡ put_of dst at src
    → left r dst_left ≡ left r' dst_left'
one_put dst at src r r' dst_left dst_left' is is' = only is is'

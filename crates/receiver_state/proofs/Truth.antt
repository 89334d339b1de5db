-- Success is answered in Good alone (01, The receiver's phases: VALIDATE).
use Rattle.receiver_state.specs.declared.answer.Answer.{Answer}
use Rattle.receiver_state.specs.declared.answer.Answer.TheVariants.{Identified, Offered, Asking, Closed, Success, Later, Aborted, Passed, Malformed, UnexpectedInitiate, UnexpectedData, UnexpectedValidate, Unexpected, NotDue, PassesCapacity, WrongFile, VerdictBad, OutOfRange, BufferShort, ImageLength}
use Rattle.receiver_state.specs.declared.phase.Phase.{Phase}
use Rattle.receiver_state.specs.declared.phase.Phase.TheVariants.{Idle, Transfer, Await, Good}

abbrev pub IsGood : Phase → Type 0
IsGood Idle = ⊥
IsGood (Transfer p) = ⊥
IsGood (Await a) = ⊥
IsGood (Good a) = Unit

abbrev pub GoodIfSuccess : Answer → Phase → Type 0
GoodIfSuccess Identified next = Unit
GoodIfSuccess (Offered wait) next = Unit
GoodIfSuccess (Asking wait number) next = Unit
GoodIfSuccess (Closed number) next = Unit
GoodIfSuccess Success next = IsGood next
GoodIfSuccess (Later wait) next = Unit
GoodIfSuccess Aborted next = Unit
GoodIfSuccess Passed next = Unit
GoodIfSuccess Malformed next = Unit
GoodIfSuccess UnexpectedInitiate next = Unit
GoodIfSuccess UnexpectedData next = Unit
GoodIfSuccess UnexpectedValidate next = Unit
GoodIfSuccess Unexpected next = Unit
GoodIfSuccess (NotDue due) next = Unit
GoodIfSuccess PassesCapacity next = Unit
GoodIfSuccess WrongFile next = Unit
GoodIfSuccess VerdictBad next = Unit
GoodIfSuccess OutOfRange next = Unit
GoodIfSuccess BufferShort next = Unit
GoodIfSuccess ImageLength next = Unit

use Rattle.std.proofs.Common.{ap}
use Rattle.receiver_c.proofs.Narrowing.{session_narrow}
use Rattle.receiver_c.specs.Calls.{receiver_passed, timed_at}
use Rattle.receiver_c.proofs.time_call.pass.Goals as goal

pub returns : goal.returns
unfolding timed_at
returns c =
    rw (c.from.ensures, c.number.ensures, c.store.ensures, ← (session_narrow _ _ _), ← c.unpack.ensures, ← c.to_half.ensures)
    (ap (receiver_passed _) c.time-outcome.ensures)

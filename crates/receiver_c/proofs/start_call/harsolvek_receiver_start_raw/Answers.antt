use Rattle.receiver_c.proofs.Narrowing.{start_narrow}
use Rattle.receiver_c.specs.Calls.{harsolvek_receiver_start}
use Rattle.receiver_c.proofs.start_call.harsolvek_receiver_start_raw.Goals as goal

pub returns : goal.returns
unfolding harsolvek_receiver_start
returns c =
    rw (c.from.ensures, c.number.ensures, c.leave.ensures, c.start-started.ensures, c.identity_of-identity.ensures, c.to_byte-resends.ensures, c.to_half-limit.ensures, start_narrow _ _ _ _)

-- Idle, Transfer (blocks accepted, whether the last was short), Await (for VALIDATE), Good. The counts of blocks and bytes accepted are
-- kept in Await and Good too (01, The receiver's phases).
use Rattle.std.specs.Prelude.{ℕ}
use Rattle.receiver_state.specs.declared.phase.Accepted.{Accepted}
use Rattle.receiver_state.specs.declared.phase.Phase.{Phase}
use Rattle.receiver_state.specs.declared.phase.Phase.TheVariants.{Idle, Transfer, Await, Good}

abbrev pub accepted_counts : ℕ → ℕ → Accepted
accepted_counts blocks bytes = record { blocks = blocks; bytes = bytes }

abbrev pub nothing_accepted : Accepted
nothing_accepted = accepted_counts 0 0

-- Going to Idle sets accepted to zero.
abbrev pub accepted_of : Phase → Accepted
accepted_of Idle = nothing_accepted
accepted_of (Transfer p) = p.accepted
accepted_of (Await a) = a
accepted_of (Good a) = a

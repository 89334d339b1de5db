-- What a read has brought, by how many bytes it says.
use Prim.Native.Nat.{ℕ}
use mathlib.Core.List.{List, []}
use mathlib.Core.Logic.{◌⊎◌, inl, inr}
use mathlib.Core.Path.{◌≡◌, subst}
use lib.ListN.{take}
use Rattle.std.specs.Prelude.{Option, Some, None, MatchOption}
use Rattle.playing.specs.Parts.{replay_state}
use Rattle.replay.specs.declared.end.End.TheVariants.{Closed, ReadFailed, WriteFailed}
use Rattle.replay.specs.declared.progress.Progress.{Progress}
use Rattle.replay.specs.Turns.{turn_from, over_of, Goes, come_of, Came, Turned}
use Rattle.replay.proofs.Carry.{nothing_took}

-- A read of nothing.
pub read_nothing : (self : Progress) (buffer out : List ℕ) (x : Progress) → (x ≡ over_of self WriteFailed) ⊎ (x ≡ over_of self (Closed self.stop)) → Came (Some 0) self buffer out x buffer out
read_nothing self buffer out x closed = record { owes = nothing_took self x buffer out closed }

-- A read leaves the bytes that wait as they were.
pub turned : (got : Option ℕ) (self : Progress) (before read out : List ℕ) (x : Progress) (buffer lines : List ℕ) → take self.held read ≡ take self.held before
    → Came got self read out x buffer lines → Turned (turn_from self before) out x buffer lines
turned got self before read out x buffer lines kept c =
    subst (λ (held : List ℕ). Turned (replay_state self.mailbox held self.stop []) out x buffer lines) kept (by got c.owes)
  where
    by : (got : Option ℕ) → MatchOption got (x.end ≡ Some ReadFailed) (λ fresh. Goes (turn_from self read) (come_of fresh self.held read) out x buffer lines) → Turned (turn_from self read) out x buffer lines
    by (Some fresh) goes = record { come = come_of fresh self.held read; goes = inr goes }
    by None failed = record { come = []; goes = inl failed }

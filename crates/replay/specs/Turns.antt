-- What a turn of the program comes to: one read, what has come played, and its lines handed over (01, Replay program).
use Rattle.std.specs.Prelude.{ℕ, List, [], ◌⊎◌, ◌≡◌, take, drop, Option, Some, None, MatchOption}
use Rattle.basis.specs.Pick.{pick}
use Rattle.lent.specs.Written.{written_into}
use Rattle.recording.specs.declared.reader.Ending.TheVariants.{Whole}
use Rattle.playing.specs.Replay.{begun}
use Rattle.playing.specs.Parts.{ReplayState, replay_state, replay_begins, parts_of, read_of, last_of}
use Rattle.playing.specs.declared.part.Stop.TheVariants.{Ended}
use Rattle.replay.specs.declared.end.End.{End}
use Rattle.replay.specs.declared.end.End.TheVariants.{Closed, ReadFailed, WriteFailed, TooManyReads}
use Rattle.replay.specs.declared.progress.Progress.{Progress}

-- A run that has not ended when all its turns are counted has made too many reads.
abbrev pub end_of : Option End → End
end_of None = TooManyReads
end_of (Some end) = end

-- The status of the program: 1 where a read or a write failed, else 0.
abbrev pub status_of : End → ℕ
status_of (Closed stop) = 0
status_of ReadFailed = 1
status_of WriteFailed = 1
status_of TooManyReads = 0

-- Nothing is held, and a recording that ends here is whole.
abbrev pub begins : Progress
begins = record { mailbox = begun; held = 0; stop = Ended Whole; end = None }

abbrev pub over_of : Progress → End → Progress
over_of p end = record { mailbox = p.mailbox; held = p.held; stop = p.stop; end = Some end }

-- The longest record has 9 bytes.
abbrev pub held_most : ℕ
held_most = 8

-- Where the program is, with these lines: the bytes that wait are at the buffer's front.
abbrev pub replay_state_at : Progress → List ℕ → List ℕ → ReplayState
replay_state_at p buffer text = replay_state p.mailbox (take p.held buffer) p.stop text

-- A turn begins with no lines, so that those behind it are its own.
abbrev pub turn_from : Progress → List ℕ → ReplayState
turn_from p buffer = replay_state_at p buffer []

abbrev pub course_of : ReplayState → List ℕ → Option End
course_of r come = pick (last_of r come) (Some (Closed (read_of r come).stop)) None

-- The bytes that have come are played behind those that waited, and what is left of both waits. The lines lead the output.
pub record Took (before : ReplayState) (come out : List ℕ) (progress : Progress) (buffer lines : List ℕ) : Type 0 where
  pub end : progress.end ≡ course_of before come
  pub state : replay_state_at progress buffer (read_of before come).text ≡ read_of before come
  pub led : lines ≡ written_into (read_of before come).text out

-- So it is unless a write has failed.
abbrev pub Goes : ReplayState → List ℕ → List ℕ → Progress → List ℕ → List ℕ → Type 0
Goes before come out progress buffer lines = (progress.end ≡ Some WriteFailed) ⊎ Took before come out progress buffer lines

-- What a read has put behind the bytes that wait, by how many it says.
abbrev pub come_of : ℕ → ℕ → List ℕ → List ℕ
come_of fresh held buffer = take fresh (drop held buffer)

-- Where the read has failed it says nothing.
pub record Came (got : Option ℕ) (self : Progress) (before out : List ℕ) (progress : Progress) (buffer lines : List ℕ) : Type 0 where
  pub owes : MatchOption got (progress.end ≡ Some ReadFailed) (λ fresh. Goes (turn_from self before) (come_of fresh self.held before) out progress buffer lines)

-- A whole turn, whatever its read has brought.
pub record Turned (before : ReplayState) (out : List ℕ) (progress : Progress) (buffer lines : List ℕ) : Type 0 where
  pub come : List ℕ
  pub goes : (progress.end ≡ Some ReadFailed) ⊎ Goes before come out progress buffer lines

-- Closed is said of the stop that all reads together have come to.
abbrev pub EndsAs : End → ReplayState → Type 0
EndsAs (Closed stop) r = stop ≡ r.stop
EndsAs ReadFailed r = Unit
EndsAs WriteFailed r = Unit
EndsAs TooManyReads r = Unit

-- A whole run, whatever its reads have brought.
pub record Ran (end : End) : Type 0 where
  pub reads : List (List ℕ)
  pub ended : EndsAs end (parts_of (replay_begins begun) reads)

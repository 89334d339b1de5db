-- A recording that comes in parts, cut anywhere: what has come of a further record waits for the next part (01, Replay program).
use Rattle.std.specs.Prelude.{ℕ, ◌*◌, Bool, true, false, List, [], ◌∷◌, ◌++◌, length, drop}
use Rattle.basis.specs.Pick.{pick}
use Rattle.printing.specs.Line.{line_longest}
use Rattle.recording.specs.Apart.{apart_of}
use Rattle.recording.specs.declared.reader.Ending.{Ending}
use Rattle.recording.specs.declared.reader.Ending.TheVariants.{Whole, Cut, UnknownKind}
use Rattle.mailbox_state.specs.declared.mailbox.Mailbox.{Mailbox}
use Rattle.playing.specs.Replay.{Replayed, replayed}
use Rattle.playing.specs.Part.{Plays, part_of, ending_text}
use Rattle.playing.specs.declared.part.Stop.{Stop}
use Rattle.playing.specs.declared.part.Stop.TheVariants.{Ended, Full}

-- Between two parts: the bytes that are not played yet, why they are not, and the lines so far.
pub record ReplayState : Type 0 where
  pub mailbox : Mailbox
  pub held : List ℕ
  pub stop : Stop
  pub text : List ℕ

abbrev pub replay_state : Mailbox → List ℕ → Stop → List ℕ → ReplayState
replay_state mailbox held stop text = record { mailbox = mailbox; held = held; stop = stop; text = text }

-- Before the first part nothing waits, and a recording that ends here is whole.
abbrev pub replay_begins : Mailbox → ReplayState
replay_begins m = replay_state m [] (Ended Whole) []

-- With room for the longest line to every byte, no record waits for room.
abbrev pub roomy_of : Mailbox → List ℕ → Plays
roomy_of m part = part_of m (line_longest * length part) (apart_of part)

-- What is played of the bytes that are there, and behind it the rest of them.
abbrev pub rested_of : List ℕ → List ℕ → Plays → ReplayState
rested_of text bytes p = replay_state p.mailbox (drop p.taken bytes) p.stop (text ++ p.text)

-- One part more, behind the bytes that wait.
unfoldable pub further_of : ReplayState → List ℕ → ReplayState
further_of r part = rested_of r.text (r.held ++ part) (roomy_of r.mailbox (r.held ++ part))

unfoldable pub parts_of : ReplayState → List (List ℕ) → ReplayState
parts_of r [] = r
parts_of r (part ∷ parts) = parts_of (further_of r part) parts

abbrev pub joined : List (List ℕ) → List ℕ
joined [] = []
joined (part ∷ parts) = part ++ joined parts

-- The recording ends here.
abbrev pub closed_of : ReplayState → Replayed
closed_of r = replayed (r.text ++ ending_text r.stop) r.mailbox

abbrev pub unknown_kind : Ending → Bool
unknown_kind Whole = false
unknown_kind Cut = false
unknown_kind UnknownKind = true

abbrev pub unknown_of : Stop → Bool
unknown_of (Ended ending) = unknown_kind ending
unknown_of Full = false

-- A part that was read: one of no bytes is the recording's end.
abbrev pub read_of : ReplayState → List ℕ → ReplayState
read_of r [] = r
read_of r (byte ∷ bytes) = further_of r (byte ∷ bytes)

-- Whether nothing is read after it: at the recording's end, and behind an unknown kind.
abbrev pub last_of : ReplayState → List ℕ → Bool
last_of r [] = true
last_of r (byte ∷ bytes) = unknown_of (further_of r (byte ∷ bytes)).stop

unfoldable pub reads_of : ReplayState → List (List ℕ) → ReplayState
reads_of r [] = r
reads_of r (part ∷ parts) = pick (last_of r part) (read_of r part) (reads_of (read_of r part) parts)

-- The parts up to the first of no bytes.
abbrev pub until_nothing : List (List ℕ) → List (List ℕ)
until_nothing [] = []
until_nothing ([] ∷ parts) = []
until_nothing ((byte ∷ bytes) ∷ parts) = (byte ∷ bytes) ∷ until_nothing parts

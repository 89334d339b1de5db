-- What holds between two turns of the code: its two ends are those of a clean line of demand 3 (`Clean` in crates/line/specs/Line.antt).
use Rattle.std.specs.Prelude.{ℕ, ◌+◌, ◌≤◌, ◌≡◌, List, [], length}
use Rattle.lent.specs.Sent.{with_sent}
use Rattle.wire.specs.declared.response.Identity.{Identity}
use Rattle.indoor_state.specs.declared.plan.Release.{Release}
use Rattle.line.specs.Line.{World, Line, line, Wide, Clean}
use Rattle.clean.specs.declared.ends.Ends.{Ends}

-- A file of 4,096 blocks, the most that there are, takes 4,100 requests; every session has ended by then.
abbrev pub turns_most : ℕ
turns_most = 4100

abbrev pub clean_world : Ends → List ℕ → List (List ℕ) → List (List ℕ) → World
clean_world e image requests responses = record { receiver = e.receiver; indoor = e.indoor; image = image; requests = requests; responses = responses }

-- The request in the buffer is all that is on its way.
abbrev pub clean_line_of : Ends → List ℕ → List ℕ → List (List ℕ) → List (List ℕ) → Line
clean_line_of e image up requests responses = line (clean_world e image requests responses) (with_sent e.underway up []) []

-- After `delivered` requests. The code keeps no list of the messages sent, so there are lists of requests and responses with which it holds.
pub record On (file memory : List ℕ) (release : Release) (identity : Identity) (e : Ends) (image up : List ℕ) (delivered : ℕ) : Type 0 where
  pub wide : Wide release identity
  pub deliveries : ℕ
  pub requests : List (List ℕ)
  pub responses : List (List ℕ)
  pub clean : Clean file memory release identity deliveries (clean_line_of e image up requests responses)
  pub count : length requests ≡ delivered + length (with_sent e.underway up [])
  pub room : length up ≡ 260
  pub fits : e.underway ≤ 260

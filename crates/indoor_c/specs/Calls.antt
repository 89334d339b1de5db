-- What the indoor end's calls for C answer and leave: the same as the session's own call on the session that the words say, and 29 where they
-- are no session's.
use Rattle.std.specs.Prelude.{ℕ, not, List, Ok, Err}
use Rattle.basis.specs.Pick.{pick}
use Rattle.basis.specs.Left.{Left, left}
use Rattle.indoor_state.specs.Answer.{indoor_number_of}
use Rattle.indoor_state.specs.Session.{IndoorStart, indoor_start_number_of, IndoorOutcome}
use Rattle.indoor_state.specs.declared.plan.Release.{Release}
use Rattle.indoor_state.specs.declared.session.Indoor.{Indoor}
use Rattle.indoor_state.specs.declared.session.StartRefused.TheVariants.{Settings, FileSize, BufferShort}
use Rattle.indoor_rules.specs.Start.{indoor_start_of}
use Rattle.indoor_rules.specs.Response.{indoor_response_of}
use Rattle.indoor_rules.specs.Time.{indoor_time_of}
use Rattle.width.specs.Words.{word_at}
use Rattle.indoor_c.specs.Words.{session_at, is_indoor_session, words_of, laid, no_words}

-- The number, how many bytes were written, and the words and the buffer then.
pub record IndoorCalled : Type 0 where
  pub number : ℕ
  pub written : ℕ
  pub words : List ℕ
  pub out : List ℕ

abbrev pub indoor_called : ℕ → ℕ → List ℕ → List ℕ → IndoorCalled
indoor_called number written words out = record { number = number; written = written; words = words; out = out }

-- A release as it is lent: vendor, product and the four versions.
abbrev pub release_of : List ℕ → Release
release_of n = record {
  vendor = word_at n 0;
  product = word_at n 1;
  versions = record { first = word_at n 2; second = word_at n 3; third = word_at n 4; fourth = word_at n 5 };
}

abbrev pub filled : Indoor → ℕ → Left ℕ
filled s written = left written (words_of s)

-- How many bytes a start wrote, and the words: all zero where it was refused.
unfoldable pub began_of : IndoorStart → Left ℕ
began_of (Ok made) = filled made.session made.written
began_of (Err Settings) = left 0 no_words
began_of (Err FileSize) = left 0 no_words
began_of (Err BufferShort) = left 0 no_words

abbrev pub indoor_started : Left IndoorStart → IndoorCalled
indoor_started x = indoor_called (indoor_start_number_of x.answer) (began_of x.answer).answer (began_of x.answer).memory x.memory

-- `settings` are the limit and the resends, as wide as they came.
abbrev pub harsolvek_indoor_start : List ℕ → List ℕ → List ℕ → List ℕ → IndoorCalled
harsolvek_indoor_start settings release file out = indoor_started (indoor_start_of (word_at settings 0) (word_at settings 1) (release_of release) file out)

-- The number of an outcome, and the words with its session.
abbrev pub left_of : List ℕ → IndoorOutcome → Left ℕ
left_of w o = left (indoor_number_of o.answer) (laid w o.session)

abbrev pub indoor_left : List ℕ → Left IndoorOutcome → IndoorCalled
indoor_left w x = indoor_called (left_of w x.answer).answer x.answer.written (left_of w x.answer).memory x.memory

-- 29, and nothing changes.
abbrev pub no_indoor : List ℕ → List ℕ → IndoorCalled
no_indoor w out = indoor_called 29 0 w out

unfoldable pub harsolvek_indoor_response : List ℕ → List ℕ → List ℕ → List ℕ → IndoorCalled
harsolvek_indoor_response w file response out = pick (not (is_indoor_session w)) (no_indoor w out) (indoor_left w (indoor_response_of (session_at w) file response out))

-- `elapsed` is as long as it came.
unfoldable pub harsolvek_indoor_time : List ℕ → List ℕ → ℕ → List ℕ → IndoorCalled
harsolvek_indoor_time w file elapsed out = pick (not (is_indoor_session w)) (no_indoor w out) (indoor_left w (indoor_time_of (session_at w) file elapsed out))

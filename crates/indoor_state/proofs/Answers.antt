-- The table of numbers and requests, in the paper's own numbers (01, Numbers we answer; 01, The indoor end's phases).
use Prim.Native.Nat.{ℕ}
use mathlib.Core.Path.{◌≡◌, refl}
use mathlib.Core.List.{[], ◌∷◌, map}
use Rattle.std.specs.Prelude.{Option, Some, None, Ok, Err}
use Rattle.indoor_state.specs.Answer.{indoor_number_of, sends_of}
use Rattle.indoor_state.specs.Session as start
use Rattle.indoor_state.specs.declared.phase.Reason.TheVariants.{Silence, Refused, NotNewer, TooLarge, WrongNumber, NotValid}
use Rattle.indoor_state.specs.declared.answer.Answer.{Answer}
use Rattle.indoor_state.specs.declared.answer.Answer.TheVariants.{Identifying, Initiating, Sending, Validating, Waiting, Finished, Passed, Malformed, Unexpected, BufferShort, FileLength, Failed}
use Rattle.indoor_state.specs.declared.answer.Sends.{Sends}
use Rattle.indoor_state.specs.declared.answer.Sends.TheVariants.{GetFwId, Initiate, Block, Validate, Abort}
use Rattle.indoor_state.specs.declared.session.Started.{Started}
use Rattle.indoor_state.specs.declared.session.StartRefused.TheVariants as Refused

abbrev row : Answer → ℕ × Option Sends
row a = (indoor_number_of a, sends_of a)

-- 0: taken
pub taken_rows : (number : ℕ) →
    map row (Identifying ∷ Initiating ∷ Sending number ∷ Validating ∷ Waiting ∷ Finished ∷ Passed ∷ [])
    ≡ (0, Some GetFwId) ∷ (0, Some Initiate) ∷ (0, Some (Block number)) ∷ (0, Some Validate) ∷ (0, None) ∷ (0, None) ∷ (0, None) ∷ []
taken_rows number = refl

-- 20, 21, 27, 28
pub kept_rows : map row (Malformed ∷ Unexpected ∷ BufferShort ∷ FileLength ∷ []) ≡ (20, None) ∷ (21, None) ∷ (27, None) ∷ (28, None) ∷ []
kept_rows = refl

-- 40 to 45: ABORT is sent at 40, 43 and 44.
pub failed_rows :
    map row (Failed Silence ∷ Failed Refused ∷ Failed NotNewer ∷ Failed TooLarge ∷ Failed WrongNumber ∷ Failed NotValid ∷ [])
    ≡ (40, Some Abort) ∷ (41, None) ∷ (42, None) ∷ (43, Some Abort) ∷ (44, Some Abort) ∷ (45, None) ∷ []
failed_rows = refl

-- 29, 46, 27 of a start
pub started_rows : (made : Started) →
    map start.indoor_start_number_of (Ok made ∷ Err Refused.Settings ∷ Err Refused.FileSize ∷ Err Refused.BufferShort ∷ []) ≡ 0 ∷ 29 ∷ 46 ∷ 27 ∷ []
started_rows made = refl

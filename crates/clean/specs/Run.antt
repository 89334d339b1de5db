-- The result of a whole clean session, for all settings, identities, files and image memories: 29, 46, 42 and 43 in this order, or the file
-- in the image after n + 4 requests.
use Rattle.std.specs.Prelude.{ℕ, ◌+◌, List, Result, Ok, Err, ltb, eqb, length}
use Rattle.basis.specs.Pick.{pick}
use Rattle.basis.specs.Left.{Left, left}
use Rattle.lent.specs.Written.{written_into}
use Rattle.silence.specs.Settings.{settings_of}
use Rattle.silence.specs.Settings.{Checked}
use Rattle.image.specs.Blocks.{blocks_of}
use Rattle.wire.specs.declared.response.Identity.{Identity}
use Rattle.wire.specs.Codes.{image_size_most}
use Rattle.indoor_state.specs.Phase.{reason_number}
use Rattle.indoor_state.specs.declared.plan.Release.{Release}
use Rattle.indoor_state.specs.declared.phase.Reason.TheVariants.{NotNewer, TooLarge}
use Rattle.indoor_state.specs.declared.phase.Phase.{Phase}
use Rattle.indoor_state.specs.declared.phase.Phase.TheVariants.{Identify, Initiate, Transfer, Validate, Done, Failed}
use Rattle.indoor_rules.specs.Newer.{newer_of}
use Rattle.clean.specs.declared.ran.Ended.{Ended}
use Rattle.clean.specs.declared.ran.NotRun.{NotRun}
use Rattle.clean.specs.declared.ran.NotRun.TheVariants.{Settings, FileSize}

-- 01, Numbers we answer; 0 where the indoor end has not failed
abbrev pub phase_number : Phase → ℕ
phase_number Identify = 0
phase_number (Initiate wait) = 0
phase_number (Transfer p) = 0
phase_number (Validate wait) = 0
phase_number Done = 0
phase_number (Failed reason) = reason_number reason

abbrev pub ended_number_of : Ended → ℕ
ended_number_of e = phase_number e.phase

abbrev pub not_run_number_of : NotRun → ℕ
not_run_number_of Settings = 29
not_run_number_of FileSize = 46

-- What a session comes to, or why it was not run.
abbrev pub Ran : Type 0
Ran = Result Ended NotRun

abbrev pub clean_number_of : Ran → ℕ
clean_number_of (Ok e) = ended_number_of e
clean_number_of (Err refusal) = not_run_number_of refusal

abbrev pub ended : Phase → ℕ → Ended
ended phase requests = record { phase = phase; requests = requests }

-- 43: GET_FW_ID, INITIATE and ABORT were sent. Else the image begins with the file, and goes on as it lay.
unfoldable pub transferred_of : List ℕ → List ℕ → Left Ran
transferred_of file image =
    pick (ltb (length image) (length file)) (left (Ok (ended (Failed TooLarge) 3)) image)
    (left (Ok (ended Done (blocks_of (length file) + 4))) (written_into file image))

-- 42: nothing but GET_FW_ID was sent.
unfoldable pub clean_carried_of : Release → Identity → List ℕ → List ℕ → Left Ran
clean_carried_of release identity file image =
    pick (newer_of release identity) (transferred_of file image)
    (left (Ok (ended (Failed NotNewer) 1)) image)

-- 46
unfoldable pub clean_begun_of : Release → Identity → List ℕ → List ℕ → Left Ran
clean_begun_of release identity file image =
    pick (eqb (length file) 0) (left (Err FileSize) image)
    (pick (ltb image_size_most (length file)) (left (Err FileSize) image)
    (clean_carried_of release identity file image))

-- 29
unfoldable pub checked_of : Checked → Release → Identity → List ℕ → List ℕ → Left Ran
checked_of (Ok settings) release identity file image = clean_begun_of release identity file image
checked_of (Err refusal) release identity file image = left (Err Settings) image

unfoldable pub clean_run_of : ℕ → ℕ → Identity → Release → List ℕ → List ℕ → Left Ran
clean_run_of limit resends identity release file image =
    pick (ltb image_size_most (length image)) (left (Err Settings) image)
    (checked_of (settings_of limit resends) release identity file image)

-- Identify, Initiate, Transfer, Validate, Done, Failed with a reason (01, The indoor end's phases).
use Rattle.std.specs.Prelude.{ℕ, Bool}
use Rattle.indoor_state.specs.declared.phase.Reason.{Reason}
use Rattle.indoor_state.specs.declared.phase.Reason.TheVariants.{Silence, Refused, NotNewer, TooLarge, WrongNumber, NotValid}
use Rattle.indoor_state.specs.declared.phase.Progress.{Progress}
use Rattle.indoor_state.specs.declared.phase.Phase.{Phase}
use Rattle.indoor_state.specs.declared.phase.State.{State}

-- 01, Numbers we answer
abbrev pub reason_number : Reason → ℕ
reason_number Silence = 40
reason_number Refused = 41
reason_number NotNewer = 42
reason_number TooLarge = 43
reason_number WrongNumber = 44
reason_number NotValid = 45

abbrev pub indoor_progress : ℕ → ℕ → Bool → Progress
indoor_progress asked wait emptied = record { asked = asked; wait = wait; emptied = emptied }

abbrev pub indoor_state : Phase → ℕ → ℕ → State
indoor_state phase silence resends = record { phase = phase; silence = silence; resends = resends }

-- The number of a session that is not started: that of the start that refused (01, Numbers we answer).
use Rattle.std.specs.Prelude.{ℕ}
use Rattle.silence.specs.Settings.{limits_number_of}
use Rattle.indoor_state.specs.Session.{indoor_refused_number_of}
use Rattle.lossy_session.specs.declared.start_call.NotStarted.{NotStarted}
use Rattle.lossy_session.specs.declared.start_call.NotStarted.TheVariants.{Roof, Indoors}

abbrev pub not_started_number_of : NotStarted → ℕ
not_started_number_of (Roof refusal) = limits_number_of refusal
not_started_number_of (Indoors refusal) = indoor_refused_number_of refusal

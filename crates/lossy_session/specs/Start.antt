-- How both ends start: the receiver's refusal (29), then the indoor end's (29, 46, 27), or both and the first request on its way.
use Rattle.std.specs.Prelude.{ℕ, List, Result, Ok, Err}
use Rattle.basis.specs.Left.{Left, left}
use Rattle.wire.specs.declared.response.Identity.{Identity}
use Rattle.receiver_rules.specs.Session.{receiver_start_of}
use Rattle.receiver_state.specs.declared.session.Receiver.{Receiver}
use Rattle.receiver_state.specs.Session.{Started}
use Rattle.indoor_rules.specs.Start.{indoor_start_of}
use Rattle.indoor_state.specs.declared.plan.Release.{Release}
use Rattle.indoor_state.specs.Session.{IndoorStart}
use Rattle.luck.specs.Way.{no_message, way_of}
use Rattle.lossy_ends.specs.Ends.{lossy_ends}
use Rattle.lossy_ends.specs.declared.ends.Ends.{Ends}
use Rattle.lossy_session.specs.declared.start_call.Limits.{Limits}
use Rattle.lossy_session.specs.declared.start_call.NotStarted.{NotStarted}
use Rattle.lossy_session.specs.declared.start_call.NotStarted.TheVariants.{Roof, Indoors}

abbrev pub BothStart : Type 0
BothStart = Result Ends NotStarted

unfoldable pub joined_of : Receiver → IndoorStart → BothStart
joined_of r (Ok begun) = Ok (lossy_ends r begun.session (way_of begun.written) no_message)
joined_of r (Err refusal) = Err (Indoors refusal)

abbrev pub both_begun_of : Receiver → Left IndoorStart → Left BothStart
both_begun_of r x = left (joined_of r x.answer) x.memory

abbrev pub both_begin_of : Receiver → Limits → Release → List ℕ → List ℕ → Left BothStart
both_begin_of r indoors release file up = both_begun_of r (indoor_start_of indoors.silence indoors.resends release file up)

unfoldable pub both_made_of : Started → Limits → Release → List ℕ → List ℕ → Left BothStart
both_made_of (Ok r) indoors release file up = both_begin_of r indoors release file up
both_made_of (Err refusal) indoors release file up = left (Err (Roof refusal)) up

abbrev pub both_start_of : Limits → Limits → Identity → Release → List ℕ → ℕ → List ℕ → Left BothStart
both_start_of roof indoors identity release file capacity up =
    both_made_of (receiver_start_of roof.silence roof.resends identity capacity) indoors release file up

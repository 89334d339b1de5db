-- So many milliseconds pass on the roof and indoors.
use Rattle.std.specs.Prelude.{ℕ, List}
use Rattle.lossy_session.specs.Clock.{roof_passes, indoor_passes}
use Rattle.lossy_ends.specs.Called.{Roof, Indoors}
use Rattle.lossy_ends.specs.Both.{Both, both}
use Rattle.lossy_ends.specs.Ends.{lossy_ends}
use Rattle.lossy_ends.specs.declared.ends.Ends.{Ends}
use Rattle.lossy_session.specs.declared.pass_call.Passed.{Passed}

abbrev pub both_passed_of : Roof → Indoors → Passed
both_passed_of x y = record { ends = lossy_ends x.session y.session y.way x.way; above = x.answered; below = y.answered }

unfoldable pub both_pass_of : Ends → ℕ → List ℕ → List ℕ → List ℕ → Both Passed
both_pass_of e elapsed file up down =
    let x = roof_passes e.receiver elapsed e.down down in
    let y = indoor_passes e.indoor elapsed e.up file up in
    both (both_passed_of x.answer y.answer) y.memory x.memory

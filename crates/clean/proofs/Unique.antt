-- Each public contract leaves one answer and one state of the lent memory. Written from the contracts by tools/contracts.
use Rattle.std.specs.Prelude.{List, ℕ, ◌≡◌, Result}
use Rattle.basis.specs.Left.{left}
use Rattle.basis.specs.Only.{only}
use Rattle.clean.specs.Run.{clean_number_of, clean_run_of}
use Rattle.clean.specs.Turn.{turned, clean_turn_of}
use Rattle.clean.specs.declared.ends.Ends.{Ends}
use Rattle.clean.specs.declared.ran.Ended.{Ended}
use Rattle.clean.specs.declared.ran.NotRun.{NotRun}
use Rattle.indoor_state.specs.declared.plan.Release.{Release}
use Rattle.wire.specs.declared.response.Identity.{Identity}

pub one_turn : (self : Ends) (file image up down : List ℕ) (r r' : Ends) (image_left image_left' up_left up_left' down_left down_left' : List ℕ)
    → turned r image_left up_left down_left ≡ clean_turn_of self file image up down
    → turned r' image_left' up_left' down_left' ≡ clean_turn_of self file image up down
    → turned r image_left up_left down_left ≡ turned r' image_left' up_left' down_left'
one_turn self file image up down r r' image_left image_left' up_left up_left' down_left down_left' is is' = only is is'

pub one_number : (ran : Result Ended NotRun) (r r' : ℕ)
    → r ≡ clean_number_of ran
    → r' ≡ clean_number_of ran
    → r ≡ r'
one_number ran r r' is is' = only is is'

pub one_run : (limit resends : ℕ) (identity : Identity) (release : Release) (file image : List ℕ) (r r' : Result Ended NotRun) (image_left image_left' : List ℕ)
    → left r image_left ≡ clean_run_of limit resends identity release file image
    → left r' image_left' ≡ clean_run_of limit resends identity release file image
    → left r image_left ≡ left r' image_left'
one_run limit resends identity release file image r r' image_left image_left' is is' = only is is'

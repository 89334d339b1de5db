-- At most one message goes: it arrives at its end, with no wait and a good verdict, or it is lost, as the generator says.
use Rattle.std.specs.Prelude.{ℕ, Bool, List, Option, Some, None, Ok}
use Rattle.basis.specs.Pick.{pick}
use Rattle.basis.specs.Left.{Left, left}
use Rattle.lossy_ends.specs.Both.{Both, both}
use Rattle.luck.specs.Way.{after_arrival_of}
use Rattle.luck.specs.Luck.{goes_of}
use Rattle.lossy.specs.Arrive.{request_arrives, response_arrives}
use Rattle.lossy_ends.specs.Called.{Roof, Indoors}
use Rattle.lossy_ends.specs.Ends.{lossy_ends, roof_ends, indoor_ends}
use Rattle.luck.specs.Went.{Went, missed_of}
use Rattle.luck.specs.declared.luck.Luck.{Luck}
use Rattle.luck.specs.declared.luck.Going.{Going}
use Rattle.luck.specs.declared.luck.Arrival.{Arrival}
use Rattle.lossy_ends.specs.declared.ends.Ends.{Ends}
use Rattle.lossy.specs.declared.carry_call.Carried.{Carried}

abbrev pub lossy_carried : Ends → Going → Went → Carried
lossy_carried e g went = record { ends = e; going = g; went = went }

-- The request has arrived, and the response.
abbrev pub request_arrived_of : Ends → Going → Bool → Roof → Carried
request_arrived_of e g stays x = lossy_carried (roof_ends e (after_arrival_of g.way stays) x) g (Some (Ok x.answered))

abbrev pub request_carried_of : Ends → Going → Bool → List ℕ → Left (Left Roof) → Left (Both Carried)
request_carried_of e g stays up x = left (both (request_arrived_of e g stays x.answer.answer) up x.answer.memory) x.memory

abbrev pub carry_request_of : Ends → Going → Bool → List ℕ → List ℕ → List ℕ → Left (Both Carried)
carry_request_of e g stays image up down = request_carried_of e g stays up (request_arrives e.receiver g.way e.down image up down)

abbrev pub response_arrived_of : Ends → Going → Bool → Indoors → Carried
response_arrived_of e g stays x = lossy_carried (indoor_ends e (after_arrival_of g.way stays) x) g (Some (Ok x.answered))

abbrev pub response_carried_of : Ends → Going → Bool → List ℕ → Left Indoors → Both Carried
response_carried_of e g stays down x = both (response_arrived_of e g stays x.answer) x.memory down

abbrev pub carry_response_of : Ends → Going → Bool → List ℕ → List ℕ → List ℕ → Both Carried
carry_response_of e g stays file up down = response_carried_of e g stays down (response_arrives e.indoor g.way e.up file up down)

-- Nothing was on its way, or the message is lost.
unfoldable pub miss_of : Ends → Going → Carried
miss_of e g = let m = missed_of g e.up e.down in lossy_carried (lossy_ends e.receiver e.indoor m.up m.down) g m.went

unfoldable pub go_of : Option Arrival → Ends → Going → List ℕ → List ℕ → List ℕ → List ℕ → Left (Both Carried)
go_of None e g file image up down = left (both (miss_of e g) up down) image
go_of (Some a) e g file image up down = pick g.rises (carry_request_of e g a.stays image up down) (left (carry_response_of e g a.stays file up down) image)

unfoldable pub carry_of : Ends → Luck → List ℕ → List ℕ → List ℕ → List ℕ → Left (Both Carried)
carry_of e luck file image up down =
    let g = goes_of luck e.up e.down in
    go_of g.fate e g file image up down

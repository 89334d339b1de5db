-- One turn: the request on its way to the receiver, and the answer, where there is one, to the indoor end.
use Rattle.std.specs.Prelude.{ℕ, List, ltb, eqb, length, take}
use Rattle.basis.specs.Pick.{pick}
use Rattle.basis.specs.Left.{Left}
use Rattle.receiver_state.specs.declared.verdict.Verdict.TheVariants as Ver
use Rattle.receiver_rules.specs.Request.{Effect, receiver_request_of}
use Rattle.receiver_state.specs.declared.session.Receiver.{Receiver}
use Rattle.indoor_rules.specs.Response.{indoor_response_of}
use Rattle.indoor_state.specs.declared.session.Indoor.{Indoor}
use Rattle.indoor_state.specs.Session.{IndoorOutcome}
use Rattle.clean.specs.declared.ends.Ends.{Ends}

abbrev pub ends_underway : Receiver → Indoor → ℕ → Ends
ends_underway receiver indoor underway = record { receiver = receiver; indoor = indoor; underway = underway }

-- Both ends and the buffer of requests.
pub record Answered : Type 0 where
  pub ends : Ends
  pub up : List ℕ

abbrev pub answered : Ends → List ℕ → Answered
answered e up = record { ends = e; up = up }

abbrev pub after_response_of : Receiver → Left IndoorOutcome → Answered
after_response_of receiver x = answered (ends_underway receiver x.answer.session x.answer.written) x.memory

unfoldable pub answer_of : Receiver → Indoor → List ℕ → List ℕ → List ℕ → ℕ → Answered
answer_of receiver indoor file up down written =
    pick (eqb written 0) (answered (ends_underway receiver indoor 0) up)
    (after_response_of receiver (indoor_response_of indoor file (take written down) up))

-- Both ends, the image and the two buffers.
pub record Turned : Type 0 where
  pub ends : Ends
  pub image : List ℕ
  pub up : List ℕ
  pub down : List ℕ

abbrev pub turned : Ends → List ℕ → List ℕ → List ℕ → Turned
turned e image up down = record { ends = e; image = image; up = up; down = down }

abbrev pub turned_of : Effect → Answered → Turned
turned_of x a = turned a.ends x.image a.up x.out

unfoldable pub delivered_of : Ends → List ℕ → List ℕ → List ℕ → List ℕ → Turned
delivered_of e file image up down =
    let x = receiver_request_of e.receiver image (take e.underway up) 0 Ver.Good down in
    turned_of x (answer_of x.outcome.session e.indoor file up x.out x.outcome.written)

-- Ends whose request is longer than the lent buffer stay as they are.
unfoldable pub clean_turn_of : Ends → List ℕ → List ℕ → List ℕ → List ℕ → Turned
clean_turn_of e file image up down = pick (ltb (length up) e.underway) (turned e image up down) (delivered_of e file image up down)

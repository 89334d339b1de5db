-- A message arrives at its end.
use Rattle.std.specs.Prelude.{ℕ, List}
use Rattle.basis.specs.Left.{Left, left}
use Rattle.receiver_state.specs.declared.session.Receiver.{Receiver}
use Rattle.receiver_state.specs.declared.verdict.Verdict.TheVariants.{Good}
use Rattle.receiver_rules.specs.Request.{Effect, receiver_request_of}
use Rattle.indoor_state.specs.declared.session.Indoor.{Indoor}
use Rattle.indoor_rules.specs.Response.{indoor_response_of}
use Rattle.luck.specs.Way.{message_on_way}
use Rattle.luck.specs.declared.way.Way.{Way}
use Rattle.lossy_ends.specs.Called.{Roof, roof_of, Indoors, indoors_left}

abbrev pub roof_heard : Way → Effect → Left (Left Roof)
roof_heard falling x = left (left (roof_of x.outcome falling) x.out) x.image

-- A request, with no wait and a good verdict.
unfoldable pub request_arrives : Receiver → Way → Way → List ℕ → List ℕ → List ℕ → Left (Left Roof)
request_arrives receiver w falling image up down = roof_heard falling (receiver_request_of receiver image (message_on_way w up) 0 Good down)

-- A response.
unfoldable pub response_arrives : Indoor → Way → Way → List ℕ → List ℕ → List ℕ → Left Indoors
response_arrives indoor w rising file up down = indoors_left rising (indoor_response_of indoor file (message_on_way w down) up)

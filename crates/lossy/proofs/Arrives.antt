-- Whatever arrives, is lost or comes again, both ends stay those of a session over a line.
use Prim.Native.Nat.{ℕ, ◌<◌}
use mathlib.Core.Bool.{Bool, true, false}
use mathlib.Core.Logic.{inl, ⊎_elim}
use mathlib.Core.Path.{◌≡◌, refl, sym, subst}
use mathlib.Core.List.{List, Memᴰ}
use native.Mathlib.Omega.{arith}
use borrow.Author.Tests.{eqb-false}
use lib.Dec.{eqb}
use Rattle.std.specs.Prelude.{Option, Some, None}
use Rattle.basis.specs.Pick.{pick, pick_all}
use Rattle.basis.specs.Left.{Left, left}
use Rattle.receiver_state.specs.declared.verdict.Verdict.TheVariants.{Good}
use Rattle.receiver_rules.specs.Request.{receiver_request_of}
use Rattle.receiver_rules.proofs.Written as receiver
use Rattle.indoor_rules.specs.Response.{indoor_response_of}
use Rattle.indoor_rules.proofs.Written as indoor
use Rattle.line.specs.Line.{to_receiver, to_indoor}
use Rattle.luck.specs.declared.way.Way.{Way}
use Rattle.luck.specs.declared.luck.Luck.{Luck}
use Rattle.luck.specs.declared.luck.Going.{Going}
use Rattle.luck.specs.declared.luck.Arrival.{Arrival}
use Rattle.luck.specs.declared.went.Missed.{Missed}
use Rattle.lossy_ends.specs.declared.ends.Ends.{Ends}
use Rattle.lossy.specs.declared.carry_call.Carried.{Carried}
use Rattle.lossy_ends.specs.Both.{Both, both}
use Rattle.luck.specs.Way.{no_message, message_on_way, rises_of, next_way, after_arrival_of}
use Rattle.luck.specs.Luck.{fate_of, goes_of}
use Rattle.luck.specs.Went.{missed_of}
use Rattle.lossy.specs.Arrive.{request_arrives, response_arrives}
use Rattle.lossy_ends.specs.Ends.{lossy_ends}
use Rattle.lossy.specs.Carry.{miss_of, carry_request_of, carry_response_of, go_of, carry_of}
use Rattle.lossy_ends.specs.Over.{OnItsWay, Over}
use Rattle.lossy_ends.proofs.Stays.{goes_on, above_goes, below_goes}

abbrev going : Luck → Bool → Way → Option Arrival → Going
going luck rises w fate = record { luck = luck; rises = rises; way = w; fate = fate }

-- A message that went may arrive once more.
behind : (w : Way) (buffer : List ℕ) (sent : List (List ℕ)) (stays : Bool) → OnItsWay w buffer sent → OnItsWay (after_arrival_of w stays) buffer sent
unfolding pick
behind w buffer sent true o = o
behind w buffer sent false o = inl refl

-- Where something is on its way, it is a message that was sent.
arrived : (w : Way) (buffer : List ℕ) (sent : List (List ℕ)) → OnItsWay w buffer sent → 0 < w.bytes → Memᴰ (message_on_way w buffer) sent
arrived w buffer sent o some = ⊎_elim (λ none. absurd (omega (arith, none))) (λ h. h) o

none_some : (a : Arrival) → None ≡ Some a → ⊥
none_some a e = let z : ◌≡◌ {A = ℕ} 0 1 = cc in omega arith

-- Only a message that is on its way arrives.
fate_some : (l : Luck) (w : Way) (a : Arrival) → fate_of l w ≡ Some a → 0 < w.bytes
unfolding fate_of
fate_some l w a =
    pick_all (λ (f : Option Arrival). f ≡ Some a → 0 < w.bytes) (eqb w.bytes 0) None _
    (λ _ e. absurd (none_some a e))
    (λ f _. let some = eqb-false w.bytes 0 f in omega arith)

module _ (file : List ℕ) (e : Ends) (image up down : List ℕ) (o : Over file e image up down) where
  abbrev OverCarried : Left (Both Carried) → Type 0
  OverCarried x = Over file x.answer.answer.ends x.memory x.answer.up x.answer.down

  -- The request on its way has arrived.
  request_over : (luck : Luck) (fate : Option Arrival) (stays : Bool) → 0 < e.up.bytes → OverCarried (carry_request_of e (going luck true e.up fate) stays image up down)
  unfolding request_arrives
  request_over luck fate stays some =
      let request = message_on_way e.up up in
      let x = receiver_request_of e.receiver image request 0 Good down in
      above_goes file e image up down o (after_arrival_of e.up stays) (behind e.up up o.requests stays o.rising) x.outcome x.image x.out
      (receiver.request_leads e.receiver image request 0 Good down)
      (to_receiver o.reached request (arrived e.up up o.requests o.rising some) image (inl refl) 0 Good down)

  -- The response on its way has arrived.
  response_over : (luck : Luck) (fate : Option Arrival) (stays : Bool) → 0 < e.down.bytes → OverCarried (left (carry_response_of e (going luck false e.down fate) stays file up down) image)
  unfolding response_arrives
  response_over luck fate stays some =
      let response = message_on_way e.down down in
      let x = indoor_response_of e.indoor file response up in
      below_goes file e image up down o (after_arrival_of e.down stays) (behind e.down down o.responses stays o.falling) x
      (indoor.response_leads e.indoor file response up)
      (to_indoor o.reached response (arrived e.down down o.responses o.falling some) file (inl refl) up)

  abbrev next : Bool → Way
  next rises = next_way e.up e.down rises

  arrive_over : (luck : Luck) (fate : Option Arrival) (rises : Bool) (a : Arrival) → 0 < (next rises).bytes
      → OverCarried (go_of (Some a) e (going luck rises (next rises) fate) file image up down)
  unfolding go_of pick
  arrive_over luck fate true a some = request_over luck fate a.stays some
  arrive_over luck fate false a some = response_over luck fate a.stays some

  -- Nothing was on its way, or the message is lost.
  abbrev OverMissed : Missed → Type 0
  OverMissed m = Over file (lossy_ends e.receiver e.indoor m.up m.down) image up down

  stays_over : (up' down' : Way) → OnItsWay up' up o.requests → OnItsWay down' down o.responses → Over file (lossy_ends e.receiver e.indoor up' down') image up down
  stays_over up' down' = goes_on file e image up down o (lossy_ends e.receiver e.indoor up' down') image up down o.requests o.responses o.reached

  miss_over : (g : Going) → OverMissed (missed_of g e.up e.down)
  unfolding missed_of
  miss_over g =
      pick_all OverMissed (eqb g.way.bytes 0) _ _ (λ _. stays_over e.up e.down o.rising o.falling)
      (λ _. pick_all OverMissed g.rises _ _ (λ _. stays_over no_message e.down (inl refl) o.falling) (λ _. stays_over e.up no_message o.rising (inl refl)))

  go_over : (luck : Luck) (then fate : Option Arrival) (rises : Bool) → ((a : Arrival) → fate ≡ Some a → 0 < (next rises).bytes)
      → OverCarried (go_of fate e (going luck rises (next rises) then) file image up down)
  unfolding go_of miss_of
  go_over luck then None rises some = miss_over (going luck rises (next rises) then)
  go_over luck then (Some a) rises some = arrive_over luck then rises a (some a refl)

  pub carry_over : (luck : Luck) (r : Carried) (image' up' down' : List ℕ) → left (both r up' down') image' ≡ carry_of e luck file image up down → Over file r.ends image' up' down'
  unfolding carry_of goes_of
  carry_over luck r image' up' down' did =
      let rises = rises_of e.up e.down in
      subst OverCarried (sym did) (go_over _ _ (fate_of luck (next rises)) rises (fate_some luck (next rises)))

-- A line that loses one message is one of the lines of demand 3: what is on its way was sent.
use Prim.Native.Nat.{ℕ, ◌≤◌, ◌<◌}
use mathlib.Core.Bool.{Bool, true, false}
use mathlib.Core.Logic.{◌⊎◌, inl, inr}
use mathlib.Core.Path.{◌≡◌, refl, sym, subst}
use mathlib.Core.List.{List, [], ◌∷◌, ◌++◌, Memᴰ}
use native.Mathlib.Omega.{arith}
use lib.Dec.{eqb}
use lib.ListN.{length, take, replicate, length-replicate}
use Rattle.std.proofs.lemmas.Bool.{cases_lt}
use Rattle.basis.specs.Pick.{pick}
use Rattle.lent.specs.Sent.{with_sent}
use Rattle.wire.specs.Codes.{longest}
use Rattle.wire.specs.declared.response.Identity.{Identity}
use Rattle.receiver_state.specs.declared.verdict.Verdict.TheVariants as Ver
use Rattle.receiver_rules.specs.Request.{receiver_request_of}
use Rattle.receiver_rules.specs.Time.{receiver_time_of}
use Rattle.indoor_state.specs.declared.plan.Release.{Release}
use Rattle.indoor_rules.specs.Response.{indoor_response_of}
use Rattle.indoor_rules.specs.Time.{indoor_time_of}
use Rattle.line.specs.Line.{Reached, to_receiver, to_indoor, at_receiver, at_indoor}
use Rattle.line.specs.Line as line
use Rattle.lost.specs.Lost.{Going, going, Timed, sends, older, Younger, Next, rises, falls, loses_up, loses_down, Lossy, begins, goes, passes}

-- Each of these was sent.
abbrev Sent : List (List ℕ) → List Going → Type 0
Sent sent [] = Unit
Sent sent (g ∷ on) = Memᴰ g.message sent × Sent sent on

sent_older : (sent : List (List ℕ)) (on : List Going) → Sent sent on → Sent sent (older on)
sent_older sent [] h = tt
sent_older sent (g ∷ on) h = (h.0, sent_older sent on h.1)

sent_one : (m : List ℕ) (sent : List (List ℕ)) (on : List Going) → Sent sent on → Sent (m ∷ sent) (on ++ going m 0 ∷ [])
sent_one m sent [] h = (Memᴰ.head refl, tt)
sent_one m sent (g ∷ on) h = (Memᴰ.tail h.0, sent_one m sent on h.1)

-- What a call wrote was sent too.
sent_either : (t : Bool) (m : List ℕ) (sent : List (List ℕ)) (on : List Going) → Sent sent on → Sent (pick t sent (m ∷ sent)) (pick t on (on ++ going m 0 ∷ []))
unfolding pick
sent_either true m sent on h = h
sent_either false m sent on h = sent_one m sent on h

sent_on : (written : ℕ) (out : List ℕ) (sent : List (List ℕ)) (on : List Going) → Sent sent on → Sent (with_sent written out sent) (sends on written out)
sent_on written out sent on h = sent_either (eqb written 0) (take written out) sent on h

sent_first : (sent : List (List ℕ)) (on later : List Going) (g : Going) → on ≡ g ∷ later → Sent sent on → Memᴰ g.message sent × Sent sent later
sent_first sent on later g e h = subst (Sent sent) e h

module _ (file memory : List ℕ) (release : Release) (identity : Identity) (up down : ℕ) where
  pub record OnLine (l : Timed) : Type 0 where
    pub reached : Reached file memory release identity l.world
    pub rising : Sent l.world.requests l.up
    pub falling : Sent l.world.responses l.down

  goes_on : {l then : Timed} → OnLine l → Next file memory release identity up down l then → OnLine then
  goes_on {l = l} o (rises request age later e out room) =
      let first = sent_first l.world.requests l.up later _ e o.rising in
      let call = receiver_request_of l.world.receiver l.world.image request 0 Ver.Good out in
      record {
        reached = to_receiver o.reached request first.0 l.world.image (inl refl) 0 Ver.Good out;
        rising = first.1;
        falling = sent_on call.outcome.written call.out l.world.responses l.down o.falling;
      }
  goes_on {l = l} o (falls response age later e out room) =
      let first = sent_first l.world.responses l.down later _ e o.falling in
      let call = indoor_response_of l.world.indoor file response out in
      record {
        reached = to_indoor o.reached response first.0 file (inl refl) out;
        rising = sent_on call.answer.written call.memory l.world.requests l.up o.rising;
        falling = first.1;
      }
  goes_on {l = l} o (loses_up g later e whole) = record { reached = o.reached; rising = (sent_first l.world.requests l.up later g e o.rising).1; falling = o.falling }
  goes_on {l = l} o (loses_down g later e whole) = record { reached = o.reached; rising = o.rising; falling = (sent_first l.world.responses l.down later g e o.falling).1 }

  pub lossy_reached : {limit resends limit' resends' ms : ℕ} {l : Timed} → Lossy file memory release identity up down limit resends limit' resends' ms l → OnLine l
  lossy_reached {limit = limit} {resends = resends} {limit' = limit'} {resends' = resends'} (begins w f) =
      record { reached = line.begins limit resends limit' resends' w f; rising = (subst (Memᴰ _) (sym f.requests) (Memᴰ.head refl), tt); falling = tt }
  lossy_reached (goes h then next) = goes_on (lossy_reached h) next
  lossy_reached (passes {l = l} h young young' out out' room room') =
      let o = lossy_reached h in
      let r = receiver_time_of l.world.receiver 1 out in
      let i = indoor_time_of l.world.indoor file 1 out' in
      record {
        reached = at_indoor (at_receiver o.reached 1 out) file (inl refl) 1 out';
        rising = sent_on i.answer.written i.memory l.world.requests (older l.up) (sent_older l.world.requests l.up o.rising);
        falling = sent_on r.answer.written r.memory l.world.responses (older l.down) (sent_older l.world.responses l.down o.falling);
      }

  -- No message is too old for another millisecond, or there is one that can arrive.
  waits_on_lem : (most : ℕ) (on : List Going) → Younger most on ⊎ ((g : Going) × (later : List Going) × (on ≡ g ∷ later))
  waits_on_lem most [] = inl tt
  waits_on_lem most (g ∷ on) = first (cases_lt g.age most) (waits_on_lem most on)
    where
      first : (g.age < most) ⊎ (most ≤ g.age) → Younger most on ⊎ ((h : Going) × (later : List Going) × (on ≡ h ∷ later))
          → Younger most (g ∷ on) ⊎ ((h : Going) × (later : List Going) × (g ∷ on ≡ h ∷ later))
      first (inl low) (inl young) = inl (low, young)
      first (inl low) (inr _) = inr (g, on, refl)
      first (inr _) _ = inr (g, on, refl)

  abbrev lent : List ℕ
  lent = replicate 260 0

  long : longest ≤ length lent
  long = omega (arith, length-replicate {A = ℕ} 260 0)

  module _ (l : Timed) where
    abbrev GoesOn : Type 0
    GoesOn = ((then : Timed) × Next file memory release identity up down l then) ⊎ (Younger up l.up × Younger down l.down)

    either_on : Younger up l.up ⊎ ((g : Going) × (later : List Going) × (l.up ≡ g ∷ later)) → Younger down l.down ⊎ ((g : Going) × (later : List Going) × (l.down ≡ g ∷ later)) → GoesOn
    either_on (inr first) _ = inl (_, rises first.0.message first.0.age first.1 first.2 lent long)
    either_on (inl young) (inr first) = inl (_, falls first.0.message first.0.age first.1 first.2 lent long)
    either_on (inl young) (inl young') = inr (young, young')

    pub timed_goes_on : GoesOn
    timed_goes_on = either_on (waits_on_lem up l.up) (waits_on_lem down l.down)

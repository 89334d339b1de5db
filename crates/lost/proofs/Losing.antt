-- The one message is lost: from one station to the next.
use Prim.Native.Nat.{ℕ, ◌+◌}
use mathlib.Core.Bool.{true, false}
use mathlib.Core.Path.{◌≡◌, refl, sym, ◌∙◌, ap}
use mathlib.Core.List.{List, [], ◌∷◌, ◌++◌}
use native.Mathlib.Omega.{arith}
use Rattle.receiver_state.specs.declared.answer.Answer.TheVariants.{Asking}
use Rattle.receiver_state.specs.declared.phase.Phase as receiver
use Rattle.receiver_state.specs.declared.phase.Phase.TheVariants.{Transfer, Good}
use Rattle.receiver_state.specs.declared.session.Receiver.{Receiver}
use Rattle.indoor_state.specs.declared.phase.Phase as indoor
use Rattle.indoor_state.specs.declared.phase.Phase.TheVariants as In
use Rattle.indoor_state.specs.declared.session.Indoor.{Indoor}
use Rattle.lost.specs.Lost.{Going, going, Timed, timed, Bounds}
use Rattle.lost.proofs.Carried.{Given, roof, indoors, At, later_same}
use Rattle.lost.proofs.Arriving.{no_message}
use Rattle.lost.proofs.Ticks.{was_lost}
use Rattle.lost.proofs.Stations.{begun, Cost, begins, next, good, Station, identifying, identified, unidentified, initiating, offered, unoffered, block, receipt, unreceived, validating, succeeded, unvalidated, finished}

module _ (x : Given) (bounds : Bounds x.outdoor.limit x.outdoor.resends x.indoor.limit x.indoor.resends x.up x.down)
    (ms : ℕ) (l : Timed) (whole : l.lost ≡ false) (g : Going) (later : List Going) where
  -- Both ends stay as they are.
  stays : {r r' : Receiver} {i i' : Indoor} {up down up' down' up'' down'' : List Going} → At x l r i up down
      → r ≡ r' → i ≡ i' → up' ≡ up'' → down' ≡ down'' → At x (timed l.world up' down' true) r' i' up'' down''
  stays at r i rises falls = record { receiver = at.receiver ∙ r; indoor = at.indoor ∙ i; rising = rises; falling = falls }

  -- Before the loss no resend was made.
  unsent : (p : indoor.Phase) (t sent cost : ℕ) → Cost x l.lost sent cost → indoors x p t sent ≡ indoors x p t 0
  unsent p t sent cost c = ap (λ (m : ℕ). indoors x p t m) (c.none whole).0

  unmade : (p : receiver.Phase) (s made cost : ℕ) → Cost x l.lost made cost → roof x p s made ≡ roof x p s 0
  unmade p s made cost c = ap (λ (m : ℕ). roof x p s m) (c.none whole).0

  none_late : {A : Type 0} (late : List Going) → l.down ≡ late → late ≡ [] → l.down ≡ g ∷ later → A
  none_late late falls none e = no_message l.down later g (falls ∙ none) e

  -- A response that was alone on its way.
  none_left : (late : List Going) (m : List ℕ) (a : ℕ) → l.down ≡ late ++ going m a ∷ [] → late ≡ [] → l.down ≡ g ∷ later → later ≡ []
  none_left late m a falls none e = later_same g (going m a) later [] (sym e ∙ falls ∙ ap (λ (on : List Going). on ++ going m a ∷ []) none)

  pub up_lost : l.up ≡ g ∷ later → Station x ms l → Station x ms (timed l.world later l.down true)
  up_lost e (identifying s made a sent cost at young clock c) =
      let heals = bounds.heals in
      let free = (c.none whole).1 in
      unidentified s made a (stays at refl (unsent In.Identify a sent cost c) (later_same g _ later [] (sym e ∙ at.rising)) at.falling) (omega arith) (omega arith) refl
  up_lost e (identified s made t sent a cost at young since clock c) = no_message l.up later g at.rising e
  up_lost e (unidentified s made t at low clock lost) = was_lost l.lost lost whole
  up_lost e (initiating p s made a sent cost late opens at slow clean young clock c) =
      let heals = bounds.heals in
      let free = (c.none whole).1 in
      unoffered p s made a late opens (stays at refl (unsent (In.Initiate 0) a sent cost c) (later_same g _ later [] (sym e ∙ at.rising)) at.falling) slow (omega arith) (omega arith) refl
  up_lost e (offered t sent a cost late at slow clean young since clock c) = no_message l.up later g at.rising e
  up_lost e (unoffered p s made t late opens at slow low clock lost) = was_lost l.lost lost whole
  up_lost e (block j s made a asked cost p emptied at due most short last young since clock c) =
      let prompt = bounds.prompt in
      let free = (c.none whole).1 in
      unreceived (Transfer p) (Asking 0 j) (j + 2) s a asked emptied (next p emptied j due most short)
      (stays at (unmade (Transfer p) s made cost c) refl (later_same g _ later [] (sym e ∙ at.rising)) at.falling) (omega arith) (omega arith) (omega arith) refl
  up_lost e (receipt p due k made t a asked cost emptied owes at young since clean clock c) = no_message l.up later g at.rising e
  up_lost e (unreceived p due k s t asked emptied owes at low since clock lost) = was_lost l.lost lost whole
  up_lost e (validating p s made a sent cost late answers at slow clean young clock c) =
      let heals = bounds.heals in
      let free = (c.none whole).1 in
      unvalidated p s made a late (clean whole).1 (stays at refl (unsent (In.Validate 0) a sent cost c) (later_same g _ later [] (sym e ∙ at.rising)) at.falling) slow (omega arith) (omega arith) refl
  up_lost e (succeeded accepted s made t sent a cost late at slow clean young since clock c) = no_message l.up later g at.rising e
  up_lost e (unvalidated p s made t late answers at slow low clock lost) = was_lost l.lost lost whole
  up_lost e (finished accepted s made t sent at) = no_message l.up later g at.rising e

  pub down_lost : l.down ≡ g ∷ later → Station x ms l → Station x ms (timed l.world l.up later true)
  down_lost e (identifying s made a sent cost at young clock c) = no_message l.down later g at.falling e
  down_lost e (identified s made t sent a cost at young since clock c) =
      let heals = bounds.heals in
      let free = (c.none whole).1 in
      unidentified s made t (stays at refl (unsent In.Identify t sent cost c) at.rising (later_same g _ later [] (sym e ∙ at.falling))) (omega arith) (omega arith) refl
  down_lost e (unidentified s made t at low clock lost) = was_lost l.lost lost whole
  down_lost e (initiating p s made a sent cost late opens at slow clean young clock c) = none_late late at.falling (clean whole).0 e
  down_lost e (offered t sent a cost late at slow clean young since clock c) =
      let heals = bounds.heals in
      let free = (c.none whole).1 in
      unoffered (Transfer (begun x)) a 0 t [] begins
      (stays at refl (unsent (In.Initiate 0) t sent cost c) at.rising (none_left late _ a at.falling (clean whole) e)) tt (omega arith) (omega arith) refl
  down_lost e (unoffered p s made t late opens at slow low clock lost) = was_lost l.lost lost whole
  down_lost e (block j s made a asked cost p emptied at due most short last young since clock c) = no_message l.down later g at.falling e
  down_lost e (receipt p due k made t a asked cost emptied owes at young since clean clock c) =
      let prompt = bounds.prompt in
      let free = (c.none whole).1 in
      let early = clean whole in
      unreceived p due k a t asked emptied owes
      (stays at (unmade p a made cost c) refl at.rising (later_same g _ later [] (sym e ∙ at.falling))) (omega arith) (omega arith) (omega arith) refl
  down_lost e (unreceived p due k s t asked emptied owes at low since clock lost) = was_lost l.lost lost whole
  down_lost e (validating p s made a sent cost late answers at slow clean young clock c) = none_late late at.falling (clean whole).0 e
  down_lost e (succeeded accepted s made t sent a cost late at slow clean young since clock c) =
      let heals = bounds.heals in
      let free = (c.none whole).1 in
      unvalidated (Good accepted) s made t [] (good accepted s made (x.down + t))
      (stays at refl (unsent (In.Validate 0) t sent cost c) at.rising (none_left late _ a at.falling (clean whole) e)) tt (omega arith) (omega arith) refl
  down_lost e (unvalidated p s made t late answers at slow low clock lost) = was_lost l.lost lost whole
  down_lost e (finished accepted s made t sent at) = no_message l.down later g at.falling e

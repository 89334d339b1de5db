-- After a call of either end both are still the ends of a session over the line, so that demand 3 holds of them.
use Prim.Native.Nat.{ℕ}
use mathlib.Core.Bool.{Bool, true, false}
use mathlib.Core.Logic.{inr}
use mathlib.Core.Path.{◌≡◌, refl, sym, ◌∙◌, ap, subst}
use mathlib.Core.List.Memᴰ
use mathlib.Core.List.{List, [], ◌∷◌}
use native.Mathlib.Omega.{arith}
use borrow.Author.Tests.{eqb-true}
use lib.Dec.{eqb}
use lib.ListN.{length, take}
use Rattle.basis.specs.Pick.{pick}
use Rattle.basis.specs.Left.{Left}
use Rattle.lent.specs.Written.{written_into}
use Rattle.lent.specs.Sent.{with_sent}
use Rattle.receiver_state.specs.Phase.{accepted_of}
use Rattle.receiver_state.specs.declared.phase.Phase.{Phase}
use Rattle.receiver_rules.specs.Respond.{receiver_bytes_of}
use Rattle.receiver_state.specs.Session.{Outcome as ReceiverOutcome}
use Rattle.receiver_rules.proofs.Written as receiver
use Rattle.indoor_state.specs.declared.phase.Phase.TheVariants.{Done}
use Rattle.indoor_rules.specs.Send.{indoor_bytes_of}
use Rattle.indoor_state.specs.Session.{IndoorOutcome}
use Rattle.indoor_rules.proofs.Written as indoor
use Rattle.line.specs.Line.{Reached}
use Rattle.line.proofs.Demand3.{demand3}
use Rattle.luck.specs.declared.way.Way.{Way}
use Rattle.lossy_ends.specs.declared.ends.Ends.{Ends}
use Rattle.luck.specs.Way.{way, after_write_of}
use Rattle.lossy_ends.specs.Ends.{lossy_ends}
use Rattle.lossy_ends.specs.Over.{lossy_world, OnItsWay, Over, Same, Delivered}

module _ (w : Way) (out : List ℕ) (sent : List (List ℕ)) (o : OnItsWay w out sent) (bytes out' : List ℕ) (written : ℕ)
    (first : out' ≡ written_into bytes out) (count : written ≡ length bytes) where
  unwritten : (s : List ℕ) → out' ≡ written_into s out → written ≡ length s → written ≡ 0 → out' ≡ out
  unwritten [] f n z = f
  unwritten (x ∷ s) f n z = absurd (omega (arith, n, z))

  after_by : (t : Bool) → eqb written 0 ≡ t → OnItsWay (pick t w (way written false)) out' (pick t sent (take written out' ∷ sent))
  unfolding pick
  after_by true t = subst (λ (l : List ℕ). OnItsWay w l sent) (sym (unwritten bytes first count (eqb-true written 0 t))) o
  after_by false t = inr (Memᴰ.head refl)

  -- What a call wrote is on its way; where it wrote nothing, what was on its way before is on it still.
  after : OnItsWay (after_write_of w written) out' (with_sent written out' sent)
  after = after_by (eqb written 0) refl

module _ (file : List ℕ) (e : Ends) (image up down : List ℕ) (o : Over file e image up down) where
  -- The session goes on with these ends and what they sent.
  pub goes_on : (e' : Ends) (image' up' down' : List ℕ) (requests responses : List (List ℕ))
      → Reached file o.memory o.release o.identity (lossy_world e' image' requests responses)
      → OnItsWay e'.up up' requests → OnItsWay e'.down down' responses → Over file e' image' up' down'
  goes_on e' image' up' down' requests responses reached rising falling = record {
    memory = o.memory;
    release = o.release;
    identity = o.identity;
    wide = o.wide;
    requests = requests;
    responses = responses;
    reached = reached;
    rising = rising;
    falling = falling;
  }

  -- The receiver has written what its answer says, and so has the indoor end.
  pub above_goes : (rising : Way) → OnItsWay rising up o.requests → (x : ReceiverOutcome) (image' down' : List ℕ) → receiver.Leads e.receiver down x down'
      → Reached file o.memory o.release o.identity
      (lossy_world (lossy_ends x.session e.indoor rising (after_write_of e.down x.written)) image' o.requests (with_sent x.written down' o.responses))
      → Over file (lossy_ends x.session e.indoor rising (after_write_of e.down x.written)) image' up down'
  above_goes rising on x image' down' l reached =
      goes_on (lossy_ends x.session e.indoor rising (after_write_of e.down x.written)) image' up down' o.requests (with_sent x.written down' o.responses) reached on
      (after e.down down o.responses o.falling (receiver_bytes_of e.receiver x.answer) down' x.written l.first l.written)

  pub below_goes : (falling : Way) → OnItsWay falling down o.responses → (x : Left IndoorOutcome) → indoor.Leads e.indoor.plan file up x
      → Reached file o.memory o.release o.identity
      (lossy_world (lossy_ends e.receiver x.answer.session (after_write_of e.up x.answer.written) falling) image (with_sent x.answer.written x.memory o.requests) o.responses)
      → Over file (lossy_ends e.receiver x.answer.session (after_write_of e.up x.answer.written) falling) image x.memory down
  below_goes falling on x l reached =
      goes_on (lossy_ends e.receiver x.answer.session (after_write_of e.up x.answer.written) falling) image x.memory down
      (with_sent x.answer.written x.memory o.requests) o.responses reached
      (after e.up up o.requests o.rising (indoor_bytes_of e.indoor.plan file x.answer.answer) x.memory x.answer.written l.first l.written)
      on

  -- Demand 3: when the indoor end reports done, the receiver has marked the file good and holds it.
  pub done_delivered : e.indoor.state.phase ≡ Done → Delivered file e.receiver image
  done_delivered done =
      let d = demand3 file o.memory o.release o.identity o.wide in
      let g = d.done_is_good (lossy_world e image o.requests o.responses) o.reached done in
      record { accepted = g.accepted; good = g.good; counted = g.holds.counted; bytes = g.holds.bytes }

-- The image of a file that is delivered is the file.
pub delivered_same : (file : List ℕ) (e : Ends) (image : List ℕ) → Delivered file e.receiver image → Same file e image
delivered_same file e image d = (ap (λ (p : Phase). (accepted_of p).bytes) d.good ∙ d.counted, d.bytes)

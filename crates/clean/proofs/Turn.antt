-- A turn of the code is a turn of the definition, and a response lies within its buffer.
use Prim.Native.Nat.{ℕ, ◌≤◌}
use mathlib.Core.Path.{◌≡◌, refl, sym, ◌∙◌, ap, subst}
use mathlib.Core.List.{List, []}
use native.Mathlib.Omega.{arith}
use borrow.Author.Tests.{le-ltb}
use lib.ListN.{length, take}
use Rattle.basis.specs.Pick.{pick}
use Rattle.wire.specs.Header.{headed}
use Rattle.wire.specs.Request as message
use Rattle.wire.specs.declared.request.Request.{Request}
use Rattle.receiver_state.specs.declared.verdict.Verdict.{Verdict}
use Rattle.receiver_state.specs.declared.verdict.Verdict.TheVariants as Ver
use Rattle.receiver_rules.specs.Request.{Effect, effect, receiver_request_of}
use Rattle.receiver_state.specs.declared.session.Receiver.{Receiver}
use Rattle.receiver_state.specs.Session.{Outcome}
use Rattle.receiver_rules.proofs.Walk.{request_walk}
use Rattle.receiver_rules.proofs.Written.{request_within}
use Rattle.indoor_state.specs.declared.session.Indoor.{Indoor}
use Rattle.clean.specs.Turn.{ends_underway, answered, answer_of, turned, turned_of, delivered_of, clean_turn_of}
use Rattle.clean.specs.declared.ends.Ends.{Ends}
use Rattle.std.specs.Prelude.{Ok}

-- The receiver never writes more bytes than its buffer has, whatever the request is.
pub answer_fits : (r : Receiver) (image request : List ℕ) (readiness : ℕ) (verdict : Verdict) (down : List ℕ) (heard : Outcome) (image' down' : List ℕ)
    → effect heard image' down' ≡ receiver_request_of r image request readiness verdict down → heard.written ≤ length down'
answer_fits r image request readiness verdict down heard image' down' did =
    subst (λ (x : Effect). x.outcome.written ≤ length x.out) (sym did) (request_within r image request readiness verdict down)

pub delivers : (e : Ends) (file image up down : List ℕ) (heard : Outcome) (image' down' : List ℕ)
    → effect heard image' down' ≡ receiver_request_of e.receiver image (take e.underway up) 0 Ver.Good down
    → (e' : Ends) (up' : List ℕ) → answered e' up' ≡ answer_of heard.session e.indoor file up down' heard.written
    → turned e' image' up' down' ≡ delivered_of e file image up down
unfolding delivered_of
delivers e file image up down heard image' down' did e' up' answers =
    ap (turned_of (effect heard image' down')) answers
    ∙ ap (λ (x : Effect). turned_of x (answer_of x.outcome.session e.indoor file up x.out x.outcome.written)) did

none_read : (q : Request) → message.parsed_request_of [] ≡ Ok q → ⊥
unfolding message.parsed_request_of headed pick
none_read q e = cc

module _ (r : Receiver) (i : Indoor) (file image up down : List ℕ) where
  -- A line at rest stays as it is.
  pub rest_stays : clean_turn_of (ends_underway r i 0) file image up down ≡ turned (ends_underway r i 0) image up down
  unfolding clean_turn_of delivered_of answer_of pick
  rest_stays =
      rw (le-ltb (length up) 0 (omega arith))
      (request_walk r image [] 0 Ver.Good down
      (λ x. turned_of x (answer_of x.outcome.session i file up x.out x.outcome.written) ≡ turned (ends_underway r i 0) image up down)
      refl refl refl refl
      (λ q _ _ e. absurd (none_read q e)))

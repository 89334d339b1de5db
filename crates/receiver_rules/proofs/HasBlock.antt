-- A request whose block a step puts into the image is a DATA request: it has the four bytes before the block.
use Prim.Native.Nat.{ℕ}
use mathlib.Core.Path.{◌≡◌, ◌∙◌, ap}
use mathlib.Core.List.{List}
use Rattle.wire.specs.Request as message
use Rattle.wire.proofs.Sizes.{request_sized}
use Rattle.wire.specs.declared.request.Request.{Request}
use Rattle.wire.specs.declared.request.Request.TheVariants as Req
use Rattle.receiver_rules.specs.Decide.{receiver_decide_of}
use Rattle.receiver_rules.proofs.Owes.{Puts, decide_row}
use Rattle.receiver_state.specs.declared.phase.Phase.{Phase}
use Rattle.receiver_state.specs.declared.phase.Phase.TheVariants.{Idle, Transfer, Await, Good}
use Rattle.receiver_state.specs.declared.verdict.Verdict.{Verdict}
use Rattle.std.specs.Prelude.{Option, Some, None, Ok}
use Rattle.receiver_rules.specs.Request.{HasBlock}

module _ (m : List ℕ) (valid : Request) (capacity : ℕ) (e : message.parsed_request_of m ≡ Ok valid) where
  put_has : (before then : Phase) (s : Option ℕ) → Puts before valid capacity then s → HasBlock s m
  put_has before then None h = tt
  put_has Idle then (Some number) h = absurd h
  put_has (Transfer p) then (Some number) h = (request_sized m (Req.Data number h.size) (e ∙ ap (λ x. Ok x) h.is_data)).0
  put_has (Await a) then (Some number) h = absurd h
  put_has (Good a) then (Some number) h = absurd h

  pub decide_has : (phase : Phase) (readiness : ℕ) (verdict : Verdict) → HasBlock (receiver_decide_of phase valid capacity readiness verdict).store m
  decide_has phase readiness verdict =
      let s = receiver_decide_of phase valid capacity readiness verdict in
      put_has phase s.phase s.store (decide_row phase valid capacity readiness verdict).puts

-- When the image changes, and where (01, The receiver's phases: DATA).
use Prim.Native.Nat.{ℕ, ◌+◌, ◌*◌, ◌<◌, ◌≤◌}
use mathlib.Core.Bool.{false}
use mathlib.Core.Logic.{◌⊎◌, inl, inr}
use mathlib.Core.Path.{◌≡◌, refl, ◌∙◌, ap}
use mathlib.Core.List.{List, ◌++◌}
use native.Mathlib.Omega.{arith}
use lib.Dec.{ltb}
use lib.ListN.{length, take, drop}
use Rattle.lent.proofs.Laws.{put_fits, put_length, pasted_there, pasted_behind}
use Rattle.wire.specs.Request as message
use Rattle.wire.proofs.Sizes.{request_sized}
use Rattle.wire.specs.declared.request.Request.{Request}
use Rattle.wire.specs.declared.request.Request.TheVariants as Req
use Rattle.receiver_state.specs.Phase.{accepted_counts}
use Rattle.receiver_rules.specs.Decide.{receiver_progress, receiver_decide_of}
use Rattle.receiver_rules.proofs.Owes.{Taken, Puts, decide_row}
use Rattle.receiver_state.specs.declared.phase.Progress.{Progress}
use Rattle.receiver_state.specs.declared.phase.Phase.{Phase}
use Rattle.receiver_state.specs.declared.phase.Phase.TheVariants.{Idle, Transfer, Await, Good}
use Rattle.receiver_state.specs.declared.verdict.Verdict.{Verdict}
use Rattle.std.specs.Prelude.{Option, Some, None, Ok}
use Rattle.receiver_rules.specs.Request.{image_after}
use Rattle.receiver_state.specs.declared.session.Receiver.{Receiver}
use Rattle.receiver_rules.proofs.Walk.{request_walk}
use Rattle.receiver_rules.proofs.Laws.{after, next}

-- A taken block, and the image that it leaves: the block in its place, and every byte before and behind it as it was.
pub record Stored (before : Phase) (capacity : ℕ) (request image image' : List ℕ) (then : Phase) : Type 0 where
  pub p : Progress
  pub transfer : before ≡ Transfer p
  pub number : ℕ
  pub size : ℕ
  pub parsed : message.parsed_request_of request ≡ Ok (Req.Data number size)
  pub sized : length (drop 4 request) ≡ size
  pub due : number ≡ p.accepted.blocks
  pub whole : p.short ≡ false
  pub some : 0 < size
  pub most : size ≤ 256
  pub low : number ≤ 4095
  pub lent : length image ≡ capacity
  pub fits : 256 * number + size ≤ capacity
  pub there : take (256 * number + size) image' ≡ take (256 * number) image ++ drop 4 request
  pub behind : drop (256 * number + size) image' ≡ drop (256 * number + size) image
  pub counted : then ≡ Transfer (receiver_progress (accepted_counts (number + 1) (256 * number + size)) (ltb size 256))

module _ (image request : List ℕ) (capacity : ℕ) (room : length image ≡ capacity) where
  pub taken_stored : (p : Progress) (q : Request) (number : ℕ) (then : Phase) → message.parsed_request_of request ≡ Ok q → Taken p q capacity number then
      → Stored (Transfer p) capacity request image (image_after (Some number) image request) then
  unfolding image_after
  taken_stored p q number then e t =
      let parsed : message.parsed_request_of request ≡ Ok (Req.Data number t.size) = e ∙ ap (λ x. Ok x) t.is_data in
      let size = request_sized request (Req.Data number t.size) parsed in
      let short = size.2 in
      let fits = t.fits in
      let at : 256 * number ≤ length image = omega arith in
      let put = ap (λ x. x.memory) (put_fits image (256 * number) (drop 4 request) (omega arith)) in
      rw put
      (record {
        p = p;
        transfer = refl;
        number = number;
        size = t.size;
        parsed = parsed;
        sized = size.1;
        due = t.due;
        whole = t.whole;
        some = t.some;
        most = omega arith;
        low = t.low;
        lent = room;
        fits = fits;
        there = rw (← size.1) (pasted_there image (256 * number) (drop 4 request) at);
        behind = rw (← size.1) (pasted_behind image (256 * number) (drop 4 request) at);
        counted = t.counted;
      })

  store_image : (before : Phase) (q : Request) (then : Phase) (s : Option ℕ) → message.parsed_request_of request ≡ Ok q → Puts before q capacity then s
      → (image_after s image request ≡ image) ⊎ Stored before capacity request image (image_after s image request) then
  unfolding image_after
  store_image before q then None e h = inl refl
  store_image Idle q then (Some number) e h = absurd h
  store_image (Transfer p) q then (Some number) e h = inr (taken_stored p q number then e h)
  store_image (Await a) q then (Some number) e h = absurd h
  store_image (Good a) q then (Some number) e h = absurd h

store_length : (image request : List ℕ) (s : Option ℕ) → length (image_after s image request) ≡ length image
unfolding image_after
store_length image request None = refl
store_length image request (Some number) = put_length image (256 * number) (drop 4 request)

module _ (r : Receiver) (image request : List ℕ) (readiness : ℕ) (verdict : Verdict) (out : List ℕ) where
  -- The image changes only when a non-empty block with the due number that fits is taken, and then only in that block's place.
  pub image_changes : ((after r image request readiness verdict out).image ≡ image)
      ⊎ Stored r.phase r.capacity request image (after r image request readiness verdict out).image (next r image request readiness verdict out).phase
  image_changes =
      request_walk r image request readiness verdict out
      (λ x. (x.image ≡ image) ⊎ Stored r.phase r.capacity request image x.image x.outcome.session.phase)
      (inl refl) (inl refl) (inl refl) (inl refl)
      (λ q room _ e.
      let s = receiver_decide_of r.phase q r.capacity readiness verdict in
      store_image image request r.capacity room r.phase q s.phase s.store e (decide_row r.phase q r.capacity readiness verdict).puts)

  -- The image is neither longer nor shorter afterwards.
  pub image_length : length (after r image request readiness verdict out).image ≡ length image
  image_length =
      request_walk r image request readiness verdict out (λ x. length x.image ≡ length image)
      refl refl refl refl
      (λ q _ _ _. store_length image request (receiver_decide_of r.phase q r.capacity readiness verdict).store)

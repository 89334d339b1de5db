-- What demand 3 needs of one call: where every DATA request carries the file's block of its number, the accepted blocks are the file's first
-- ones, in Await and Good all of them; and no byte behind the file's length is touched.
use Prim.Native.Nat.{ℕ, ◌+◌, ◌*◌, ◌-◌, ◌≤◌}
use mathlib.Core.Bool.{Bool, true, false}
use mathlib.Core.Logic.{◌⊎◌, inl, inr}
use mathlib.Core.Path.{◌≡◌, refl, sym, ◌∙◌, ap}
use mathlib.Core.List.{List, [], ◌∷◌, ◌++◌}
use native.Mathlib.Omega.{arith}
use borrow.Author.Tests.{eqb-true, eqb-false}
use lib.Dec.{eqb}
use lib.ListN.{length, take, drop}
use lib.Seq.{take-add, take_all, drop-drop}
use Rattle.basis.specs.Pick.{pick, pick_all}
use Rattle.image.specs.Blocks.{block_at}
use Rattle.image.proofs.Laws.{block_length}
use Rattle.wire.specs.Request as message
use Rattle.wire.proofs.Sizes.{request_sized}
use Rattle.wire.specs.declared.request.Request.{Request}
use Rattle.wire.specs.declared.request.Request.TheVariants as Req
use Rattle.receiver_state.specs.Phase.{accepted_of}
use Rattle.receiver_state.specs.Answer.{receiver_number_of}
use Rattle.receiver_state.specs.declared.phase.Accepted.{Accepted}
use Rattle.receiver_state.specs.declared.phase.Progress.{Progress}
use Rattle.receiver_state.specs.declared.phase.Phase.{Phase}
use Rattle.receiver_state.specs.declared.phase.Phase.TheVariants.{Idle, Transfer, Await, Good}
use Rattle.receiver_rules.specs.Decide.{receiver_decide_of}
use Rattle.receiver_rules.proofs.DataOrders.{answers_22}
use Rattle.receiver_state.specs.declared.verdict.Verdict.{Verdict}
use Rattle.receiver_state.specs.declared.step.Step.{Step}
use Rattle.receiver_rules.proofs.Elapsed.{Lasts}
use Rattle.receiver_rules.specs.Time.{receiver_time_of}
use Rattle.receiver_rules.specs.History.{accepts_block, forgets, taken_by, taken_after, in_order, Reached, asks, passes}
use Rattle.receiver_state.specs.declared.session.Receiver.{Receiver}
use Rattle.receiver_rules.proofs.Walk.{request_walk}
use Rattle.receiver_rules.proofs.Laws.{after, next}
use Rattle.receiver_rules.proofs.Entering.{Validated, Closes, good_entered, await_entered}
use Rattle.receiver_rules.proofs.Stored.{Stored, image_changes}
use Rattle.receiver_rules.proofs.TimeLaws.{time_lasts}
use Rattle.receiver_rules.proofs.Held.{Held}
use Rattle.receiver_rules.proofs.Reached.{refused_accepts, refused_as, reached_holds}
use Rattle.receiver_rules.proofs.InPlace.{in_place, counted}
use Rattle.std.specs.Prelude.{Ok}

by_test : (a b : ℕ) (t : Bool) → eqb a b ≡ t → (a ≡ b) ⊎ (a ≡ b → ⊥)
by_test a b true e = inl (eqb-true a b e)
by_test a b false e = inr (eqb-false a b e)

equal_or : (a b : ℕ) → (a ≡ b) ⊎ (a ≡ b → ⊥)
equal_or a b = by_test a b (eqb a b) refl

module _ (file : List ℕ) where
  abbrev pub Carries : List ℕ → Type 0
  Carries request = (number size : ℕ) → message.parsed_request_of request ≡ Ok (Req.Data number size) → drop 4 request ≡ block_at file number

  -- The accepted blocks, the newest first, are the file's first ones.
  abbrev pub FirstBlocks : List (List ℕ) → Type 0
  FirstBlocks [] = Unit
  FirstBlocks (block ∷ taken) = (block ≡ block_at file (length taken)) × FirstBlocks taken

  -- Await and Good come when no block of the file is left.
  abbrev pub Closed : Phase → Type 0
  Closed Idle = Unit
  Closed (Transfer p) = Unit
  Closed (Await a) = length file ≤ 256 * a.blocks
  Closed (Good a) = length file ≤ 256 * a.blocks

  pub record OfFile (r : Receiver) (image : List ℕ) (taken : List (List ℕ)) : Type 0 where
    pub reached : Reached r image taken
    pub blocks : FirstBlocks taken
    pub closed : Closed r.phase

  forgets_first : (phase : Phase) (taken : List (List ℕ)) → FirstBlocks taken → FirstBlocks (forgets phase taken)
  forgets_first Idle taken h = tt
  forgets_first (Transfer p) taken h = h
  forgets_first (Await a) taken h = h
  forgets_first (Good a) taken h = h

  -- The blocks in order are a front of the file.
  in_order_lem : (taken : List (List ℕ)) → FirstBlocks taken → in_order taken ≡ take (256 * length taken) file
  unfolding block_at
  in_order_lem [] h = refl
  in_order_lem (block ∷ taken) h =
      let more : 256 * length taken + 256 ≡ 256 * length (block ∷ taken) = omega arith in
      ap (λ (x : List ℕ). x ++ block) (in_order_lem taken h.1) ∙ ap (λ (x : List ℕ). take (256 * length taken) file ++ x) h.0
      ∙ sym (take-add (256 * length taken) 256 file) ∙ ap (λ (m : ℕ). take m file) more

  module _ (block : List ℕ) (taken : List (List ℕ)) (h : FirstBlocks taken) where
    abbrev Then : Phase → Request → Step → Type 0
    Then before q s = FirstBlocks (pick (accepts_block before (Ok q) (receiver_number_of s.answer)) (block ∷ taken) taken)

    due_first : (t : Bool) → block ≡ block_at file (length taken) → FirstBlocks (pick t (block ∷ taken) taken)
    due_first t same = pick_all FirstBlocks t (block ∷ taken) taken (λ _. (same, h)) (λ _. h)

    -- A block is accepted only under the number that is due.
    data_first : (p : Progress) (number size capacity readiness : ℕ) (verdict : Verdict) → p.accepted.blocks ≡ length taken → block ≡ block_at file number
        → (number ≡ p.accepted.blocks) ⊎ (number ≡ p.accepted.blocks → ⊥)
        → Then (Transfer p) (Req.Data number size) (receiver_decide_of (Transfer p) (Req.Data number size) capacity readiness verdict)
    unfolding pick
    data_first p number size capacity readiness verdict count same (inl due) =
        due_first (accepts_block (Transfer p) (Ok (Req.Data number size)) (receiver_number_of (receiver_decide_of (Transfer p) (Req.Data number size) capacity readiness verdict).answer))
        (same ∙ ap (block_at file) (due ∙ count))
    data_first p number size capacity readiness verdict count same (inr early) = rw (answers_22 p number size capacity readiness verdict early) h

    decide_first : (before : Phase) (q : Request) (capacity readiness : ℕ) (verdict : Verdict) (image : List ℕ)
        → Held capacity image taken before
        → ((number size : ℕ) → q ≡ Req.Data number size → block ≡ block_at file number)
        → Then before q (receiver_decide_of before q capacity readiness verdict)
    unfolding pick
    decide_first Idle q capacity readiness verdict image held same = h
    decide_first (Transfer p) Req.GetFwId capacity readiness verdict image held same = h
    decide_first (Transfer p) (Req.Initiate v) capacity readiness verdict image held same = h
    decide_first (Transfer p) (Req.Data number size) capacity readiness verdict image held same =
        data_first p number size capacity readiness verdict held.0.blocks (same number size refl) (equal_or number p.accepted.blocks)
    decide_first (Transfer p) Req.Validate capacity readiness verdict image held same = h
    decide_first (Transfer p) Req.Abort capacity readiness verdict image held same = h
    decide_first (Transfer p) Req.NotBuilt capacity readiness verdict image held same = h
    decide_first (Await a) q capacity readiness verdict image held same = h
    decide_first (Good a) q capacity readiness verdict image held same = h

  closed_at : (before phase : Phase) → before ≡ phase → Closed before → Closed phase
  closed_at before phase e h = rw e at h

  -- An empty block is the file's block of its number only where the file ends before it.
  empty_closes : (request : List ℕ) (number : ℕ) → Carries request → message.parsed_request_of request ≡ Ok (Req.Data number 0) → length file ≤ 256 * number
  empty_closes request number same e =
      let sized = (request_sized request (Req.Data number 0) e).1 in
      let block = ap length (same number 0 e) in
      let long = block_length file number in
      omega arith

  lasts_closed : (before then : Phase) → Lasts before then → Closed before → Closed then
  lasts_closed before Idle l h = tt
  lasts_closed before (Transfer p) l h = tt
  lasts_closed before (Await a) l h = closed_at before (Await a) (sym l) h
  lasts_closed before (Good a) l h = closed_at before (Good a) (sym l) h

  module _ (r : Receiver) (image : List ℕ) (taken : List (List ℕ)) (h : OfFile r image taken) where
    module _ (request : List ℕ) (readiness : ℕ) (verdict : Verdict) (out : List ℕ) (same : Carries request) where
      refused : (answered : ℕ) → eqb answered 0 ≡ false → FirstBlocks (taken_by (refused_as r request answered) taken)
      unfolding pick
      refused answered n = rw (refused_accepts r.phase (message.parsed_request_of request) answered n) (forgets_first r.phase taken h.blocks)

      asks_first : FirstBlocks (taken_after r request (after r image request readiness verdict out).outcome taken)
      asks_first =
          request_walk r image request readiness verdict out (λ x. FirstBlocks (taken_after r request x.outcome taken))
          (refused 28 refl) (refused 27 refl) (refused 26 refl) (refused 20 refl)
          (λ q _ _ e.
          let s = receiver_decide_of r.phase q r.capacity readiness verdict in
          rw e
          (forgets_first s.phase (pick (accepts_block r.phase (Ok q) (receiver_number_of s.answer)) (drop 4 request ∷ taken) taken)
          (decide_first (drop 4 request) taken h.blocks r.phase q r.capacity readiness verdict image (reached_holds h.reached)
          (λ number size e'. same number size (e ∙ ap (λ x. Ok x) e')))))

      from_await : (a : Accepted) → (r.phase ≡ Await a) ⊎ Closes r.phase request a → length file ≤ 256 * a.blocks
      from_await a (inl e) = closed_at r.phase (Await a) e h.closed
      from_await a (inr c) = empty_closes request a.blocks same c.parsed

      from_good : (a : Accepted) → (r.phase ≡ Good a) ⊎ Validated r.phase request verdict a → length file ≤ 256 * a.blocks
      from_good a (inl e) = closed_at r.phase (Good a) e h.closed
      from_good a (inr v) = closed_at r.phase (Await a) v.awaited h.closed

      asks_closed : (then : Phase) → (next r image request readiness verdict out).phase ≡ then → Closed then
      asks_closed Idle e = tt
      asks_closed (Transfer p) e = tt
      asks_closed (Await a) e = from_await a (await_entered r image request readiness verdict out a e)
      asks_closed (Good a) e = from_good a (good_entered r image request readiness verdict out a e)

      pub request_of_file : OfFile (next r image request readiness verdict out) (after r image request readiness verdict out).image
          (taken_after r request (after r image request readiness verdict out).outcome taken)
      request_of_file = record {
        reached = asks h.reached request readiness verdict out;
        blocks = asks_first;
        closed = asks_closed (next r image request readiness verdict out).phase refl;
      }

    pub time_of_file : (elapsed : ℕ) (out : List ℕ)
        → OfFile (receiver_time_of r elapsed out).answer.session image (forgets (receiver_time_of r elapsed out).answer.session.phase taken)
    time_of_file elapsed out = record {
      reached = passes h.reached elapsed out;
      blocks = forgets_first (receiver_time_of r elapsed out).answer.session.phase taken h.blocks;
      closed = lasts_closed r.phase (receiver_time_of r elapsed out).answer.session.phase (time_lasts r elapsed out) h.closed;
    }

    -- What is marked good is the file, in length and in every byte.
    pub good_of_file : (a : Accepted) → r.phase ≡ Good a → (a.bytes ≡ length file) × (take (length file) image ≡ file)
    good_of_file a e =
        let accepts : accepted_of r.phase ≡ a = ap accepted_of e in
        let count : a.blocks ≡ length taken = ap (λ (x : Accepted). x.blocks) (sym accepts) ∙ (counted h.reached).0 in
        let all : length file ≤ 256 * a.blocks = closed_at r.phase (Good a) e h.closed in
        let front : in_order taken ≡ file = in_order_lem taken h.blocks ∙ take_all (256 * length taken) file (omega arith) in
        let bytes : a.bytes ≡ length file = ap (λ (x : Accepted). x.bytes) (sym accepts) ∙ (counted h.reached).1 ∙ ap length front in
        (bytes, ap (λ (m : ℕ). take m image) (sym bytes ∙ ap (λ (x : Accepted). x.bytes) (sym accepts)) ∙ in_place h.reached ∙ front)

  stored_behind : (r : Receiver) (image request image' : List ℕ) (then : Phase) → Carries request
      → (image' ≡ image) ⊎ Stored r.phase r.capacity request image image' then
      → drop (length file) image' ≡ drop (length file) image
  stored_behind r image request image' then same (inl e) = rw e
  stored_behind r image request image' then same (inr s) =
      let size = ap length (same s.number s.size s.parsed) in
      let long = block_length file s.number in
      let sized = s.sized in
      let some = s.some in
      let end : ℕ = 256 * s.number + s.size in
      let rest : end + (length file - end) ≡ length file = omega arith in
      ap (λ (m : ℕ). drop m image') (sym rest) ∙ sym (drop-drop (length file - end) end image')
      ∙ ap (drop (length file - end)) s.behind
      ∙ drop-drop (length file - end) end image ∙ ap (λ (m : ℕ). drop m image) rest

  -- No byte behind the file's length is touched.
  pub behind_kept : (r : Receiver) (image request : List ℕ) (readiness : ℕ) (verdict : Verdict) (out : List ℕ) → Carries request
      → drop (length file) (after r image request readiness verdict out).image ≡ drop (length file) image
  behind_kept r image request readiness verdict out same =
      stored_behind r image request _ _ same (image_changes r image request readiness verdict out)

-- DATA in Transfer in the paper's order: 22, 24, 23, or taken (01, Numbers we answer; 01, The receiver's phases).
use Prim.Native.Nat.{ℕ, ◌+◌, ◌*◌, ◌<◌, ◌≤◌}
use mathlib.Core.Bool.{true, false}
use mathlib.Core.Path.{◌≡◌}
use borrow.Author.Tests.{eq-eqb, ne_eqb}
use lib.Dec.{ltb}
use Rattle.basis.specs.Pick.{pick, eq_differ, ne_differ}
use Rattle.receiver_state.specs.declared.answer.Answer.TheVariants.{Asking, Closed, NotDue, PassesCapacity, WrongFile}
use Rattle.wire.specs.declared.request.Request.TheVariants as Req
use Rattle.receiver_state.specs.Phase.{accepted_counts}
use Rattle.receiver_rules.specs.Decide.{goes_to, receiver_progress, passes_capacity, close_transfer_of, take_block_of, receiver_transfer_of, receiver_data_of, receiver_decide_of}
use Rattle.receiver_state.specs.declared.phase.Progress.{Progress}
use Rattle.receiver_state.specs.declared.phase.Phase.TheVariants.{Idle, Transfer, Await}
use Rattle.std.specs.Prelude.{Some}
use Rattle.receiver_state.specs.declared.verdict.Verdict.{Verdict}
use Rattle.receiver_state.specs.declared.step.Step.{Step}
use Rattle.receiver_rules.proofs.Within.{number_passes, end_passes, none_passes}

module _ (p : Progress) (number size capacity readiness : ℕ) (verdict : Verdict) where
  abbrev then : Step
  then = receiver_decide_of (Transfer p) (Req.Data number size) capacity readiness verdict

  -- 22 whatever the block is
  pub answers_22 : (number ≡ p.accepted.blocks → ⊥) → then ≡ goes_to (Transfer p) (NotDue p.accepted.blocks)
  unfolding receiver_decide_of receiver_data_of receiver_transfer_of pick
  answers_22 h = rw (ne_differ number p.accepted.blocks h)

  module _ (due : number ≡ p.accepted.blocks) where
    -- 24: empty with none accepted
    pub answers_24_empty : size ≡ 0 → p.accepted.blocks ≡ 0 → then ≡ goes_to Idle WrongFile
    unfolding receiver_decide_of receiver_data_of receiver_transfer_of close_transfer_of pick
    answers_24_empty e z = rw (eq_differ number p.accepted.blocks due, eq-eqb size 0 e, eq-eqb p.accepted.blocks 0 z)

    -- The close never gets 23: an empty block puts no byte anywhere.
    pub closes : size ≡ 0 → (p.accepted.blocks ≡ 0 → ⊥) → then ≡ goes_to (Await p.accepted) (Closed p.accepted.blocks)
    unfolding receiver_decide_of receiver_data_of receiver_transfer_of close_transfer_of pick
    closes e z = rw (eq_differ number p.accepted.blocks due, eq-eqb size 0 e, ne_eqb p.accepted.blocks 0 z)

    module _ (some : size ≡ 0 → ⊥) where
      -- 24: non-empty after a short block, also where it passes the capacity
      pub answers_24_short : p.short ≡ true → then ≡ goes_to Idle WrongFile
      unfolding receiver_decide_of receiver_data_of receiver_transfer_of pick
      answers_24_short s = rw (eq_differ number p.accepted.blocks due, ne_eqb size 0 some, s)

      module _ (whole : p.short ≡ false) where
        passing : passes_capacity number size capacity ≡ true → then ≡ goes_to Idle PassesCapacity
        unfolding receiver_decide_of receiver_data_of receiver_transfer_of pick
        passing t = rw (eq_differ number p.accepted.blocks due, ne_eqb size 0 some, whole, t)

        pub answers_23 : capacity < 256 * number + size → then ≡ goes_to Idle PassesCapacity
        answers_23 h = passing (end_passes number size capacity h)

        -- A number above 4,095 is 23 at every capacity, also at one that no session has.
        pub answers_23_number : 4095 < number → then ≡ goes_to Idle PassesCapacity
        answers_23_number h = passing (number_passes number size capacity h)

        -- Put at 256 × number, counted, answered with the readiness wait, asking for the next number.
        pub takes : number ≤ 4095 → 256 * number + size ≤ capacity → then ≡ record {
          phase = Transfer (receiver_progress (accepted_counts (number + 1) (256 * number + size)) (ltb size 256));
          answer = Asking readiness (number + 1);
          store = Some number;
        }
        unfolding receiver_decide_of receiver_data_of receiver_transfer_of take_block_of pick
        takes low fits = rw (eq_differ number p.accepted.blocks due, ne_eqb size 0 some, whole, none_passes number size capacity low fits)

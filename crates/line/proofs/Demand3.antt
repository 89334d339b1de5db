-- Demand 3.
use Prim.Native.Nat.{ℕ, ◌≤◌}
use mathlib.Core.Path.{refl}
use mathlib.Core.List.{List, [], ◌∷◌, ◌++◌}
use native.Mathlib.Omega.{arith}
use lib.ListN.{length, take, drop, replicate, length-replicate}
use Rattle.silence.specs.Within.{Within}
use Rattle.wire.specs.Codes.{image_size_most}
use Rattle.wire.specs.declared.response.Identity.{Identity}
use Rattle.receiver_rules.proofs.Beginning as receiver
use Rattle.indoor_state.specs.declared.plan.Release.{Release}
use Rattle.indoor_rules.proofs.Beginning as indoor
use Rattle.line.specs.Line.{World, Wide, Fresh, Promised, Demand3}
use Rattle.line.proofs.AnyLine.{never_wrong_lem, done_is_good_lem}
use Rattle.line.proofs.Clean.{clean_going, goes_on}
use Rattle.line.proofs.Rest.{comes_to_rest, rests_done}

module _ (file memory : List ℕ) (release : Release) (identity : Identity) where
  -- Both ends are made with these settings.
  both_made : (limit resends limit' resends' : ℕ) → Within limit resends → Within limit' resends' → 1 ≤ length file → length file ≤ image_size_most → length memory ≤ image_size_most
      → (w : World) × Fresh file memory release identity limit resends limit' resends' w
  both_made limit resends limit' resends' within within' some most room =
      let long = length-replicate {A = ℕ} 260 0 in
      let out : List ℕ = replicate 260 0 in (
        record {
          receiver = receiver.fresh limit resends identity (length memory);
          indoor = indoor.fresh limit' resends' release file out within' some most;
          image = memory;
          requests = take 2 (0x01 ∷ 0x81 ∷ [] ++ drop 2 out) ∷ [];
          responses = [];
        },
        record {
          receiver = receiver.start_made limit resends identity (length memory) within room;
          out = out;
          written = 2;
          out' = 0x01 ∷ 0x81 ∷ [] ++ drop 2 out;
          indoor = indoor.start_made limit' resends' release file out within' some most (omega arith);
          image = refl;
          requests = refl;
          responses = refl;
        },
      )

  promised : Wide release identity → Promised file memory release identity
  promised wide = record {
    never_wrong = λ w h. never_wrong_lem file memory release identity wide w h;
    done_is_good = λ w h. done_is_good_lem file memory release identity wide w h;
    clean_reached = λ k l c. (clean_going file memory release identity c).reached;
    clean_begins = both_made;
    clean_goes_on = λ k l c. goes_on file memory release identity l;
    clean_rests = λ k l c. comes_to_rest file memory release identity wide c;
    clean_finishes = λ k l c new fits rest.
        let r = rests_done file memory release identity wide c rest new fits in
        record { done = r.in_phase; requests = r.requests };
  }

pub demand3 : Demand3
demand3 = promised

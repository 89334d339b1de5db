-- A clean line is one of the lines that may lose, repeat, delay and reorder: one that does none of it.
use Prim.Native.Nat.{ℕ}
use mathlib.Core.Logic.{◌⊎◌, inl, inr}
use mathlib.Core.Path.{◌≡◌, refl, sym, subst}
use mathlib.Core.List.{List, [], ◌∷◌, Memᴰ}
use native.Mathlib.Omega.{arith}
use lib.ListN.{replicate, length-replicate}
use Rattle.wire.specs.declared.response.Identity.{Identity}
use Rattle.receiver_state.specs.declared.verdict.Verdict.TheVariants as Ver
use Rattle.receiver_rules.specs.Request.{receiver_request_of}
use Rattle.receiver_rules.specs.Time.{receiver_time_of}
use Rattle.indoor_state.specs.declared.plan.Release.{Release}
use Rattle.indoor_rules.specs.Response.{indoor_response_of}
use Rattle.indoor_rules.specs.Time.{indoor_time_of}
use Rattle.line.specs.Line.{Line, AtRest, Reached, to_receiver, to_indoor, passed_at_receiver, passed_at_indoor, Next, up, down, Clean, delivers}
use Rattle.line.specs.Line as l
use Rattle.line.proofs.Sent.{none_sent, going_sent}

-- Whatever is on its way was sent.
pub record Going (file memory : List ℕ) (release : Release) (identity : Identity) (x : Line) : Type 0 where
  pub reached : Reached file memory release identity x.world
  pub up : (m : List ℕ) → Memᴰ m x.up → Memᴰ m x.world.requests
  pub down : (m : List ℕ) → Memᴰ m x.down → Memᴰ m x.world.responses

first_of : (going later : List (List ℕ)) (m : List ℕ) → going ≡ m ∷ later → Memᴰ m going
first_of going later m e = subst (Memᴰ m) (sym e) (Memᴰ.head refl)

later_of : (going later : List (List ℕ)) (m x : List ℕ) → going ≡ m ∷ later → Memᴰ x later → Memᴰ x going
later_of going later m x e h = subst (Memᴰ x) (sym e) (Memᴰ.tail h)

module _ (file memory : List ℕ) (release : Release) (identity : Identity) where
  -- Also after a time call of any length.
  module _ (x : Line) (g : Going file memory release identity x) (elapsed : ℕ) (out : List ℕ) where
    receiver_passes : Going file memory release identity (passed_at_receiver x (receiver_time_of x.world.receiver elapsed out))
    receiver_passes =
        let call = receiver_time_of x.world.receiver elapsed out in
        record {
          reached = l.at_receiver g.reached elapsed out;
          up = g.up;
          down = going_sent call.answer.written call.memory x.down x.world.responses g.down;
        }

    indoor_passes_lem : Going file memory release identity (passed_at_indoor x (indoor_time_of x.world.indoor file elapsed out))
    indoor_passes_lem =
        let call = indoor_time_of x.world.indoor file elapsed out in
        record {
          reached = l.at_indoor g.reached file (inl refl) elapsed out;
          up = going_sent call.answer.written call.memory x.up x.world.requests g.up;
          down = g.down;
        }

  pub clean_going : {k : ℕ} {x : Line} → Clean file memory release identity k x → Going file memory release identity x
  clean_going (l.begins limit resends limit' resends' w f) = record { reached = l.begins limit resends limit' resends' w f; up = λ m h. h; down = λ m h. absurd (none_sent m [] refl h) }
  clean_going (delivers {l = x} c _ (up request later e verdict fair out room)) =
      let g = clean_going c in
      let call = receiver_request_of x.world.receiver x.world.image request 0 verdict out in
      record {
        reached = to_receiver g.reached request (g.up request (first_of x.up later request e)) x.world.image (inl refl) 0 verdict out;
        up = λ m h. g.up m (later_of x.up later request m e h);
        down = going_sent call.outcome.written call.out x.down x.world.responses g.down;
      }
  clean_going (delivers {l = x} c _ (down response later e out room)) =
      let g = clean_going c in
      let call = indoor_response_of x.world.indoor file response out in
      record {
        reached = to_indoor g.reached response (g.down response (first_of x.down later response e)) file (inl refl) out;
        up = going_sent call.answer.written call.memory x.up x.world.requests g.up;
        down = λ m h. g.down m (later_of x.down later response m e h);
      }
  clean_going (l.at_receiver {l = x} c out room) = receiver_passes x (clean_going c) _ out
  clean_going (l.at_indoor {l = x} c out room) = indoor_passes_lem x (clean_going c) _ out

  -- Where a message is on its way, the line goes on: there are buffers of the right size.
  goes_down : (x : Line) (going : List (List ℕ)) → x.up ≡ [] → x.down ≡ going → AtRest x ⊎ ((then : Line) × Next file memory release identity x then)
  goes_down x [] u d = inl (record { up = u; down = d })
  goes_down x (response ∷ later) u d = inr (_, down response later d (replicate 260 0) (omega (arith, length-replicate {A = ℕ} 260 0)))

  goes_up : (x : Line) (going : List (List ℕ)) → x.up ≡ going → AtRest x ⊎ ((then : Line) × Next file memory release identity x then)
  goes_up x [] u = goes_down x x.down u refl
  goes_up x (request ∷ later) u = inr (_, up request later u Ver.Good (record { in_range = tt; good = λ _. refl }) (replicate 260 0) (omega (arith, length-replicate {A = ℕ} 260 0)))

  pub goes_on : (x : Line) → AtRest x ⊎ ((then : Line) × Next file memory release identity x then)
  goes_on x = goes_up x x.up refl

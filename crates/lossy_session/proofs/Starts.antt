-- Once both ends are made, they are those of a session whose line holds the first request.
use Prim.Native.Nat.{ℕ}
use mathlib.Core.Logic.{inl, inr}
use mathlib.Core.Path.{◌≡◌, refl, sym, subst}
use mathlib.Core.List.Memᴰ
use mathlib.Core.List.{List, [], ◌∷◌}
use native.Mathlib.Omega.{arith}
use lib.ListN.{length, take}
use Rattle.std.specs.Prelude.{Ok, Err}
use Rattle.basis.specs.Left.{left, answers, leaves}
use Rattle.wire.specs.declared.response.Identity.{Identity}
use Rattle.receiver_rules.specs.Session.{receiver_start_of}
use Rattle.receiver_state.specs.declared.session.Receiver.{Receiver}
use Rattle.receiver_state.specs.Session.{Started}
use Rattle.indoor_rules.specs.Start.{indoor_start_of}
use Rattle.indoor_state.specs.Session.{IndoorStart}
use Rattle.indoor_state.specs.declared.plan.Release.{Release}
use Rattle.line.specs.Line.{Wide, begins}
use Rattle.lossy_ends.specs.declared.ends.Ends.{Ends}
use Rattle.lossy_session.specs.declared.start_call.Limits.{Limits}
use Rattle.lossy_session.specs.declared.start_call.NotStarted.{NotStarted}
use Rattle.luck.specs.Way.{no_message, way_of}
use Rattle.lossy_ends.specs.Ends.{lossy_ends}
use Rattle.lossy_session.specs.Start.{BothStart, joined_of, both_made_of, both_start_of}
use Rattle.lossy_ends.specs.Over.{lossy_world, Over}

abbrev made : Ends → BothStart
made e = Ok e

made_same : (a b : Ends) → made a ≡ made b → a ≡ b
made_same a b e = cc

made_refused : (e : Ends) (refusal : NotStarted) → made e ≡ Err refusal → ⊥
made_refused e refusal h = let z : ◌≡◌ {A = ℕ} 0 1 = cc in omega arith

module _ (roof indoors : Limits) (identity : Identity) (release : Release) (file memory up down : List ℕ) (wide : Wide release identity) (e : Ends) (up' : List ℕ) where
  abbrev Goes : Type 0
  Goes = Over file e memory up' down

  module _ (r : Receiver) (starts : receiver_start_of roof.silence roof.resends identity (length memory) ≡ Ok r) where
    started_over : (x : IndoorStart) → indoor_start_of indoors.silence indoors.resends release file up ≡ left x up' → made e ≡ joined_of r x → Goes
    unfolding joined_of
    started_over (Ok begun) started is =
        subst (λ (a : Ends). Over file a memory up' down) (sym (made_same _ _ is))
        (record {
          memory = memory;
          release = release;
          identity = identity;
          wide = wide;
          requests = take begun.written up' ∷ [];
          responses = [];
          reached = begins roof.silence roof.resends indoors.silence indoors.resends
              (lossy_world (lossy_ends r begun.session (way_of begun.written) no_message) memory (take begun.written up' ∷ []) [])
              (record { receiver = starts; out = up; written = begun.written; out' = up'; indoor = started; image = refl; requests = refl; responses = refl });
          rising = inr (Memᴰ.head refl);
          falling = inl refl;
        })
    started_over (Err refused) started is = absurd (made_refused e _ is)

  made_over : (x : Started) → receiver_start_of roof.silence roof.resends identity (length memory) ≡ x → left (made e) up' ≡ both_made_of x indoors release file up → Goes
  unfolding both_made_of
  made_over (Ok r) made did =
      let x = indoor_start_of indoors.silence indoors.resends release file up in
      started_over r made x.answer (subst (λ (m : List ℕ). x ≡ left x.answer m) (sym (leaves did)) refl) (answers did)
  made_over (Err refusal) made did = absurd (made_refused e _ (answers did))

  pub start_over : left (made e) up' ≡ both_start_of roof indoors identity release file (length memory) up → Goes
  start_over = made_over (receiver_start_of roof.silence roof.resends identity (length memory)) refl

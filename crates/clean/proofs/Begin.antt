-- Both starts: what is refused, and that the ends are on a clean line once both are made.
use Prim.Native.Nat.{ℕ, ◌≤◌}
use mathlib.Core.Bool.{false}
use mathlib.Core.Path.{◌≡◌, refl, sym, ◌∙◌, ap, subst}
use mathlib.Core.List.{List, [], ◌∷◌}
use native.Mathlib.Omega.{arith}
use borrow.Author.Tests.{ne_eqb, le-ltb, ltb-true}
use lib.Dec.{eqb, ltb}
use lib.ListN.{length, take, length-take}
use Rattle.std.specs.Result.{is_ok}
use Rattle.std.proofs.Common.{Ok, Err}
use Rattle.basis.specs.Pick.{pick, pick_all}
use Rattle.basis.specs.Left.{Left, left}
use Rattle.silence.specs.Settings.{settings_of}
use Rattle.silence.specs.declared.Settings.{Settings}
use Rattle.silence.specs.Settings.{Checked}
use Rattle.lent.specs.Sent.{with_sent}
use Rattle.wire.specs.Codes.{longest}
use Rattle.wire.specs.declared.response.Identity.{Identity}
use Rattle.wire.specs.Codes.{image_size_most}
use Rattle.receiver_rules.specs.Session.{receiver_fresh_of, receiver_start_of}
use Rattle.receiver_state.specs.declared.session.Receiver.{Receiver}
use Rattle.receiver_state.specs.Session.{Started as ReceiverStarted}
use Rattle.receiver_rules.proofs.Fresh.{refused_made}
use Rattle.indoor_state.specs.declared.plan.Release.{Release}
use Rattle.indoor_state.specs.Session.{IndoorStart}
use Rattle.indoor_rules.specs.Start.{indoor_begin_of, indoor_started_of, indoor_start_of}
use Rattle.indoor_state.specs.declared.session.Started.{Started}
use Rattle.indoor_rules.proofs.Fresh.{start_fresh}
use Rattle.line.specs.Line.{Wide}
use Rattle.line.specs.Line as line
use Rattle.clean.specs.Run.{clean_carried_of, clean_begun_of}
use Rattle.clean.specs.Turn.{ends_underway}
use Rattle.clean.specs.On.{clean_world, On}
use Rattle.clean.specs.declared.ran.NotRun.TheVariants.{FileSize}
use Rattle.clean.proofs.On.{one_goes}

made_checked : (identity : Identity) (capacity : ℕ) (r : Receiver) (x : Checked) → receiver_fresh_of x identity capacity ≡ Ok r → (s : Settings) × (x ≡ Ok s)
unfolding receiver_fresh_of
made_checked identity capacity r (Ok s) e = (s, refl)
made_checked identity capacity r (Err refusal) e = absurd (refused_made _ r e)

-- Settings that made a receiver are within the limits.
made_settings : (limit resends : ℕ) (identity : Identity) (capacity : ℕ) (r : Receiver) → receiver_start_of limit resends identity capacity ≡ Ok r
    → (s : Settings) × (settings_of limit resends ≡ Ok s)
unfolding receiver_start_of
made_settings limit resends identity capacity r =
    pick_all (λ (x : ReceiverStarted). x ≡ Ok r → (s : Settings) × (settings_of limit resends ≡ Ok s)) (ltb image_size_most capacity) _ _
    (λ _ e. absurd (refused_made _ r e))
    (λ _. made_checked identity capacity r (settings_of limit resends))

abbrev pub NotMade : IndoorStart → Type 0
NotMade x = false ≡ is_ok x

module _ (release : Release) (identity : Identity) (file up memory : List ℕ) (room : 260 ≤ length up) where
  abbrev Refuses : Left IndoorStart → Type 0
  Refuses x = NotMade x.answer → left (Err FileSize) memory ≡ clean_begun_of release identity file memory

  begin_refuses : (s : Settings) → Refuses (indoor_begin_of s release file up)
  unfolding indoor_begin_of clean_begun_of pick
  begin_refuses s =
      pick_all Refuses (eqb (length file) 0) _ _ (λ a _. rw a)
      (λ a. pick_all Refuses (ltb image_size_most (length file)) _ _ (λ b _. rw (a, b))
      (λ b. pick_all Refuses (ltb (length up) longest) _ _
      (λ short _. let few = ltb-true (length up) longest short in absurd (omega arith))
      (λ _ h. cc)))

  module _ (limit resends : ℕ) (r : Receiver) (made : receiver_start_of limit resends r.identity (length memory) ≡ Ok r) where
    -- With settings that made a receiver and a buffer of 260 bytes, the start refuses nothing but the file's length (46).
    pub start_refuses : (x : IndoorStart) (up' : List ℕ) → left x up' ≡ indoor_start_of limit resends release file up → NotMade x
        → left (Err FileSize) memory ≡ clean_begun_of release identity file memory
    unfolding indoor_started_of
    start_refuses x up' e =
        let s = made_settings limit resends r.identity (length memory) r made in
        let same : left x up' ≡ indoor_begin_of s.0 release file up = e ∙ ap (λ (y : Checked). indoor_started_of y release file up) s.1 in
        subst Refuses (sym same) (begin_refuses s.0)

    module _ (x : IndoorStart) (up' : List ℕ) (did : left x up' ≡ indoor_start_of limit resends release file up) (begun : Started) (is : x ≡ Ok begun) where
      started : indoor_start_of limit resends release file up ≡ left (Ok begun) up'
      started = sym did ∙ ap (λ (y : IndoorStart). left y up') is

      -- A file that was taken is carried.
      pub start_carries : clean_carried_of begun.session.plan.release identity file memory ≡ clean_begun_of release identity file memory
      unfolding clean_begun_of pick
      start_carries =
          let f = start_fresh release file up limit resends begun.session begun.written up' started in
          let some = f.some in
          rw (ne_eqb (length file) 0 (λ z. omega arith), le-ltb image_size_most (length file) f.most, f.offered)

      pub start_on : Wide release r.identity → length up' ≡ 260
          → On file memory begun.session.plan.release r.identity (ends_underway r begun.session begun.written) memory up' 0
      start_on wide long =
          let f = start_fresh release file up limit resends begun.session begun.written up' started in
          let two = ap length f.written in
          let cut = length-take begun.written up' in
          let one : with_sent begun.written up' [] ≡ take begun.written up' ∷ [] = one_goes begun.written up' (λ z. omega arith) in
          let w : line.World = clean_world (ends_underway r begun.session begun.written) memory (take begun.written up' ∷ []) [] in
          let fresh : line.Fresh file memory release r.identity limit resends limit resends w = record {
            receiver = made;
            out = up;
            written = begun.written;
            out' = up';
            indoor = started;
            image = refl;
            requests = refl;
            responses = refl;
          } in
          subst (λ (q : Release). On file memory q r.identity (ends_underway r begun.session begun.written) memory up' 0) (sym f.offered)
          (record {
            wide = wide;
            deliveries = 0;
            requests = take begun.written up' ∷ [];
            responses = [];
            clean = subst (λ (m : List (List ℕ)). line.Clean file memory release r.identity 0 (line.line w m [])) (sym one) (line.begins limit resends limit resends w fresh);
            count = let single = ap (λ (m : List (List ℕ)). length m) one in omega arith;
            room = long;
            fits = omega arith;
          })

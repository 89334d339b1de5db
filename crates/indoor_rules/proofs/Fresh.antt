-- What a session that was started begins with: Identify, the file that was lent, GET_FW_ID written, and silence below the limit.
use Prim.Native.Nat.{ℕ, ◌≤◌, ◌<◌}
use Rattle.std.specs.Prelude.{Ok, Err}
use mathlib.Core.Path.{◌≡◌, refl}
use mathlib.Core.List.{List, [], ◌∷◌}
use native.Mathlib.Omega.{arith}
use borrow.Author.Tests.{eqb-false, ltb-false}
use lib.Dec.{eqb, ltb}
use lib.ListN.{length, take}
use Rattle.basis.specs.Pick.{pick_all}
use Rattle.basis.specs.Left.{Left, left}
use Rattle.silence.specs.Settings.{settings_of}
use Rattle.silence.specs.declared.Settings.{Settings}
use Rattle.silence.specs.Settings.{Checked}
use Rattle.silence.proofs.Laws.{made_some}
use Rattle.wire.specs.Codes.{longest, image_size_most}
use Rattle.wire.specs.Written.{request_bytes, bare_bytes}
use Rattle.indoor_state.specs.declared.plan.Release.{Release}
use Rattle.indoor_state.specs.declared.phase.Phase.TheVariants.{Identify}
use Rattle.indoor_rules.specs.Start.{indoor_begin_of, indoor_started_of, indoor_start_of}
use Rattle.indoor_state.specs.declared.session.Indoor.{Indoor}
use Rattle.indoor_state.specs.Session.{IndoorStart, indoor_made}

pub record Fresh (release : Release) (file : List ℕ) (s : Indoor) (first : List ℕ) : Type 0 where
  pub offered : s.plan.release ≡ release
  pub lent : s.plan.length ≡ length file
  pub some : 1 ≤ length file
  pub most : length file ≤ image_size_most
  pub identify : s.state.phase ≡ Identify
  pub written : first ≡ 0x01 ∷ 0x81 ∷ []
  pub below : s.state.silence < s.plan.settings.limit

module _ (release : Release) (file out : List ℕ) where
  abbrev Begins : IndoorStart → List ℕ → Type 0
  Begins (Ok made) out' = Fresh release file made.session (take made.written out')
  Begins (Err refused) out' = Unit

  abbrev B : Left IndoorStart → Type 0
  B x = Begins x.answer x.memory

  begin_fresh : (settings : Settings) → 1 ≤ settings.limit → B (indoor_begin_of settings release file out)
  unfolding indoor_begin_of request_bytes bare_bytes
  begin_fresh settings limit =
      pick_all B (eqb (length file) 0) _ _ (λ _. tt)
      (λ a. let none = eqb-false (length file) 0 a in
      pick_all B (ltb image_size_most (length file)) _ _ (λ _. tt)
      (λ b. let most = ltb-false image_size_most (length file) b in
      pick_all B (ltb (length out) longest) _ _ (λ _. tt)
      (λ _. record { offered = refl; lent = refl; some = omega arith; most = omega arith; identify = refl; written = refl; below = omega arith })))

  checked_fresh : (x : Checked) → ((s : Settings) → x ≡ Ok s → 1 ≤ s.limit) → B (indoor_started_of x release file out)
  unfolding indoor_started_of
  checked_fresh (Ok settings) some = begin_fresh settings (some settings refl)
  checked_fresh (Err refusal) some = tt

  pub start_fresh : (limit resends : ℕ) (s : Indoor) (written : ℕ) (out' : List ℕ) → indoor_start_of limit resends release file out ≡ left (indoor_made s written) out'
      → Fresh release file s (take written out')
  start_fresh limit resends s written out' e = rw e at (checked_fresh (settings_of limit resends) (made_some limit resends))

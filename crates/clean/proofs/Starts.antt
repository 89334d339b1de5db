-- The receiver's start decides between 29 and a session that begins.
use Prim.Native.Nat.{ℕ}
use mathlib.Core.Bool.{Bool, true, false}
use mathlib.Core.Path.{◌≡◌, refl, sym, ◌∙◌, ap}
use mathlib.Core.List.{List}
use lib.Dec.{ltb}
use lib.ListN.{length}
use Rattle.std.proofs.Common.{Ok, Err}
use Rattle.basis.specs.Pick.{pick}
use Rattle.basis.specs.Left.{left}
use Rattle.silence.specs.Settings.{Checked, out_of_limits, settings_of}
use Rattle.wire.specs.declared.response.Identity.{Identity}
use Rattle.wire.specs.Codes.{image_size_most}
use Rattle.receiver_rules.specs.Session.{receiver_fresh_of, receiver_start_of}
use Rattle.receiver_state.specs.declared.session.Receiver.{Receiver}
use Rattle.receiver_rules.proofs.Fresh.{refused_made, start_fresh}
use Rattle.indoor_state.specs.declared.plan.Release.{Release}
use Rattle.clean.specs.Run.{clean_begun_of, checked_of, clean_run_of}
use Rattle.clean.specs.declared.ran.NotRun.TheVariants.{Settings}

module _ (limit resends : ℕ) (identity : Identity) (release : Release) (file memory : List ℕ) where
  checked_29 : (x : Checked) → receiver_fresh_of x identity (length memory) ≡ Err out_of_limits → left (Err Settings) memory ≡ checked_of x release identity file memory
  unfolding receiver_fresh_of checked_of
  checked_29 (Ok s) e = absurd (refused_made _ _ (sym e))
  checked_29 (Err refusal) e = refl

  tested_29 : (t : Bool) → ltb image_size_most (length memory) ≡ t → pick t (Err out_of_limits) (receiver_fresh_of (settings_of limit resends) identity (length memory)) ≡ Err out_of_limits
      → left (Err Settings) memory ≡ clean_run_of limit resends identity release file memory
  unfolding clean_run_of pick
  tested_29 true t e = rw t
  tested_29 false t e = rw t (checked_29 (settings_of limit resends) e)

  pub refused_29 : receiver_start_of limit resends identity (length memory) ≡ Err out_of_limits → left (Err Settings) memory ≡ clean_run_of limit resends identity release file memory
  unfolding receiver_start_of
  refused_29 = tested_29 (ltb image_size_most (length memory)) refl

  checked_begun : (r : Receiver) (x : Checked) → receiver_fresh_of x identity (length memory) ≡ Ok r → clean_begun_of release identity file memory ≡ checked_of x release identity file memory
  unfolding receiver_fresh_of checked_of
  checked_begun r (Ok s) e = refl
  checked_begun r (Err refusal) e = absurd (refused_made _ r e)

  tested_begun : (r : Receiver) (t : Bool) → ltb image_size_most (length memory) ≡ t → pick t (Err out_of_limits) (receiver_fresh_of (settings_of limit resends) identity (length memory)) ≡ Ok r
      → clean_begun_of release identity file memory ≡ clean_run_of limit resends identity release file memory
  unfolding clean_run_of pick
  tested_begun r true t e = absurd (refused_made _ r e)
  tested_begun r false t e = rw t (checked_begun r (settings_of limit resends) e)

  module _ (r : Receiver) (made : receiver_start_of limit resends identity (length memory) ≡ Ok r) where
    pub same_identity : r.identity ≡ identity
    same_identity = (start_fresh limit resends identity (length memory) r made).who

    pub made_begun : clean_begun_of release r.identity file memory ≡ clean_run_of limit resends identity release file memory
    unfolding receiver_start_of
    made_begun =
        ap (λ (i : Identity). clean_begun_of release i file memory) same_identity
        ∙ tested_begun r (ltb image_size_most (length memory)) refl made

-- How a session starts, in the paper's own numbers and its order: 29, 46, 27 (01, Numbers we answer; 01, Sizes and numbers).
use Prim.Native.Nat.{ℕ, ◌<◌, ◌≤◌}
use Rattle.std.specs.Prelude.{Ok, Err}
use mathlib.Core.Path.{◌≡◌, refl}
use mathlib.Core.List.{List, [], ◌∷◌, ◌++◌}
use native.Mathlib.Omega.{arith}
use borrow.Author.Tests.{eq-eqb, ne_eqb, lt-ltb, le-ltb}
use lib.ListN.{length, drop}
use Rattle.basis.specs.Pick.{pick, tests}
use Rattle.basis.specs.Left.{left}
use Rattle.silence.specs.Settings as silent
use Rattle.silence.specs.declared.Settings as silence
use Rattle.silence.specs.Settings.{Checked}
use Rattle.silence.specs.Within.{Within}
use Rattle.silence.proofs.Laws.{within_made, outside_29}
use Rattle.wire.specs.Codes.{longest, image_size_most}
use Rattle.wire.specs.Written.{request_bytes, bare_bytes}
use Rattle.indoor_state.specs.Phase.{indoor_state}
use Rattle.indoor_state.specs.declared.plan.Release.{Release}
use Rattle.indoor_state.specs.declared.phase.Phase.TheVariants.{Identify}
use Rattle.indoor_rules.specs.Session.{indoor}
use Rattle.indoor_rules.specs.Start.{indoor_plan, indoor_begun, indoor_begin_of, indoor_started_of, indoor_start_of}
use Rattle.indoor_state.specs.declared.session.Indoor.{Indoor}
use Rattle.indoor_state.specs.Session.{indoor_made}
use Rattle.indoor_state.specs.declared.session.StartRefused.TheVariants.{Settings, FileSize, BufferShort}

module _ (limit resends : ℕ) (release : Release) (file out : List ℕ) where
  refused : (x : Checked) → silent.settings_number_of x ≡ 29 → indoor_started_of x release file out ≡ left (Err Settings) out
  unfolding indoor_started_of
  refused (Ok settings) e = absurd (omega arith)
  refused (Err refusal) e = refl

  -- 29 whatever the file and the buffer are
  pub start_29 : (Within limit resends → ⊥) → indoor_start_of limit resends release file out ≡ left (Err Settings) out
  start_29 h = refused (silent.settings_of limit resends) (outside_29 limit resends h)

  module _ (within : Within limit resends) where
    -- 46 whatever the buffer is
    pub start_46_empty : length file ≡ 0 → indoor_start_of limit resends release file out ≡ left (Err FileSize) out
    unfolding indoor_started_of indoor_begin_of pick
    start_46_empty h = rw (within_made limit resends within, eq-eqb (length file) 0 h)

    pub start_46_long : 1048575 < length file → indoor_start_of limit resends release file out ≡ left (Err FileSize) out
    unfolding indoor_started_of indoor_begin_of pick
    start_46_long h = rw (within_made limit resends within, ne_eqb (length file) 0 (λ e. omega arith), lt-ltb 1048575 (length file) h)

    module _ (some : 1 ≤ length file) (most : length file ≤ 1048575) where
      pub start_27 : length out < 260 → indoor_start_of limit resends release file out ≡ left (Err BufferShort) out
      unfolding indoor_started_of indoor_begin_of pick
      start_27 h =
          rw (within_made limit resends within, ne_eqb (length file) 0 (λ e. omega arith), le-ltb 1048575 (length file) most, lt-ltb (length out) 260 h)

      abbrev pub fresh : Indoor
      fresh = indoor (indoor_plan (record { limit = limit; resends = resends }) release (length file)) (indoor_state Identify 0 0)

      -- The start writes GET_FW_ID.
      pub start_made : 260 ≤ length out
          → indoor_start_of limit resends release file out ≡ left (indoor_made fresh 2) (0x01 ∷ 0x81 ∷ [] ++ drop 2 out)
      unfolding indoor_started_of indoor_begin_of request_bytes bare_bytes pick
      start_made h =
          rw (within_made limit resends within, ne_eqb (length file) 0 (λ e. omega arith), le-ltb 1048575 (length file) most, le-ltb (length out) 260 h)

-- Where the file has a block and an image's length at most, and the buffer has room, a session is made.
pub begins : (settings : silence.Settings) (release : Release) (file out : List ℕ) → (length file ≡ 0 → ⊥) → length file ≤ image_size_most → longest ≤ length out
    → indoor_begin_of settings release file out ≡ indoor_begun (indoor_plan settings release (length file)) out
unfolding indoor_begin_of
begins settings release file out some most room = search tests

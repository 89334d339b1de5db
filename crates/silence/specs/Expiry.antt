-- One call that passes several limits is one expiry, and an expiry sets silence to zero (01, Sizes and numbers).
use Rattle.std.specs.Prelude.{ℕ, ◌+◌, ltb}
use Rattle.basis.specs.Pick.{pick}
use Rattle.silence.specs.declared.Settings.{Settings}
use Rattle.silence.specs.declared.Grown.{Grown}
use Rattle.silence.specs.declared.Event.{Event}
use Rattle.silence.specs.declared.Event.TheVariants.{Quiet, Resend, NoneLeft}

abbrev pub grown : ℕ → ℕ → Event → Grown
grown silence resends event = record { silence = silence; resends = resends; event = event }

-- The resend count says how many may be made; `made` is how many were.
unfoldable pub grown_of : ℕ → ℕ → ℕ → Settings → Grown
grown_of silence elapsed made settings =
    pick (ltb (silence + elapsed) settings.limit) (grown (silence + elapsed) made Quiet)
    (pick (ltb made settings.resends) (grown 0 (made + 1) Resend)
    (grown 0 made NoneLeft))

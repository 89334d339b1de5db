-- Silence limit 1 to 10,000; resend count 0 to 10; settings outside these: 29 (01, Sizes and numbers).
use Rattle.std.specs.Prelude.{ℕ, ltb, Result, Ok, Err}
use Rattle.basis.specs.Pick.{pick}
use Rattle.numbers.specs.Number.{number_in}
use Rattle.silence.specs.declared.Settings.{Settings}
use Rattle.silence.specs.declared.OutOfLimits.{OutOfLimits}

abbrev pub Checked : Type 0
Checked = Result Settings OutOfLimits

abbrev pub out_of_limits : OutOfLimits
out_of_limits = record {}

abbrev pub limit_least : ℕ
limit_least = 1

abbrev pub limit_most : ℕ
limit_most = 10000

abbrev pub resends_most : ℕ
resends_most = 10

unfoldable pub settings_of : ℕ → ℕ → Checked
settings_of limit resends =
    pick (ltb limit limit_least) (Err out_of_limits)
    (pick (ltb limit_most limit) (Err out_of_limits)
    (pick (ltb resends_most resends) (Err out_of_limits)
    (Ok (record { limit = limit; resends = resends }))))

-- 01, Numbers we answer
abbrev pub limits_number_of : OutOfLimits → ℕ
limits_number_of refusal = 29

abbrev pub settings_number_of : Checked → ℕ
settings_number_of checked = number_in limits_number_of checked

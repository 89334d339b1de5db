-- With each request come a readiness wait 0 to 254 and a verdict: good, bad, or later with a wait of 1 to 254 (01, The receiver's phases).
use Rattle.std.specs.Prelude.{ℕ, ◌≤◌, Bool, true, false, ltb, eqb}
use Rattle.basis.specs.Pick.{pick}
use Rattle.receiver_state.specs.declared.verdict.Verdict.{Verdict}
use Rattle.receiver_state.specs.declared.verdict.Verdict.TheVariants.{Good, Bad, Later}

abbrev pub wait_most : ℕ
wait_most = 254

unfoldable pub later_outside : ℕ → Bool
later_outside wait = pick (eqb wait 0) true (ltb wait_most wait)

unfoldable pub verdict_outside : Verdict → Bool
verdict_outside Good = false
verdict_outside Bad = false
verdict_outside (Later wait) = later_outside wait

-- 26
unfoldable pub out_of_range : ℕ → Verdict → Bool
out_of_range readiness verdict = pick (ltb wait_most readiness) true (verdict_outside verdict)

-- A verdict that 26 does not refuse, in the paper's own numbers.
abbrev pub Timely : Verdict → Type 0
Timely Good = Unit
Timely Bad = Unit
Timely (Later wait) = (1 ≤ wait) × (wait ≤ 254)

-- The digits written, with those of what is left in front of them, are the number's.
use Rattle.std.proofs.Common.{◌≡◌, ◌^◌, ◌<◌, ◌≤◌, length, drop}
use Rattle.saying.specs.Decimal.{front_of, decimal_text_of}
use Rattle.saying.proofs.decimal.spell.Given as goal

abbrev pub invariant-loop-rest : goal.invariant-loop-rest
invariant-loop-rest l = (l.from ≤ 19) × (length l.out ≡ 20) × (l.rest < 10 ^ l.from) × (front_of l.from l.rest (drop l.from l.out) ≡ decimal_text_of l.n)

abbrev pub decreases-loop-rest : goal.decreases-loop-rest
decreases-loop-rest l = l.from

use Rattle.std.proofs.Common.{ℕ, ◌+◌, ◌-◌, ◌/◌, ◌%◌, List, ◌∷◌, ◌≡◌, sym, ◌∙◌, ap, arith, length, rules}
use lib.ListN.{drop_of_length-le}
use Rattle.printing.specs.Digits.{figure}
use Rattle.saying.specs.Decimal.{front_of}
use Rattle.saying.proofs.Decimals.{drop_set, some_room, less_left, digit_more, digits_all}
use Rattle.saying.proofs.decimal.spell.Goals as goal

pub loop-rest-init : goal.loop-rest-init
loop-rest-init c =
    let out = c.args.out.now in
    let n = c.args.n in
    let room : length out ≡ 20 = search rules in
    let last = drop_set out 19 (figure (n % 10)) (omega arith) in
    let end = drop_of_length-le out {i = 20} (omega arith) in
    (search rules, search rules, omega (arith, c.ranges.n), ap (front_of 19 (n / 10)) (last ∙ ap (λ (l : List ℕ). figure (n % 10) ∷ l) end))

pub loop-rest-preserved : goal.loop-rest-preserved
loop-rest-preserved c =
    let l = c.loop-rest in
    let some = some_room l.from l.rest l.invariant.2 c.loop-rest-test.true in
    let next : l.from ≡ l.from - 1 + 1 = omega arith in (
      search rules,
      search rules,
      less_left (l.from - 1) l.from l.rest next l.invariant.2,
      digit_more (l.from - 1) l.from l.rest next l.out (omega arith) c.loop-rest-test.true ∙ l.invariant.3,
    )

pub returns-clause-out_after : goal.returns-clause-out_after
returns-clause-out_after c =
    let l = c.loop-rest in
    sym (digits_all l.from l.rest _ c.loop-rest-test.false) ∙ l.invariant.3

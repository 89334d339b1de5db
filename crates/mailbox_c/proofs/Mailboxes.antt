-- Words are taken for a mailbox exactly where they are valid in the paper's own numbers.
use Prim.Native.Nat.{ℕ, ◌*◌, ◌/◌, ◌≤◌, ◌<◌, ◌^◌}
use mathlib.Core.Bool.{Bool, true, false, true≢false}
use mathlib.Core.List.{List}
use mathlib.Core.Path.{◌≡◌, refl, sym, ◌∙◌, ap}
use native.Mathlib.Nat.{div-lt_iff_lt-mul, div-eq_of_lt}
use native.Mathlib.Omega.{arith}
use borrow.Author.Tests.{ltb-false, le-ltb, le-leb, leb-true, eq-eqb, eqb-true, eqb-false}
use lib.Dec.{eqb, ltb}
use lib.ListN.{replicate}
use lib.Pow.{pow_pos}
use Rattle.basis.specs.Pick.{pick, pick_yes, pick_no, pick_all, pick_both, tests}
use Rattle.commands.specs.declared.table.Class.TheVariants.{Run}
use Rattle.mailbox_state.specs.Connectors.{connectors_least, connectors_most}
use Rattle.mailbox_rules.specs.Refusal.{is}
use Rattle.width.specs.Words.{word_at}
use Rattle.mailbox_c.specs.Notifying.{notifies_of}
use Rattle.mailbox_c.specs.Running.{code_runs, may_run_of}
use Rattle.mailbox_c.specs.Words.{is_idle, is_rest, is_busy, is_status, changes_within, is_mailbox}
use Rattle.mailbox_c.specs.Valid.{CommandValid, StatusValid, MailboxValid}
use Rattle.mailbox_c.proofs.Codes.{is_run}

-- A choice that is false with its test.
past : (t a : Bool) → pick t false a ≡ true → (t ≡ false) × (a ≡ true)
unfolding pick
past true a e = absurd (true≢false (sym e))
past false a e = (refl, e)

module _ (shown waiting count : ℕ) where
  within_numbers : changes_within shown waiting count ≡ true → (shown ≤ count) × (waiting < 2 ^ count)
  unfolding changes_within
  within_numbers e =
      let both = past (ltb count shown) _ e in
      let none = eqb-true (waiting / 2 ^ count) 0 both.1 in
      let few : waiting < 1 * 2 ^ count = (div-lt_iff_lt-mul (pow_pos count)).0 (omega arith) in
      (ltb-false count shown both.0, omega arith)

  numbers_within : shown ≤ count → waiting < 2 ^ count → changes_within shown waiting count ≡ true
  unfolding changes_within
  numbers_within few none = pick_no _ _ _ (le-ltb count shown few) ∙ eq-eqb (waiting / 2 ^ count) 0 (div-eq_of_lt none)

module _ (on mask : ℕ) where
  pub record Notifies : Type 0 where
    pub flag : on ≤ 1
    pub wide : mask ≤ 65535
    pub off : on ≡ 0 → mask ≡ 0

  notifies_numbers : notifies_of on mask ≡ true → Notifies
  unfolding notifies_of
  notifies_numbers =
      pick_all (λ (b : Bool). b ≡ true → Notifies) (eqb on 1) _ _
      (λ t e. let one = eqb-true on 1 t in record { flag = omega arith; wide = leb-true mask 65535 e; off = λ z. absurd (omega arith) })
      (λ _ e.
      let both = pick_both (eqb on 0) _ e in
      let zero = eqb-true on 0 both.0 in
      let none = eqb-true mask 0 both.1 in
      record { flag = omega arith; wide = omega arith; off = λ _. none })

  numbers_notify : Notifies → notifies_of on mask ≡ true
  unfolding notifies_of
  numbers_notify n =
      pick_all (λ (b : Bool). b ≡ true) (eqb on 1) _ _ (λ _. le-leb mask 65535 n.wide)
      (λ t.
      let flag = n.flag in
      let zero : on ≡ 0 = omega (arith, eqb-false on 1 t) in
      let none = n.off zero in
      search tests)

module _ (w : List ℕ) where
  running_valid : may_run_of (word_at w 7) (word_at w 8) (word_at w 0) ≡ true → word_at w 9 ≤ 255 → CommandValid w
  unfolding may_run_of code_runs
  running_valid e type =
      let both = past (ltb (word_at w 0) (word_at w 8)) _ e in
      record { class = is_run _ both.1; there = ltb-false (word_at w 0) (word_at w 8) both.0; type = type }

  valid_running : CommandValid w → may_run_of (word_at w 7) (word_at w 8) (word_at w 0) ≡ true
  unfolding may_run_of code_runs
  valid_running v = pick_no _ _ _ (le-ltb (word_at w 0) (word_at w 8) v.there) ∙ ap (is Run) v.class

  abbrev Idle : Type 0
  Idle = (word_at w 7 ≡ 0) × (word_at w 8 ≡ 0) × (word_at w 9 ≡ 0)

  idle_none : is_idle w ≡ true → Idle
  unfolding is_idle
  idle_none e =
      let a = pick_both (eqb (word_at w 7) 0) _ e in
      let b = pick_both (eqb (word_at w 8) 0) _ a.1 in
      (eqb-true (word_at w 7) 0 a.0, eqb-true (word_at w 8) 0 b.0, eqb-true (word_at w 9) 0 b.1)

  none_idle : Idle → is_idle w ≡ true
  unfolding is_idle
  none_idle idle = let code = idle.0 in let connector = idle.1 in let type = idle.2 in search tests

  at_rest : (word_at w 5 ≡ 2 → ⊥) → Idle → word_at w 5 ≤ 7 → ((word_at w 5 ≡ 3 → ⊥) → word_at w 6 ≡ 0) → word_at w 6 ≤ 255 → StatusValid w
  at_rest not idle few none wide =
      record {
        codes = few;
        busy_alone = λ _. idle;
        busy_on = λ e. absurd (not e);
        busy_runs = λ e. absurd (not e);
        completed_alone = none;
        length = wide;
      }

  rest_valid : (word_at w 5 ≡ 2 → ⊥) → Idle → is_rest (word_at w 5) (word_at w 6) ≡ true → StatusValid w
  unfolding is_rest
  rest_valid not idle =
      pick_all (λ (b : Bool). b ≡ true → StatusValid w) (eqb (word_at w 5) 3) _ _
      (λ u e. let three = eqb-true (word_at w 5) 3 u in at_rest not idle (omega arith) (λ n. absurd (n three)) (leb-true (word_at w 6) 255 e))
      (λ _ e.
      let both = pick_both (eqb (word_at w 6) 0) _ e in
      let none = eqb-true (word_at w 6) 0 both.0 in
      at_rest not idle (leb-true (word_at w 5) 7 both.1) (λ _. none) (omega arith))

  busy_valid : word_at w 5 ≡ 2 → is_busy w ≡ true → StatusValid w
  unfolding is_busy
  busy_valid two e =
      let a = pick_both (eqb (word_at w 6) 0) _ e in
      let b = pick_both (eqb (word_at w 3) 1) _ a.1 in
      let c = past (ltb 255 (word_at w 9)) _ b.1 in
      let none = eqb-true (word_at w 6) 0 a.0 in
      record {
        codes = omega arith;
        busy_alone = λ n. absurd (n two);
        busy_on = λ _. eqb-true (word_at w 3) 1 b.0;
        busy_runs = λ _. running_valid c.1 (ltb-false 255 (word_at w 9) c.0);
        completed_alone = λ _. none;
        length = omega arith;
      }

  status_valid_lem : is_status w ≡ true → StatusValid w
  unfolding is_status
  status_valid_lem =
      pick_all (λ (b : Bool). b ≡ true → StatusValid w) (eqb (word_at w 5) 2) _ _
      (λ u e. busy_valid (eqb-true (word_at w 5) 2 u) e)
      (λ u e. let both = pick_both (is_idle w) _ e in rest_valid (eqb-false (word_at w 5) 2 u) (idle_none both.0) both.1)

  valid_busy : word_at w 5 ≡ 2 → StatusValid w → is_busy w ≡ true
  unfolding is_busy
  valid_busy two s =
      let runs = s.busy_runs two in
      pick_yes _ _ _ (eq-eqb (word_at w 6) 0 (s.completed_alone (λ e. omega arith)))
      ∙ pick_yes _ _ _ (eq-eqb (word_at w 3) 1 (s.busy_on two))
      ∙ pick_no _ _ _ (le-ltb 255 (word_at w 9) runs.type)
      ∙ valid_running runs

  valid_rest : StatusValid w → is_rest (word_at w 5) (word_at w 6) ≡ true
  unfolding is_rest
  valid_rest s =
      pick_all (λ (b : Bool). b ≡ true) (eqb (word_at w 5) 3) _ _ (λ _. le-leb (word_at w 6) 255 s.length)
      (λ v. let few = s.codes in let none = s.completed_alone (eqb-false (word_at w 5) 3 v) in search tests)

  valid_status : StatusValid w → is_status w ≡ true
  unfolding is_status
  valid_status s =
      pick_all (λ (b : Bool). b ≡ true) (eqb (word_at w 5) 2) _ _ (λ u. valid_busy (eqb-true (word_at w 5) 2 u) s)
      (λ u. pick_yes _ _ _ (none_idle (s.busy_alone (eqb-false (word_at w 5) 2 u))) ∙ valid_rest s)

  pub mailbox_valid : is_mailbox w ≡ true → MailboxValid w
  unfolding is_mailbox
  mailbox_valid e =
      let low = past (ltb (word_at w 0) connectors_least) _ e in
      let high = past (ltb connectors_most (word_at w 0)) _ low.1 in
      let among = pick_both (changes_within (word_at w 1) (word_at w 2) (word_at w 0)) _ high.1 in
      let told = pick_both (notifies_of (word_at w 3) (word_at w 4)) _ among.1 in
      let shows = within_numbers (word_at w 1) (word_at w 2) (word_at w 0) among.0 in
      let notifies = notifies_numbers (word_at w 3) (word_at w 4) told.0 in
      record {
        least = ltb-false (word_at w 0) connectors_least low.0;
        most = ltb-false connectors_most (word_at w 0) high.0;
        shown = shows.0;
        waiting = shows.1;
        on = notifies.flag;
        mask = notifies.wide;
        off_no_mask = notifies.off;
        status_valid = status_valid_lem told.1;
      }

  pub valid_mailbox : MailboxValid w → is_mailbox w ≡ true
  unfolding is_mailbox
  valid_mailbox v =
      pick_no _ _ _ (le-ltb (word_at w 0) connectors_least v.least)
      ∙ pick_no _ _ _ (le-ltb connectors_most (word_at w 0) v.most)
      ∙ pick_yes _ _ _ (numbers_within (word_at w 1) (word_at w 2) (word_at w 0) v.shown v.waiting)
      ∙ pick_yes _ _ _ (numbers_notify (word_at w 3) (word_at w 4) (record { flag = v.on; wide = v.mask; off = v.off_no_mask }))
      ∙ valid_status v.status_valid

-- All zero is no mailbox: it has no connectors.
pub none_mailbox : is_mailbox (replicate 10 0) ≡ true → ⊥
none_mailbox e = let low = (mailbox_valid (replicate 10 0) e).least in omega arith

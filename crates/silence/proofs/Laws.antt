-- The paper's sentences on settings and silence, as laws of the definitions (01, Sizes and numbers).
use Prim.Native.Nat.{ℕ, ◌+◌, ◌<◌, ◌≤◌}
use mathlib.Core.Path.{◌≡◌, refl, ◌∙◌, ap}
use native.Mathlib.Omega.{arith}
use Rattle.std.specs.Prelude.{Result, Ok, Err}
use borrow.Author.Tests.{ltb-true, ltb-false, le-ltb}
use lib.Dec.{ltb}
use Rattle.basis.specs.Pick.{pick, pick_all}
use Rattle.silence.specs.Within.{Within}
use Rattle.silence.specs.Settings.{Checked, out_of_limits, limit_least, limit_most, resends_most, settings_of, settings_number_of}
use Rattle.silence.specs.Expiry.{grown_of, grown}
use Rattle.silence.specs.declared.Settings.{Settings}
use Rattle.silence.specs.declared.Grown.{Grown}
use Rattle.silence.specs.declared.Event.TheVariants.{Quiet, Resend, NoneLeft}

-- Settings within the limits are made as they were given: 0; settings outside these: 29.
pub within_made : (limit resends : ℕ) → Within limit resends → settings_of limit resends ≡ Ok (record { limit = limit; resends = resends })
unfolding settings_of pick
within_made limit resends h =
    let a : limit_least ≤ limit = omega arith in
    let b : limit ≤ limit_most = omega arith in
    let c : resends ≤ resends_most = omega arith in
    simp (le-ltb limit limit_least a, le-ltb limit_most limit b, le-ltb resends_most resends c)

pub within_0 : (limit resends : ℕ) → Within limit resends → settings_number_of (settings_of limit resends) ≡ 0
within_0 limit resends h = ap settings_number_of (within_made limit resends h)

pub outside_29 : (limit resends : ℕ) → (Within limit resends → ⊥) → settings_number_of (settings_of limit resends) ≡ 29
unfolding settings_of
outside_29 limit resends h =
    let P : Checked → Type 0 = λ x. settings_number_of x ≡ 29 in
    pick_all P (ltb limit limit_least) _ _ (λ _. refl)
    (λ a. pick_all P (ltb limit_most limit) _ _ (λ _. refl)
    (λ b. pick_all P (ltb resends_most resends) _ _ (λ _. refl)
    (λ c.
    let low = ltb-false limit limit_least a in
    let high = ltb-false limit_most limit b in
    let few = ltb-false resends_most resends c in
    absurd (h (record { low = omega arith; high = omega arith; few = omega arith })))))

refused_made : (s : Settings) → ◌≡◌ {A = Checked} (Err out_of_limits) (Ok s) → ⊥
refused_made s e = let z : ◌≡◌ {A = ℕ} 0 1 = cc in omega arith

-- Settings that were made are within the limits.
pub made_within : (limit resends : ℕ) (s : Settings) → settings_of limit resends ≡ Ok s → Within limit resends
unfolding settings_of
made_within limit resends s =
    let P : Checked → Type 0 = λ x. x ≡ Ok s → Within limit resends in
    pick_all P (ltb limit limit_least) _ _ (λ _ e. absurd (refused_made s e))
    (λ a. pick_all P (ltb limit_most limit) _ _ (λ _ e. absurd (refused_made s e))
    (λ b. pick_all P (ltb resends_most resends) _ _ (λ _ e. absurd (refused_made s e))
    (λ c _.
    let low = ltb-false limit limit_least a in
    let high = ltb-false limit_most limit b in
    let few = ltb-false resends_most resends c in
    record { low = omega arith; high = omega arith; few = omega arith })))

-- Their limit is at least 1.
pub made_some : (limit resends : ℕ) (s : Settings) → settings_of limit resends ≡ Ok s → 1 ≤ s.limit
made_some limit resends s e =
    let within = made_within limit resends s e in
    let given = within_made limit resends within in
    let same : s.limit ≡ limit = cc in
    omega (arith, within.low)

module _ (silence elapsed made : ℕ) (settings : Settings) where
  abbrev after : Grown
  after = grown_of silence elapsed made settings

  -- What holds in each of three cases, below the limit, with a resend left and with none left, holds of every call.
  pub grown_all : (P : Grown → Type 0) → (silence + elapsed < settings.limit → P (grown (silence + elapsed) made Quiet))
      → (settings.limit ≤ silence + elapsed → made < settings.resends → P (grown 0 (made + 1) Resend))
      → (settings.limit ≤ silence + elapsed → settings.resends ≤ made → P (grown 0 made NoneLeft)) → P after
  unfolding grown_of
  grown_all P quiet resend none =
      pick_all P (ltb (silence + elapsed) settings.limit) _ _
      (λ t. quiet (ltb-true (silence + elapsed) settings.limit t))
      (λ f. pick_all P (ltb made settings.resends) _ _
      (λ t. resend (ltb-false (silence + elapsed) settings.limit f) (ltb-true made settings.resends t))
      (λ g. none (ltb-false (silence + elapsed) settings.limit f) (ltb-false made settings.resends g)))

  -- Below the limit silence grows by what has elapsed, and nothing is sent again.
  pub below_quiet : silence + elapsed < settings.limit → after ≡ grown (silence + elapsed) made Quiet
  below_quiet = grown_all (λ g. silence + elapsed < settings.limit → g ≡ grown (silence + elapsed) made Quiet) (λ _ _. refl) (λ f _ h. absurd (omega arith)) (λ f _ h. absurd (omega arith))

  -- At the limit, while resends are left, there is one; with none left, none.
  pub left_resends : settings.limit ≤ silence + elapsed → made < settings.resends → after ≡ grown 0 (made + 1) Resend
  left_resends = grown_all (λ g. settings.limit ≤ silence + elapsed → made < settings.resends → g ≡ grown 0 (made + 1) Resend) (λ t h _. absurd (omega arith)) (λ _ _ _ _. refl) (λ _ g _ h. absurd (omega arith))

  pub none_left_expires : settings.limit ≤ silence + elapsed → settings.resends ≤ made → after ≡ grown 0 made NoneLeft
  none_left_expires = grown_all (λ g. settings.limit ≤ silence + elapsed → settings.resends ≤ made → g ≡ grown 0 made NoneLeft) (λ t h _. absurd (omega arith)) (λ _ t _ h. absurd (omega arith)) (λ _ _ _ _. refl)

  -- An expiry sets silence to zero.
  pub expiry_zero : (after.event ≡ Quiet → ⊥) → after.silence ≡ 0
  expiry_zero = grown_all (λ g. (g.event ≡ Quiet → ⊥) → g.silence ≡ 0) (λ _ h. absurd (h refl)) (λ _ _ _. refl) (λ _ _ _. refl)

  -- Silence that reaches the limit exactly is an expiry, and so is any longer one.
  pub limit_expires : settings.limit ≤ silence + elapsed → after.event ≡ Quiet → ⊥
  limit_expires =
      grown_all (λ g. settings.limit ≤ silence + elapsed → g.event ≡ Quiet → ⊥) (λ t h _. omega arith)
      (λ _ _ _ e. let z : ◌≡◌ {A = ℕ} 0 1 = cc in omega arith)
      (λ _ _ _ e. let z : ◌≡◌ {A = ℕ} 0 1 = cc in omega arith)

  -- One call that passes several limits is one expiry: at most one resend.
  pub one_expiry : after.resends ≤ made + 1
  one_expiry = grown_all (λ g. g.resends ≤ made + 1) (λ _. omega arith) (λ _ _. omega arith) (λ _ _. omega arith)

  -- Silence stays below the limit.
  pub grown_below : 1 ≤ settings.limit → after.silence < settings.limit
  grown_below some = grown_all (λ g. g.silence < settings.limit) (λ t. t) (λ _ _. omega arith) (λ _ _. omega arith)

-- Where no time passes nothing grows and nothing expires.
pub no_time : (silence made : ℕ) (settings : Settings) → silence < settings.limit → grown_of silence 0 made settings ≡ grown silence made Quiet
no_time silence made settings below =
    let same : silence + 0 ≡ silence = omega arith in
    below_quiet silence 0 made settings (omega arith) ∙ ap (λ (s : ℕ). grown s made Quiet) same

-- However many limits a call passes, it does what a call does that reaches the first exactly.
pub many_limits : (silence made e e' : ℕ) (settings : Settings) → settings.limit ≤ silence + e → settings.limit ≤ silence + e'
    → grown_of silence e made settings ≡ grown_of silence e' made settings
unfolding grown_of pick
many_limits silence made e e' settings h h' = rw (le-ltb (silence + e) settings.limit h, le-ltb (silence + e') settings.limit h')

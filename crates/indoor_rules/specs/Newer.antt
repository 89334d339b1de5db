-- A file is newer if vendor and product agree and its four numbers come later than the reported ones (02 a).
use Rattle.std.specs.Prelude.{ℕ, Bool, false, List, [], ◌∷◌, ltb}
use Rattle.basis.specs.Pick.{pick, differ}
use Rattle.wire.specs.declared.request.Versions.{Versions}
use Rattle.wire.specs.declared.response.Identity.{Identity}
use Rattle.indoor_state.specs.declared.plan.Release.{Release}

-- FWVersion1 to FWVersion4, the most significant first (001 T5-18).
unfoldable pub places_of : Versions → List ℕ
places_of versions = versions.first ∷ versions.second ∷ versions.third ∷ versions.fourth ∷ []

-- 2 is ordered within 1, 3 within 2 and 4 within 3, so the first place that differs decides (001 section 5.3.1).
unfoldable pub later_of : List ℕ → List ℕ → Bool
later_of (file ∷ within) (reported ∷ within') = pick (differ file reported) (ltb reported file) (later_of within within')
later_of (file ∷ within) [] = false
later_of [] reported = false

unfoldable pub newer_of : Release → Identity → Bool
newer_of release reported =
    pick (differ release.vendor reported.vendor) false
    (pick (differ release.product reported.product) false
    (later_of (places_of release.versions) (places_of reported.versions)))

-- The number of each refusal of a start of both ends, the receiver's first (01, Numbers we answer).
use Rattle.std.specs.Prelude.{ℕ, List, [], ◌∷◌, ◌≡◌, refl}
use Rattle.silence.specs.Settings.{out_of_limits}
use Rattle.indoor_state.specs.declared.session.StartRefused.TheVariants.{Settings, FileSize, BufferShort}
use Rattle.lossy_session.specs.Refusal.{not_started_number_of}
use Rattle.lossy_session.specs.declared.start_call.NotStarted.TheVariants.{Roof, Indoors}
use Rattle.std.proofs.Common.{map}

pub not_started_rows : map not_started_number_of (Roof out_of_limits ∷ Indoors Settings ∷ Indoors FileSize ∷ Indoors BufferShort ∷ []) ≡ 29 ∷ 29 ∷ 46 ∷ 27 ∷ []
not_started_rows = refl

-- Whether the indoor end reports done, and whether the receiver's image is the file.
use Rattle.std.specs.Prelude.{ℕ, Bool, true, false, List, eqb, length, take}
use Rattle.std.specs.Str.{bytes_eq}
use Rattle.basis.specs.Pick.{pick}
use Rattle.receiver_state.specs.Phase.{accepted_of}
use Rattle.indoor_state.specs.declared.phase.Phase.{Phase}
use Rattle.indoor_state.specs.declared.phase.Phase.TheVariants.{Identify, Initiate, Transfer, Validate, Done, Failed}
use Rattle.lossy_ends.specs.declared.ends.Ends.{Ends}
use Rattle.lossy_session.specs.declared.judge_call.Judged.{Judged}

abbrev pub reports_done : Phase → Bool
reports_done Identify = false
reports_done (Initiate wait) = false
reports_done (Transfer p) = false
reports_done (Validate wait) = false
reports_done Done = true
reports_done (Failed reason) = false

-- As many bytes were accepted as the file has, and they are the file's.
unfoldable pub same_of : ℕ → List ℕ → List ℕ → Bool
same_of accepted image file = pick (eqb accepted (length file)) (bytes_eq file (take (length file) image)) false

abbrev pub session_judged_of : Ends → List ℕ → List ℕ → Judged
session_judged_of e file image = record {
  done = reports_done e.indoor.state.phase;
  same = same_of (accepted_of e.receiver.phase).bytes image file;
}

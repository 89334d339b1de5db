use Rattle.std.proofs.Common.{rules, refl, sym, ap, ◌∙◌, List, ℕ, ◌∷◌, ◌≡◌, length}
use Rattle.basis.specs.Lists.{spell, spelled_all}
use Rattle.recording.specs.Writing.{record_bytes_of}
use Rattle.recording.specs.declared.record.Record.TheVariants.{Control, Change, Success, Failure}
use Rattle.recording.proofs.WriteLaws.{fitted}
use Rattle.recording.proofs.writer.write.Goals as goal

pub returns-in-Control : goal.returns-in-Control
unfolding record_bytes_of spell
returns-in-Control c =
    let control = c.in-Control.control in
    let eight : length control ≡ 8 = search rules in
    rw c.in-Control.is (c.fit.ensures ∙ fitted (Control control) eight _ _ (ap (λ (l : List ℕ). 1 ∷ l) (sym (spelled_all 0 8 control eight))) c.if-out-lt-ROOM_LEAST.false)

pub returns-in-Change : goal.returns-in-Change
unfolding record_bytes_of
returns-in-Change c = rw c.in-Change.is (c.fit-in-Change.ensures ∙ fitted (Change c.in-Change.connector c.in-Change.reason) tt _ _ (search rules) c.if-out-lt-ROOM_LEAST.false)

pub returns-in-Success : goal.returns-in-Success
unfolding record_bytes_of
returns-in-Success c = rw c.in-Success.is (c.fit-in-Success.ensures ∙ fitted (Success c.in-Success.length) tt _ _ refl c.if-out-lt-ROOM_LEAST.false)

pub returns-in-Failure : goal.returns-in-Failure
unfolding record_bytes_of
returns-in-Failure c = rw c.in-Failure.is (c.fit-in-Failure.ensures ∙ fitted Failure tt _ _ refl c.if-out-lt-ROOM_LEAST.false)

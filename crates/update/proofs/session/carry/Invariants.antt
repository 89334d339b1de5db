use Rattle.std.proofs.Common.{◌≡◌}
use Rattle.lossy_ends.specs.Over.{Over}
use Rattle.update.proofs.session.carry.Given as goal

-- Both ends are those of a session over the line, with the file that they began with.
abbrev pub invariant-loop-turn : goal.invariant-loop-turn
invariant-loop-turn l = record {
  over : Over l.initial.session.file.now l.session.ends l.session.image.now l.session.up l.session.down;
  file : l.session.file ≡ l.initial.session.file;
}

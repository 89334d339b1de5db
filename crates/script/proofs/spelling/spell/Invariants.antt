use Rattle.std.proofs.Common.{length}
use Rattle.script.specs.Spelling.{spell_of}
use Rattle.script.proofs.Mid.{Mid}
use Rattle.script.proofs.spelling.spell.Given as goal

abbrev pub invariant-loop-words : goal.invariant-loop-words
invariant-loop-words l = Mid (spell_of l.initial.words) l.words l.bytes l.len

abbrev pub decreases-loop-words : goal.decreases-loop-words
decreases-loop-words l = length l.words

-- What is read fits.
use Rattle.std.proofs.Common.{◌≤◌, length}
use Rattle.vectors_ends.proofs.fill.Given as goal

abbrev pub invariant-loop : goal.invariant-loop
invariant-loop g l = l.n ≤ length l.text

-- 001 T5-29: the statuses that document 01 has us answer with.
use Rattle.std.specs.Prelude.{ℕ}
use Rattle.wire.specs.declared.status.Status.{Status}
use Rattle.wire.specs.declared.status.Status.TheVariants.{Ok, File, Address, UnexpectedRequest}

abbrev pub code_of : Status → ℕ
code_of Ok = 0x00
code_of File = 0x02
code_of Address = 0x08
code_of UnexpectedRequest = 0x82

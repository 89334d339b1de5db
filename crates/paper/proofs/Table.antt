-- P1 to P12 hold, by computation (01, Bench examples).
use mathlib.Core.Path.{refl}
use Rattle.basis.specs.Pick.{pick, differ}
use Rattle.image.specs.Blocks.{blocks_of}
use Rattle.image.specs.Sum.{total, sum_of}
use Rattle.wire.specs.Written.{initiated_bytes, response_bytes}
use Rattle.commands.specs.Control.{fields_of, control_of}
use Rattle.commands.specs.Table.{entry_of}
use Rattle.mailbox_state.specs.State.{off_of}
use Rattle.mailbox_state.specs.Status.{runs_of, due_of}
use Rattle.mailbox_state.specs.Connectors.{connectors_of}
use Rattle.mailbox_rules.specs.Cci.{cci_bits_of}
use Rattle.mailbox_rules.specs.Change.{change_step_of, meets_of, heard_of, present_step_of}
use Rattle.mailbox_rules.specs.Changes.{lowest_from, marked_of, noted_of, next_shown_of}
use Rattle.mailbox_rules.specs.Refusal.{refusal_of}
use Rattle.mailbox_rules.specs.Write.{connector_there, starts_command, taken_step_of, judged_step_of}
use Rattle.mailbox_rules.specs.Mailbox.{fresh_mailbox, mailbox_fresh_of}
use Rattle.mailbox_rules.specs.Events.{parsed_step_of}
use Rattle.mailbox_rules.specs.History.{history_from}
use Rattle.paper.specs.Table.{Paper}

pub paper : Paper
unfolding blocks_of sum_of total response_bytes initiated_bytes fresh_mailbox history_from parsed_step_of control_of fields_of entry_of judged_step_of refusal_of taken_step_of starts_command connector_there pick differ mailbox_fresh_of connectors_of off_of runs_of due_of cci_bits_of change_step_of present_step_of heard_of meets_of noted_of next_shown_of lowest_from marked_of
paper = record { started = refl; rows = refl }

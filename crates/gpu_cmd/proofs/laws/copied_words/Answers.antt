-- Each clause is a lemma on the definitions.
use Rattle.gpu_cmd.proofs.Copies.{put_out_of_range, header_refused, entries_refused, command_copied}
use Rattle.gpu_cmd.proofs.laws.copied_words.Goals as goal

pub returns-clause-put : goal.returns-clause-put
returns-clause-put c = put_out_of_range

pub returns-clause-header : goal.returns-clause-header
returns-clause-header c = header_refused

pub returns-clause-entries : goal.returns-clause-entries
returns-clause-entries c = entries_refused

pub returns-clause-command : goal.returns-clause-command
returns-clause-command c = command_copied

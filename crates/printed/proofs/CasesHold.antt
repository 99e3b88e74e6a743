-- K1 to K10, proved together from the definitions, by computation.
use mathlib.Core.Path.{refl}
use Rattle.number.specs.Number.{number_up_to, read_number, bytes_up_to}
use Rattle.table.specs.Table.{check_pairs, seeing, check_group, check_groups, check_table}
use Rattle.table.specs.TableBytes.{read_pairs, read_group, read_groups, read_table}
use Rattle.trace.specs.Event.{read_event, read_header}
use Rattle.trace.specs.Trace.{events_up_to}
use Rattle.queue.specs.Sound.{sound}
use Rattle.queue.specs.Open.{open_queue}
use Rattle.queue.specs.Activate.{activate}
use Rattle.queue.specs.Arguments.{give}
use Rattle.queue.specs.Serve.{source, serve}
use Rattle.queue.specs.Write.{write}
use Rattle.queue.specs.Take.{take_rule}
use Rattle.replay.specs.Replay.{prepare}
use Rattle.number.specs.Texts.{digits_up_to}
use Rattle.printed.specs.Files.{trace_files, files}
use Rattle.printed.specs.Cases.{AllCasesHold}

pub all_cases_hold : AllCasesHold
unfolding files trace_files digits_up_to prepare events_up_to number_up_to read_number bytes_up_to check_pairs seeing check_group check_groups check_table
    read_pairs read_group read_groups read_table read_event read_header sound open_queue activate give source serve write take_rule
all_cases_hold = refl

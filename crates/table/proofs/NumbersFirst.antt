-- Refusals of a table's numbers come in their order; the statement is specs/NumbersFirst.antt.
use Rattle.table.specs.TableBytes.{read_pairs, read_group, read_table}
use Rattle.table.specs.NumbersFirst.{TablesInOrder}

pub tables_in_order : TablesInOrder
unfolding read_table read_group read_pairs
tables_in_order = (
  λ s. record { fields = λ e. rw e; count = λ e f. rw (e, f) },
  λ seen s. record { loads = λ e. rw e; stores = λ e f. rw (e, f) },
  λ rule left low i seen s. record { offset = λ e. rw e; port = λ e f. rw (e, f) },
)

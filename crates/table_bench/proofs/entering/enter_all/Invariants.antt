-- as many rows are used as were entered; they are still the rows that were lent.
use Rattle.std.proofs.Common.{◌≡◌}
use Rattle.table_bench.proofs.entering.enter_all.Given as goal

abbrev pub invariant-loop-report : goal.invariant-loop-report
invariant-loop-report l = record { count : l.table.used ≡ l.report-index; lent : l.table.rows.ghost_name ≡ l.initial.table.rows.ghost_name }

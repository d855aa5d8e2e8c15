-- each round adds one report
use Rattle.std.proofs.Common.{◌≡◌, vec_len}
use Rattle.table_bench.proofs.report.scattered_reports.Given as goal

abbrev pub invariant-loop : goal.invariant-loop
invariant-loop l = vec_len l.reports ≡ l.counter

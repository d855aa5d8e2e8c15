use Rattle.slip_writer.proofs.RoundTrip.{reads_as, reads_back, short_slip}
use Rattle.slip_writer.proofs.write.write_report.Goals as goal

pub returns-clause-room : goal.returns-clause-room
returns-clause-room c = short_slip c.args.report.now

pub returns-clause-is_read : goal.returns-clause-is_read
returns-clause-is_read c = reads_as c.args.report.now

pub returns-clause-reads_back : goal.returns-clause-reads_back
returns-clause-reads_back c = reads_back c.args.report.now

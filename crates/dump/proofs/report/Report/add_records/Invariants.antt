use Rattle.std.proofs.Common.{length}
use Rattle.capture.specs.Records.{bytes_left}
use Rattle.dump.proofs.ReportLaws.{SoFar}
use Rattle.dump.proofs.report.Report.add_records.Given as goal

abbrev pub invariant-loop-record : goal.invariant-loop-record
invariant-loop-record l = SoFar l.initial.self l.self l.bytes (bytes_left l.records)

abbrev pub decreases-loop-record : goal.decreases-loop-record
decreases-loop-record l = length (bytes_left l.records)

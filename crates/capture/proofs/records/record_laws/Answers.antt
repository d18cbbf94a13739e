use Rattle.capture.proofs.RecordLaws.{one_way, in_parts, off_the_end}
use Rattle.capture.proofs.records.record_laws.Goals as goal

pub returns : goal.returns
returns c = record { one_way = one_way; in_parts = in_parts; off_the_end = off_the_end }

use Rattle.std.proofs.Common.{◌-◌, length, sym, ap, ◌∙◌, subst}
use Rattle.capture.specs.Records.{bytes_left}
use Rattle.dump.specs.Reports.{Reports}
use Rattle.dump.proofs.ReportLaws.{one_record, all_done}
use Rattle.dump.proofs.report.Report.add_records.Goals as goal

pub loop-record-preserved : goal.loop-record-preserved
loop-record-preserved c = one_record _ _ _ _ _ _ _ c.loop-record.invariant c.in-Some.ensures.steps c.in_ok-add.ensures.reported

pub returns-clause-reported : goal.returns-clause-reported
returns-clause-reported c =
    let none = c.in_default.ensures.steps in
    let left = c.rest.ensures ∙ ap bytes_left none.1 in
    subst (λ n. Reports c.args.self.now c.loop-record.self c.args.bytes.now (length c.args.bytes.now - n)) (sym (ap length left)) (all_done _ _ _ _ c.loop-record.invariant none.0)

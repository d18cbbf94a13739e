use Rattle.std.proofs.Common.{sym, ap, ◌∙◌, subst}
use Rattle.std.proofs.lemmas.Result.{IfOk-weaker}
use Rattle.dump.specs.Reports.{with_totals, EndsWithCounts}
use Rattle.dump.proofs.ReportLaws.{ends}
use Rattle.dump.proofs.report.Report.finish.Goals as goal

pub returns : goal.returns
returns c =
    let p = c.args.self.now in
    let rest = c.args.rest.now in
    let cut = ap with_totals c.in_ok-add_cut.ensures in
    record {
      reported = IfOk-weaker c.add_totals.result _ _ (λ _ h. h ∙ cut) c.add_totals.ensures;
      counted = IfOk-weaker c.add_totals.result _ _ (λ _ h. subst (EndsWithCounts rest p) (sym (h ∙ cut)) (ends rest p)) c.add_totals.ensures;
    }

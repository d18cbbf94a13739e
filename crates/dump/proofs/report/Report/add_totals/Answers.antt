use Rattle.std.proofs.Common.{List, ℕ, ap, ◌∙◌}
use Rattle.std.proofs.lemmas.Result.{IfOk-weaker}
use Rattle.dump.specs.Reports.{Reported, with_totals}
use Rattle.dump.proofs.report.Report.add_totals.Goals as goal

pub returns : goal.returns
returns c =
    let i = c.self.inside in
    let said : List ℕ → Reported = λ t. record { expected = i.expected; totals = i.totals; text = t } in
    IfOk-weaker c.writeln.result _ _ (λ _ h. ap said h ∙ ap with_totals c.self.view_is) c.writeln.ensures.bytes

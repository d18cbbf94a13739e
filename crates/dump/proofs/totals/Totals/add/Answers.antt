use Rattle.std.proofs.Common.{ap, ◌∙◌, rules}
use Rattle.dump.specs.declared.totals.Totals.{Totals}
use Rattle.dump.specs.Counts.{added}
use Rattle.dump.proofs.CountLaws.{one_more}
use Rattle.dump.proofs.totals.Totals.add.Goals as goal

pub returns-clause-law : goal.returns-clause-law
returns-clause-law c = λ ls e. (search rules) ∙ (ap (λ (t : Totals). added t c.args.line.now) e ∙ one_more ls c.args.line.now)

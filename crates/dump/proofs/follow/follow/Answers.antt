use Rattle.dump.proofs.FollowLaws.{follows_on}
use Rattle.dump.proofs.follow.follow.Goals as goal

pub returns-clause-follows : goal.returns-clause-follows
returns-clause-follows g c =
    let reported = rw c.bytes.ensures at c.in_ok-used.ensures.reported in
    follows_on c.args.intake.now c.fill.new.self c.discard.new.self c.args.report.now c.add_records.new.self c.in_ok-n.n c.in_ok-used.used
    c.fill.ensures.kept c.in_ok-n.ensures.more reported c.add_records.ensures.expected c.discard.ensures

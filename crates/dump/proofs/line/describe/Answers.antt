use Rattle.std.proofs.Common.{sym, ap, ◌∙◌}
use Rattle.wire.specs.Cursor.{unread}
use Rattle.wire.specs.Views.{plain, handed}
use Rattle.dump.proofs.LineLaws.{messages_line}
use Rattle.dump.proofs.line.describe.Goals as goal

pub returns-in-Messages : goal.returns-in-Messages
returns-in-Messages c =
    let told = c.in-Ok.ensures in
    rw c.from.ensures (messages_line c.args.expected.now c.args.datagram.now (plain c.in-Ok.segment) told.law (unread c.in-Messages.field-0) (sym (ap handed c.in-Messages.is) ∙ told.content) told.value)

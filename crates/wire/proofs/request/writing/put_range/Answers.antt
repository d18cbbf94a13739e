use Rattle.std.proofs.Common.{refl, arith}
use Rattle.wire.specs.Fields.{bytes_of}
use Rattle.wire.proofs.Fields.{overwritten_more}
use Rattle.wire.proofs.request.writing.put_range.Goals as goal

pub returns : goal.returns
returns c =
    let r = c.args.range in
    overwritten_more c.args.out.now c.put_field.new.out c.put_field-2.new.out (bytes_of 8 r.first) (bytes_of 8 r.last) c.args.at _
    c.put_field.ensures c.put_field-2.ensures refl (omega arith)

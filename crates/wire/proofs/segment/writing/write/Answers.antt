use Rattle.std.proofs.Common.{◌≡◌, ◌+◌, Ok, Err, refl, ap, ◌∙◌, arith}
use Rattle.std.proofs.lemmas.Result.{err_from_is_err_and}
use Rattle.wire.specs.Sessions.{span}
use Rattle.wire.specs.Writing.{segment_with, past_limits, write_segment}
use Rattle.wire.proofs.Buffers.{short, wrote}
use Rattle.wire.proofs.Wrote.{wrote_back, wrote_as_read, past, kept, all_written}
use Rattle.wire.proofs.segment.writing.write.Goals as goal

pub returns-in_err-payload : goal.returns-in_err-payload
returns-in_err-payload g c =
    let s = segment_with c.args.header.now (g.B.Bodies.messages c.args.bodies.now) in
    let out = c.args.out.now in
    let p = err_from_is_err_and c.from_residual.result c.from_residual.ensures.1 in
    let v = past s out c.in_err-payload.field-0.0 c.in_err-payload.ensures in
    rw (p.1, p.2) (record { value = v; after = refl; reads_back = tt; as_read = wrote_as_read s out out (Err c.in_err-payload.field-0.0) v refl })

pub returns-then-out-end : goal.returns-then-out-end
returns-then-out-end g c =
    let s = segment_with c.args.header.now (g.B.Bodies.messages c.args.bodies.now) in
    let out = c.args.out.now in
    let k = kept s out c.in_ok-payload.payload c.in_ok-payload.ensures in
    let v = ap Err c.at.ensures ∙ short (past_limits s) (40 + span s.messages) out k.0 (omega (arith, k.1, c.from-end.ensures)) in
    record { value = v; after = refl {a = out}; reads_back = tt; as_read = wrote_as_read s out out (Err c.at.result) v refl }

pub returns : goal.returns
returns g c =
    let s = segment_with c.args.header.now (g.B.Bodies.messages c.args.bodies.now) in
    let out = c.args.out.now in
    let left = c.put_blocks.new.out in
    let k = kept s out c.in_ok-payload.payload c.in_ok-payload.ensures in
    let end : 40 + c.from-end.result ≡ 40 + span s.messages = omega (arith, k.1, c.from-end.ensures) in
    let v : Ok (40 + c.from-end.result) ≡ write_segment s out = ap Ok end ∙ wrote (past_limits s) (40 + span s.messages) out k.0 (omega arith) in
    let a = all_written s out c.put_header.new.out left c.in_ok-payload.payload k.1 c.put_header.ensures.after c.put_blocks.ensures in
    record {
      value = v;
      after = a;
      reads_back = wrote_back s out left (Ok (40 + c.from-end.result)) v a c.put_header.ensures.fits;
      as_read = wrote_as_read s out left (Ok (40 + c.from-end.result)) v a;
    }

use Rattle.std.proofs.Common.{◌≡◌, ◌+◌, ◌*◌, length, Ok, Err, sym, refl, ap, ◌∙◌, arith}
use Rattle.std.proofs.lemmas.Bool.{not-true, not-false}
use Rattle.wire.specs.RequestWriting.{ranges_past_limits, write_request}
use Rattle.wire.proofs.Buffers.{past, short, wrote}
use Rattle.wire.proofs.RequestWrote.{wrote_back, wrote_as_read, all_written}
use Rattle.wire.proofs.request.writing.write.Goals as goal

pub returns-then-not-within_limits : goal.returns-then-not-within_limits
returns-then-not-within_limits g c =
    let k = g.K.RangeKind.kind in
    let rs = c.args.ranges.now in
    let out = c.args.out.now in
    let v = ap Err c.at.ensures ∙ past (ranges_past_limits k rs) (16 + 16 * length rs) out (not-false _ (sym c.if-not-within_limits.ensures)) in
    record { value = v; after = refl {a = out}; reads_back = tt; as_read = wrote_as_read k c.args.address.now rs out out (Err c.at.result) v refl }

pub returns-then-out-end : goal.returns-then-out-end
returns-then-out-end g c =
    let k = g.K.RangeKind.kind in
    let rs = c.args.ranges.now in
    let out = c.args.out.now in
    let v = ap Err c.at-then-out-end.ensures ∙ short (ranges_past_limits k rs) (16 + 16 * length rs) out (not-true _ (sym c.if-not-within_limits.ensures)) (omega arith) in
    record { value = v; after = refl {a = out}; reads_back = tt; as_read = wrote_as_read k c.args.address.now rs out out (Err c.at-then-out-end.result) v refl }

pub returns : goal.returns
returns g c =
    let k = g.K.RangeKind.kind in
    let a = c.args.address.now in
    let rs = c.args.ranges.now in
    let out = c.args.out.now in
    let left = c.put_ranges.new.out in
    let v : Ok (16 + 16 * length rs) ≡ write_request k rs out = wrote (ranges_past_limits k rs) (16 + 16 * length rs) out (not-true _ (sym c.if-not-within_limits.ensures)) (omega arith) in
    let w = all_written k a rs out c.put_request_header.new.out left c.put_request_header.ensures.after c.put_ranges.ensures in
    record {
      value = v;
      after = w;
      reads_back = wrote_back k a rs out left (Ok (16 + 16 * length rs)) v w c.put_request_header.ensures.fits;
      as_read = wrote_as_read k a rs out left (Ok (16 + 16 * length rs)) v w;
    }

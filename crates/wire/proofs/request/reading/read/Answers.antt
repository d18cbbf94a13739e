use Rattle.std.proofs.Common.{arith}
use Rattle.wire.proofs.RequestReading.{gives, by_size, by_front, by_address, by_count, few_ranges, by_ranges, accepted}
use Rattle.wire.proofs.request.reading.read.Goals as goal

pub returns-in_err-header : goal.returns-in_err-header
returns-in_err-header g c =
    let k = g.K.RangeKind.kind in
    let x = c.args.expected.now in
    let d = c.args.request.now in
    let q = gives k x d _ _ c.from_residual.ensures.1 (by_size k x d _ c.in_err-header.ensures) in
    record { value = q.0; law = q.1 }

pub returns-in_err-check_front : goal.returns-in_err-check_front
returns-in_err-check_front g c =
    let k = g.K.RangeKind.kind in
    let x = c.args.expected.now in
    let d = c.args.request.now in
    let q = gives k x d _ _ c.from_residual-in_err-check_front.ensures.1 (by_front k x d _ _ c.in_ok-header.ensures _ c.in_err-check_front.ensures) in
    record { value = q.0; law = q.1 }

pub returns-in_err-check_address : goal.returns-in_err-check_address
returns-in_err-check_address g c =
    let k = g.K.RangeKind.kind in
    let x = c.args.expected.now in
    let d = c.args.request.now in
    let q = gives k x d _ _ c.from_residual-in_err-check_address.ensures.1
    (by_address k x d _ _ c.in_ok-header.ensures c.in_ok-check_front.ensures _ c.in_err-check_address.ensures) in
    record { value = q.0; law = q.1 }

pub returns-in_err-check_count : goal.returns-in_err-check_count
returns-in_err-check_count g c =
    let k = g.K.RangeKind.kind in
    let x = c.args.expected.now in
    let d = c.args.request.now in
    let q = gives k x d _ _ c.from_residual-in_err-check_count.ensures.1
    (by_count k x d _ _ c.in_ok-header.ensures c.in_ok-check_front.ensures c.in_ok-check_address.ensures _ c.in_err-check_count.ensures) in
    record { value = q.0; law = q.1 }

pub check_ranges-requires : goal.check_ranges-requires
check_ranges-requires g c =
    let k = g.K.RangeKind.kind in
    let x = c.args.expected.now in
    let d = c.args.request.now in
    let n = few_ranges k x d _ _ c.in_ok-header.ensures c.in_ok-check_front.ensures c.in_ok-check_address.ensures c.in_ok-check_count.ensures in
    omega (arith, c.as_chunks.ensures.front_len)

pub returns-in_err-check_ranges : goal.returns-in_err-check_ranges
returns-in_err-check_ranges g c =
    let k = g.K.RangeKind.kind in
    let x = c.args.expected.now in
    let d = c.args.request.now in
    let q = gives k x d _ _ c.from_residual-in_err-check_ranges.ensures.1
    (by_ranges k x d _ _ c.in_ok-header.ensures c.in_ok-check_front.ensures c.in_ok-check_address.ensures c.in_ok-check_count.ensures _
    c.as_chunks.ensures.front _ c.in_err-check_ranges.ensures) in
    record { value = q.0; law = q.1 }

pub returns : goal.returns
returns g c =
    let k = g.K.RangeKind.kind in
    let x = c.args.expected.now in
    let d = c.args.request.now in
    let v = accepted k x d _ _ c.in_ok-header.ensures c.in_ok-check_front.ensures c.in_ok-check_address.ensures c.in_ok-check_count.ensures _
    c.as_chunks.ensures.front c.in_ok-check_ranges.ensures in
    rw c.new.ensures (record { value = v.0; law = v.1 })

use Rattle.std.proofs.Common.{◌∙◌}
use Rattle.wire.proofs.Reading.{gives, by_size, header_is, by_address, by_ranges, by_blocks, accepted}
use Rattle.wire.proofs.segment.reading.read.Goals as goal

pub returns-in_err-header : goal.returns-in_err-header
returns-in_err-header c =
    let e = c.args.expected.now in
    let d = c.args.datagram.now in
    let q = gives e d _ _ c.from_residual.ensures.1 (by_size e d _ c.in_err-header.ensures) in
    record { value = q.0; content = q.1; law = q.2 }

pub returns-in_err-check_address : goal.returns-in_err-check_address
returns-in_err-check_address c =
    let e = c.args.expected.now in
    let d = c.args.datagram.now in
    let q = gives e d _ _ c.from_residual-in_err-check_address.ensures.1 (by_address e d _ _ c.in_ok-header.ensures _ c.in_err-check_address.ensures) in
    record { value = q.0; content = q.1; law = q.2 }

pub returns-in_err-check_ranges : goal.returns-in_err-check_ranges
returns-in_err-check_ranges c =
    let e = c.args.expected.now in
    let d = c.args.datagram.now in
    let q = gives e d _ _ c.from_residual-in_err-check_ranges.ensures.1
    (by_ranges e d _ _ c.in_ok-header.ensures c.in_ok-check_address.ensures _ c.in_err-check_ranges.ensures) in
    record { value = q.0; content = q.1; law = q.2 }

pub returns-in_err-check_blocks : goal.returns-in_err-check_blocks
returns-in_err-check_blocks c =
    let e = c.args.expected.now in
    let d = c.args.datagram.now in
    let s = c.in_ok-header.ensures in
    let q = gives e d _ _ c.from_residual-in_err-check_blocks.ensures.1
    (by_blocks e d _ _ s c.in_ok-check_address.ensures c.in_ok-check_ranges.ensures _ (c.read_header-header.ensures ∙ header_is e d _ _ s) _
    c.in_err-check_blocks.ensures) in
    record { value = q.0; content = q.1; law = q.2 }

pub returns : goal.returns
returns c =
    let e = c.args.expected.now in
    let d = c.args.datagram.now in
    let s = c.in_ok-header.ensures in
    let v = accepted e d _ _ s c.in_ok-check_address.ensures c.in_ok-check_ranges.ensures _ (c.read_header-header.ensures ∙ header_is e d _ _ s) _
    c.in_ok-check_blocks.ensures c.read_content-content.ensures in
    record { value = v.0; content = v.1; law = v.2 }

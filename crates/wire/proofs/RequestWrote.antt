-- The writer of requests, from what its parts leave.
use Rattle.std.proofs.Common.{◌≡◌, ℕ, ◌+◌, ◌*◌, List, length, take, IfOk, Ok, Result, sym, refl, ap, ◌∙◌, arith}
use Rattle.wire.specs.declared.address.Address.{Address}
use Rattle.wire.specs.declared.fault.Fault.{Fault}
use Rattle.wire.specs.declared.request.Range.{Range}
use Rattle.wire.specs.Buffers.{left_by}
use Rattle.wire.specs.Fields.{overwritten}
use Rattle.wire.specs.Requests.{Kind}
use Rattle.wire.specs.RequestWriting.{request_header_bytes, ranges_bytes, request_bytes, ranges_past_limits, write_request, RequestReadsAs, RequestWrittenAsRead}
use Rattle.wire.specs.RoundTrip.{FitsAddress}
use Rattle.wire.proofs.Buffers.{wrote_such, wrote_all}
use Rattle.wire.proofs.Fields.{overwritten_more}
use Rattle.wire.proofs.RequestRoundTrip.{request_reads_back, request_room, ranges_within, request_as_read}
use Rattle.wire.proofs.RequestWriting.{length_ranges}

module _ (k : Kind) (a : Address) (rs : List Range) (out : List ℕ) where
  -- the header and then the ranges
  pub all_written : (headed left : List ℕ) → headed ≡ overwritten out 0 (request_header_bytes k a (length rs))
      → left ≡ overwritten headed 16 (ranges_bytes rs) → left ≡ overwritten out 0 (request_bytes k a rs)
  all_written headed left e w = overwritten_more out headed left (request_header_bytes k a (length rs)) (ranges_bytes rs) 0 16 e w refl (omega arith)

  long : length (request_bytes k a rs) ≡ 16 + 16 * length rs
  long = let l = length_ranges rs in omega arith

  module _ (left : List ℕ) (r : Result ℕ Fault) (v : r ≡ write_request k rs out) (w : left ≡ left_by r (request_bytes k a rs) out) where
    pub wrote_back : FitsAddress a → IfOk r (λ n. RequestReadsAs k (take n left) a rs)
    wrote_back f =
        wrote_such (ranges_past_limits k rs) (16 + 16 * length rs) out (request_bytes k a rs) left long (λ d. RequestReadsAs k d a rs)
        (λ l. request_reads_back k a rs f l) r v w

    pub wrote_as_read : RequestWrittenAsRead k a rs out left r
    wrote_as_read x d o same read fits =
        let n = request_room k x d o rs read in
        let y = wrote_all (ranges_past_limits k rs) (16 + 16 * length rs) out (request_bytes k a rs) left long (ranges_within k x d o rs read) (omega arith) r v w in
        let bytes : request_bytes k a rs ≡ d = ap (λ (b : Address). request_bytes k b rs) (sym same) ∙ request_as_read k x d o rs read in
        (y.0 ∙ ap Ok n, ap (λ m. take m left) (sym n) ∙ (y.1 ∙ bytes))

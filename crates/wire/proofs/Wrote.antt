-- The writer of segments, from what its parts answer and leave.
use Rattle.std.proofs.Common.{◌≡◌, ℕ, ◌+◌, false, List, length, take, IfOk, Ok, Err, Result, sym, refl, ap, ◌∙◌, arith}
use Rattle.std.proofs.lemmas.Bool.{cond_both, cond-true}
use Rattle.wire.specs.declared.fault.Fault.{Fault}
use Rattle.wire.specs.declared.fault.Refusal.TheVariants.{SettingOutOfRange}
use Rattle.wire.specs.Buffers.{left_by}
use Rattle.wire.specs.Faults.{fault}
use Rattle.wire.specs.Fields.{overwritten}
use Rattle.wire.specs.RoundTrip.{FitsHeader, ReadsAs, WrittenAsRead}
use Rattle.wire.specs.Segments.{Plain}
use Rattle.wire.specs.Sessions.{span}
use Rattle.wire.specs.Writing.{header_bytes, payload_bytes, segment_bytes, past_limits, checked_limits, write_segment}
use Rattle.wire.proofs.Buffers.{wrote_such, wrote_all}
use Rattle.wire.proofs.Fields.{overwritten_more}
use Rattle.wire.proofs.Outcomes.{ok_not_err}
use Rattle.wire.proofs.RoundTrip.{within_limits, limits_kept, reads_back, room, within, written_as_read}
use Rattle.wire.proofs.Writing.{length_payload}

module _ (s : Plain) (out : List ℕ) where
  pub past : (f : Fault) → Err f ≡ checked_limits s → Err f ≡ write_segment s out
  past f =
      cond_both (past_limits s) (Err (fault SettingOutOfRange 0)) (Ok (span s.messages)) (λ (q : Result ℕ Fault). Err f ≡ q → Err f ≡ write_segment s out)
      (λ t e. let q : f ≡ fault SettingOutOfRange 0 = cc in ap Err q ∙ sym (cond-true _ _ _ t)) (λ t e. ok_not_err _ f (sym e))

  -- where the limits are kept
  pub kept : (n : ℕ) → Ok n ≡ checked_limits s → (past_limits s ≡ false) × (n ≡ span s.messages)
  kept n =
      cond_both (past_limits s) (Err (fault SettingOutOfRange 0)) (Ok (span s.messages))
      (λ (q : Result ℕ Fault). Ok n ≡ q → (past_limits s ≡ false) × (n ≡ span s.messages)) (λ t e. ok_not_err n _ e) (λ t e. (t, cc))

  -- the header and then the blocks
  pub all_written : (headed left : List ℕ) (payload : ℕ) → payload ≡ span s.messages → headed ≡ overwritten out 0 (header_bytes s.header payload)
      → left ≡ overwritten headed 40 (payload_bytes s.messages) → left ≡ overwritten out 0 (segment_bytes s)
  all_written headed left payload p e a =
      overwritten_more out headed left (header_bytes s.header (span s.messages)) (payload_bytes s.messages) 0 40
      (e ∙ ap (λ n. overwritten out 0 (header_bytes s.header n)) p) a refl (omega arith)

  long : length (segment_bytes s) ≡ 40 + span s.messages
  long = let l = length_payload s.messages in omega arith

  module _ (left : List ℕ) (r : Result ℕ Fault) (v : r ≡ write_segment s out) (a : left ≡ left_by r (segment_bytes s) out) where
    pub wrote_back : FitsHeader s.header → IfOk r (λ n. ReadsAs (take n left) s)
    wrote_back f =
        wrote_such (past_limits s) (40 + span s.messages) out (segment_bytes s) left long (λ d. ReadsAs d s) (λ l. reads_back s f (within_limits s l)) r v a

    pub wrote_as_read : WrittenAsRead s out left r
    wrote_as_read e d o read fits =
        let k = room e d o s read in
        let w = wrote_all (past_limits s) (40 + span s.messages) out (segment_bytes s) left long (limits_kept s (within e d o s read)) (omega arith) r v a in
        (w.0 ∙ ap Ok k, ap (λ n. take n left) (sym k) ∙ (w.1 ∙ written_as_read e d o s read))

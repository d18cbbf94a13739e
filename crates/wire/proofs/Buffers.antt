-- What follows from the answer of a writer and from what it leaves.
use Rattle.std.proofs.Common.{◌≡◌, ℕ, ◌<◌, ◌≤◌, Bool, true, false, List, length, take, IfOk, Ok, Err, Result, sym, ap, ◌∙◌, subst}
use Rattle.std.proofs.lemmas.Bool.{cond-true, cond-false, lt-ltb, le-ltb}
use Rattle.wire.specs.declared.fault.Fault.{Fault}
use Rattle.wire.specs.declared.fault.Refusal.TheVariants.{SettingOutOfRange, ShortBuffer}
use Rattle.wire.specs.Buffers.{write_checks, write_answer, left_by}
use Rattle.wire.specs.Faults.{fault}
use Rattle.wire.specs.Fields.{overwritten}
use Rattle.wire.proofs.Fields.{front_of_overwritten}
use Rattle.wire.proofs.Outcomes.{none_fails, past_checks}

module _ (over : Bool) (size : ℕ) (out : List ℕ) where
  pub past : over ≡ true → Err (fault SettingOutOfRange 0) ≡ write_answer over size out
  past l = sym (cond-true _ _ _ l)

  pub short : over ≡ false → length out < size → Err (fault ShortBuffer 0) ≡ write_answer over size out
  short l h = sym (cond-false _ _ _ l ∙ cond-true _ _ _ (lt-ltb (length out) size h))

  pub wrote : over ≡ false → size ≤ length out → Ok size ≡ write_answer over size out
  wrote l h = sym (none_fails (write_checks over size out) (Ok size) (l, (le-ltb (length out) size h, tt)))

  module _ (bytes left : List ℕ) (long : length bytes ≡ size) where
    -- what was written stands at the front
    front : (n : ℕ) → n ≡ size → left ≡ overwritten out 0 bytes → take n left ≡ bytes
    front n e a = let is : n ≡ length bytes = e ∙ sym long in (λ i. take (is i) (a i)) ∙ front_of_overwritten out bytes

    -- what holds of the bytes holds of what was written
    pub wrote_such : (P : List ℕ → Type 0) → (over ≡ false → P bytes) → (r : Result ℕ Fault) → r ≡ write_answer over size out
        → left ≡ left_by r bytes out → IfOk r (λ n. P (take n left))
    wrote_such P p (Ok n) v a =
        let c = past_checks (write_checks over size out) (Ok size) n (sym v) in
        let q : n ≡ size = let e = c.1 in cc in
        subst P (sym (front n q a)) (p c.0.0)
    wrote_such P p (Err g) v a = tt

    -- values within the limits are written, where there is room
    pub wrote_all : over ≡ false → size ≤ length out → (r : Result ℕ Fault) → r ≡ write_answer over size out → left ≡ left_by r bytes out
        → (r ≡ Ok size) × (take size left ≡ bytes)
    wrote_all l h r v a =
        let r_is : r ≡ Ok size = v ∙ sym (wrote l h) in
        (r_is, front size (λ _. size) (a ∙ ap (λ x. left_by x bytes out) r_is))

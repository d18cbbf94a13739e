-- Laws of fields: what is written reads back, what is read writes the same bytes, and writes one behind the other.
use Rattle.std.proofs.Common.{◌≡◌, ℕ, zero, suc, ◌+◌, ◌-◌, ◌*◌, ◌/◌, ◌%◌, ◌^◌, ◌<◌, ◌≤◌, List, [], ◌∷◌, ◌++◌, length, take, drop, sym, refl, ap, ◌∙◌, subst, append_assoc, pow-suc, arith, length-append, length-drop}
use lib.Seq.{paste}
use Rattle.std.proofs.lemmas.List.Edits.{paste_all, paste-paste}
use Rattle.std.proofs.lemmas.List.{drop-drop, drop-take, drop_at, take_at, take-take, take-append-le, take-append-drop, length-take-le}
use Rattle.wire.specs.Fields.{le, bytes_of, field, overwritten, Octets}

pub length-bytes_of : (width n : ℕ) → length (bytes_of width n) ≡ width
length-bytes_of zero n = refl
length-bytes_of (suc width) n = ap suc (length-bytes_of width (n / 256))

-- what is written reads back
pub le-bytes_of : (width n : ℕ) → n < 256 ^ width → le (bytes_of width n) ≡ n
le-bytes_of zero n h = omega arith
le-bytes_of (suc width) n h =
    let p = pow-suc 256 width in
    let ih = le-bytes_of width (n / 256) (omega arith) in
    omega arith

-- what is read writes the same bytes
pub bytes_of-le : (bs : List ℕ) → Octets bs → bytes_of (length bs) (le bs) ≡ bs
bytes_of-le [] o = refl
bytes_of-le (b ∷ bs) o =
    let small = o.0 in
    let low : (b + 256 * le bs) % 256 ≡ b = omega arith in
    let high : (b + 256 * le bs) / 256 ≡ le bs = omega arith in
    λ i. low i ∷ (ap (bytes_of (length bs)) high ∙ bytes_of-le bs o.1) i

pub le_small : (bs : List ℕ) → Octets bs → le bs < 256 ^ length bs
le_small [] o = omega arith
le_small (b ∷ bs) o =
    let p = pow-suc 256 (length bs) in
    let ih = le_small bs o.1 in
    let small = o.0 in
    omega arith

pub Octets-take : (n : ℕ) (bs : List ℕ) → Octets bs → Octets (take n bs)
Octets-take zero bs o = tt
Octets-take (suc n) [] o = tt
Octets-take (suc n) (b ∷ bs) o = (o.0, Octets-take n bs o.1)

pub Octets-drop : (n : ℕ) (bs : List ℕ) → Octets bs → Octets (drop n bs)
Octets-drop zero bs o = o
Octets-drop (suc n) [] o = tt
Octets-drop (suc n) (b ∷ bs) o = Octets-drop n bs o.1

as_paste : (d bs : List ℕ) (at : ℕ) → paste d at bs (length bs) ≡ overwritten d at bs
as_paste d bs at = paste_all d at bs (length bs) refl

-- bytes written behind bytes
overwritten_joined : (d xs bs : List ℕ) (at k : ℕ) → k ≡ at + length xs → at ≤ length d
    → overwritten (overwritten d at xs) k bs ≡ overwritten d at (xs ++ bs)
overwritten_joined d xs bs at k e h =
    let one : overwritten (overwritten d at xs) k bs ≡ paste (paste d at xs (length xs)) (at + length xs) bs (length bs)
    = sym (as_paste (overwritten d at xs) bs k) ∙ (λ i. paste (sym (as_paste d xs at) i) (e i) bs (length bs)) in
    let two = paste-paste d at xs bs (length xs) (length bs) refl refl h in
    let three : paste d at (xs ++ bs) (length xs + length bs) ≡ paste d at (xs ++ bs) (length (xs ++ bs))
    = ap (λ n. paste d at (xs ++ bs) n) (sym (length-append xs bs)) in
    one ∙ (two ∙ (three ∙ as_paste d (xs ++ bs) at))

pub overwritten_more : (d now next xs bs : List ℕ) (at k : ℕ) → now ≡ overwritten d at xs → next ≡ overwritten now k bs
    → k ≡ at + length xs → at ≤ length d → next ≡ overwritten d at (xs ++ bs)
overwritten_more d now next xs bs at k e f h l =
    f ∙ (ap (λ x. overwritten x k bs) e ∙ overwritten_joined d xs bs at k h l)

-- bytes written in front of bytes
pub overwritten_before : (d xs bs : List ℕ) (at k : ℕ) → k ≡ at + length bs → k ≤ length d
    → overwritten (overwritten d k xs) at bs ≡ overwritten d at (bs ++ xs)
overwritten_before d xs bs at k e h =
    let size = length-take-le k d h in
    let low : take at (overwritten d k xs) ≡ take at d = take-append-le at (take k d) _ (omega arith) ∙ take-take at k d (omega arith) in
    let high : drop (at + length bs) (overwritten d k xs) ≡ xs ++ drop (k + length xs) d
    = drop_at (take k d) (xs ++ drop (k + length xs) d) (at + length bs) (size ∙ e) in
    let sum : k + length xs ≡ at + length (bs ++ xs) = omega (arith, length-append bs xs) in
    (λ i. low i ++ (bs ++ high i))
    ∙ ap (λ x. take at d ++ x) (ap (λ n. bs ++ (xs ++ drop n d)) sum ∙ sym (append_assoc bs xs (drop (at + length (bs ++ xs)) d)))

-- what was written at the front
pub front_of_overwritten : (d bs : List ℕ) → take (length bs) (overwritten d 0 bs) ≡ bs
front_of_overwritten d bs = take_at bs (drop (0 + length bs) d) (length bs) refl

-- a field that lies in the front of some bytes
pub field-take : (d : List ℕ) (n at width : ℕ) → at + width ≤ n → field (take n d) at width ≡ field d at width
field-take d n at width h =
    let sum : n ≡ at + (n - at) = omega arith in
    ap le (ap (λ k. take width (drop at (take k d))) sum ∙ (ap (take width) (drop-take at (n - at) d) ∙ take-take width (n - at) (drop at d) (omega arith)))

-- a field's bytes
module _ (d : List ℕ) (at width : ℕ) (o : Octets d) (h : at + width ≤ length d) where
  abbrev part : List ℕ
  part = take width (drop at d)

  size : length part ≡ width
  size = length-take-le width (drop at d) (let l = length-drop at d in omega arith)

  octets : Octets part
  octets = Octets-take width (drop at d) (Octets-drop at d o)

  pub field_bytes : bytes_of width (field d at width) ≡ take width (drop at d)
  field_bytes = ap (λ n. bytes_of n (le part)) (sym size) ∙ bytes_of-le part octets

  -- and what stands behind them
  pub field_front : bytes_of width (field d at width) ++ drop (at + width) d ≡ drop at d
  field_front = (λ i. field_bytes i ++ sym (drop-drop width at d) i) ∙ take-append-drop width (drop at d)

  pub field_small : field d at width < 256 ^ width
  field_small = subst (λ n. le part < 256 ^ n) size (le_small part octets)

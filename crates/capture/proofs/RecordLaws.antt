-- Laws of records.
use Rattle.std.proofs.Common.{◌≡◌, ℕ, ◌+◌, ◌<◌, ◌≤◌, ◌||◌, ltb, List, [], ◌∷◌, ◌++◌, length, take, drop, Some, sym, refl, ap, ◌∙◌, subst, arith, length-append, length-drop}
use Rattle.std.proofs.lemmas.List.{take-append-le, drop-append-le, drop-drop}
use Rattle.std.proofs.lemmas.Bool.{cond_both, cond-false, ltb-false, le-ltb, or_parts, or_from}
use Rattle.wire.specs.Fields.{le, field}
use Rattle.capture.specs.Records.{first_record, Splits, SplitsOneWay, SplitsInParts, SplitsOffTheEnd}

abbrev pub Pair : Type 0
Pair = List ℕ × List ℕ

-- the record at the front and what follows it, where all of it is there
abbrev pub parted : List ℕ → Pair
parted bs = (take (field bs 0 2) (drop 2 bs), drop (field bs 0 2) (drop 2 bs))

-- a whole record stands first
pub record Whole (bs : List ℕ) (p : Pair) : Type 0 where
  pub two : 2 ≤ length bs
  pub fits : field bs 0 2 ≤ length (drop 2 bs)
  pub is : parted bs ≡ p

pub whole : (bs : List ℕ) (p : Pair) → first_record bs ≡ Some p → Whole bs p
whole bs p =
    cond_both (ltb (length bs) 2 || ltb (length (drop 2 bs)) (field bs 0 2)) _ _ (λ o. o ≡ Some p → Whole bs p) (λ _ e. cc)
    (λ t e. let q = or_parts _ _ t in record { two = ltb-false _ _ q.0; fits = ltb-false _ _ q.1; is = cc })

pub first_record_whole : (bs : List ℕ) → 2 ≤ length bs → field bs 0 2 ≤ length (drop 2 bs) → first_record bs ≡ Some (parted bs)
first_record_whole bs two fits = cond-false _ _ _ (or_from _ _ (le-ltb _ _ two) (le-ltb _ _ fits))

-- a record taken leaves less
pub shorter : (bs r after : List ℕ) → first_record bs ≡ Some (r, after) → length after < length bs
shorter bs r after e =
    let w = whole bs (r, after) e in omega (arith, ap (λ (p : Pair). length p.1) w.is, length-drop {A = ℕ}, w.two)

-- bytes behind a record stay behind it
longer : (bs more r after : List ℕ) → first_record bs ≡ Some (r, after) → first_record (bs ++ more) ≡ Some (r, after ++ more)
longer bs more r after e =
    let w = whole bs (r, after) e in
    let n_is : field (bs ++ more) 0 2 ≡ field bs 0 2 = ap le (take-append-le 2 bs more w.two) in
    let data_is : drop 2 (bs ++ more) ≡ drop 2 bs ++ more = drop-append-le 2 bs more w.two in
    let parts_are : parted (bs ++ more) ≡ (r, after ++ more)
    = rw (n_is, data_is, take-append-le (field bs 0 2) (drop 2 bs) more w.fits, drop-append-le (field bs 0 2) (drop 2 bs) more w.fits)
    (ap (λ (p : Pair). (p.0, p.1 ++ more)) w.is) in
    first_record_whole (bs ++ more) (omega (arith, length-append {A = ℕ}, w.two)) (omega (arith, ap length data_is, length-append {A = ℕ}, n_is, w.fits))
    ∙ ap Some parts_are

pub one_way : SplitsOneWay
one_way bs [] [] x y a b = (refl, a.1 ∙ sym b.1)
one_way bs [] (t ∷ ts) x y a b = let z = sym a.0 ∙ b.1 in cc
one_way bs (r ∷ rs) [] x y a b = let z = sym b.0 ∙ a.1 in cc
one_way bs (r ∷ rs) (t ∷ ts) x y a b =
    let z = sym a.1 ∙ b.1 in
    let p : ◌≡◌ {A = Pair} (r, a.0) (t, b.0) = cc in
    let q = one_way b.0 rs ts x y (subst (λ (p : Pair). Splits p.1 rs x) p a.2) b.2 in
    ((λ i. (p i).0 ∷ q.0 i), q.1)

pub in_parts : SplitsInParts
in_parts bs more [] ts x y a b = subst (λ l. Splits (l ++ more) ts y) a.1 b
in_parts bs more (r ∷ rs) ts x y a b = (a.0 ++ more, longer bs more r a.0 a.1, in_parts a.0 more rs ts x y a.2 b)

left_over : (bs : List ℕ) (rs : List (List ℕ)) (x : List ℕ) → Splits bs rs x → (k : ℕ) × (x ≡ drop k bs) × (k + length x ≡ length bs)
left_over bs [] x s = (0, s.1, omega (arith, ap length s.1))
left_over bs (r ∷ rs) x s =
    let n = field bs 0 2 in
    let w = whole bs (r, s.0) s.1 in
    let after_is = ap (λ (p : Pair). p.1) w.is in
    let l = left_over s.0 rs x s.2 in
    let l2 = l.2 in (
      2 + (n + l.0),
      l.1 ∙ (ap (drop l.0) (sym after_is) ∙ (drop-drop l.0 n (drop 2 bs) ∙ drop-drop (n + l.0) 2 bs)),
      omega (arith, ap length after_is, length-drop {A = ℕ}, w.two, w.fits),
    )

pub off_the_end : SplitsOffTheEnd
off_the_end bs rs x n s h =
    let l = left_over bs rs x s in
    let k = l.2 in
    let n_is : n ≡ l.0 = omega arith in
    ap (λ m. drop m bs) n_is ∙ sym l.1

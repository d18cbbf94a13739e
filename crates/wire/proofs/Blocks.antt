-- Laws of blocks.
use Rattle.std.proofs.Common.{◌≡◌, ℕ, zero, suc, ◌+◌, ◌-◌, ◌<◌, ◌≤◌, ltb, List, ◌∷◌, length, take, drop, Ok, Err, Result, sym, ap, ◌∙◌, arith, length-drop}
use Rattle.std.proofs.lemmas.List.{length-take-le}
use Rattle.std.proofs.lemmas.Bool.{cond_both, ltb-true, ltb-false, le-ltb, cond-false}
use Rattle.wire.specs.declared.fault.Fault.{Fault}
use Rattle.wire.specs.declared.fault.Refusal.TheVariants.{BlocksDisagree, LongBlock}
use Rattle.wire.specs.Blocks.{first_block, blocks, checked_blocks}
use Rattle.wire.specs.Faults.{fault}
use Rattle.wire.specs.Fields.{field}
use Rattle.wire.specs.Outcomes.{map_ok, and_then}
use Rattle.wire.proofs.Outcomes.{ok_not_err, forget}

abbrev pub Pair : Type 0
Pair = List ℕ × List ℕ

-- a property of what the first block gives, case by case
pub first_block_cases : (at : ℕ) (bs : List ℕ) (P : Result Pair Fault → Type 0)
    → (length bs < 2 → P (Err (fault BlocksDisagree at)))
    → (2 ≤ length bs → 1430 < field bs 0 2 → P (Err (fault LongBlock at)))
    → (2 ≤ length bs → field bs 0 2 ≤ 1430 → length (drop 2 bs) < field bs 0 2 → P (Err (fault BlocksDisagree at)))
    → (2 ≤ length bs → field bs 0 2 ≤ 1430 → field bs 0 2 ≤ length (drop 2 bs)
    → P (Ok (take (field bs 0 2) (drop 2 bs), drop (field bs 0 2) (drop 2 bs))))
    → P (first_block at bs)
first_block_cases at bs P short long cut good =
    cond_both (ltb (length bs) 2) _ _ P (λ e. short (ltb-true (length bs) 2 e))
    (λ e. let two : 2 ≤ length bs = ltb-false (length bs) 2 e in
    cond_both (ltb 1430 (field bs 0 2)) _ _ P (λ l. long two (ltb-true 1430 (field bs 0 2) l))
    (λ l. let le : field bs 0 2 ≤ 1430 = ltb-false 1430 (field bs 0 2) l in
    cond_both (ltb (length (drop 2 bs)) (field bs 0 2)) _ _ P
    (λ k. cut two le (ltb-true (length (drop 2 bs)) (field bs 0 2) k))
    (λ k. good two le (ltb-false (length (drop 2 bs)) (field bs 0 2) k))))

-- where the three tests pass
pub first_block_good : (at : ℕ) (bs : List ℕ) → 2 ≤ length bs → field bs 0 2 ≤ 1430 → field bs 0 2 ≤ length (drop 2 bs)
    → first_block at bs ≡ Ok (take (field bs 0 2) (drop 2 bs), drop (field bs 0 2) (drop 2 bs))
first_block_good at bs two le fits =
    cond-false _ _ _ (le-ltb (length bs) 2 two)
    ∙ (cond-false _ _ _ (le-ltb 1430 (field bs 0 2) le) ∙ cond-false _ _ _ (le-ltb (length (drop 2 bs)) (field bs 0 2) fits))

-- a block and what follows it are all
pub block_and_rest : (at : ℕ) (bs body rest : List ℕ) → Ok (body, rest) ≡ first_block at bs → length bs ≡ 2 + length body + length rest
block_and_rest at bs body rest =
    first_block_cases at bs (λ r. Ok (body, rest) ≡ r → length bs ≡ 2 + length body + length rest)
    (λ _ e. ok_not_err _ _ e) (λ _ _ e. ok_not_err _ _ e) (λ _ _ _ e. ok_not_err _ _ e)
    (λ two short fits e.
    let q : ◌≡◌ {A = Pair} (body, rest) (take (field bs 0 2) (drop 2 bs), drop (field bs 0 2) (drop 2 bs)) = cc in
    let b = ap (λ (p : Pair). length p.0) q ∙ length-take-le (field bs 0 2) (drop 2 bs) fits in
    let r = ap (λ (p : Pair). length p.1) q ∙ length-drop (field bs 0 2) (drop 2 bs) in
    omega (arith, length-drop 2 bs))

-- what is read after a first block
abbrev pub after : ℕ → ℕ → Result Pair Fault → Result (List (List ℕ)) Fault
after n at r = and_then r (λ (p : Pair). map_ok (λ (ms : List (List ℕ)). p.0 ∷ ms) (blocks n (at + (2 + length p.0)) p.1))

pub checked_more : (n at : ℕ) (bs body rest : List ℕ) → 0 < n → Ok (body, rest) ≡ first_block at bs
    → checked_blocks n at bs ≡ checked_blocks (n - 1) (at + (2 + length body)) rest
checked_more zero at bs body rest h e = absurd (omega arith)
checked_more (suc n) at bs body rest h e =
    let n_is : n ≡ suc n - 1 = omega arith in
    ap (λ r. map_ok {Y = Unit {0}} (λ _. tt) (after n at r)) (sym e)
    ∙ (forget (λ (ms : List (List ℕ)). body ∷ ms) (blocks n (at + (2 + length body)) rest)
    ∙ ap (λ m. checked_blocks m (at + (2 + length body)) rest) n_is)

pub checked_err : (n at : ℕ) (bs : List ℕ) (f : Fault) → 0 < n → Err f ≡ first_block at bs → Err f ≡ checked_blocks n at bs
checked_err zero at bs f h e = absurd (omega arith)
checked_err (suc n) at bs f h e =
    ap (λ r. map_ok {Y = Unit {0}} (λ _. tt) (after n at r)) e

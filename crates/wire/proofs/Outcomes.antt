-- Laws of results and of checks in a row.
use Rattle.std.proofs.Common.{◌≡◌, ℕ, ◌≤◌, true, false, ◌⊎◌, List, [], ◌∷◌, ◌++◌, Ok, Err, Result, sym, refl, ap, ◌∙◌, inl, inr, arith}
use Rattle.std.proofs.lemmas.Bool.{cond_both, cond-true, cond-false, both_ways}
use Rattle.wire.specs.declared.fault.Fault.{Fault}
use Rattle.wire.specs.Faults.{entry_of}
use Rattle.wire.specs.Outcomes.{map_ok, Check, first_fault}

-- an answer and a fault differ
pub ok_not_err : {P X E : Type 0} (x : X) (e : E) → ◌≡◌ {A = Result X E} (Ok x) (Err e) → P
ok_not_err x e q = let z : ◌≡◌ {A = ℕ} 0 1 = cc in absurd (omega arith)

-- what was changed, where an answer came
pub map_ok_from : {X Y E : Type 0} (f : X → Y) (r : Result X E) (y : Y) → map_ok f r ≡ Ok y → (x : X) × (r ≡ Ok x) × (f x ≡ y)
map_ok_from f (Ok x) y e = (x, refl, cc)
map_ok_from f (Err d) y e = ok_not_err y d (sym e)

-- an answer of which only its success is kept
pub forget : {X Y : Type 0} (f : X → Y) (r : Result X Fault) → map_ok {Y = Unit {0}} (λ _. tt) (map_ok f r) ≡ map_ok (λ _. tt) r
forget f (Ok x) = refl
forget f (Err e) = refl

-- the answer of checks that have nothing to say but a fault
abbrev pub Checked : Type 0
Checked = Result (Unit {0}) Fault

abbrev pub passed : Checked
passed = Ok tt

-- checks that found nothing are passed over
pub none_found : {X Y : Type 0} (x y : Y) (xs ys : List Check) (r : Result X Fault) → Ok x ≡ first_fault xs (Ok y) → first_fault (xs ++ ys) r ≡ first_fault ys r
none_found x y [] ys r = λ _. refl
none_found {Y = Y} x y (c ∷ xs) ys r =
    cond_both c.fails (Err c.gives) (first_fault xs (Ok y))
    (λ (a : Result Y Fault). Ok x ≡ a → first_fault (c ∷ xs ++ ys) r ≡ first_fault ys r) (λ t e. ok_not_err x c.gives e)
    (λ t e. cond-false _ _ _ t ∙ none_found x y xs ys r e)

-- the fault of the first checks is the fault of all
pub fault_found : {X Y : Type 0} (y : Y) (xs ys : List Check) (r : Result X Fault) (f : Fault) → Err f ≡ first_fault xs (Ok y) → Err f ≡ first_fault (xs ++ ys) r
fault_found y [] ys r f = λ e. ok_not_err y f (sym e)
fault_found {Y = Y} y (c ∷ xs) ys r f =
    cond_both c.fails (Err c.gives) (first_fault xs (Ok y))
    (λ (a : Result Y Fault). Err f ≡ a → Err f ≡ first_fault (c ∷ xs ++ ys) r)
    (λ t e. let q : f ≡ c.gives = cc in ap Err q ∙ sym (cond-true _ _ _ t))
    (λ t e. fault_found y xs ys r f e ∙ sym (cond-false _ _ _ t))

abbrev pub number_of : Check → ℕ
number_of c = (entry_of c.gives.refusal).number

-- no check fails
abbrev pub NoneFails : List Check → Type 0
NoneFails [] = Unit {0}
NoneFails (c ∷ cs) = (c.fails ≡ false) × NoneFails cs

pub none_fails : {X : Type 0} (cs : List Check) (r : Result X Fault) → NoneFails cs → first_fault cs r ≡ r
none_fails [] r h = refl
none_fails (c ∷ cs) r h = cond-false _ _ _ h.0 ∙ none_fails cs r h.1

-- an answer that came past the checks
pub past_checks : {X : Type 0} (cs : List Check) (r : Result X Fault) (x : X) → first_fault cs r ≡ Ok x → NoneFails cs × (r ≡ Ok x)
past_checks [] r x = λ e. (tt, e)
past_checks (c ∷ cs) r x =
    cond_both c.fails (Err c.gives) (first_fault cs r) (λ q. q ≡ Ok x → NoneFails (c ∷ cs) × (r ≡ Ok x))
    (λ _ e. ok_not_err x c.gives (sym e)) (λ t e. let p = past_checks cs r x e in ((t, p.0), p.1))

-- what holds of the fault of each check that fails after none before it did
abbrev pub Each : (Fault → Type 0) → List Check → Type 0
Each Q [] = Unit {0}
Each Q (c ∷ cs) = (c.fails ≡ true → Q c.gives) × (c.fails ≡ false → Each Q cs)

-- the numbers rise, from low on
abbrev pub Rising : ℕ → List Check → Type 0
Rising low [] = Unit {0}
Rising low (c ∷ cs) = (low ≤ number_of c) × Rising (number_of c) cs

-- a check with number n fails
abbrev pub Fails : ℕ → List Check → Type 0
Fails n [] = ⊥
Fails n (c ∷ cs) = ((c.fails ≡ true) × (number_of c ≡ n)) ⊎ Fails n cs

pub not_both : (n : ℕ) (cs : List Check) → NoneFails cs → Fails n cs → ⊥
not_both n [] h x = x
not_both n (c ∷ cs) h (inl x) = both_ways c.fails h.0 x.0
not_both n (c ∷ cs) h (inr x) = not_both n cs h.1 x

at_least : (n low : ℕ) (cs : List Check) → Rising low cs → Fails n cs → low ≤ n
at_least n low [] h x = absurd x
at_least n low (c ∷ cs) h (inl x) = let a = h.0 in let b = x.1 in omega arith
at_least n low (c ∷ cs) h (inr x) = let a = h.0 in let b = at_least n (number_of c) cs h.1 x in omega arith

-- either no check fails, or the fault that is given is that of a failing check, and no failing check has a lower number
pub first_fault_cases : {X : Type 0} (Q : Fault → Type 0) (low : ℕ) (cs : List Check) → Each Q cs → Rising low cs
    → (P : Result X Fault → Type 0) (r : Result X Fault) → (NoneFails cs → P r)
    → ((f : Fault) → Q f → ((n : ℕ) → Fails n cs → (entry_of f.refusal).number ≤ n) → P (Err f)) → P (first_fault cs r)
first_fault_cases Q low [] each rising P r none some = none tt
first_fault_cases Q low (c ∷ cs) each rising P r none some =
    cond_both c.fails (Err c.gives) (first_fault cs r) P
    (λ t. some c.gives (each.0 t) (λ n x. at_least n (number_of c) (c ∷ cs) (omega arith, rising.1) x))
    (λ t. first_fault_cases Q (number_of c) cs (each.1 t) rising.1 P r (λ h. none (t, h))
    (λ f q lowest. some f q (λ n x. elim x [ inl y ↦ absurd (both_ways c.fails t y.0) | inr y ↦ lowest n y ])))

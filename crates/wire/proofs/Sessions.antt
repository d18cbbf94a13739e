-- The laws of a session.
use Rattle.std.proofs.Common.{◌≡◌, ℕ, suc, ◌+◌, ◌-◌, ◌≤◌, List, [], ◌∷◌, ◌++◌, length, take, drop, sym, refl, ap, ◌∙◌, arith, length-drop}
use Rattle.std.proofs.lemmas.List.{take_more, drop_more, length-take-le}
use Rattle.wire.specs.Cursor.{numbered}
use Rattle.wire.specs.Sessions.{span, place_of, message_of, AllOfSession, PlacesRunOn, TrueMessages, TrueParts}

pub span_push : (ms : List (List ℕ)) (m : List ℕ) → span (ms ++ m ∷ []) ≡ span ms + 2 + length m
span_push [] m = omega arith
span_push (x ∷ ms) m = omega (arith, span_push ms m)

pub places_run_on : (σ : List (List ℕ)) → PlacesRunOn σ
places_run_on σ =
    record {
      first = refl;
      next = λ n low high.
          let i : (n + 1) - 1 ≡ (n - 1) + 1 = omega arith in
          ap (λ k. span (take k σ)) i ∙ (ap span (take_more σ (n - 1) [] (omega arith)) ∙ span_push (take (n - 1) σ) (message_of σ n));
    }

-- the same of messages from number n on
from_number : (σ : List (List ℕ)) (n p : ℕ) (ms : List (List ℕ)) → 1 ≤ n → n + length ms ≤ length σ + 1
    → ms ≡ take (length ms) (drop (n - 1) σ) → p ≡ place_of σ n → AllOfSession σ (numbered n p ms)
from_number σ n p [] low high is at = tt
from_number σ n p (m ∷ ms) low high is at =
    let front : drop (n - 1) σ ≡ message_of σ n ∷ drop ((n - 1) + 1) σ = drop_more σ (n - 1) [] (omega arith) in
    let both : m ∷ ms ≡ message_of σ n ∷ take (length ms) (drop ((n - 1) + 1) σ) = is ∙ ap (take (suc (length ms))) front in
    let m_is : m ≡ message_of σ n = cc in
    let i : (n - 1) + 1 ≡ (n + 1) - 1 = omega arith in
    let ms_is : ms ≡ take (length ms) (drop ((n + 1) - 1) σ)
    = (let q : ms ≡ take (length ms) (drop ((n - 1) + 1) σ) = cc in q) ∙ ap (λ k. take (length ms) (drop k σ)) i in
    let on = (places_run_on σ).next n low (omega arith) in
    let size = ap length m_is in (
      record { from_one = low; within = omega arith; contents = m_is; in_place = at },
      from_number σ (n + 1) (p + (2 + length m)) ms (omega arith) (omega arith) ms_is (omega arith),
    )

pub true_messages : (σ : List (List ℕ)) → TrueMessages σ
true_messages σ a s t =
    from_number σ s.header.first s.header.offset s.messages t.from_one t.within t.contents t.offset_place

pub true_parts : (σ : List (List ℕ)) → TrueParts σ
true_parts σ a t n k low high =
    let l = length-drop (n - 1) σ in
    let size : length (take k (drop (n - 1) σ)) ≡ k = length-take-le k (drop (n - 1) σ) (omega arith) in
    record {
      same_address = refl;
      from_one = low;
      within = omega arith;
      contents = ap (λ j. take j (drop (n - 1) σ)) (sym size);
      offset_place = refl;
    }

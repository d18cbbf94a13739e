-- The laws of every store.
use Rattle.std.proofs.Common.{◌≡◌, ℕ, ◌+◌, ◌-◌, ◌<◌, ◌≤◌, true, false, leb, List, [], length, get_or, take, Some, sym, ap, inl, inr, arith}
use Rattle.std.proofs.lemmas.List.{take_all}
use Rattle.std.proofs.lemmas.Bool.{cases_order, and_parts, leb-true}
use Rattle.std.proofs.lemmas.Grind.{common_steps}
use Rattle.std.proofs.lemmas.Option.{cond_some}
use Rattle.wire.specs.Sessions.{span, place_of, message_of}
use Rattle.wire.proofs.Sessions.{places_run_on}
use Rattle.store.specs.Laws.{Stands, PlacesFit, BytesTouchOne}
use Rattle.store.specs.Stores.{inside, where_inside}
use Rattle.store.proofs.Touching.{span_rises, touching_is, holder, touching_none}

-- which numbers are those of messages
pub inside_from : (ms : List (List ℕ)) (n : ℕ) → 1 ≤ n → n ≤ length ms → inside ms n ≡ true
inside_from ms n low high = grind (arith, common_steps)

pub outside_low : (ms : List (List ℕ)) (n : ℕ) → n < 1 → inside ms n ≡ false
outside_low ms n h = grind (arith, common_steps)

pub outside_high : (ms : List (List ℕ)) (n : ℕ) → length ms < n → inside ms n ≡ false
outside_high ms n h = grind (arith, common_steps)

-- an answer that is there is about a message of the list
pub found : {X : Type 0} (ms : List (List ℕ)) (n : ℕ) (x y : X) → where_inside ms n x ≡ Some y → (1 ≤ n) × ((n ≤ length ms) × (x ≡ y))
found ms n x y e = let p = cond_some (inside ms n) x y e in let q = and_parts (leb 1 n) (leb n (length ms)) p.0 in (leb-true 1 n q.0, (leb-true n (length ms) q.1, p.1))

-- what it is for a message to stand somewhere
pub record IsAt (ms : List (List ℕ)) (n p k : ℕ) : Type 0 where
  pub low : 1 ≤ n
  pub high : n ≤ length ms
  pub placed : place_of ms n ≡ p
  pub long : length (message_of ms n) ≡ k

pub is_at : (ms : List (List ℕ)) (n p k : ℕ) → Stands ms n p k → IsAt ms n p k
is_at ms n p k s =
    let l = found ms n (length (message_of ms n)) k s.long in
    let q = found ms n (place_of ms n) p s.placed in
    record { low = l.0; high = l.1.0; placed = q.1.1; long = l.1.1 }

-- a message of the list stands at its place
pub standing_at : (ms : List (List ℕ)) (n : ℕ) → 1 ≤ n → n ≤ length ms → Stands ms n (place_of ms n) (length (message_of ms n))
standing_at ms n low high = record { long = grind (arith, common_steps); placed = grind (arith, common_steps) }

-- where the block of message n ends
ends : (ms : List (List ℕ)) (n : ℕ) → 1 ≤ n → n ≤ length ms → place_of ms (n + 1) ≡ place_of ms n + 2 + length (message_of ms n)
ends ms n low high = (places_run_on ms).next n low high

pub places_fit : (ms : List (List ℕ)) → PlacesFit ms
places_fit ms =
    record {
      present = λ n low high. (place_of ms n, (length (message_of ms n), standing_at ms n low high));
      absent = λ n. ((λ h. (grind (arith, common_steps), grind (arith, common_steps))), (λ h. (grind (arith, common_steps), grind (arith, common_steps))));
      first = λ p k s. sym (is_at ms 1 p k s).placed;
      next = λ n p k q j s t.
          let a = is_at ms n p k s in
          let b = is_at ms (n + 1) q j t in
          omega (arith, ends ms n a.low a.high);
      last = λ p k s.
          let a = is_at ms (length ms) p k s in
          let all : place_of ms (length ms + 1) ≡ span ms = ap span (take_all (length ms + 1 - 1) ms (omega arith)) in
          omega (arith, ends ms (length ms) a.low a.high);
    }

-- no two messages have one byte
apart : (ms : List (List ℕ)) (n m b p k q j : ℕ) → IsAt ms n p k → IsAt ms m q j → b < p + 2 + k → q ≤ b → n < m → ⊥
apart ms n m b p k q j a c before from h = omega (arith, ends ms n a.low a.high, span_rises (n + 1 - 1) (m - 1) ms (omega arith))

pub bytes_touch_one : (ms : List (List ℕ)) → BytesTouchOne ms
bytes_touch_one ms =
    record {
      touched = λ b h.
          let r = holder ms b h in
          let i = r.0 in
          let t = r.1 in
          let back : (1 + i) - 1 ≡ i = omega arith in
          let place : place_of ms (1 + i) ≡ span (take i ms) = ap (λ (k : ℕ). span (take k ms)) back in
          let size : length (message_of ms (1 + i)) ≡ length (get_or ms i []) = ap (λ (k : ℕ). length (get_or ms k [])) back in (
            1 + i,
            (
              touching_is 1 ms i b t,
              record {
                place = place_of ms (1 + i);
                size = length (message_of ms (1 + i));
                stands = standing_at ms (1 + i) (omega arith) (omega arith);
                from_place = omega arith;
                before_end = omega arith;
              },
            ),
          );
      alone = λ b n m x y.
          let a = is_at ms n x.place x.size x.stands in
          let c = is_at ms m y.place y.size y.stands in
          elim (cases_order n m) [
            | inl same ↦ same
            | inr (inl before) ↦ absurd (apart ms n m b _ _ _ _ a c x.before_end y.from_place before)
            | inr (inr behind) ↦ absurd (apart ms m n b _ _ _ _ c a y.before_end x.from_place behind)
          ];
      untouched = λ b h. touching_none 1 ms b h;
    }

-- Laws of writing a segment.
use Rattle.std.proofs.Common.{◌≡◌, ℕ, zero, suc, ◌+◌, ◌-◌, ◌*◌, ◌<◌, ◌≤◌, cond, ◌||◌, ltb, List, [], ◌∷◌, ◌++◌, length, get_or, take, drop, Some, None, Option, sym, refl, ap, ◌∙◌, zero-add, arith, length-append, length-drop, w64, of_z}
use borrow.Rule.Slice.PartMut.{put_mid}
use Rattle.std.proofs.lemmas.List.{append-nil, drop_all, drop-drop, drop_more, take_more, take_rest, take-append-drop, flat_map_more}
use Rattle.std.specs.List.{slice_get}
use Rattle.std.specs.Option.{option_map, unwrap_or}
use Rattle.std.proofs.lemmas.Bool.{cond-true, le-leb, lt-ltb, le-ltb, or_left, or_right}
use Rattle.wire.specs.declared.segment.Header.{Header}
use Rattle.wire.specs.Addresses.{address_bytes}
use Rattle.wire.specs.Fields.{bytes_of, overwritten}
use Rattle.wire.specs.Sessions.{span}
use Rattle.wire.specs.Writing.{header_bytes, block_bytes, payload_bytes, some_long, copied, copied_from}
use Rattle.wire.proofs.Fields.{overwritten_more, overwritten_before}
use Rattle.wire.proofs.Sessions.{span_push}

span_join : (xs ys : List (List ℕ)) → span (xs ++ ys) ≡ span xs + span ys
span_join [] ys = omega arith
span_join (x ∷ xs) ys = let k = span_join xs ys in omega arith

-- the header, part by part
module _ (d : List ℕ) (h : Header) (payload : ℕ) where
  pub header_written : (o2 o12 o14 o16 o24 o32 o40 : List ℕ) → o2 ≡ overwritten d 0 (1 ∷ 0 ∷ [])
      → o12 ≡ overwritten o2 2 (address_bytes h.address) → o14 ≡ overwritten o12 12 (bytes_of 2 payload)
      → o16 ≡ overwritten o14 14 (bytes_of 2 h.count) → o24 ≡ overwritten o16 16 (bytes_of 8 h.offset)
      → o32 ≡ overwritten o24 24 (bytes_of 8 h.first) → o40 ≡ overwritten o32 32 (bytes_of 8 (of_z w64 h.time))
      → o40 ≡ overwritten d 0 (header_bytes h payload)
  header_written o2 o12 o14 o16 o24 o32 o40 e2 e12 e14 e16 e24 e32 e40 =
      let z : 0 ≤ length d = omega arith in
      let a2 : List ℕ = 1 ∷ 0 ∷ [] in
      let a12 : List ℕ = a2 ++ address_bytes h.address in
      let a14 : List ℕ = a12 ++ bytes_of 2 payload in
      let a16 : List ℕ = a14 ++ bytes_of 2 h.count in
      let a24 : List ℕ = a16 ++ bytes_of 8 h.offset in
      let a32 : List ℕ = a24 ++ bytes_of 8 h.first in
      let f12 = overwritten_more d o2 o12 a2 (address_bytes h.address) 0 2 e2 e12 refl z in
      let f14 = overwritten_more d o12 o14 a12 (bytes_of 2 payload) 0 12 f12 e14 refl z in
      let f16 = overwritten_more d o14 o16 a14 (bytes_of 2 h.count) 0 14 f14 e16 refl z in
      let f24 = overwritten_more d o16 o24 a16 (bytes_of 8 h.offset) 0 16 f16 e24 refl z in
      let f32 = overwritten_more d o24 o32 a24 (bytes_of 8 h.first) 0 24 f24 e32 refl z in
      overwritten_more d o32 o40 a32 (bytes_of 8 (of_z w64 h.time)) 0 32 f32 e40 refl z

-- what a keeper of messages answers on a message, empty where it is missing
size_of : (ms : List (List ℕ)) (i : ℕ) → unwrap_or (option_map length (slice_get ms i)) 0 ≡ length (get_or ms i [])
size_of [] i = refl
size_of (m ∷ ms) zero = refl
size_of (m ∷ ms) (suc i) = size_of ms i

pub size_is : (ms : List (List ℕ)) (i size : ℕ) (o : Option ℕ) → size ≡ unwrap_or o 0 → o ≡ option_map length (slice_get ms i) → size ≡ length (get_or ms i [])
size_is ms i size o e f = e ∙ (ap (λ x. unwrap_or x 0) f ∙ size_of ms i)

pub size_there : (ms : List (List ℕ)) (i size : ℕ) (o : Option ℕ) → o ≡ Some size → o ≡ option_map length (slice_get ms i) → size ≡ length (get_or ms i [])
size_there ms i size o e f = size_is ms i size (Some size) refl (sym e ∙ f)

pub copied_from-slice_get : (ms : List (List ℕ)) (i : ℕ) (out : List ℕ) → copied_from (slice_get ms i) out ≡ copied (get_or ms i []) out
copied_from-slice_get [] i out = sym (cond-true _ _ _ (le-leb 0 (length out) (omega arith)))
copied_from-slice_get (m ∷ ms) zero out = refl
copied_from-slice_get (m ∷ ms) (suc i) out = copied_from-slice_get ms i out

-- a block: its data, and its length in front of it
pub block_written : (d rest o m : List ℕ) (at size : ℕ) → size ≡ length m → rest ≡ copied m (take (length d - (at + 2)) (drop (at + 2) d))
    → o ≡ overwritten (put_mid (at + 2) (length d - (at + 2)) d rest) at (bytes_of 2 size) → at + (2 + length m) ≤ length d
    → o ≡ overwritten d at (block_bytes m)
block_written d rest o m at size s r e h =
    let was = drop (at + 2) d in
    let long = length-drop (at + 2) d in
    let rest_is : rest ≡ m ++ drop (at + 2 + length m) d
    = r ∙ (ap (copied m) (take_rest d (at + 2)) ∙ (cond-true _ _ _ (le-leb (length m) (length was) (omega arith))
    ∙ ap (λ x. m ++ x) (ap (λ n. drop n was) (zero-add (length m)) ∙ drop-drop (length m) (at + 2) d))) in
    let none : drop (length d - (at + 2)) was ≡ [] = drop_all (length d - (at + 2)) was (omega arith) in
    let part : put_mid (at + 2) (length d - (at + 2)) d rest ≡ overwritten d (at + 2) m
    = (λ i. take (at + 2) d ++ (rest_is i ++ none i)) ∙ ap (λ x. take (at + 2) d ++ x) (append-nil (m ++ drop (at + 2 + length m) d)) in
    e ∙ ((λ i. overwritten (part i) at (bytes_of 2 (s i))) ∙ overwritten_before d m (bytes_of 2 (length m)) at (at + 2) refl (omega arith))

-- what is measured of messages behind some payload
abbrev pub measured_from : ℕ → List (List ℕ) → Option ℕ
measured_from n ms = cond (some_long ms || ltb 65495 (n + span ms)) None (Some (n + span ms))

-- the same of messages from message i on, which has a size
module _ (n : ℕ) (ms : List (List ℕ)) (i size : ℕ) (h : i < length ms) (s : size ≡ length (get_or ms i [])) where
  abbrev first : List ℕ
  first = get_or ms i []

  abbrev others : List (List ℕ)
  others = drop (i + 1) ms

  pub measured_long : 1430 < size → measured_from n (drop i ms) ≡ None
  measured_long l = ap (measured_from n) (drop_more ms i [] h) ∙ cond-true _ _ _ (or_left _ _ (or_left _ _ (lt-ltb 1430 (length first) (omega arith))))

  pub measured_past : 65495 < n + (2 + size) → measured_from n (drop i ms) ≡ None
  measured_past l =
      ap (measured_from n) (drop_more ms i [] h)
      ∙ cond-true _ _ _ (or_right (some_long (first ∷ others)) _ (lt-ltb 65495 (n + span (first ∷ others)) (omega arith)))

  pub measured_more : size ≤ 1430 → measured_from n (drop i ms) ≡ measured_from (n + (2 + size)) others
  measured_more l =
      let short = le-ltb 1430 (length first) (omega arith) in
      let sum : n + span (first ∷ others) ≡ n + (2 + size) + span others = omega arith in
      ap (measured_from n) (drop_more ms i [] h) ∙ (λ t. cond ((short t || some_long others) || ltb 65495 (sum t)) None (Some (sum t)))

pub length_payload : (ms : List (List ℕ)) → length (payload_bytes ms) ≡ span ms
length_payload [] = refl
length_payload (m ∷ ms) = let l = length-append m (payload_bytes ms) in let k = length_payload ms in omega arith

-- each block has two bytes at least
pub long_span : (ms : List (List ℕ)) → 2 * length ms ≤ span ms
long_span [] = omega arith
long_span (m ∷ ms) = let k = long_span ms in omega arith

-- message i, its block behind those before it
module _ (ms : List (List ℕ)) (i : ℕ) (h : i < length ms) where
  abbrev message : List ℕ
  message = get_or ms i []

  pub span_more : span (take (i + 1) ms) ≡ span (take i ms) + (2 + length message)
  span_more = let p = ap span (take_more ms i [] h) in let q = span_push (take i ms) message in omega arith

  pub span_inside : span (take i ms) + (2 + length message) ≤ span ms
  span_inside =
      let a = span_join (take (i + 1) ms) (drop (i + 1) ms) in
      let b = ap span (take-append-drop (i + 1) ms) in
      let c = span_more in
      omega arith

  pub payload_more : payload_bytes (take i ms) ++ block_bytes message ≡ payload_bytes (take (i + 1) ms)
  payload_more = flat_map_more block_bytes [] (take i ms) message ∙ ap payload_bytes (sym (take_more ms i [] h))

-- the blocks so far, and one more
pub blocks_written : (ms : List (List ℕ)) (i : ℕ) (start now next : List ℕ) (at : ℕ) → i < length ms → 40 ≤ length start
    → at ≡ 40 + span (take i ms) → now ≡ overwritten start 40 (payload_bytes (take i ms))
    → next ≡ overwritten now at (block_bytes (get_or ms i [])) → next ≡ overwritten start 40 (payload_bytes (take (i + 1) ms))
blocks_written ms i start now next at h l a e f =
    let long = length_payload (take i ms) in
    overwritten_more start now next (payload_bytes (take i ms)) (block_bytes (get_or ms i [])) 40 at e f (omega arith) l
    ∙ ap (overwritten start 40) (payload_more ms i h)

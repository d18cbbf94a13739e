-- Messages between ends: how many, where each stands, and what one more message changes.
use Rattle.std.proofs.Common.{◌≡◌, ℕ, zero, suc, ◌+◌, ◌-◌, ◌<◌, ◌≤◌, true, List, [], ◌∷◌, ◌++◌, length, take, drop, slice_get, get_or, refl, sym, ap, ◌∙◌, arith}
use Rattle.std.specs.Option.{option_map, unwrap_or}
use Rattle.std.proofs.lemmas.List.{drop-take, take-take, length-take-le, take_all, take_min, with_items_is}
use Rattle.std.proofs.Math.Seq.{drop-append-add, drop-append_seam}
use Rattle.std.proofs.lemmas.Option.{gets}
use Rattle.std.proofs.lemmas.Grind.{common_steps}
use Rattle.memory.specs.Ends.{rise, last_end, between}
use Rattle.memory.specs.MessageBuffers.{data_bytes}

pub length_between : (from : ℕ) (es : List ℕ) (bs : List ℕ) → length (between from es bs) ≡ length es
length_between from [] bs = refl
length_between from (e ∷ es) bs = ap suc (length_between e es bs)

-- the first message does not begin after the last one ends
pub rise_low : (from : ℕ) (es : List ℕ) (last : ℕ) → rise from es last ≡ true → from ≤ last
rise_low from [] last r = grind (arith, common_steps)
rise_low from (e ∷ es) last r = grind (arith, common_steps, rise_low e es last)

-- ends that rise lead to the last one
pub rise_last : (from : ℕ) (es : List ℕ) (last : ℕ) → rise from es last ≡ true → last ≡ last_end from es
rise_last from [] last r = grind (arith, common_steps)
rise_last from (e ∷ es) last r = grind (arith, common_steps, rise_last e es last)

-- the last end, as code reads it
pub last_get : (from : ℕ) (es : List ℕ) → unwrap_or (slice_get es (length es - 1)) from ≡ last_end from es
last_get from [] = refl
last_get from (e ∷ []) = refl
last_get from (e ∷ f ∷ es) = grind (arith, common_steps, gets, last_get e (f ∷ es))

-- one more end is the last one
pub last_end_push : (from : ℕ) (es : List ℕ) (next : ℕ) → last_end from (es ++ next ∷ []) ≡ next
last_end_push from [] next = refl
last_end_push from (e ∷ es) next = last_end_push e es next

pub rise_push : (from : ℕ) (es : List ℕ) (next : ℕ) → rise from es (last_end from es) ≡ true → last_end from es ≤ next
    → rise from (es ++ next ∷ []) (last_end from (es ++ next ∷ [])) ≡ true
rise_push from [] next r h = grind (arith, common_steps)
rise_push from (e ∷ es) next r h = grind (arith, common_steps, rise_push e es next)

-- a message begins no later than all data ends
pub last_within : (from : ℕ) (es : List ℕ) (last i : ℕ) → rise from es last ≡ true → last_end from (take i es) ≤ last
last_within from es last zero r = rise_low from es last r
last_within from [] last (suc i) r = rise_low from [] last r
last_within from (e ∷ es) last (suc i) r = grind (arith, common_steps, last_within e es last i)

-- a message begins no later than it ends
pub in_order : (from : ℕ) (es : List ℕ) (last i d : ℕ) → rise from es last ≡ true → i < length es → last_end from (take i es) ≤ get_or es i d
in_order from [] last i d r h = absurd (omega arith)
in_order from (e ∷ es) last zero d r h = grind (arith, common_steps)
in_order from (e ∷ es) last (suc i) d r h = grind (arith, common_steps, in_order e es last i d)

-- and ends no later than all data does
pub in_time : (from : ℕ) (es : List ℕ) (last i d : ℕ) → rise from es last ≡ true → i < length es → get_or es i d ≤ last
in_time from [] last i d r h = absurd (omega arith)
in_time from (e ∷ es) last zero d r h = grind (arith, common_steps, rise_low e es last)
in_time from (e ∷ es) last (suc i) d r h = grind (arith, common_steps, in_time e es last i d)

-- a message is what stands between its end and the one before
pub get_between : (from : ℕ) (es bs : List ℕ) (i : ℕ)
    → slice_get (between from es bs) i ≡ option_map (λ (e : ℕ). take (e - last_end from (take i es)) (drop (last_end from (take i es)) bs)) (slice_get es i)
get_between from [] bs i = refl
get_between from (e ∷ es) bs zero = refl
get_between from (e ∷ es) bs (suc i) = get_between e es bs i

-- the data of the messages before one ends where that one begins
pub data_before : (from : ℕ) (es bs : List ℕ) (last i : ℕ) → rise from es last ≡ true → last ≤ length bs
    → from + data_bytes (take i (between from es bs)) ≡ last_end from (take i es)
data_before from es bs last zero r h = omega arith
data_before from [] bs last (suc i) r h = omega arith
data_before from (e ∷ es) bs last (suc i) r h = grind (arith, common_steps, rise_low e es last, data_before e es bs last i)

-- a part of the first bytes is the same where these are
part : (from k : ℕ) (bs cs : List ℕ) (last : ℕ) → from + k ≤ last → take last bs ≡ take last cs
    → take k (drop from bs) ≡ take k (drop from cs)
part from k bs cs last h same = grind (arith, drop-take from k bs, drop-take from k cs, take-take (from + k) last bs h, take-take (from + k) last cs h)

-- only the bytes before the last end matter
pub between_same : (from : ℕ) (es bs cs : List ℕ) (last : ℕ) → rise from es last ≡ true → take last bs ≡ take last cs
    → between from es bs ≡ between from es cs
between_same from [] bs cs last r same = refl
between_same from (e ∷ es) bs cs last r same = grind (arith, common_steps, rise_low e es last, part from (e - from) bs cs last, between_same e es bs cs last)

-- one more message, behind the last one
pub between_push : (from : ℕ) (es bs : List ℕ) (next : ℕ)
    → between from (es ++ next ∷ []) bs ≡ between from es bs ++ take (next - last_end from es) (drop (last_end from es) bs) ∷ []
between_push from [] bs next = refl
between_push from (e ∷ es) bs next = grind (arith, common_steps, between_push e es bs next)

-- the messages once a body was written behind the last one, and its end noted
pub between_written : (es bs body rest : List ℕ) (used : ℕ) → rise 0 es (last_end 0 es) ≡ true → used ≡ last_end 0 es → used ≤ length bs
    → between 0 (es ++ (used + length body) ∷ []) (take used bs ++ (body ++ rest)) ≡ between 0 es bs ++ body ∷ []
between_written es bs body rest used r e h =
    grind (
      arith,
      common_steps,
      between_push 0 es (take used bs ++ (body ++ rest)) (used + length body),
      between_same 0 es (take used bs ++ (body ++ rest)) bs (last_end 0 es) r,
    )

-- and the free bytes then: one body fewer
pub free_written : (bs body : List ℕ) (used k : ℕ) → used ≤ length bs → k ≡ length body
    → drop (used + length body) (take used bs ++ (body ++ drop k (drop used bs))) ≡ drop (length body) (drop used bs)
free_written bs body used k h e =
    let front : length (take used bs) ≡ used = length-take-le used bs h in
    ap (λ n. drop (n + length body) (take used bs ++ (body ++ drop k (drop used bs)))) (sym front)
    ∙ drop-append-add (take used bs) (body ++ drop k (drop used bs)) (length body)
    ∙ drop-append_seam body (drop k (drop used bs))
    ∙ ap (λ n. drop n (drop used bs)) e

-- how many data bytes all messages have
pub data_between : (es bs : List ℕ) → rise 0 es (last_end 0 es) ≡ true → last_end 0 es ≤ length bs → data_bytes (between 0 es bs) ≡ last_end 0 es
data_between es bs r h = grind (arith, length_between 0 es bs, data_before 0 es bs (last_end 0 es) (length es) r h, take_all)

-- what the check is to try at the goals of a reading method
pub ruleset reading = (length_between, last_get, last_within, in_order, in_time, get_between, data_before, data_between, take_min, gets)

-- and of a push
pub ruleset pushing = (length_between, last_end_push, rise_push, data_between, between_written, free_written, with_items_is)

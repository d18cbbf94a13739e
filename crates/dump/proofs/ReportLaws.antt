-- Reporting one record after another.
use Rattle.std.proofs.Common.{◌≡◌, ℕ, ◌-◌, ◌≤◌, List, [], ◌∷◌, ◌++◌, map, length, Some, None, Option, sym, refl, ap, ◌∙◌, subst, append_assoc, arith}
use Rattle.std.proofs.lemmas.List.{append-nil, map-append}
use Rattle.std.proofs.lemmas.List.Sums.{fold_push}
use Rattle.std.specs.Option.{option_to_list}
use Rattle.capture.proofs.RecordLaws.{shorter}
use Rattle.capture.specs.Records.{first_record, cut_record, Splits}
use Rattle.dump.specs.declared.line.Line.{Line}
use Rattle.dump.specs.declared.totals.Totals.{Totals}
use Rattle.dump.specs.Counts.{added, totals_of}
use Rattle.dump.specs.Reports.{Reported, line_of, with_record, with_records, with_cut, Reports, EndsWithCounts}
use Rattle.dump.proofs.CountLaws.{one_more}

-- the records before those that are left are done
pub record SoFar (before now : Reported) (bs left : List ℕ) : Type 0 where
  pub done : List (List ℕ)
  pub splits : (ts : List (List ℕ)) (y : List ℕ) → Splits left ts y → Splits bs (done ++ ts) y
  pub within : length left ≤ length bs
  pub reported : now ≡ with_records before done
  pub expected : now.expected ≡ before.expected

pub one_record : (before now next : Reported) (bs left after d : List ℕ) → SoFar before now bs left
    → first_record left ≡ Some (d, after) → next ≡ with_record now d → SoFar before next bs after
one_record before now next bs left after d s f n =
    record {
      done = s.done ++ d ∷ [];
      splits = λ ts y x. subst (λ rs. Splits bs rs y) (sym (append_assoc s.done (d ∷ []) ts)) (s.splits (d ∷ ts) y (after, f, x));
      within = omega (arith, shorter left d after f, s.within);
      reported = n ∙ (ap (λ p. with_record p d) s.reported ∙ sym (fold_push with_record before s.done d));
      expected = ap (λ (p : Reported). p.expected) n ∙ s.expected;
    }

-- a record more is a line more
counts_one : (p : Reported) (ls : List Line) (d : List ℕ) → p.totals ≡ totals_of ls → (with_record p d).totals ≡ totals_of (ls ++ line_of p.expected d ∷ [])
counts_one p ls d h = let l = line_of p.expected d in ap (λ (t : Totals). added t l) h ∙ one_more ls l

counts : (p : Reported) (rs : List (List ℕ)) (ls : List Line) → p.totals ≡ totals_of ls
    → (with_records p rs).totals ≡ totals_of (ls ++ map (line_of p.expected) rs)
counts p [] ls h = h ∙ ap totals_of (sym (append-nil ls))
counts p (d ∷ rs) ls h =
    let l = line_of p.expected d in
    counts (with_record p d) rs (ls ++ l ∷ []) (counts_one p ls d h) ∙ ap totals_of (append_assoc ls (l ∷ []) (map (line_of p.expected) rs))

pub all_done : (before now : Reported) (bs left : List ℕ) → SoFar before now bs left → first_record left ≡ None
    → Reports before now bs (length bs - length left)
all_done before now bs left s f =
    record {
      records = s.done;
      rest = left;
      splits = subst (λ rs. Splits bs rs left) (append-nil s.done) (s.splits [] left (f, refl));
      used = omega (arith, s.within);
      reported = s.reported;
      counted = λ ls h. ap (λ (p : Reported). p.totals) s.reported ∙ counts before s.done ls h;
    }

-- the record that was cut, if there is one, is counted after the whole ones
cut_counted : (p : Reported) (ds : List (List ℕ)) (o : Option (List ℕ)) → p.totals ≡ totals_of (map (line_of p.expected) ds)
    → (with_cut p o).totals ≡ totals_of (map (line_of (with_cut p o).expected) (ds ++ option_to_list o))
cut_counted p ds None h = rw append-nil h
cut_counted p ds (Some d) h = rw map-append (counts_one p _ d h)

pub ends : (rest : List ℕ) (p : Reported) → EndsWithCounts rest p (with_cut p (cut_record rest))
ends rest p seen f =
    let cut = cut_record rest in (
      f.records ++ option_to_list cut,
      record { whole = f.records; rest = rest; splits = f.splits; all = refl },
      cut_counted p f.records cut f.counted,
    )

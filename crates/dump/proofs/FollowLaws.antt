-- Following a capture read by read.
use Rattle.std.proofs.Common.{◌≡◌, ℕ, ◌+◌, List, ◌++◌, map, length, take, drop, sym, ap, ◌∙◌, arith, length-drop, take-append-drop}
use Rattle.std.proofs.lemmas.List.{map-append}
use Rattle.capture.proofs.RecordLaws.{in_parts, off_the_end}
use Rattle.capture.specs.Records.{Splits}
use Rattle.dump.specs.Counts.{totals_of}
use Rattle.dump.specs.Reports.{Reported, Reports, line_of, FollowsOn}

module _ (held filled left : List ℕ) (before after : Reported) (n used : ℕ) where
  -- n bytes came behind what was held; the whole records of both were reported, and what is left is held
  pub follows_on : take (length held) filled ≡ held → length filled ≡ length held + n → Reports before after filled used
      → after.expected ≡ before.expected → left ≡ drop used filled → FollowsOn held before left after n
  follows_on kept more r same is seen f =
      let new = drop (length held) filled in
      let all : held ++ new ≡ filled = ap (λ x. x ++ new) (sym kept) ∙ take-append-drop (length held) filled in
      let rest_is : left ≡ r.rest = is ∙ off_the_end filled r.records r.rest used r.splits r.used in
      let whole : Splits (held ++ new) r.records left = rw (all, rest_is) r.splits in
      let line = line_of before.expected in (
        new,
        omega (arith, length-drop (length held) filled),
        record {
          records = f.records ++ r.records;
          splits = in_parts seen new f.records r.records held left f.splits whole;
          counted = rw (same) (r.counted (map line f.records) f.counted ∙ ap totals_of (sym (map-append line f.records r.records)));
        },
      )

-- How much there is of everything in a list of lines.
use Rattle.std.specs.Prelude.{ℕ, ◌+◌, ◌-◌, ◌^◌, min, List, ◌++◌, length, codes, decimal, sum_by}
use Rattle.dump.specs.declared.line.Line.{Line}
use Rattle.dump.specs.declared.line.Line.TheVariants.{Refused, Heartbeat, Messages}
use Rattle.dump.specs.declared.totals.Totals.{Totals}

-- the counts of one record
abbrev counted : ℕ → ℕ → ℕ → ℕ → Totals
counted s h r m = record { records = 1; segments = s; heartbeats = h; refusals = r; messages = m }

-- what one line counts for
abbrev pub counts_in : Line → Totals
counts_in (Refused f) = counted 0 0 1 0
counts_in (Heartbeat n) = counted 1 1 0 0
counts_in (Messages x) = counted 1 0 0 x.count

-- counts stop at the largest number of 64 bits
abbrev pub capped : ℕ → ℕ
capped n = min n (2 ^ 64 - 1)

-- the counts of a whole list
abbrev pub totals_of : List Line → Totals
totals_of ls =
    record {
      records = capped (length ls);
      segments = capped (sum_by (λ l. (counts_in l).segments) ls);
      heartbeats = capped (sum_by (λ l. (counts_in l).heartbeats) ls);
      refusals = capped (sum_by (λ l. (counts_in l).refusals) ls);
      messages = capped (sum_by (λ l. (counts_in l).messages) ls);
    }

-- the counts with one line more
abbrev pub added : Totals → Line → Totals
added t l =
    record {
      records = capped (t.records + 1);
      segments = capped (t.segments + (counts_in l).segments);
      heartbeats = capped (t.heartbeats + (counts_in l).heartbeats);
      refusals = capped (t.refusals + (counts_in l).refusals);
      messages = capped (t.messages + (counts_in l).messages);
    }

-- the counts as they are printed
abbrev pub totals_text : Totals → List ℕ
totals_text t =
    codes "records " ++ (decimal t.records ++ (codes ", segments " ++ (decimal t.segments
    ++ (codes ", heartbeats " ++ (decimal t.heartbeats ++ (codes ", refusals " ++ (decimal t.refusals
    ++ (codes ", messages " ++ decimal t.messages))))))))

-- What a comparison of two bundles returns to C, by what it answers: kv_comparison of include/ketvaulo.h.
use Rattle.std.specs.Prelude.{ℕ}
use Rattle.refusal.specs.Answers.{Answer, returned, refused, number_in}
use Rattle.compare_rules.specs.Compare.{Tally}
use Rattle.outcome.specs.declared.comparisons.Comparison.{Comparison}

-- the refusal's number, 0 where there is none
abbrev pub number_of : Answer → ℕ
number_of (returned n) = 0
number_of (refused x) = number_in x

-- kv_comparison: the number, and the counts, which are zeros on a refusal
abbrev pub comparison_outcome : Answer → Tally → Comparison
comparison_outcome answer counts =
    record { refusal = number_of answer; only_first = counts.only_first; changed = counts.changed; only_second = counts.only_second }

-- What a comparison of two bundles answers, as the definitions say it (document 02, request 10).
use Rattle.std.specs.Prelude.{◌*◌, Result, Ok, Err}
use Rattle.refusal.specs.Answers.{reason_of, Answer, returned, refused}
use Rattle.refusal.specs.declared.Refusal.{Refusal}
use Rattle.compare_rules.specs.Compare.{Tally}
use Rattle.compare_rules.specs.Statements.{total}
use Rattle.bundle_compare.specs.declared.counts.Counts.{Counts}

abbrev pub tally_of : Counts → Tally
tally_of c = record { only_first = c.only_first; changed = c.changed; only_second = c.only_second }

-- the length of the list that was written, 17 bytes an entry, or the refusal
abbrev pub answer_in : Result Counts Refusal → Answer
answer_in (Ok c) = returned (17 * total (tally_of c))
answer_in (Err x) = refused (reason_of x)

-- the three counts, zeros on a refusal
abbrev pub counts_in : Result Counts Refusal → Tally
counts_in (Ok c) = tally_of c
counts_in (Err x) = record { only_first = 0; changed = 0; only_second = 0 }

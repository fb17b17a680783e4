-- Checked cases of document 02, request 10.
use Rattle.std.specs.Prelude.{ℕ, ◌≡◌, List, [], ◌∷◌, ◌++◌, replicate, set}
use Rattle.refusal.specs.Checks.{bare}
use Rattle.refusal.specs.Answers.{returned, refused}
use Rattle.bundle_rules.specs.Bundle.{file_of}
use Rattle.bundle_rules.specs.Cases.{sample}
use Rattle.compare_rules.specs.Compare.{compare_answer, compare_buffer, compare_counts}

-- Key IDs 5, 6, 7, 8 against 9, 8, 7, 6: 5 is only in the first, 6 differs in a byte, 7 agrees, 8 in its length, 9 is only in the second
abbrev pub before : List ℕ
before = file_of (sample 5 76 ∷ sample 6 76 ∷ sample 7 76 ∷ sample 8 84 ∷ [])

abbrev pub after : List ℕ
after = file_of (sample 9 76 ∷ sample 8 76 ∷ sample 7 76 ∷ set (sample 6 76) 75 1 ∷ [])

abbrev pub CompareCases : Type 0
CompareCases =
    (compare_answer before after 68 ≡ returned 68)
    × (compare_buffer before after (replicate 70 255)
    ≡ (1 ∷ replicate 16 5) ++ ((2 ∷ replicate 16 6) ++ ((2 ∷ replicate 16 8) ++ ((3 ∷ replicate 16 9) ++ (255 ∷ 255 ∷ [])))))
    × (compare_counts before after 68 ≡ record { only_first = 1; changed = 2; only_second = 1 })
    × (compare_answer before after 67 ≡ refused (bare 6))
    × (compare_counts before after 67 ≡ record { only_first = 0; changed = 0; only_second = 0 })
    -- nothing to list needs no room
    × (compare_answer after after 0 ≡ returned 0)
    -- the first bundle's refusal before the second's
    × (compare_answer (set before 1 0) [] 68 ≡ refused (bare 39))
    × (compare_answer before (0 ∷ 1 ∷ []) 0 ≡ refused (bare 40))

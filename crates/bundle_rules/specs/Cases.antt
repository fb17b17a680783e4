-- Checked cases of request 9: an accepted file, and each refusal of the reader and of the writer.
use Rattle.std.specs.Prelude.{ℕ, ◌-◌, ◌≡◌, List, [], ◌∷◌, ◌++◌, take, replicate, set}
use Rattle.refusal.specs.Checks.{bare}
use Rattle.refusal.specs.Answers.{returned, refused}
use Rattle.rfc3394.specs.Rfc3394.{initial_value}
use Rattle.bundle_rules.specs.Bundle.{file_of, write_answer, read_answer}

-- an attribute of n bytes whose Key ID is one byte, 16 times
abbrev pub sample : ℕ → ℕ → List ℕ
sample id n = 1 ∷ n ∷ 0 ∷ 0 ∷ (replicate 20 0 ++ (replicate 16 id ++ (replicate 4 0 ++ (initial_value ++ replicate (n - 52) 0))))

-- a file of two, of 76 and 84 bytes: the lines from byte 2 and 22 on, the attributes from 42 and 118 on, its end 202
abbrev pub two : List ℕ
two = file_of (sample 7 76 ∷ sample 8 84 ∷ [])

abbrev pub ReadCases : Type 0
ReadCases =
    (read_answer two 160 ≡ returned 160)
    × (read_answer two 159 ≡ refused (bare 6))
    -- 39: no byte, one, counts of 0, of 65 and of 256
    × (read_answer [] 0 ≡ refused (bare 39))
    × (read_answer (1 ∷ []) 0 ≡ refused (bare 39))
    × (read_answer (set two 1 0) 0 ≡ refused (bare 39))
    × (read_answer (set two 1 65) 0 ≡ refused (bare 39))
    × (read_answer (1 ∷ 0 ∷ []) 0 ≡ refused (bare 39))
    -- 40: contents cut short; the first offset, the second
    × (read_answer (take 41 two) 160 ≡ refused (bare 40))
    × (read_answer (set two 19 43) 160 ≡ refused (bare 40))
    × (read_answer (set two 38 1) 160 ≡ refused (bare 40))
    -- 41: a byte too many, a byte too few
    × (read_answer (two ++ (0 ∷ [])) 160 ≡ refused (bare 41))
    × (read_answer (take 201 two) 160 ≡ refused (bare 41))
    -- 42, before any body is looked at
    × (read_answer (file_of (sample 7 76 ∷ sample 7 77 ∷ [])) 160 ≡ refused (bare 42))
    -- body by body: the first body's 27 before the second's 24, each number before the next, 50 last
    × (read_answer (set (set two 86 0) 119 0) 160 ≡ refused (bare 27))
    × (read_answer (set (set two 119 0) 118 0) 160 ≡ refused (bare 24))
    × (read_answer (set (set two 118 0) 120 1) 160 ≡ refused (bare 20))
    × (read_answer (set (set two 120 1) 121 1) 160 ≡ refused (bare 25))
    × (read_answer (set (set two 121 1) 162 0) 160 ≡ refused (bare 26))
    × (read_answer (set (set two 162 0) 22 9) 160 ≡ refused (bare 27))
    × (read_answer (set two 22 9) 0 ≡ refused (bare 50))

abbrev pub WriteCases : Type 0
WriteCases =
    (write_answer (sample 7 76 ++ sample 8 84) 202 ≡ returned 202)
    × (write_answer (sample 7 76 ++ sample 8 84) 201 ≡ refused (bare 6))
    × (write_answer [] 0 ≡ refused (bare 39))
    × (write_answer (sample 7 76 ++ sample 7 84) 0 ≡ refused (bare 42))
    -- 24: past the end; a lone byte after a body; a length byte of 0; a length that no attribute has
    × (write_answer (sample 7 76 ++ take 83 (sample 8 84)) 202 ≡ refused (bare 24))
    × (write_answer (sample 7 76 ++ (1 ∷ [])) 202 ≡ refused (bare 24))
    × (write_answer (set (sample 7 76) 1 0) 202 ≡ refused (bare 24))
    × (write_answer (sample 7 77) 202 ≡ refused (bare 24))
    -- body by body
    × (write_answer (set (sample 7 76) 44 0 ++ (1 ∷ [])) 202 ≡ refused (bare 27))
    × (write_answer (set (sample 7 76) 0 0) 202 ≡ refused (bare 20))

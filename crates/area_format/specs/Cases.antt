-- Worked cases of reading an area: document 01's example ("Checked cases"), and an area for each refusal, in the order of "Attribute area",
-- with 29 and the place of 16 as document 02, request 1, has them, and 30 by the strict way as request 5 has it.
use Rattle.std.specs.Prelude.{◌≡◌, ℕ, zero, suc, true, false, List, [], ◌∷◌, ◌++◌, replicate}
use Rattle.refusal.specs.Checks.{bare, located}
use Rattle.area_format.specs.declared.Way.TheVariants.{Strict, Lenient}
use Rattle.area_format.specs.Names.{same_fields}
use Rattle.area_format.specs.Area.{AreaAnswer, answered, refused, area_answer, area_buffer}

-- 18 01 00 02, 18 01 00 01, 17 02 00 03 57 4C 4E 00
abbrev pub two : List ℕ
two = 0x18 ∷ 0x01 ∷ 0x00 ∷ 0x02 ∷ []

abbrev pub one : List ℕ
one = 0x18 ∷ 0x01 ∷ 0x00 ∷ 0x01 ∷ []

abbrev pub wln : List ℕ
wln = 0x17 ∷ 0x02 ∷ 0x00 ∷ 0x03 ∷ 0x57 ∷ 0x4C ∷ 0x4E ∷ 0x00 ∷ []

-- the same bytes so many times
abbrev pub times : ℕ → List ℕ → List ℕ
times zero s = []
times (suc n) s = s ++ times n s

-- what is answered, leniently, where the peer's own name is empty and there is room for 17
abbrev pub answer_for : List ℕ → AreaAnswer
answer_for area = area_answer Lenient area [] 17

abbrev pub Cases : Type 0
Cases =
    (answer_for (two ++ one ++ wln) ≡ answered 2 12 3 false)
    × (area_buffer Lenient (two ++ one ++ wln) [] (replicate 17 7) ≡ 2 ∷ 1 ∷ replicate 15 7)
    × (area_answer Lenient (two ++ wln) (0x57 ∷ 0x4C ∷ 0x4E ∷ []) 17 ≡ answered 1 8 3 true)
    × (area_answer Strict (two ++ wln) (0x57 ∷ 0x4C ∷ 0x4E ∷ []) 17 ≡ answered 1 8 3 true)
    × (area_answer Strict (two ++ wln) [] 17 ≡ refused (bare 30))
    × (area_buffer Strict (two ++ wln) [] (replicate 17 7) ≡ replicate 17 7)
    × (area_answer Strict wln [] 17 ≡ refused (bare 10))
    × (area_answer Strict (two ++ wln) [] 16 ≡ refused (bare 6))
    × (answer_for (two ++ wln ++ 0x18 ∷ []) ≡ refused (located 16 12))
    × (answer_for (two ++ wln ++ 0x85 ∷ 0x00 ∷ 0x00 ∷ 0x00 ∷ []) ≡ refused (located 16 12))
    × (answer_for (0x18 ∷ 0x02 ∷ 0x00 ∷ 0x02 ∷ 0x00 ∷ 0x00 ∷ 0x00 ∷ []) ≡ refused (located 16 0))
    × (answer_for (two ++ wln ++ 0x18 ∷ 0x02 ∷ 0x00 ∷ 0x02 ∷ 0x00 ∷ 0x00 ∷ 0x00 ∷ 0x00 ∷ []) ≡ refused (bare 17))
    × (answer_for (two ++ 0x17 ∷ 0x01 ∷ 0x00 ∷ 0x01 ∷ []) ≡ refused (bare 18))
    × (answer_for (two ++ 0x17 ∷ 0x02 ∷ 0x00 ∷ 0x03 ∷ 0x57 ∷ 0x4C ∷ 0x4E ∷ 0x01 ∷ []) ≡ refused (bare 29))
    × (answer_for (two ++ 0x17 ∷ 0x03 ∷ 0x00 ∷ 0x03 ∷ 0x57 ∷ 0x4C ∷ 0x4E ∷ 0x01 ∷ 0x00 ∷ 0x00 ∷ 0x00 ∷ 0x00 ∷ []) ≡ refused (bare 18))
    × (answer_for (two ++ wln ++ wln) ≡ refused (bare 19))
    × (answer_for two ≡ refused (bare 19))
    × (answer_for wln ≡ refused (bare 10))
    × (answer_for (times 17 two ++ wln) ≡ answered 17 72 3 false)
    × (answer_for (times 18 two ++ wln) ≡ refused (bare 10))

-- Names of document 02, request 4: FOO, FOO: and FOO:BAR, BAR alone after a colon, and the colon alone
abbrev pub foo : List ℕ
foo = 0x46 ∷ 0x4F ∷ 0x4F ∷ []

abbrev pub bar : List ℕ
bar = 0x42 ∷ 0x41 ∷ 0x52 ∷ []

abbrev pub colon : List ℕ
colon = 0x3A ∷ []

-- "" is one empty field, and "FOO:" has a second, empty one. The last three: agreeing is not transitive.
abbrev pub NameCases : Type 0
NameCases =
    (same_fields [] [] ≡ true)
    × (same_fields [] colon ≡ true)
    × (same_fields [] (colon ++ bar) ≡ true)
    × (same_fields [] (foo ++ colon ++ bar) ≡ false)
    × (same_fields (foo ++ colon) foo ≡ true)
    × (same_fields (foo ++ colon) (foo ++ colon ++ bar) ≡ false)
    × (same_fields foo bar ≡ false)
    × (same_fields foo (foo ++ bar) ≡ false)
    × (same_fields (foo ++ colon ++ bar) foo ≡ true)
    × (same_fields foo (foo ++ colon ++ foo) ≡ true)
    × (same_fields (foo ++ colon ++ bar) (foo ++ colon ++ foo) ≡ false)

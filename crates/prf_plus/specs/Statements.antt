-- What is proved of the expansion.
use Rattle.std.specs.Prelude.{ℕ, suc, ◌≡◌, List, [], ◌∷◌, ◌++◌}
use Rattle.prf_plus.specs.PrfPlus.{block}

-- document 01's two cases, word for word: T1 = HMAC(K, S then 01); each later Ti = HMAC(K, T(i-1) then S then the byte i).
-- `two_cases` of proofs/Laws.antt shows it of every MAC
abbrev pub TwoCases : (List ℕ → List ℕ → List ℕ) → Type 0
TwoCases mac =
    (key text : List ℕ)
    → (block mac key text 1 ≡ mac key (text ++ (1 ∷ [])))
    × ((i : ℕ) → block mac key text (suc (suc i)) ≡ mac key (block mac key text (suc i) ++ (text ++ (suc (suc i) ∷ []))))

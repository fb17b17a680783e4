-- The syntax of a label: what source document 000, section 7.1, does not allow, as document 02 has it refused (request 7).
use Rattle.std.specs.Prelude.{ℕ, ◌-◌, Bool, ◌&&◌, ◌||◌, List, leb, eqb, length, get_or, count_by}
use Prim.Native.Char.{code}

-- how often a byte stands in a text
abbrev pub count : ℕ → List ℕ → ℕ
count b s = count_by (λ x. eqb x b) s

-- the breaches: a space; a comma; over 64 bytes where there is no at-sign; a second at-sign; one standing first or last
abbrev pub has_space : List ℕ → Bool
has_space label = leb 1 (count (code " ") label)

abbrev pub has_comma : List ℕ → Bool
has_comma label = leb 1 (count (code ",") label)

abbrev pub is_long_without_at : List ℕ → Bool
is_long_without_at label = leb 65 (length label) && eqb (count (code "@") label) 0

abbrev pub has_second_at : List ℕ → Bool
has_second_at label = leb 2 (count (code "@") label)

abbrev pub has_at_first : List ℕ → Bool
has_at_first label = eqb (get_or label 0 0) (code "@")

abbrev pub has_at_last : List ℕ → Bool
has_at_last label = eqb (get_or label (length label - 1) 0) (code "@")

unfoldable pub breaches : List ℕ → Bool
breaches label = has_space label || has_comma label || is_long_without_at label || has_second_at label || has_at_first label || has_at_last label

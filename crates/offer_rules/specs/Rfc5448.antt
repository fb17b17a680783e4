-- The negotiation of the key derivation function by AT_KDF values: RFC 5448 section 3.2, as document 01, "Offers", reads it.
-- A list of offers is in the server's order of preference, the most preferred first.
use Rattle.std.specs.Prelude.{ℕ, suc, ◌+◌, Bool, false, not, cond, ◌||◌, List, [], ◌∷◌, eqb, ltb, length}
use Rattle.slices.specs.Same.{same_list}
use Rattle.refusal.specs.Checks.{Check, bare, unless, ◌and_then◌, within, check6}

-- the value stands in the list
unfoldable pub stands : ℕ → List ℕ → Bool
stands value [] = false
stands value (x ∷ list) = eqb x value || stands value list

-- some value occurs twice
unfoldable pub repeats : List ℕ → Bool
repeats [] = false
repeats (x ∷ list) = stands x list || repeats list

-- the position, counted from 0, of the first offer, in the server's order, that stands in the supported list; the count of the offers where none does
unfoldable pub first_supported : List ℕ → List ℕ → ℕ
first_supported [] supported = 0
first_supported (x ∷ offers) supported = cond (stands x supported) 0 (suc (first_supported offers supported))

-- the value is the first of the list
unfoldable pub is_first : ℕ → List ℕ → Bool
is_first value [] = false
is_first value (x ∷ list) = eqb x value

-- what the server sends on a reply that it accepts: the selected alternative, and the entire list following it
abbrev pub renewed_list : List ℕ → ℕ → List ℕ
renewed_list offers reply = reply ∷ offers

-- 10: offers not 1 to 16
abbrev pub check10 : List ℕ → Check
check10 offers = unless (within 1 16 (length offers)) (bare 10)

-- 11: an offer value occurs twice
abbrev pub check11 : List ℕ → Check
check11 offers = unless (not (repeats offers)) (bare 11)

-- 12: no offer is supported
abbrev pub check12 : List ℕ → List ℕ → Check
check12 offers supported = unless (ltb (first_supported offers supported) (length offers)) (bare 12)

-- 13: reply (on renewal, the choice) equals the first offer
abbrev pub check13 : List ℕ → ℕ → Check
check13 offers reply = unless (not (is_first reply offers)) (bare 13)

-- 14: reply (on renewal, the choice) is not among the offers
abbrev pub check14 : List ℕ → ℕ → Check
check14 offers reply = unless (stands reply offers) (bare 14)

-- 15: renewed list is not the choice followed by the original
abbrev pub check15 : List ℕ → ℕ → List ℕ → Check
check15 original choice renewed = unless (same_list renewed (renewed_list original choice)) (bare 15)

-- the peer's first round
unfoldable pub choose_check : List ℕ → List ℕ → Check
choose_check offers supported = check10 offers and_then check11 offers and_then check12 offers supported

-- the server; room is the length of the output buffer
unfoldable pub answer_check : List ℕ → ℕ → ℕ → Check
answer_check offers reply room =
    check10 offers and_then check11 offers and_then check13 offers reply and_then check14 offers reply and_then check6 (length offers + 1) room

-- the peer, on the renewed list
unfoldable pub renewed_check : List ℕ → ℕ → List ℕ → Check
renewed_check original choice renewed =
    check10 original and_then check11 original and_then check13 original choice and_then check14 original choice and_then check15 original choice renewed

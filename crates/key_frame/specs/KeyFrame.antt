-- The Key attribute's layout, and the tests that its writer and its reader share: source document 004, section 3.1, as document 01, "Key attribute", reads it.
-- Byte 0 type, 1 length, 2 reserved 0, 3 Enc Type 0, 4 App ID (4), 8 KEK ID (16), 24 Key ID (16), 40 Lifetime (4), 44 IV (8), 52 the wrapped key.
use Rattle.std.specs.Prelude.{ℕ, ◌-◌, Bool, ◌&&◌, List, [], ◌∷◌, ◌++◌, leb, eqb, length, take, drop, get_or, replicate}
use Rattle.refusal.specs.Checks.{Check, bare, unless, ◌and_then◌, check20}
use Rattle.slices.specs.Numbers.{be32, be32_at}
use Rattle.slices.specs.Same.{same_list}
use Rattle.rfc3394.specs.Rfc3394.{initial_value}
use Rattle.keywrap.specs.Calls.{wrappable}
use Rattle.key_frame.specs.declared.KeyFields.{KeyFields}

-- the fields by name
abbrev pub fields_of : ℕ → ℕ → List ℕ → List ℕ → ℕ → KeyFields
fields_of attributeType appId kekId keyId lifetime =
    record { attribute_type = attributeType; app_id = appId; kek_id = kekId; key_id = keyId; lifetime = lifetime }

-- bytes 0 to 51 of an attribute that is n bytes long
unfoldable pub header : KeyFields → ℕ → List ℕ
header f n =
    (f.attribute_type ∷ n ∷ 0 ∷ 0 ∷ [])
    ++ (be32 f.app_id ++ (f.kek_id ++ (f.key_id ++ (be32 f.lifetime ++ initial_value))))

-- the fields that an attribute holds
unfoldable pub fields_in : List ℕ → KeyFields
fields_in a =
    record {
      attribute_type = get_or a 0 0;
      app_id = be32_at a 4;
      kek_id = take 16 (drop 8 a);
      key_id = take 16 (drop 24 a);
      lifetime = be32_at a 40;
    }

-- its IV, the wrapped key, and the length of the key that is wrapped in it
abbrev pub iv_in : List ℕ → List ℕ
iv_in a = take 8 (drop 44 a)

abbrev pub wrapped_in : List ℕ → List ℕ
wrapped_in a = drop 52 a

abbrev pub key_length_in : List ℕ → ℕ
key_length_in a = length a - 60

-- 22: KEK not 16 bytes
abbrev pub check22 : List ℕ → Check
check22 kek = unless (eqb (length kek) 16) (bare 22)

-- the length byte is there and counts the bytes lent, and they are 60 plus a multiple of 8 from 16 to 192
unfoldable pub length_holds : List ℕ → Bool
length_holds a = leb 2 (length a) && (eqb (get_or a 1 0) (length a) && wrappable (length a - 60))

-- 24: Key attribute of wrong length
abbrev pub check24 : List ℕ → Check
check24 a = unless (length_holds a) (bare 24)

-- 25: reserved byte not zero
abbrev pub check25 : List ℕ → Check
check25 a = unless (eqb (get_or a 2 0) 0) (bare 25)

-- 26: Enc Type not 0
abbrev pub check26 : List ℕ → Check
check26 a = unless (eqb (get_or a 3 0) 0) (bare 26)

-- 27: IV field not eight bytes A6
abbrev pub check27 : List ℕ → Check
check27 a = unless (same_list (iv_in a) initial_value) (bare 27)

-- the tests of a lent attribute that need no KEK
unfoldable pub frame_check : List ℕ → Check
frame_check a = check24 a and_then check20 (get_or a 0 0) and_then check25 a and_then check26 a and_then check27 a

-- n bytes of a list: its first, and zeros after them where it has fewer
abbrev pub first_of : ℕ → List ℕ → List ℕ
first_of n s = take n s ++ drop (length s) (replicate n 0)

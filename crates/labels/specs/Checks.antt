-- The tests of labels, server IDs and domains, by their numbers: document 01's 2, 3, 7 and 8 ("Refusal numbers"), and document 02's 31 and 32.
use Rattle.std.specs.Prelude.{ℕ, ◌&&◌, ◌||◌, not, List, length, Option, None, Some}
use Rattle.refusal.specs.Checks.{Check, pass, refuse, bare, located, unless, within, ◌and_then◌}
use Rattle.slices.specs.Same.{same_list}
use Rattle.labels.specs.Bytes.{label_byte, server_byte, domain_byte, every, first_bad}
use Rattle.labels.specs.Syntax.{breaches}
use Rattle.labels.specs.FixedLabels.{dsrk_label, exempt}

-- 2: label not 1 to 255 bytes
abbrev pub check2 : List ℕ → Check
check2 label = unless (within 1 255 (length label)) (bare 2)

-- 3: a label byte outside 32 to 126. It carries the position of the first such byte (document 02, request 1)
abbrev pub scanned3 : Option ℕ → Check
scanned3 None = pass
scanned3 (Some i) = refuse (located 3 i)

abbrev pub check3 : List ℕ → Check
check3 label = scanned3 (first_bad label_byte label)

-- 32: a label that breaches the syntax of a label and is not exempt (document 02, request 7)
unfoldable pub check32 : List ℕ → Check
check32 label = unless (not (breaches label) || exempt label) (bare 32)

-- the tests of a label, for usage keys and for names: 2, 3, 32
unfoldable pub label_check : List ℕ → Check
label_check label = check2 label and_then check3 label and_then check32 label

-- 31: a usage request under the EMSK with the domain label (document 02, request 6)
unfoldable pub check31 : List ℕ → Check
check31 label = unless (not (same_list label dsrk_label)) (bare 31)

-- 7: server ID not 1 to 255 bytes, or a byte of it outside 33 to 126
unfoldable pub check7 : List ℕ → Check
check7 server = unless (within 1 255 (length server) && every server_byte server) (bare 7)

-- 8: domain not 1 to 253 bytes, or a byte not a letter, digit, hyphen or dot
unfoldable pub check8 : List ℕ → Check
check8 domain = unless (within 1 253 (length domain) && every domain_byte domain) (bare 8)

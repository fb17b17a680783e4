-- The attribute's length for a key of 192 bytes, and that a key of 200 is refused (P14 of document 01's checked cases).
use Prim.Native.Nat.{ℕ, ◌≤◌}
use mathlib.Core.Path.{◌≡◌, refl}
use mathlib.Core.List.{List}
use borrow.Author.Tests.{le-leb}
use lib.ListN.{length, get_or}
use Rattle.refusal.specs.Checks.{bare, pass, unless, ◌and_then◌, within, check20}
use Rattle.refusal.specs.Answers.{returned, refused}
use Rattle.keywrap.specs.Calls.{wrappable}
use Rattle.key_frame.specs.KeyFrame.{header, check22}
use Rattle.key_frame.specs.declared.KeyFields.{KeyFields}
use Rattle.key_writer.specs.KeyWriter.{check21, attribute, write_check, write_answer, write_buffer}

pub attribute_cases : (f : KeyFields) (kek key buffer : List ℕ)
    → (check20 f.attribute_type and_then check21 f.kek_id f.key_id and_then check22 kek) ≡ pass
    → (length key ≡ 192 → 252 ≤ length buffer → (write_answer f kek key (length buffer) ≡ returned 252) × (get_or (write_buffer f kek key buffer) 1 0 ≡ 252))
    × (length key ≡ 200 → write_answer f kek key (length buffer) ≡ refused (bare 23))
unfolding write_answer write_buffer write_check attribute header unless within wrappable
attribute_cases f kek key buffer e = (λ n h. rw (e, n, le-leb 252 (length buffer) h) (refl, refl), λ n. rw (e, n))

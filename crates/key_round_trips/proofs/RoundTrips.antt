-- What is written reads back, and what is accepted, written again, is the same bytes: from the layout's two laws (proofs/Fields.antt) and the wrapping's (keywrap).
use Prim.Native.Nat.{ℕ, ◌+◌, ◌-◌, ◌^◌, ◌≤◌, ◌<◌}
use mathlib.Core.Path.{◌≡◌, refl, sym, ◌∙◌}
use mathlib.Core.Bool.{true, ◌&&◌}
use mathlib.Core.List.{List, ◌++◌}
use native.Mathlib.Omega.{arith}
use borrow.Author.Tests.{eqb-true, eq-eqb, le-leb}
use lib.Dec.{eqb}
use lib.ListN.{length, take, drop, length-append, length-drop}
use lib.Seq.{take_at, length-take-le}
use Rattle.refusal.specs.Checks.{Check, pass, refuse, bare, ◌and_then◌, check20}
use Rattle.refusal.proofs.Passing.{before-passed, last-passed, test_passed, test_holds, both_pass}
use Rattle.rfc3394.specs.Rfc3394.{initial_value, wrapped, unwrapped_iv}
use Rattle.slices.specs.Bytes.{Bytes}
use Rattle.keywrap.specs.Calls.{wrappable}
use Rattle.slices.proofs.Bytes.{bytes_drop}
use Rattle.rfc3394.proofs.Laws.{length-wrapped, unwrap_initial, unwrap_key, length-unwrapped_key, wrap_again}
use Rattle.slices.proofs.Same.{same_equal, equal_same}
use Rattle.key_frame.specs.KeyFrame.{check22, fields_in, wrapped_in, key_length_in, frame_check}
use Rattle.key_frame.specs.declared.KeyFields.{KeyFields}
use Rattle.key_frame.proofs.Frames.{framed}
use Rattle.key_writer.specs.KeyWriter.{check21, attribute, write_check, write_answer, write_buffer}
use Rattle.key_reader.specs.KeyReader.{key_in, read_check, accepted, reading_to, reading, read_buffer}
use Rattle.key_round_trips.specs.Statements.{ReadsBack, WritesAgain}
use Rattle.refusal.proofs.Answering.{told_count}
use Rattle.key_writer.proofs.Writing.{lengths}
use Rattle.key_round_trips.proofs.Fields.{Fitting, header-size, fields-written, wrapped-written, frame-written, header_back, kind_passes}

-- a reading that is accepted comes of tests that passed
accepted-passed : (c : Check) (f g : KeyFields) (m n : ℕ) → reading_to c f m ≡ accepted g n → (c ≡ pass) × (f ≡ g) × (m ≡ n)
accepted-passed pass f g m n e = (refl, cc, cc)
accepted-passed (refuse x) f g m n e = (cc, cc, cc)

-- ---- what is written reads back

module _ (f : KeyFields) (kek key : List ℕ) (space : ℕ) (app : f.app_id < 2 ^ 32) (life : f.lifetime < 2 ^ 32) (bk : Bytes kek) (by : Bytes key)
    (ok : write_check f kek key space ≡ pass) where
  -- what the writer's tests say
  named-passes : (check20 f.attribute_type and_then check21 f.kek_id f.key_id and_then check22 kek) ≡ pass
  unfolding write_check
  named-passes = before-passed _ _ (before-passed _ _ ok)

  kind-written : check20 f.attribute_type ≡ pass
  kind-written = before-passed _ _ (before-passed _ _ named-passes)

  key-sized : wrappable (length key) ≡ true
  unfolding write_check
  key-sized = test_passed _ _ (last-passed _ _ (before-passed _ _ ok))

  fitting : Fitting f
  fitting = let w = lengths f kek named-passes in record { app = app; kek = w.kek_id; key = w.key_id; life = life }

  size : length (attribute f kek key) ≡ 60 + length key
  unfolding attribute
  size =
      let h = header-size f (60 + length key) fitting.kek fitting.key in
      let l = length-wrapped kek bk key by in
      simp length-append (omega arith)

  fields-same : fields_in (attribute f kek key) ≡ f
  unfolding attribute
  fields-same = fields-written f (60 + length key) (wrapped kek key) fitting

  wrapped_same : wrapped_in (attribute f kek key) ≡ wrapped kek key
  unfolding attribute
  wrapped_same = wrapped-written f (60 + length key) (wrapped kek key) fitting

  key-same : key_in kek (attribute f kek key) ≡ key
  unfolding key_in
  key-same = rw wrapped_same (unwrap_key kek bk key by)

  frame_same : frame_check (attribute f kek key) ≡ pass
  unfolding attribute
  frame_same =
      let n : length key ≡ 60 + length key - 60 = omega arith in
      frame-written f (60 + length key) (wrapped kek key) fitting kind-written (omega arith) (rw n at key-sized) size

  reads : (room : ℕ) → length key ≤ room → read_check kek (attribute f kek key) room ≡ pass
  unfolding read_check
  reads room h =
      let w = lengths f kek named-passes in
      let fits : key_length_in (attribute f kek key) ≤ room = omega (arith, size) in
      let c22 = test_holds _ (bare 22) (eq-eqb _ _ w.kek_size) in
      let c27 = both_pass _ _ c22 frame_same in
      let c6 = both_pass _ _ c27 (test_holds _ (bare 6) (le-leb _ _ fits)) in
      both_pass _ _ c6 (test_holds _ (bare 28) (rw (wrapped_same, unwrap_initial kek bk key by) (equal_same initial_value)))

  key-length-same : key_length_in (attribute f kek key) ≡ length key
  key-length-same = omega (arith, size)

  -- the reader's answer to the attribute, and what it leaves
  read_same : (room : ℕ) → length key ≤ room → reading kek (attribute f kek key) room ≡ accepted f (length key)
  unfolding reading
  read_same room h = rw (reads room h, fields-same, key-length-same)

  left-same : (room : List ℕ) → length key ≤ length room → read_buffer kek (attribute f kek key) room ≡ key ++ drop (length key) room
  unfolding read_buffer
  left-same room h = rw (reads (length room) h, key-same, key-length-same)

  -- what the writer leaves begins with the attribute
  begins : (buffer : List ℕ) (n : ℕ) → length buffer ≡ space → 60 + length key ≡ n → take n (write_buffer f kek key buffer) ≡ attribute f kek key
  unfolding write_buffer
  begins buffer n s e = rw (s, ok) (take_at (attribute f kek key) (drop (60 + length key) buffer) n (size ∙ e))

pub reads_back : ReadsBack
unfolding write_answer
reads_back f kek key buffer out n app life bk by e h =
    let app-fits : f.app_id < 2 ^ 32 = omega arith in
    let life-fits : f.lifetime < 2 ^ 32 = omega arith in
    let room : length key ≤ length out = omega arith in
    let p = told_count (write_check f kek key (length buffer)) (60 + length key) n (sym e) in
    let b = begins f kek key (length buffer) app-fits life-fits bk by p.0 buffer n refl (sym p.1) in
    rw b
    (read_same f kek key (length buffer) app-fits life-fits bk by p.0 (length out) room, left-same f kek key (length buffer) app-fits life-fits bk by p.0 out room)

-- ---- what is accepted, written again, is the same bytes

module _ (kek a : List ℕ) (room : ℕ) (bk : Bytes kek) (ba : Bytes a) (ok : read_check kek a room ≡ pass) where
  before-room : (check22 kek and_then frame_check a) ≡ pass
  unfolding read_check
  before-room = before-passed _ _ (before-passed _ _ ok)

  frame : frame_check a ≡ pass
  frame = last-passed _ _ before-room

  kek_size : length kek ≡ 16
  kek_size = eqb-true _ _ (test_passed _ _ (before-passed _ _ before-room))

  initial : unwrapped_iv kek (wrapped_in a) ≡ initial_value
  unfolding read_check
  initial = same_equal _ _ (test_passed _ _ (last-passed _ _ ok))

  low : 76 ≤ length a
  low = omega (arith, (framed a frame).size.key.low)

  wrapped-low : 8 ≤ length (wrapped_in a)
  wrapped-low = let l = low in simp length-drop (omega arith)

  again : wrapped kek (key_in kek a) ≡ wrapped_in a
  unfolding key_in
  again = wrap_again kek bk (wrapped_in a) (bytes_drop 52 a ba) wrapped-low initial

  key-size : 60 + length (key_in kek a) ≡ length a
  unfolding key_in
  key-size =
      let l = low in
      let u = length-unwrapped_key kek bk (wrapped_in a) (bytes_drop 52 a ba) wrapped-low in
      let d = length-drop 52 a in
      omega arith

  attribute-same : attribute (fields_in a) kek (key_in kek a) ≡ a
  unfolding attribute
  attribute-same = rw (again, key-size) (header_back a ba frame)

  writes : (space : ℕ) → length a ≤ space → write_check (fields_in a) kek (key_in kek a) space ≡ pass
  unfolding write_check fields_in
  writes space h =
      let l = low in
      let f = framed a frame in
      let kek_id : length (take 16 (drop 8 a)) ≡ 16 = length-take-le 16 (drop 8 a) (simp length-drop (omega arith)) in
      let key_id : length (take 16 (drop 24 a)) ≡ 16 = length-take-le 16 (drop 24 a) (simp length-drop (omega arith)) in
      let ids : (eqb (length (take 16 (drop 8 a))) 16 && eqb (length (take 16 (drop 24 a))) 16) ≡ true = rw (kek_id, key_id) in
      let n : length a - 60 ≡ length (key_in kek a) = omega (arith, key-size) in
      let fits : 60 + length (key_in kek a) ≤ space = omega (arith, key-size) in
      let c21 = both_pass _ _ (kind_passes a frame) (test_holds _ (bare 21) ids) in
      let c22 = both_pass _ _ c21 (test_holds _ (bare 22) (eq-eqb _ _ kek_size)) in
      let c23 = both_pass _ _ c22 (test_holds _ (bare 23) (rw n at f.size.sized)) in
      both_pass _ _ c23 (test_holds _ (bare 6) (le-leb _ _ fits))

  -- the first bytes of what the reader leaves are the key
  key-read : (out : List ℕ) (n : ℕ) → length out ≡ room → key_length_in a ≡ n → take n (read_buffer kek a out) ≡ key_in kek a
  unfolding read_buffer
  key-read out n s e =
      let l = low in
      let k : length (key_in kek a) ≡ n = omega (arith, key-size) in
      rw (s, ok) (take_at (key_in kek a) (drop (key_length_in a) out) n k)

pub writes_again : WritesAgain
unfolding reading write_answer write_buffer
writes_again kek a out f n buffer bk ba e h =
    let p = accepted-passed (read_check kek a (length out)) (fields_in a) f (key_length_in a) n e in
    let room : length a ≤ length buffer = omega arith in
    let w = writes kek a (length out) bk ba p.0 (length buffer) room in
    let r = key-read kek a (length out) bk ba p.0 out n refl p.2 in
    let k = key-size kek a (length out) bk ba p.0 in
    let s = attribute-same kek a (length out) bk ba p.0 in
    rw (r, ← p.1, w, k, s) (refl, refl)

-- What is written reads back, and what is read, written again, is the same file.
use Prim.Native.Nat.{ℕ, ◌+◌, ◌≤◌}
use mathlib.Core.Path.{◌≡◌, refl, sym, ap, ◌∙◌}
use mathlib.Core.Bool.{true, false, not}
use mathlib.Core.List.{List, ◌++◌, map}
use native.Mathlib.Omega.{arith}
use borrow.Author.Tests.{le-leb, not-true}
use lib.ListN.{length, take, drop, length-drop}
use lib.Seq.{take_at}
use Rattle.slices.specs.Bytes.{Bytes}
use Rattle.refusal.specs.Checks.{pass, bare, within}
use Rattle.refusal.specs.Answers.{returned}
use Rattle.refusal.proofs.Passing.{within_low, within-high, before-passed, last-passed, test_passed, test_holds, both_pass, within_holds}
use Rattle.refusal.proofs.Answering.{told_count}
use Rattle.bundle_rules.specs.Bundle.{contents_end, key_id_in, id_repeats, file_of, packed, frames_check, file_length, packed_check, write_check, write_answer, write_buffer, count_in, bodies_of, packed_in, bundle_check, read_check, read_answer, read_buffer}
use Rattle.bundle_rules.specs.Statements.{WrittenReads, ReadWrites, OneFile}
use Rattle.bundle_rules.proofs.Packing.{packed_back, all_packed}
use Rattle.bundle_rules.proofs.Reading.{contents, laid, laid_flatten, laid_frames, laid_ids}
use Rattle.bundle_rules.proofs.FileBack.{length_bodies, file_back}
use Rattle.bundle_rules.proofs.Written.{file_size, packed_read, file_passes}

-- ---- what is written reads back

-- what the writer's tests say where they pass
record Writable (attributes : List ℕ) : Type 0 where
  frames : frames_check (packed attributes) ≡ pass
  low : 1 ≤ length (packed attributes)
  high : length (packed attributes) ≤ 64
  once : id_repeats (map key_id_in (packed attributes)) ≡ false

writable : (attributes : List ℕ) (room : ℕ) → write_check attributes room ≡ pass → Writable attributes
unfolding write_check packed_check
writable attributes room e =
    let c42 = before-passed _ _ e in
    let c39 = before-passed _ _ c42 in
    let w : within 1 64 (length (packed attributes)) ≡ true = test_passed _ _ (last-passed _ _ c39) in
    record {
      frames = before-passed _ _ c39;
      low = within_low 1 64 (length (packed attributes)) w;
      high = within-high 1 64 (length (packed attributes)) w;
      once = not-true _ (test_passed _ _ (last-passed _ _ c42));
    }

module _ (attributes : List ℕ) (space : ℕ) (ok : write_check attributes space ≡ pass) where
  file : List ℕ
  file = file_of (packed attributes)

  length-file : length file ≡ file_length attributes
  unfolding file
  length-file =
      let w = writable attributes space ok in
      file_size (packed attributes) w.frames w.low w.high w.once ∙ ap (λ (l : List ℕ). contents_end (length (packed attributes)) + length l) (all_packed attributes)

  attributes-read : packed_in file ≡ attributes
  unfolding file
  attributes-read =
      let w = writable attributes space ok in
      packed_read (packed attributes) w.frames w.low w.high w.once ∙ all_packed attributes

  reads : (room : ℕ) → length attributes ≤ room → read_check file room ≡ pass
  unfolding read_check file
  reads room h =
      let w = writable attributes space ok in
      both_pass _ _ (file_passes (packed attributes) w.frames w.low w.high w.once) (test_holds _ (bare 6) (rw attributes-read (le-leb (length attributes) room h)))

  -- what the writer leaves begins with the file
  begins : (buffer : List ℕ) (n : ℕ) → length buffer ≡ space → file_length attributes ≡ n → take n (write_buffer attributes buffer) ≡ file
  unfolding write_buffer file
  begins buffer n s e = rw (s, ok) (take_at (file_of (packed attributes)) (drop (file_length attributes) buffer) n (length-file ∙ e))

  answer-same : (room : ℕ) → length attributes ≤ room → read_answer file room ≡ returned (length attributes)
  unfolding read_answer
  answer-same room h = rw (reads room h, attributes-read)

  left-same : (out : List ℕ) → length attributes ≤ length out → read_buffer file out ≡ attributes ++ drop (length attributes) out
  unfolding read_buffer
  left-same out h = rw (reads (length out) h, attributes-read)

pub written_reads : WrittenReads
unfolding write_answer
written_reads attributes buffer out n e h =
    let p = told_count (write_check attributes (length buffer)) (file_length attributes) n (sym e) in
    let b = begins attributes (length buffer) p.0 buffer n refl (sym p.1) in
    rw b (answer-same attributes (length buffer) p.0 (length out) h, left-same attributes (length buffer) p.0 out h)

-- ---- what is read, written again, is the same file

module _ (f : List ℕ) (ok : bundle_check f ≡ pass) where
  bodies-same : packed (packed_in f) ≡ bodies_of f
  bodies-same = let l = laid f ok in ap packed (sym (laid_flatten l)) ∙ packed_back (bodies_of f) (laid_frames l)

  count_same : length (packed (packed_in f)) ≡ count_in f
  count_same = ap length bodies-same ∙ length_bodies f

  size_same : file_length (packed_in f) ≡ length f
  size_same =
      let c = contents f ok in
      let n = count_same in
      let d = length-drop (contents_end (count_in f)) f in
      omega (arith, c.inside)

  ids_once : id_repeats (map key_id_in (packed (packed_in f))) ≡ false
  ids_once = rw (bodies-same, laid_ids (laid f ok)) (contents f ok).once

  writes : (room : ℕ) → length f ≤ room → write_check (packed_in f) room ≡ pass
  unfolding write_check packed_check
  writes room h =
      let c = contents f ok in
      let n = size_same in
      let k = count_same in
      let frames : frames_check (packed (packed_in f)) ≡ pass = rw bodies-same (laid_frames (laid f ok)) in
      let c39 = both_pass _ _ frames (test_holds _ (bare 39) (within_holds 1 64 (length (packed (packed_in f))) (omega (arith, c.low)) (omega (arith, c.high)))) in
      let c42 = both_pass _ _ c39 (test_holds _ (bare 42) (ap not ids_once)) in
      both_pass _ _ c42 (test_holds _ (bare 6) (le-leb (file_length (packed_in f)) room (omega arith)))

  file-same : Bytes f → file_of (packed (packed_in f)) ≡ f
  file-same b = ap file_of bodies-same ∙ file_back f b ok

-- the first bytes of what the reader leaves are the attributes
attributes_left : (f out : List ℕ) (n : ℕ) → read_check f (length out) ≡ pass → length (packed_in f) ≡ n → take n (read_buffer f out) ≡ packed_in f
unfolding read_buffer
attributes_left f out n ok e = rw ok (take_at (packed_in f) (drop (length (packed_in f)) out) n e)

reader_passed : (f : List ℕ) (room : ℕ) → read_check f room ≡ pass → bundle_check f ≡ pass
unfolding read_check
reader_passed f room e = before-passed _ _ e

pub read_writes : ReadWrites
unfolding read_answer write_answer write_buffer
read_writes f out buffer n b e h =
    let p = told_count (read_check f (length out)) (length (packed_in f)) n (sym e) in
    let ok = reader_passed f (length out) p.0 in
    let a = attributes_left f out n p.0 (sym p.1) in
    rw (a, writes f ok (length buffer) h, size_same f ok, file-same f ok b) (refl, refl)

pub one_file : OneFile
one_file f g b d e q h = sym (file-same f e b) ∙ ap (λ (a : List ℕ). file_of (packed a)) h ∙ file-same g q d

-- `key_reader::read` meets its contract: where the tests before the unwrapping pass, what the unwrapping tests is what is left of the order, so that its
-- answer is the reader's.
use mathlib.Core.Path.{sym, ap, ◌∙◌}
use borrow.Author.Rules.{rules}
use Rattle.key_frame.specs.declared.KeyFields.{KeyFields}
use Rattle.key_reader.specs.KeyReader.{accepted}
use Rattle.key_reader.proofs.Reading.{left, read_so, refused_late}
use Rattle.key_reader.proofs.read.Goals as goal

pub returns-in_err-key_len-clause-answer : goal.returns-in_err-key_len-clause-answer
returns-in_err-key_len-clause-answer c =
    let x = c.args in
    let h = refused_late x.kek.now x.attribute.now x.out.now _ (sym c.in_ok-check_framed.ensures.tests) c.first.ensures _ c.in_err-key_len.ensures.answer in
    search rules

pub returns-in_err-key_len-clause-buffer : goal.returns-in_err-key_len-clause-buffer
returns-in_err-key_len-clause-buffer c =
    let x = c.args in
    left x.kek.now x.attribute.now x.out.now _ (sym c.in_ok-check_framed.ensures.tests) c.first.ensures c.unwrap.ensures.buffer

pub returns-clause-answer : goal.returns-clause-answer
returns-clause-answer c =
    let x = c.args in
    ap (λ (f : KeyFields). accepted f c.in_ok-key_len.key_len) c.fields.ensures
    ∙ read_so x.kek.now x.attribute.now x.out.now _ (sym c.in_ok-check_framed.ensures.tests) c.first.ensures _ c.in_ok-key_len.ensures.answer

pub returns-clause-buffer : goal.returns-clause-buffer
returns-clause-buffer c =
    let x = c.args in
    left x.kek.now x.attribute.now x.out.now _ (sym c.in_ok-check_framed.ensures.tests) c.first.ensures c.unwrap.ensures.buffer

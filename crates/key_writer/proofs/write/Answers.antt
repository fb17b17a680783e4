-- `key_writer::write` meets its contract: by what the tests before the wrapping came to; where they pass, what the wrap routine tests of the part that it is
-- lent is what is left of the order, so that its refusal is the writer's; where it accepts, the header goes before what it wrote.
use mathlib.Core.Path.{refl, sym}
use native.Mathlib.Omega.{arith}
use borrow.Author.Rules.{rules}
use Rattle.key_frame.specs.KeyFrame.{fields_of}
use Rattle.key_frame.specs.declared.KeyFields.{KeyFields}
use Rattle.key_writer.proofs.Writing.{refused_wrap, length_small, header_room, written_wrap}
use Rattle.key_writer.proofs.write.Goals as goal

pub returns-in_err-wrapped-clause-answer : goal.returns-in_err-wrapped-clause-answer
returns-in_err-wrapped-clause-answer c =
    let x = c.args in
    let f : KeyFields = fields_of x.attribute_type x.app_id x.kek_id.now x.key_id.now x.lifetime in
    let h = (refused_wrap f x.kek.now x.key.now x.out.now (sym c.in_ok-check_named.ensures) _ c.min-start.ensures _ _ c.in_err-wrapped.ensures.answer c.wrap.ensures.buffer).0 in
    search rules

pub returns-in_err-wrapped-clause-buffer : goal.returns-in_err-wrapped-clause-buffer
returns-in_err-wrapped-clause-buffer c =
    let x = c.args in
    let f : KeyFields = fields_of x.attribute_type x.app_id x.kek_id.now x.key_id.now x.lifetime in
    (refused_wrap f x.kek.now x.key.now x.out.now (sym c.in_ok-check_named.ensures) _ c.min-start.ensures _ _ c.in_err-wrapped.ensures.answer c.wrap.ensures.buffer).1

pub overflow_cast-all : goal.overflow_cast-all
overflow_cast-all c =
    let x = c.args in
    let f : KeyFields = fields_of x.attribute_type x.app_id x.kek_id.now x.key_id.now x.lifetime in
    omega (arith, length_small f x.kek.now x.key.now x.out.now (sym c.in_ok-check_named.ensures) _ c.min-start.ensures _ c.in_ok-wrapped.ensures.answer)

pub put_header-requires : goal.put_header-requires
put_header-requires c =
    let x = c.args in
    let f : KeyFields = fields_of x.attribute_type x.app_id x.kek_id.now x.key_id.now x.lifetime in
    header_room f x.kek.now x.key.now x.out.now (sym c.in_ok-check_named.ensures) _ c.min-start.ensures _ _ c.in_ok-wrapped.ensures.answer c.wrap.ensures.buffer

pub returns-clause-answer : goal.returns-clause-answer
returns-clause-answer c =
    let x = c.args in
    let f : KeyFields = fields_of x.attribute_type x.app_id x.kek_id.now x.key_id.now x.lifetime in
    let wrote = written_wrap f x.kek.now x.key.now x.out.now (sym c.in_ok-check_named.ensures) _ c.min-start.ensures _ _ _ _ _ in
    (wrote c.in_ok-wrapped.ensures.answer c.first.ensures c.wrap.ensures.buffer refl c.first-2.ensures c.first-3.ensures c.put_header.ensures).0

pub returns-clause-buffer : goal.returns-clause-buffer
returns-clause-buffer c =
    let x = c.args in
    let f : KeyFields = fields_of x.attribute_type x.app_id x.kek_id.now x.key_id.now x.lifetime in
    let wrote = written_wrap f x.kek.now x.key.now x.out.now (sym c.in_ok-check_named.ensures) _ c.min-start.ensures _ _ _ _ _ in
    (wrote c.in_ok-wrapped.ensures.answer c.first.ensures c.wrap.ensures.buffer refl c.first-2.ensures c.first-3.ensures c.put_header.ensures).1

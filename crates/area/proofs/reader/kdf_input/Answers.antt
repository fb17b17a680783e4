-- `area::reader::kdf_input` meets its contract: the test of the length says that it belongs to the name length, and what is looked at after it is the
-- padding.
use Rattle.std.proofs.Common.{◌≡◌, ◌+◌, sym, ap, ◌∙◌, arith}
use Rattle.area_format.specs.Area.{words_of, number_of, in_bytes, words_for, zeros, padding}
use Rattle.area_format.specs.declared.Bytes.{Bytes}
use Rattle.area.proofs.reader.Attributes.{out_of_range, length_disagrees, input_read, padding-refused}
use Rattle.refusal.proofs.Passing.{within_low, within-high}
use Rattle.area.proofs.reader.kdf_input.Goals as goal

pub returns-then-not-in_range : goal.returns-then-not-in_range
returns-then-not-in_range c =
    let size : c.args.size.0 ≡ (in_bytes (words_of c.args.bytes.now)).0 = ap (λ (b : Bytes). b.0) c.requires.size in
    let outside = out_of_range (4 + c.args.name.0) (4 + c.args.name.0 + 3) c.args.size.0 (sym c.in_range.ensures ∙ c.if-not-in_range.true) in
    length_disagrees _ (λ w. outside (omega (arith, w, size, c.requires.name)) (omega (arith, w, size, c.requires.name)))

pub slice_bounds-zeros-count : goal.slice_bounds-zeros-count
slice_bounds-zeros-count c = within_low (4 + c.args.name.0) (4 + c.args.name.0 + 3) c.args.size.0 (sym c.in_range.ensures ∙ c.if-not-in_range.false)

pub slice_bounds-zeros-start : goal.slice_bounds-zeros-start
slice_bounds-zeros-start c = within_low (4 + c.args.name.0) (4 + c.args.name.0 + 3) c.args.size.0 (sym c.in_range.ensures ∙ c.if-not-in_range.false)

pub returns-then-zeros : goal.returns-then-zeros
returns-then-zeros c =
    let bytes = c.args.bytes.now in
    let size : c.args.size.0 ≡ (in_bytes (words_of bytes)).0 = ap (λ (b : Bytes). b.0) c.requires.size in
    let sized = sym c.in_range.ensures ∙ c.if-not-in_range.false in
    let low = within_low (4 + c.args.name.0) (4 + c.args.name.0 + 3) c.args.size.0 sized in
    let high = within-high (4 + c.args.name.0) (4 + c.args.name.0 + 3) c.args.size.0 sized in
    let name : c.args.name.0 ≡ number_of bytes = c.requires.name in
    let agrees : (words_of bytes).0 ≡ words_for (number_of bytes) = omega (arith, low, high, size, name) in
    let padded : zeros (padding bytes (number_of bytes)) ≡ c.zeros.result = rw (← size, ← name) (sym c.zeros.ensures) in
    rw name (input_read bytes agrees (padded ∙ c.if-zeros.true))

pub returns-else-zeros : goal.returns-else-zeros
returns-else-zeros c =
    let bytes = c.args.bytes.now in
    let size : c.args.size.0 ≡ (in_bytes (words_of bytes)).0 = ap (λ (b : Bytes). b.0) c.requires.size in
    let sized = sym c.in_range.ensures ∙ c.if-not-in_range.false in
    let low = within_low (4 + c.args.name.0) (4 + c.args.name.0 + 3) c.args.size.0 sized in
    let high = within-high (4 + c.args.name.0) (4 + c.args.name.0 + 3) c.args.size.0 sized in
    let name : c.args.name.0 ≡ number_of bytes = c.requires.name in
    let agrees : (words_of bytes).0 ≡ words_for (number_of bytes) = omega (arith, low, high, size, name) in
    let padded : zeros (padding bytes (number_of bytes)) ≡ c.zeros.result = rw (← size, ← name) (sym c.zeros.ensures) in
    padding-refused bytes agrees (padded ∙ c.if-zeros.false)

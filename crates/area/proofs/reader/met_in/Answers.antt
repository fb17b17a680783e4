-- `area::reader::met_in` meets its contract: the tests say whether the attribute is within the bytes, and the type which case of `attribute` holds.
use Rattle.std.proofs.Common.{ap, ◌≡◌, ◌∙◌, ◌*◌, get_or, arith}
use Rattle.area_format.specs.declared.Bytes.{Bytes}
use Rattle.area.proofs.reader.Attributes.{too_short, not_within, is_within, kdf_read, kdf-refused, type_24, type_23, type_other, met_some, met_none}
use Rattle.area.proofs.reader.met_in.Goals.{else-kind-eq24-via-then-kind-eq24+else-words-eq1, else-kind-eq24-via-else-kind-eq24}
use Rattle.area.proofs.reader.met_in.Goals as goal

pub returns-in_default : goal.returns-in_default
returns-in_default c = met_none c.args.bytes.now (too_short c.args.bytes.now c.in_default.len_below)

pub returns-then-words-eq1 : goal.returns-then-words-eq1
returns-then-words-eq1 c =
    let bytes = c.args.bytes.now in
    let size : c.from-size.result.0 ≡ 4 * get_or bytes 1 0 = ap (λ (b : Bytes). b.0) c.from-size.ensures in
    let within = is_within bytes _ c.from-size.ensures (omega arith) (omega (arith, size, c.if-words-eq1.true)) (omega (arith, size, c.if-words-eq1.true)) in
    met_some bytes within (kdf_read bytes c.from_be16.ensures c.if-words-eq1.true ∙ type_24 bytes c.if-kind-eq24.true) c.from-size.ensures

pub returns-then-words-eq0 : goal.returns-then-words-eq0
returns-then-words-eq0 c =
    let bytes = c.args.bytes.now in
    let size : c.from-size.result.0 ≡ 4 * get_or bytes 1 0 = ap (λ (b : Bytes). b.0) c.from-size.ensures in
    met_none bytes (not_within bytes _ c.from-size.ensures (λ h k. omega (arith, size, h, c.if-words-eq0.true)))

pub returns-then-bytes-size : goal.returns-then-bytes-size
returns-then-bytes-size c = met_none c.args.bytes.now (not_within c.args.bytes.now _ c.from-size.ensures (λ h k. omega (arith, k, c.if-bytes-size.true)))

pub kdf_input-met-requires : goal.kdf_input-met-requires
kdf_input-met-requires c = record { size = c.from-size.ensures; name = c.from.ensures ∙ c.from_be16-in-23.ensures; within = omega arith }

pub returns-in-24 : goal.returns-in-24
returns-in-24 c =
    let bytes = c.args.bytes.now in
    let size : c.from-size.result.0 ≡ 4 * get_or bytes 1 0 = ap (λ (b : Bytes). b.0) c.from-size.ensures in
    let within = is_within bytes _ c.from-size.ensures (omega arith) (omega (arith, size, c.if-words-eq0.false)) (omega arith) in
    let other : get_or bytes 1 0 ≡ 1 → ⊥ =
    λ e. elim c.else-kind-eq24.branch [
      | else-kind-eq24-via-then-kind-eq24+else-words-eq1 w ↦ w.if-words-eq1.false e
      | else-kind-eq24-via-else-kind-eq24 w ↦ w.if-kind-eq24.false c.in-24.is
    ] in
    met_some bytes within (kdf-refused bytes other ∙ type_24 bytes c.in-24.is) c.from-size.ensures

pub returns-in-23 : goal.returns-in-23
returns-in-23 c =
    let bytes = c.args.bytes.now in
    let size : c.from-size.result.0 ≡ 4 * get_or bytes 1 0 = ap (λ (b : Bytes). b.0) c.from-size.ensures in
    let within = is_within bytes _ c.from-size.ensures (omega arith) (omega (arith, size, c.if-words-eq0.false)) (omega arith) in
    met_some bytes within (c.kdf_input-met.ensures ∙ type_23 bytes c.in-23.is) c.from-size.ensures

pub returns-in_default-kind : goal.returns-in_default-kind
returns-in_default-kind c =
    let bytes = c.args.bytes.now in
    let size : c.from-size.result.0 ≡ 4 * get_or bytes 1 0 = ap (λ (b : Bytes). b.0) c.from-size.ensures in
    let within = is_within bytes _ c.from-size.ensures (omega arith) (omega (arith, size, c.if-words-eq0.false)) (omega arith) in
    met_some bytes within (type_other bytes (λ e. omega (arith, e)) (λ e. omega (arith, e))) c.from-size.ensures

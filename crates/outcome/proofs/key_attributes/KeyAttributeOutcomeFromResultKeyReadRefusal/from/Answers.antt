-- On a refusal all but the number is the default, which is zero in each byte of an identifier too.
use Rattle.outcome.proofs.Zeros.{all_zero}
use Rattle.outcome.proofs.key_attributes.KeyAttributeOutcomeFromResultKeyReadRefusal.from.Goals as goal

pub returns-in-Err : goal.returns-in-Err
returns-in-Err c =
    let d = c.default.ensures.1 in
    let ids = d.1.1.1.1 in
    let kek = all_zero 16 c.default.result.kek_id ids.0.long (λ i h. ids.0.at i 0 h) in
    let key = all_zero 16 c.default.result.key_id ids.1.long (λ i h. ids.1.at i 0 h) in
    rw c.in-Err.is
    (λ i. record {
      refusal = c.number.ensures i;
      app_id = d.0 i;
      lifetime = d.1.0 i;
      key_len = d.1.1.0 i;
      attribute_type = d.1.1.1.0 i;
      kek_id = kek i;
      key_id = key i;
    })

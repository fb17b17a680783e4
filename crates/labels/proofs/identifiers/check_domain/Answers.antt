use Rattle.std.proofs.Common.{rules}
use Rattle.refusal.specs.declared.Refusal.TheVariants.{Domain}
use Rattle.labels.specs.Bytes.{domain_byte}
use Rattle.labels.specs.Checks.{check8}
use Rattle.labels.proofs.charset.Faults.{one_refused}
use Rattle.labels.proofs.identifiers.check_domain.Goals as goal

pub returns : goal.returns
unfolding check8
returns c = one_refused domain_byte 253 c.args.domain.now Domain c.map_err.result c.check_text.ensures c.map_err.ensures.cases (λ e y k. search rules)

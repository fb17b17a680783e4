use Rattle.std.proofs.Common.{rules}
use Rattle.refusal.specs.declared.Refusal.TheVariants.{ServerId}
use Rattle.labels.specs.Bytes.{server_byte}
use Rattle.labels.specs.Checks.{check7}
use Rattle.labels.proofs.charset.Faults.{one_refused}
use Rattle.labels.proofs.identifiers.check_server_id.Goals as goal

pub returns : goal.returns
unfolding check7
returns c = one_refused server_byte 255 c.args.server.now ServerId c.map_err.result c.check_text.ensures c.map_err.ensures.cases (λ e y k. search rules)

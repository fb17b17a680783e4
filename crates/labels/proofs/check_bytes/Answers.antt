use Rattle.std.proofs.Common.{rules}
use Rattle.labels.proofs.charset.Faults.{label_refused}
use Rattle.labels.proofs.check_bytes.Goals as goal

pub returns : goal.returns
returns c = label_refused c.args.label.now c.map_err.result c.check_text.ensures c.map_err.ensures.cases (λ e y k. search rules)

use Rattle.std.proofs.Common.{◌∙◌, arith}
use Rattle.bundle_contents.proofs.Accepted.{has_line, starts_inside, attributes_told}
use Rattle.bundle_contents.proofs.bundle.Bundle.attributes.Goals as goal

pub number_at-requires : goal.number_at-requires
number_at-requires c = omega (arith, has_line _ c.args.self.passes)

pub slice_bounds-result-count : goal.slice_bounds-result-count
slice_bounds-result-count c = starts_inside _ c.args.self.passes (c.from-start.ensures ∙ c.number_at.ensures)

pub slice_bounds-result-start : goal.slice_bounds-result-start
slice_bounds-result-start c = starts_inside _ c.args.self.passes (c.from-start.ensures ∙ c.number_at.ensures)

pub returns : goal.returns
returns c = attributes_told _ c.args.self.passes (c.from-start.ensures ∙ c.number_at.ensures)

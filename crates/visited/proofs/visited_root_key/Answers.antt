-- Where the root key's test passes, the expansion's tests are that of the room alone.
use Rattle.refusal.specs.Checks.{unless, within}
use Rattle.refusal.proofs.Answering.{passed}
use Rattle.prf_plus.specs.PrfPlus.{expand_check}
use Rattle.labels.specs.FixedLabels.{vrk_label}
use Rattle.requests.specs.Rfc5295.{usage_text}
use Rattle.requests.specs.Requests.{check_of, text_of, key_of, request_buffer}
use Rattle.visited.proofs.visited_root_key.Goals as goal

pub returns-clause-buffer : goal.returns-clause-buffer
unfolding check_of request_buffer key_of text_of usage_text vrk_label expand_check unless within
returns-clause-buffer c = rw (passed c.check_root_key.ensures c.in_ok-check_root_key.was) c.expand.ensures.buffer

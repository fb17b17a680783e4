-- Where the root key's test passes, the expansion's tests are that of the room alone.
use Rattle.refusal.specs.Checks.{unless, within}
use Rattle.refusal.proofs.Answering.{passed}
use Rattle.prf_plus.specs.PrfPlus.{expand_check}
use Rattle.labels.specs.FixedLabels.{visited_reauth_label}
use Rattle.visited.specs.Visited.{reauth_text, reauth_check, reauth_key, reauth_buffer}
use Rattle.visited.proofs.visited_reauth_key.Goals as goal

pub returns-clause-buffer : goal.returns-clause-buffer
unfolding reauth_buffer reauth_check reauth_key reauth_text visited_reauth_label expand_check unless within
returns-clause-buffer c = rw (passed c.check_root_key.ensures c.in_ok-check_root_key.was) c.expand.ensures.buffer

-- The tests have passed, so CK and IK have 16 bytes each.
use Rattle.refusal.proofs.Answering.{passed}
use Rattle.aka_keys.proofs.Deriving.{key-lengths}
use Rattle.aka_keys.proofs.aka_keys.Goals as goal

pub expansion_key-key-requires-clause-ck_len : goal.expansion_key-key-requires-clause-ck_len
expansion_key-key-requires-clause-ck_len c = (key-lengths _ _ _ _ _ (passed c.check_inputs.ensures c.in_ok-check_inputs.was)).0

pub expansion_key-key-requires-clause-ik_len : goal.expansion_key-key-requires-clause-ik_len
expansion_key-key-requires-clause-ik_len c = (key-lengths _ _ _ _ _ (passed c.check_inputs.ensures c.in_ok-check_inputs.was)).1

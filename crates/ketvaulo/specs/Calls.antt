-- Two calls of the C interface by their arguments, so that a contract names each argument once: kv_write_key_attribute and kv_compare_bundles.
use Rattle.std.specs.Prelude.{ℕ, List}
use Rattle.key_frame.specs.KeyFrame.{fields_of}
use Rattle.key_writer.specs.KeyWriter.{write_answer, write_buffer}
use Rattle.compare_rules.specs.Compare.{compare_answer, compare_counts}
use Rattle.outcome.specs.declared.Outcome.{Outcome}
use Rattle.outcome.specs.declared.comparisons.Comparison.{Comparison}
use Rattle.outcome.specs.Outcomes.{outcome_of}
use Rattle.outcome.specs.Comparisons.{comparison_outcome}

-- a Key attribute written: what the call returns, and its buffer after it
abbrev pub key_written : ℕ → ℕ → List ℕ → List ℕ → ℕ → List ℕ → List ℕ → ℕ → Outcome
key_written type appId kekId keyId lifetime kek key room = outcome_of (write_answer (fields_of type appId kekId keyId lifetime) kek key room)

abbrev pub key_buffer : ℕ → ℕ → List ℕ → List ℕ → ℕ → List ℕ → List ℕ → List ℕ → List ℕ
key_buffer type appId kekId keyId lifetime kek key buffer = write_buffer (fields_of type appId kekId keyId lifetime) kek key buffer

-- two bundles compared: what the call returns
abbrev pub compared : List ℕ → List ℕ → ℕ → Comparison
compared first second room = comparison_outcome (compare_answer first second room) (compare_counts first second room)

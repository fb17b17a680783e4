-- What the server has written lies within its buffer.
use Rattle.std.proofs.Common.{◌≡◌, ◌≤◌, sym, ap, ◌∙◌, ℕ, List, length}
use Rattle.std.specs.Prelude.{Result, Ok}
use Rattle.refusal.specs.Answers.{answer_of}
use Rattle.refusal.specs.declared.Refusal.{Refusal}
use Rattle.offer_rules.specs.Answers.{server_answer}
use Rattle.offer_rules.proofs.Rounds.{wrote_fits}

pub sent_within : (offers buffer : List ℕ) (value : ℕ) (sent : List ℕ) {count : ℕ} {answer : Result ℕ Refusal} → answer_of answer ≡ server_answer offers value buffer → answer ≡ Ok count
    → length sent ≡ length buffer → count ≤ length sent
sent_within offers buffer value sent {count} e is kept =
    let within = wrote_fits offers buffer value count (sym e ∙ ap answer_of is) in
    rw kept within

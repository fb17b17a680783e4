-- What is proved of SHA-256's window (document 02, request 3).
use Rattle.std.specs.Prelude.{◌≡◌, ℕ, suc, ◌*◌, ◌/◌, ◌%◌, List, slice_index}
use Rattle.fips180.specs.Sha256.{K, W, round, rounds}
use Rattle.fips180.specs.Window.{window}

-- what stands in place t % 16 of the window in round t is W t: the window then has the sixteen words from t / 16 * 16 on, as the contracts
-- of `load` and `refill` of the crate sha_blocks say. `word_in_place` of proofs/Rounds.antt
abbrev pub WordInPlace : Type 0
WordInPlace = (b : List ℕ) (t : ℕ) → slice_index (window (W b) (t / 16 * 16)) (t % 16) ≡ W b t

-- and so each round of the standard is the one with that word. `round_by_window` of proofs/Rounds.antt
abbrev pub RoundByWindow : Type 0
RoundByWindow = (h b : List ℕ) (t : ℕ) → rounds h b (suc t) ≡ round (slice_index K t) (slice_index (window (W b) (t / 16 * 16)) (t % 16)) (rounds h b t)

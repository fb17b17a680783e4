-- What only the contracts of private functions need. Nothing here has to be believed.
-- The working variables, from round to round and after all of them.
use Rattle.std.specs.Prelude.{◌≡◌, ℕ, ◌+◌, ◌*◌, List, refl}
use Rattle.fips180.specs.Sha256.{W, rounds, compress}
use Rattle.fips180.specs.Sha256 as Sha256
use Rattle.fips180.specs.Window.{window}
use Rattle.sha_blocks.specs.Sums.{values, sums}

-- over the window w of the sixteen rounds g, the working variables s before round i of these become r before round j
abbrev pub LeadsTo : List ℕ → ℕ → ℕ → List ℕ → ℕ → List ℕ → Type 0
LeadsTo w g i s j r = (h b : List ℕ) → w ≡ window (W b) (16 * g) → s ≡ rounds h b (16 * g + i) → r ≡ rounds h b (16 * g + j)

-- 6.2.2, 3: the working variables after all rounds
abbrev pub after_rounds : List ℕ → List ℕ → List ℕ
after_rounds h b = rounds h b 64

-- 6.2.2, 4: their sum with the hash value
pub summed : (h b : List ℕ) → sums 8 h (after_rounds h b) ≡ compress h b
unfolding values compress Sha256.sums
summed h b = refl

-- A block's input by its parts, and that the MAC of it, from a key's two hash values, is the next block.
use Prim.Native.Nat.{ℕ, ◌+◌, ◌-◌, ◌*◌}
use mathlib.Core.Path.{◌≡◌, sym, ap, ◌∙◌}
use mathlib.Core.List.{List, [], ◌∷◌, ◌++◌}
use lib.ListN.{take, drop}
use Rattle.fips180.specs.Stream.{Progress, started_after}
use Rattle.fips180.specs.Sha256.{compress}
use Rattle.fips180.proofs.Stream.{absorbed_append}
use Rattle.sha256.specs.Stream.{absorbed, finished}
use Rattle.rfc2104.specs.Rfc2104.{ipad, opad}
use Rattle.hmac.specs.Rfc2104.{hmac_sha256}
use Rattle.hmac.specs.Keyed.{key_value, hash_after}
use Rattle.hmac.proofs.Laws.{mac-from_values, hmac_sha256-length}
use Rattle.prf_plus.specs.PrfPlus.{input_after, block, blocks}
use Rattle.prf_plus.proofs.Steps.{last_block, next_block}

-- s is the inner hash begun; it absorbs the block before, the text and the number; and r is the outer hash of what it comes to
pub mac_of_input : (key p text : List ℕ) (i : ℕ) {inner outer r : List ℕ} {s s₁ s₂ s₃ : Progress} → inner ≡ key_value key ipad → outer ≡ key_value key opad
    → s ≡ started_after inner → s₁ ≡ absorbed s p → s₂ ≡ absorbed s₁ text → s₃ ≡ absorbed s₂ (i ∷ []) → r ≡ hash_after outer (finished s₃)
    → r ≡ hmac_sha256 key (input_after p text i)
unfolding input_after
mac_of_input key p text i {s = s} ei eo es e₁ e₂ e₃ er =
    let all : absorbed (absorbed (absorbed s p) text) (i ∷ []) ≡ absorbed s (p ++ (text ++ (i ∷ []))) =
    sym (absorbed_append compress (absorbed s p) text (i ∷ [])) ∙ sym (absorbed_append compress s p (text ++ (i ∷ []))) in
    mac-from_values key (p ++ (text ++ (i ∷ []))) ei eo es (e₃ ∙ ap (λ (t : Progress). absorbed t (i ∷ [])) (e₂ ∙ ap (λ (t : Progress). absorbed t text) e₁) ∙ all) er

-- after the last block of a buffer it is the next one
pub next_under_key : (key text out₀ out : List ℕ) (i from at : ℕ) {r : List ℕ} → r ≡ hmac_sha256 key (input_after (take (at - from) (drop from out)) text (i + 1))
    → from ≡ 32 * i - 32 → at ≡ 32 * i → out ≡ take at (blocks hmac_sha256 key text i) ++ drop at out₀ → r ≡ block hmac_sha256 key text (i + 1)
next_under_key key text out₀ out i from at {r = r} er hf ha ho =
    next_block hmac_sha256 hmac_sha256-length key text out₀ (take (at - from) (drop from out)) r i er
    (last_block hmac_sha256 hmac_sha256-length key text out₀ out i from at hf ha ho)

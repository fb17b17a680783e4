-- Laws of the call: what it answers and leaves in the buffer, where its walk found a name, by the chosen way.
use Rattle.std.proofs.Common.{◌≡◌, refl, sym, ap, ◌∙◌, ℕ, ◌≤◌, true, false, None, Result, Ok, List, [], ◌++◌, length, drop}
use borrow.Author.Tests.{le-leb, leb-true}
use Rattle.std.specs.Prelude.{⊤}
use Rattle.refusal.specs.Checks.{bare, check6, unless}
use Rattle.refusal.specs.Answers.{checked_as}
use Rattle.refusal.specs.declared.Refusal.{Refusal}
use Rattle.refusal.proofs.Passing.{test_passed}
use Rattle.refusal.proofs.Answering.{passed}
use Rattle.area_format.specs.Area.{attributes, whole, refusal, read_on, agrees, judged, walked, reading, answered, refused, area_answer, area_buffer}
use Rattle.area_format.specs.declared.Name.{Name}
use Rattle.area_format.specs.declared.Way.{Way}
use Rattle.area_format.specs.declared.Way.TheVariants.{Strict, Lenient}
use Rattle.area.specs.Internal.{walked_as, allowed}
use Rattle.area.specs.declared.walk.Met.{Met}
use Rattle.area.specs.declared.walk.Stopped.{Stopped}

-- what a way makes of a reading that is whole
still_whole : (way : Way) (area own offers : List ℕ) (at len : ℕ) → allowed way (agrees area own at len) ≡ true → judged way area own (whole offers at len) ≡ whole offers at len
still_whole Strict area own offers at len e = rw e
still_whole Lenient area own offers at len e = refl

name-differs : (way : Way) (area own offers : List ℕ) (at len : ℕ) → allowed way (agrees area own at len) ≡ false → judged way area own (whole offers at len) ≡ refusal (bare 30)
name-differs Strict area own offers at len e = rw e
name-differs Lenient area own offers at len e = cc

-- a walk that found a name, past nothing: the reading is whole
pub found : (area offers : List ℕ) (met : Met) {result : Result Name Stopped} {name : Name} → (met.offers ≡ []) × (met.name ≡ None)
    → walked_as result offers ≡ read_on met.offers met.name (attributes area) → result ≡ Ok name
    → whole offers name.at name.len.0 ≡ read_on [] None (attributes area)
found area offers met nothing e is = sym (ap (λ (r : Result Name Stopped). walked_as r offers) is) ∙ rw (nothing.0, nothing.1) at e

-- the room that a buffer has where its test passed
pub room_left : {r : Result ⊤ Refusal} {u : ⊤} (room : ℕ) → checked_as r ≡ check6 17 room → r ≡ Ok u → 17 ≤ room
room_left room e p = leb-true 17 room (test_passed _ _ (passed e p))

module _ (way : Way) (area own out : List ℕ) (room : 17 ≤ length out) (offers : List ℕ) (at len : ℕ) (e : whole offers at len ≡ read_on [] None (attributes area)) where
  judged-so : reading way area own (length out) ≡ judged way area own (whole offers at len)
  unfolding reading walked unless
  judged-so = rw (le-leb 17 (length out) room, e)

  pub answered-so : allowed way (agrees area own at len) ≡ true
      → (answered (length offers) at len (agrees area own at len) ≡ area_answer way area own (length out)) × (offers ++ drop (length offers) out ≡ area_buffer way area own out)
  unfolding area_answer area_buffer
  answered-so h = (rw (judged-so, still_whole way area own offers at len h), rw (judged-so, still_whole way area own offers at len h))

  pub differs-so : allowed way (agrees area own at len) ≡ false → (refused (bare 30) ≡ area_answer way area own (length out)) × (out ≡ area_buffer way area own out)
  unfolding area_answer area_buffer
  differs-so h = (rw (judged-so, name-differs way area own offers at len h), rw (judged-so, name-differs way area own offers at len h))

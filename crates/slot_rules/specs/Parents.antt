-- Keys and their parents (document 02, request 13). A step goes from a live slot to its parent. A root is a live slot without a parent.
use Rattle.std.specs.Prelude.{ℕ, zero, suc, Bool, true, false, ◌||◌, ◌&&◌, List, eqb, get_or, Option, Some, None}
use Rattle.slot_rules.specs.declared.Name.{Name}
use Rattle.slot_rules.specs.Table.{Slot, free, holding, is_live}

-- the parent of a key: the slot of this number, or none, so that the key is a root
abbrev pub Parent : Type 0
Parent = Option ℕ

-- what a live slot holds
pub record Key : Type 0 where
  pub name : Name
  pub parent : Parent

-- one step up: the parent that a live slot holds; there is no step from a root or a free slot
abbrev pub parent_in : Slot Key → Parent
parent_in free = None
parent_in (holding k) = k.parent

abbrev pub up : List (Slot Key) → Parent → Parent
up t None = None
up t (Some n) = parent_in (get_or t n free)

-- whether a step came to slot n
abbrev pub is_slot : ℕ → Parent → Bool
is_slot n None = false
is_slot n (Some m) = eqb m n

-- from a place, at most k steps through live slots come to slot n
unfoldable pub reaches : ℕ → List (Slot Key) → ℕ → Parent → Bool
reaches zero t n x = is_slot n x
reaches (suc k) t n x = is_slot n x || reaches k t n (up t x)

-- those that a drop of n takes: the live slots that are n, or from which one to three steps through live ones reach it
unfoldable pub goes_with : List (Slot Key) → ℕ → ℕ → Bool
goes_with t n s = is_live t s && reaches 3 t n (Some s)

abbrev pub is_none : Parent → Bool
is_none None = true
is_none (Some n) = false

abbrev pub is_root : Slot Key → Bool
is_root free = false
is_root (holding k) = is_none k.parent

abbrev pub root_at : List (Slot Key) → Parent → Bool
root_at t None = false
root_at t (Some n) = is_root (get_or t n free)

-- from a place, at most k steps through live slots come to a root
unfoldable pub root_within : ℕ → List (Slot Key) → Parent → Bool
root_within zero t x = root_at t x
root_within (suc k) t x = root_at t x || root_within k t (up t x)

-- whether a parent is none or a live slot, and whether it is none or has a root within two steps
abbrev pub parent_live : List (Slot Key) → Parent → Bool
parent_live t None = true
parent_live t (Some p) = is_live t p

abbrev pub root_near : List (Slot Key) → Parent → Bool
root_near t None = true
root_near t (Some p) = root_within 2 t (Some p)

-- How many turns are left.
use Rattle.std.specs.Prelude.{◌≡◌, ◌≤◌, ◌<◌, ◌+◌, ◌-◌, ℕ, Bool, true, false, List, [], ◌∷◌, length}
use Rattle.tty_base.specs.Sizes.{MOST_ENTRIES}
use Rattle.port_core.specs.Ports.{PortValue}

-- a call that was not answered has made an entry, for which there was room
abbrev pub HasGone : (answered : Bool) → (old new : PortValue) → Type 0
HasGone true old new = length old.journal ≤ length new.journal
HasGone false old new = (length old.journal < MOST_ENTRIES) × (length new.journal ≡ length old.journal + 1)

-- how many calls are left, and how many entries with them the journal may still have: each turn takes some
abbrev pub count_left : {C : Type 0} → List (List C) → ℕ
count_left [] = 0
count_left (calls ∷ more) = length calls + count_left more

abbrev pub turns_left : {C : Type 0} → PortValue → List (List C) → ℕ
turns_left v left = (MOST_ENTRIES - length v.journal) + count_left left

-- What became of the characters that a device took.
use Rattle.std.specs.Prelude.{Bool, true, false, List, [], ◌∷◌, map, if◌then◌else◌}
use Rattle.tty_base.specs.declared.characters.Flagged.{Flagged}

-- a character that was taken from the flip buffer, and whether it was dropped; else the discipline received it
pub record Taken : Type 0 where
  pub char : Flagged
  pub dropped : Bool

abbrev pub taken_as : Bool → Flagged → Taken
taken_as is_dropped c = record { char = c; dropped = is_dropped }

abbrev pub flushed : Flagged → Taken
flushed c = taken_as false c

abbrev pub dropped : Flagged → Taken
dropped c = taken_as true c

-- these, in the order in which they were taken
abbrev pub chars_of : List Taken → List Flagged
chars_of taken = map (λ x. x.char) taken

-- those that a flush took, and those that were dropped
abbrev pub flushed_of : List Taken → List Flagged
flushed_of [] = []
flushed_of (x ∷ xs) = if x.dropped then flushed_of xs else x.char ∷ flushed_of xs

abbrev pub dropped_of : List Taken → List Flagged
dropped_of [] = []
dropped_of (x ∷ xs) = if x.dropped then x.char ∷ dropped_of xs else dropped_of xs

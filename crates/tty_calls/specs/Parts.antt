-- Parts of lists.
use Rattle.std.specs.Prelude.{◌≡◌, ℕ, ◌+◌, ◌≤◌, List, ◌++◌, take, drop}
use Rattle.tty_calls.specs.declared.parts.ListPart.{ListPart}

abbrev pub part_of : {A : Type 0} → List A → ListPart → List A
part_of list part = take part.count (drop part.first list)

-- whether a part lies within a list of this length
abbrev pub IsListPart : ℕ → ListPart → Type 0
IsListPart count part = part.first + part.count ≤ count

-- a list with none or some more at its end
abbrev pub Extends : {A : Type 0} → List A → List A → Type 0
Extends {A} old new = (more : List A) × (new ≡ old ++ more)

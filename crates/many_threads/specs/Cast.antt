-- How the roles of a phase are seated by the numbers of their callers.
use Rattle.std.specs.Prelude.{List, [], ◌∷◌, Option, Some, slice_set}
use Rattle.play_base.specs.declared.roles.Role.{Role}

-- this cast, with each of these roles at its number
abbrev pub seated : List Role → List (Option Role) → List (Option Role)
seated [] cast = cast
seated (r ∷ rs) cast = seated rs (slice_set cast r.number (Some r))

-- What the first words of a session's text do.
use Rattle.std.specs.Prelude.{ℕ, Bool, ◌||◌, List, [], ◌∷◌, codes, if◌then◌else◌}
use Rattle.std.specs.Str.{bytes_eq}
use Rattle.std.specs.List.{list_any}
use Rattle.session_text.specs.Verbs.{is_call, verb_of}
use Rattle.further_text.specs.declared.sorts.Sort.{Sort}
use Rattle.further_text.specs.declared.sorts.Sort.TheVariants.{Ports, Caller, Border, Inside, Other}

-- the items of line blocks and of clock blocks
abbrev pub steps : List (List ℕ)
steps =
    codes "rx" ∷ codes "rxp" ∷ codes "rxf" ∷ codes "break" ∷ codes "mask" ∷ codes "unmask" ∷ codes "idle"
    ∷ codes "trigger" ∷ codes "tick" ∷ []

abbrev pub is_step : List ℕ → Bool
is_step word = list_any (bytes_eq word) steps

abbrev pub sort_of : List ℕ → Sort
sort_of word =
    if bytes_eq word (codes "ports") then Ports
    else if bytes_eq word (codes "caller") then Caller
    else if bytes_eq word (codes "phase") || bytes_eq word (codes "end") then Border
    else if is_step word || is_call (verb_of 1 word) then Inside
    else Other

-- The names of the flags and of the control characters, in the order of their places.
use Rattle.std.specs.Prelude.{ℕ, ◌+◌, ◌^◌, List, [], ◌∷◌, codes}

-- the names of the flags
abbrev pub flag_names : List (List ℕ)
flag_names =
    codes "ignbrk" ∷ codes "brkint" ∷ codes "ignpar" ∷ codes "parmrk" ∷ codes "inpck" ∷ codes "istrip"
    ∷ codes "inlcr" ∷ codes "igncr" ∷ codes "icrnl" ∷ codes "ixon" ∷ codes "ixany" ∷ codes "ixoff"
    ∷ codes "opost" ∷ codes "onlcr" ∷ codes "ocrnl" ∷ codes "onocr" ∷ codes "tab3"
    ∷ codes "isig" ∷ codes "icanon" ∷ codes "echo" ∷ codes "echoe" ∷ codes "echok" ∷ codes "echoke"
    ∷ codes "echonl" ∷ codes "echoctl" ∷ codes "noflsh" ∷ codes "iexten" ∷ codes "iutf8" ∷ codes "tostop" ∷ []

-- the names of the control characters
abbrev pub character_names : List (List ℕ)
character_names =
    codes "intr" ∷ codes "quit" ∷ codes "erase" ∷ codes "kill" ∷ codes "eof" ∷ codes "time" ∷ codes "min"
    ∷ codes "start" ∷ codes "stop" ∷ codes "susp" ∷ codes "eol" ∷ codes "reprint" ∷ codes "werase"
    ∷ codes "lnext" ∷ codes "eol2" ∷ []

-- each name with a bit of its own, from bit k on
abbrev pub with_bits : ℕ → List (List ℕ) → List (List ℕ × ℕ)
with_bits k [] = []
with_bits k (name ∷ names) = (name, 2 ^ k) ∷ with_bits (k + 1) names

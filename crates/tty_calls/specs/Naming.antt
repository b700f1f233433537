-- How names are learned: for private functions alone.
use Rattle.std.specs.Prelude.{ℕ, List, ◌==◌, map, filter, fold}
use Rattle.tty_calls.specs.declared.sessions.Script.{Script}
use Rattle.tty_calls.specs.Sessions.{PlainScript, script_of, with_name}

-- names after those of further scripts
abbrev pub names_on : List (List ℕ) → List PlainScript → List (List ℕ)
names_on names scripts = fold (λ names s. with_name names s.name) names scripts

-- names after those of a port's scripts
abbrev pub names_after : List (List ℕ) → ℕ → List Script → List (List ℕ)
names_after names port scripts = names_on names (filter (λ s. s.port == port) (map script_of scripts))

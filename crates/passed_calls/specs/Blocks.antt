-- The callers of a session whose calls are not all for the port: their blocks, their numbers and their steps.
use Rattle.std.specs.Prelude.{ℕ, ◌==◌, List, [], length, map, filter, sum_by, unwrap_or, if◌then◌else◌}
use Rattle.std.specs.Str.{bytes_eq}
use Rattle.tty_calls.specs.Sessions.{PlainScript, names_of, number_in}

-- a caller's block in a phase: its port, its name, and how many calls it has there
pub record Block : Type 0 where
  pub port : ℕ
  pub name : List ℕ
  pub steps : ℕ

abbrev pub blocks_on : ℕ → List Block → List Block
blocks_on p blocks = filter (λ b. b.port == p) blocks

-- a block as a script without calls: what a caller's number is found by
abbrev pub bare : Block → PlainScript
bare b = record { port = b.port; name = b.name; calls = [] }

-- the names of a port's callers, in the order in which they first occur
abbrev pub names_on : ℕ → List Block → List (List ℕ)
names_on p blocks = names_of (map bare (blocks_on p blocks))

-- a caller's number on its port; one that has no block there stands past the last
abbrev pub number_on : ℕ → List Block → List ℕ → ℕ
number_on p blocks name = unwrap_or (number_in (names_on p blocks) name) (length (names_on p blocks))

-- how many calls the callers of this port and name have in these blocks: a caller's steps go on over the phases
abbrev pub steps_under : List ℕ → List Block → ℕ
steps_under name blocks = sum_by (λ b. if bytes_eq b.name name then b.steps else 0) blocks

abbrev pub steps_before : List Block → Block → ℕ
steps_before before b = steps_under b.name (blocks_on b.port before)

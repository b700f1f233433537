-- A log beside the journals of ports: what happened, on which port, and after how many entries of its journal.
use Rattle.std.specs.Prelude.{ℕ, ◌==◌, ◌≤◌, List, [], ◌∷◌, filter}
use Rattle.passed_calls.specs.declared.logs.Logged.{Logged}

-- what was logged of a port
abbrev pub logged_on : {E : Type 0} → ℕ → List (Logged E) → List (Logged E)
logged_on p log = filter (λ l. l.port == p) log

-- on a port the numbers of entries never fall, and are at most the journal's length
abbrev pub NeverFalls : {E : Type 0} → (from end : ℕ) → List (Logged E) → Type 0
NeverFalls from end [] = from ≤ end
NeverFalls from end (l ∷ ls) = (from ≤ l.at) × NeverFalls l.at end ls

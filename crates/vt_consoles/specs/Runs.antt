-- A board run: what the entries of a board say of one another.
use Rattle.std.specs.Prelude.{◌≡◌, ℕ, ◌<◌, List, [], ◌∷◌}
use Rattle.std.specs.List.{fold}
use Rattle.vt_consoles.specs.declared.entries.VtEntry.{VtEntry}
use Rattle.vt_consoles.specs.declared.entries.VtEvent.{VtEvent}
use Rattle.vt_consoles.specs.declared.entries.VtEvent.TheVariants.{Activate, State, Key}

-- which console is active after an event
abbrev pub active_after : ℕ → VtEvent → ℕ
active_after active (Activate n) = n
active_after active (State n) = active
active_after active (Key index n) = active

-- the console that the last activation names, or console 0 where there is none
abbrev pub active_of : List VtEntry → ℕ
active_of entries = fold (λ active (e : VtEntry). active_after active e.event) 0 entries

-- an activation names one of so many consoles, and a state or a key the active one
abbrev pub NamesRightly : (consoles active : ℕ) → VtEvent → Type 0
NamesRightly consoles active (Activate n) = n < consoles
NamesRightly consoles active (State n) = n ≡ active
NamesRightly consoles active (Key index n) = n ≡ active

-- each of the entries, where this console is active before the first
abbrev pub NameRightly : (consoles active : ℕ) → List VtEntry → Type 0
NameRightly consoles active [] = Unit {0}
NameRightly consoles active (e ∷ entries) =
    NamesRightly consoles active e.event × NameRightly consoles (active_after active e.event) entries

-- a board run, over so many consoles
abbrev pub IsBoardRun : (consoles : ℕ) → List VtEntry → Type 0
IsBoardRun consoles entries = NameRightly consoles 0 entries

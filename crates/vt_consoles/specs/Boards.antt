-- A board of consoles, as contracts see it.
use Rattle.std.specs.Prelude.{◌≡◌, ℕ, ◌<◌, ◌≤◌, List, [], ◌∷◌, ◌++◌, length}
use Rattle.tty_base.specs.Sizes.{MOST_CONSOLES, MOST_ENTRIES}
use Rattle.tty_calls.specs.declared.answers.Denied.{Denied}
use Rattle.tty_calls.specs.declared.answers.Denied.TheVariants.{NoMemory, Full}
use Rattle.vt_consoles.specs.declared.entries.VtEntry.{VtEntry}
use Rattle.vt_consoles.specs.declared.entries.VtEvent.{VtEvent}
use Rattle.vt_consoles.specs.Runs.{active_of, NamesRightly, IsBoardRun}

-- how many consoles it has, how many entries it may have, and those that it has
pub record BoardState : Type 0 where
  pub consoles : ℕ
  pub limit : ℕ
  pub entries : List VtEntry

-- the active console
abbrev pub active_on : BoardState → ℕ
active_on b = active_of b.entries

abbrev pub with_entry : BoardState → (seat : ℕ) → VtEvent → BoardState
with_entry b seat event = record b { entries = b.entries ++ record { seat = seat; event = event } ∷ [] }

-- what holds of every board
pub record IsBoard (b : BoardState) : Type 0 where
  pub some : 0 < b.consoles
  pub few : b.consoles ≤ MOST_CONSOLES
  pub run : IsBoardRun b.consoles b.entries
  pub within : length b.entries ≤ b.limit
  pub most : b.limit ≤ MOST_ENTRIES

-- the board has room for an entry
abbrev pub HasRoom : BoardState → Type 0
HasRoom b = length b.entries < b.limit

-- one entry more, of an event that may come
pub record Adds (seat : ℕ) (event : VtEvent) (old new : BoardState) : Type 0 where
  pub rightly : NamesRightly old.consoles (active_on old) event
  pub room : HasRoom old
  pub adds : new ≡ with_entry old seat event

-- why a board makes no entry: it is full, or it has room and wants memory
abbrev pub IsDenied : BoardState → Denied → Type 0
IsDenied b Full = length b.entries ≡ b.limit
IsDenied b NoMemory = HasRoom b

-- the fields of a board: the active console is kept
abbrev pub IsKept : (consoles active limit : ℕ) → List VtEntry → Type 0
IsKept consoles active limit entries =
    IsBoard (record { consoles = consoles; limit = limit; entries = entries }) × (active ≡ active_of entries)

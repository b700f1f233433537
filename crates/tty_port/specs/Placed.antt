-- What holds of the history of every port.
use Rattle.std.specs.Prelude.{◌≡◌, ℕ, List, [], ◌∷◌, true, Option, sum}
use Rattle.tty_calls.specs.Plain.{PlainCall}
use Rattle.tty_terminal.specs.Makers.{IsByItsMaker}
use Rattle.tty_terminal.specs.Runs.{is_of_call, AgreesOn}
use Rattle.port_core.specs.Ports.{PortValue, call_in}
use Rattle.port_cell.specs.declared.kept.Stamped.{Stamped}
use Rattle.port_cell.specs.Entries.{generation_of}
use Rattle.tty_port.specs.Inside.{EntryWithCall}
use Rattle.tty_port.specs.Histories.{seat_of, call_by, name_in}
use Rattle.tty_port.specs.Seen.{entries_in, terminal_at}

-- an entry has the seat of its maker, and is one of those that the maker makes; an entry of a call has the call
pub record IsPlaced (m callers : ℕ) (x : Stamped EntryWithCall) : Type 0 where
  pub seat : x.seat ≡ seat_of m x.what.entry.who
  pub maker : IsByItsMaker (λ (c step : ℕ). x.what.call) callers x.what.entry.who x.what.entry.step x.what.entry.event

abbrev pub ArePlaced : ℕ → ℕ → List (Stamped EntryWithCall) → Type 0
ArePlaced m callers [] = Unit {0}
ArePlaced m callers (x ∷ xs) = IsPlaced m callers x × ArePlaced m callers xs

-- an entry of a call has the call that these calls have
abbrev pub HasCall : (ℕ → ℕ → Option PlainCall) → Stamped EntryWithCall → Type 0
HasCall calls x = is_of_call x.what.entry.event ≡ true → call_by calls x.what.entry.who x.what.entry.step ≡ x.what.call

abbrev pub HaveCalls : (ℕ → ℕ → Option PlainCall) → List (Stamped EntryWithCall) → Type 0
HaveCalls calls [] = Unit {0}
HaveCalls calls (x ∷ xs) = HasCall calls x × HaveCalls calls xs

-- This is the history of that port, where m callers have seats. A run of these entries has the calls that are told
-- here.
pub record IsHistoryOf (m : ℕ) (v : PortValue) (xs : List (Stamped EntryWithCall)) : Type 0 where
  pub entries : entries_in xs ≡ v.journal
  pub placed : ArePlaced m (sum v.counts) xs
  pub generation : generation_of xs ≡ v.terminal.generation
  pub terminal : terminal_at (name_in m v) xs ≡ v.terminal
  pub calls : (calls : ℕ → ℕ → Option PlainCall) → HaveCalls calls xs → AgreesOn (call_in v.kept) calls v.journal

-- What the seats of a board make in a phase, and how far the board's entries are an account.
use Rattle.std.specs.Prelude.{◌≡◌, ℕ, ◌+◌, ◌<◌, List, [], ◌∷◌, ◌++◌, drop, flat_map, length, map}
use Rattle.port_cell.specs.declared.kept.Stamped.{Stamped}
use Rattle.port_cell.specs.Entries.{GoesOn, entries_by}
use Rattle.vt_consoles.specs.declared.entries.VtEntry.{VtEntry}
use Rattle.vt_consoles.specs.declared.entries.VtEvent.{VtEvent}
use Rattle.vt_consoles.specs.declared.entries.VtEvent.TheVariants.{Key}
use Rattle.vt_consoles.specs.Boards.{BoardState}
use Rattle.vt_consoles.specs.Histories.{history_of, stamped}
use Rattle.vt_text.specs.Sessions.{PlainVtPhase, PlainVtSession}
use Rattle.vt_account.specs.Account.{granted, call_in, index_in, calls_at, IsPhasePart, HasParts}
use Rattle.vt_account.specs.Keyed.{consoles_in}

-- between two histories the seat with this number made entries of these events, in order, and no others
abbrev pub MadeBy : (n : ℕ) → (xs ys : List (Stamped VtEvent)) → List VtEvent → Type 0
MadeBy n xs ys events = entries_by n ys ≡ entries_by n xs ++ map (stamped n) events

-- the events of keys, from this index on, that went to these consoles one by one
abbrev pub key_events : (first : ℕ) → (consoles : List ℕ) → List VtEvent
key_events first [] = []
key_events first (n ∷ consoles) = Key first n ∷ key_events (first + 1) consoles

-- an operator's seat answered its calls of the phase
pub record OperatorMade (consoles : ℕ) (names : List (List ℕ)) (phase : PlainVtPhase) (n : ℕ)
    (xs ys : List (Stamped VtEvent)) : Type 0 where
  pub events : List VtEvent
  pub made : MadeBy n xs ys events
  pub answers : flat_map call_in events ≡ flat_map (granted consoles) (calls_at names n phase)
  pub no_keys : flat_map index_in events ≡ []

-- From the board a to the board b each seat made what a phase has for it, and nobody else made an entry. The keys went
-- to these consoles.
pub record PhaseMade (names : List (List ℕ)) (phase : PlainVtPhase) (first : ℕ) (went : List ℕ)
    (a b : BoardState) : Type 0 where
  pub goes_on : GoesOn (λ k. k < length names + 1) (history_of a) (history_of b)
  pub operators : (n : ℕ) → n < length names → OperatorMade a.consoles names phase n (history_of a) (history_of b)
  pub keyboard : MadeBy (length names) (history_of a) (history_of b) (key_events first went)
  pub each_key : length went ≡ length phase.keys

-- The board has the entries of the phase more.
pub record AddsPart (session : PlainVtSession) (phase : PlainVtPhase) (first : ℕ) (went : List ℕ)
    (a b : BoardState) : Type 0 where
  pub part : List VtEntry
  pub added : b.entries ≡ a.entries ++ part
  pub is_part : IsPhasePart session phase first part
  pub keys_went : consoles_in part ≡ went

-- the entries are those of the phases before phase k, whose keys begin with this index
abbrev pub HasPartsUpTo : PlainVtSession → (k first : ℕ) → List VtEntry → Type 0
HasPartsUpTo session k first entries =
    (rest : List VtEntry)
    → HasParts session first (drop k session.phases) rest
    → HasParts session 0 session.phases (entries ++ rest)

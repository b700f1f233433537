-- What the board and the phases come to as they are played on one thread: for private functions alone.
use Rattle.std.specs.Prelude.{◌≡◌, ℕ, ◌+◌, ◌-◌, ◌<◌, ◌==◌, List, [], ◌∷◌, ◌++◌, drop}
use Rattle.std.specs.Prelude.{flat_map, fold, length, map, take, if◌then◌else◌}
use Rattle.std.specs.List.{range_with_len}
use Rattle.tty_base.specs.declared.lines.LineStep.{LineStep}
use Rattle.tty_calls.specs.declared.answers.Denied.{Denied}
use Rattle.tty_calls.specs.declared.answers.Denied.TheVariants.{NoMemory, Full}
use Rattle.tty_calls.specs.Sessions.{PlainPhase, with_name}
use Rattle.vt_consoles.specs.declared.entries.VtEntry.{VtEntry}
use Rattle.vt_consoles.specs.Boards.{BoardState, active_on}
use Rattle.vt_text.specs.declared.sessions.OpCall.{OpCall}
use Rattle.vt_text.specs.Sessions.{PlainOperator, PlainVtPhase}
use Rattle.vt_account.specs.Account.{granted}
use Rattle.vt_account.specs.Keyed.{all_keys, key_line}
use Rattle.vt_account.specs.InOrder.{active_behind, key_entries, call_entries}
use Rattle.vt_account.specs.InOrder.{operators_entries, phase_entries, entries_from}

-- the names after those of further operators
abbrev pub names_behind : List (List ℕ) → List PlainOperator → List (List ℕ)
names_behind names operators = fold (λ known operator. with_name known operator.name) names operators

-- a board with further entries
pub record AddsAll (entries : List VtEntry) (old new : BoardState) : Type 0 where
  pub consoles : new.consoles ≡ old.consoles
  pub limit : new.limit ≡ old.limit
  pub added : new.entries ≡ old.entries ++ entries

-- why a board was denied one of the entries that were to be added: it has no room for all, or memory was short
abbrev pub LacksRoom : List VtEntry → BoardState → Denied → Type 0
LacksRoom entries b Full = b.limit < length b.entries + length entries
LacksRoom entries b NoMemory = Unit {0}

-- a board has some of the entries that are to be added, and these are left
pub record HasLeft (whole left : List VtEntry) (old new : BoardState) : Type 0 where
  pub done : List VtEntry
  pub adds : AddsAll done old new
  pub all : done ++ left ≡ whole

-- the lines of a phase in which all keys go to one console
abbrev pub key_lines : (consoles active : ℕ) → List ℕ → List (List LineStep)
key_lines consoles active keys = map (λ p. key_line (if active == p then keys else [])) (range_with_len 0 consoles)

-- the phases that the consoles play, where this console is active before the first
abbrev pub phases_in_order : List (List ℕ) → (consoles active first : ℕ) → List PlainVtPhase → List PlainPhase
    → List PlainPhase
phases_in_order names consoles active first [] phases = phases
phases_in_order names consoles active first (keyboard ∷ keyboards) [] = []
phases_in_order names consoles active first (keyboard ∷ keyboards) (phase ∷ phases) =
    record phase { lines = key_lines consoles active keyboard.keys }
    ∷ phases_in_order names consoles (active_behind active (phase_entries names consoles active first keyboard))
    (first + length keyboard.keys) keyboards phases

-- ---- loops, by how many of their items are done

-- keys: the console that is active stays
pub record HasPressed (seat first count place : ℕ) (old new : BoardState) : Type 0 where
  pub left : HasLeft (key_entries seat (active_on old) first count)
      (key_entries seat (active_on old) (first + place) (count - place)) old new
  pub active : active_on new ≡ active_on old

abbrev pub HasCalled : (seat : ℕ) → List OpCall → (place : ℕ) → (old new : BoardState) → Type 0
HasCalled seat calls place old new =
    HasLeft (call_entries seat (active_on old) (flat_map (granted old.consoles) calls))
    (call_entries seat (active_on new) (flat_map (granted old.consoles) (drop place calls))) old new

abbrev pub HasOperated : List (List ℕ) → List PlainOperator → (place : ℕ) → (old new : BoardState) → Type 0
HasOperated names operators place old new =
    HasLeft (operators_entries names old.consoles (active_on old) operators)
    (operators_entries names old.consoles (active_on new) (drop place operators)) old new

-- phases, whose keys begin with this index
pub record HasPlayed (names : List (List ℕ)) (keyboards : List PlainVtPhase) (place first : ℕ) (old new : BoardState)
    (phases played : List PlainPhase) : Type 0 where
  pub left : HasLeft (entries_from names old.consoles (active_on old) 0 keyboards)
      (entries_from names old.consoles (active_on new) first (drop place keyboards)) old new
  pub each : length played ≡ length keyboards
  pub same : take place played
      ++ phases_in_order names old.consoles (active_on new) first (drop place keyboards) (drop place played)
      ≡ phases_in_order names old.consoles (active_on old) 0 keyboards phases
  pub counted : first + length (all_keys (drop place keyboards)) ≡ length (all_keys keyboards)

-- How a call, or a flush run, goes on from turn to turn.
use Rattle.std.specs.Prelude.{◌≡◌, ◌⊎◌, ℕ, ◌+◌, ◌*◌, ◌<◌, ◌≤◌, List, [], ◌∷◌}
use Rattle.std.specs.Prelude.{◌++◌, true, false, MatchBool, length}
use Rattle.tty_base.specs.Sizes.{MOST_ENTRIES, PIECE}
use Rattle.tty_calls.specs.Plain.{PlainCall, PlainAnswer}
use Rattle.port_core.specs.Attempts.{PlainTried, done_by, took_part, must_wait}
use Rattle.port_core.specs.declared.ports.flushing.Flushed.{Flushed}
use Rattle.port_core.specs.declared.ports.flushing.Flushed.TheVariants as outcome
use Rattle.port_cell.specs.declared.kept.Stamped.{Stamped}
use Rattle.port_cell.specs.Entries.{generation_of, Begins}
use Rattle.port_cell.specs.Word.{generation_in}
use Rattle.port_cell.specs.Knowledge.{list_seen, own_entries, last_word, step_count, install_count}
use Rattle.tty_port.specs.Inside.{Name, EntryWithCall}
use Rattle.tty_port.specs.Seen.{standing_at, IsBetweenCalls, chars_at, next_run, terminal_at}
use Rattle.tty_port.specs.Adding.{IsAnswerOf, IsPartOf, IsWaitOf, IsUnderWay, Rests}
use Rattle.tty_port.specs.Calls.{PortSeat, Pauses, is_wait}
use Rattle.tty_port.specs.Lines.{MakesOne, MakesNone}
use Rattle.tty_port.specs.Flushing.{IsPiece, ArePieces, IsWholePiece, AreWhole, GoesOnAt, HasNothingLeft, run_past}

-- an entry of this kind, made in this generation
pub record IsMadeIn (generation : ℕ) (P : Stamped EntryWithCall → Type 0) (before : List (Stamped EntryWithCall))
    (x : Stamped EntryWithCall) : Type 0 where
  pub at_generation : x.what.entry.generation ≡ generation
  pub is : P x

-- what a turn of a call came to, in this generation
abbrev pub Turns : ℕ → ℕ → PlainCall → (generation : ℕ) → PortSeat → PortSeat → PlainTried → Type 0
Turns c step call generation old new (done_by a) =
    MakesOne (IsMadeIn generation (IsAnswerOf c step call a)) old new × IsBetweenCalls c (step + 1) (list_seen new)
Turns c step call generation old new took_part =
    MakesOne (IsMadeIn generation (IsPartOf c step call)) old new
    × IsUnderWay c step call generation (list_seen new) × ((standing_at c (list_seen new)).waits ≡ false)
Turns c step call generation old new must_wait =
    ((MakesNone old new × ((standing_at c (list_seen old)).waits ≡ true))
    ⊎ MakesOne (IsMadeIn generation (IsWaitOf c step call)) old new)
    × Rests c step call (list_seen new)

-- a turn that took a part, under the same reference
pub record TakesPart (c step : ℕ) (call : PlainCall) (old new : PortSeat) : Type 0 where
  pub made : MakesOne (IsMadeIn (generation_in (last_word old)) (IsPartOf c step call)) old new
  pub same : generation_in (last_word new) ≡ generation_in (last_word old)
  pub goes_on : (standing_at c (list_seen new)).waits ≡ false

-- a turn in which the call began to wait, or waited already; after it the reference was given back, and a new one taken
abbrev pub Waits : ℕ → ℕ → PlainCall → PortSeat → PortSeat → Type 0
Waits c step call old new =
    ((MakesNone old new × ((standing_at c (list_seen old)).waits ≡ true))
    ⊎ MakesOne (IsMadeIn (generation_in (last_word old)) (IsWaitOf c step call)) old new)
    × (step_count old < step_count new)

-- the call goes on after a turn
abbrev pub StepsOn : ℕ → ℕ → PlainCall → PortSeat → PortSeat → Type 0
StepsOn c step call old new =
    (TakesPart c step call old new ⊎ Waits c step call old new)
    × IsUnderWay c step call (generation_in (last_word new)) (list_seen new)

-- the last entry is a wait, or has this generation
abbrev pub LastHas : ℕ → List (Stamped EntryWithCall) → Type 0
LastHas generation [] = Unit {0}
LastHas generation (x ∷ []) = MatchBool (is_wait x.what.entry.event) (Unit {0}) (x.what.entry.generation ≡ generation)
LastHas generation (x ∷ y ∷ ys) = LastHas generation (y ∷ ys)

-- the call so far, which goes on in this generation
pub record IsGoing (c step : ℕ) (call : PlainCall) (generation : ℕ) (old new : PortSeat) : Type 0 where
  pub so_far : Pauses c step call old new
  pub last : LastHas generation so_far.pauses
  pub rested : (standing_at c (list_seen new)).waits ≡ true → (g : ℕ) → LastHas g so_far.pauses
  pub under_way : IsUnderWay c step call generation (list_seen new)

-- the one turn of a call that may change the discipline
pub record Changes (c step : ℕ) (call : PlainCall) (a : PlainAnswer) (old new : PortSeat) : Type 0 where
  pub made : MakesOne (IsMadeIn (generation_in (last_word new)) (IsAnswerOf c step call a)) old new
  pub next : IsBetweenCalls c (step + 1) (list_seen new)
  pub installed : install_count new + generation_in (last_word new) ≡ install_count old + generation_of (list_seen new)

-- the flush run so far: this number of pieces, with so many characters
pub record IsFlushing (name : Name) (run part n : ℕ) (old new : PortSeat) : Type 0 where
  pub begins : Begins (list_seen old) (list_seen new)
  pub made : List (Stamped EntryWithCall)
  pub adds : own_entries new ≡ own_entries old ++ made
  pub pieces : ArePieces name.callers run (generation_in (last_word new)) 0 made
  pub whole : AreWhole name (list_seen new) made
  pub parts : length made ≡ part
  pub count : n ≡ length (chars_at made)
  pub few : n ≤ PIECE * part
  pub next : next_run (list_seen new) ≡ run_past run n
  pub installed : install_count new ≡ install_count old

-- what a turn of a flush run came to
abbrev pub FlushTurns : (name : Name) (run part generation : ℕ) → PortSeat → PortSeat → Flushed → Type 0
FlushTurns name run part generation old new (outcome.Took n) =
    MakesOne
    (λ before x. IsPiece name.callers run part generation x × (n ≡ length (chars_at (x ∷ [])))
    × IsWholePiece name before x)
    old new
    × GoesOnAt run (part + 1) generation (list_seen new)
    × (next_run (list_seen new) ≡ run + 1)
    × (length (list_seen new) ≤ MOST_ENTRIES)
FlushTurns name run part generation old new outcome.Nothing =
    MakesNone old new
    × (next_run (list_seen new) ≡ next_run (list_seen old))
    × HasNothingLeft (terminal_at name (list_seen new))

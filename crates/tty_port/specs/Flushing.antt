-- What a flush run comes to, as the flusher's seat knows it.
use Rattle.std.specs.Prelude.{◌≡◌, ℕ, ◌+◌, ◌<◌, ◌≤◌, List, [], ◌∷◌, ◌++◌, true}
use Rattle.std.specs.Prelude.{false, IsTrue, None, ◌==◌, if◌then◌else◌, length}
use Rattle.tty_base.specs.Sizes.{MOST_ENTRIES, PIECE}
use Rattle.tty_base.specs.declared.characters.Flagged.{Flagged}
use Rattle.tty_calls.specs.declared.journals.Who.TheVariants.{Flusher}
use Rattle.tty_calls.specs.Plain.{flushed}
use Rattle.tty_terminal.specs.Terminals.{Terminal}
use Rattle.tty_terminal.specs.Steps.{follows, nothing_to_flush}
use Rattle.tty_terminal.specs.Runs.{RunHas}
use Rattle.port_core.specs.Ports.{is_stuck}
use Rattle.port_core.specs.declared.ports.flushing.Flushed.{Flushed}
use Rattle.port_core.specs.declared.ports.flushing.Flushed.TheVariants as outcome
use Rattle.port_cell.specs.declared.kept.Stamped.{Stamped}
use Rattle.port_cell.specs.Entries.{generation_of, Begins}
use Rattle.port_cell.specs.Word.{generation_in, changing_in}
use Rattle.port_cell.specs.Knowledge.{list_seen, own_entries, last_word, step_count, install_count}
use Rattle.tty_port.specs.Inside.{Name, EntryWithCall}
use Rattle.tty_port.specs.Seen.{entries_in, marks_at, chars_at, next_run, terminal_at}
use Rattle.tty_port.specs.Adding.{Adds}
use Rattle.tty_port.specs.Calls.{PortSeat}

-- a piece of a flush run, by the flusher with the seat m
pub record IsPiece (m run part generation : ℕ) (x : Stamped EntryWithCall) : Type 0 where
  pub seat : x.seat ≡ m
  pub who : x.what.entry.who ≡ Flusher
  pub at_step : x.what.entry.step ≡ run
  pub at_part : x.what.entry.part ≡ part
  pub at_generation : x.what.entry.generation ≡ generation
  pub chars : List Flagged
  pub some : 0 < length chars
  pub few : length chars ≤ PIECE
  pub happened : x.what.entry.event ≡ flushed chars
  pub keeps : x.what.call ≡ None

-- pieces of one run in one generation, numbered from this part on
abbrev pub ArePieces : (m run generation part : ℕ) → List (Stamped EntryWithCall) → Type 0
ArePieces m run generation part [] = Unit {0}
ArePieces m run generation part (x ∷ xs) = IsPiece m run part generation x × ArePieces m run generation (part + 1) xs

-- no handle is live, the discipline does not accept, or at least what is known to be sent is taken
abbrev pub IsCaughtUp : Terminal → Type 0
IsCaughtUp t = is_stuck t ≡ false → t.sent ≤ t.taken

-- Made on this history, the piece has as many characters as a piece may have, or leaves a port that can be flushed no
-- further.
abbrev pub IsWholePiece : Name → List (Stamped EntryWithCall) → Stamped EntryWithCall → Type 0
IsWholePiece name before x = length (chars_at (x ∷ [])) < PIECE → IsCaughtUp (terminal_at name (before ++ x ∷ []))

-- each of these pieces, on the front of the history before it
abbrev pub AreWhole : Name → (all made : List (Stamped EntryWithCall)) → Type 0
AreWhole name all [] = Unit {0}
AreWhole name all (x ∷ xs) =
    ((before : List (Stamped EntryWithCall)) × Begins (before ++ x ∷ []) all × IsWholePiece name before x)
    × AreWhole name all xs

-- No more can be flushed, and once the line is over nothing is left to flush.
pub record HasNothingLeft (t : Terminal) : Type 0 where
  pub caught_up : IsCaughtUp t
  pub idle : IsTrue t.line_over → nothing_to_flush t ≡ true

-- the number of the next run, after one that handed over n characters: a run of none makes no entry
abbrev pub run_past : (run n : ℕ) → ℕ
run_past run n = if n == 0 then run else run + 1

-- a run of n characters by the flusher of the port with this name, under one reference, whose generation is that of
-- each piece
pub record FlushesRun (name : Name) (run n : ℕ) (old new : PortSeat) : Type 0 where
  pub begins : Begins (list_seen old) (list_seen new)
  pub made : List (Stamped EntryWithCall)
  pub adds : own_entries new ≡ own_entries old ++ made
  pub pieces : ArePieces name.callers run (generation_in (last_word new)) 0 made
  pub whole : AreWhole name (list_seen new) made
  pub count : n ≡ length (chars_at made)
  pub next : next_run (list_seen new) ≡ run_past run n
  pub stepped : step_count old < step_count new
  pub found : changing_in (last_word new) ≡ 0
  pub installed : install_count new ≡ install_count old

-- where a run goes on
pub record GoesOnAt (run part generation : ℕ) (xs : List (Stamped EntryWithCall)) : Type 0 where
  pub numbered : IsTrue (follows (marks_at xs).latest run part)
  pub one : 0 < part → RunHas run generation (entries_in xs)

-- what a piece came to
abbrev pub FlushesPiece : (name : Name) (run part : ℕ) (old new : List (Stamped EntryWithCall)) → Flushed → Type 0
FlushesPiece name run part old new (outcome.Took n) =
    Adds
    (λ x. IsPiece name.callers run part (generation_of old) x × (n ≡ length (chars_at (x ∷ [])))
    × IsWholePiece name old x)
    old new
    × GoesOnAt run (part + 1) (generation_of old) new × (next_run new ≡ run + 1) × (length new ≤ MOST_ENTRIES)
FlushesPiece name run part old new outcome.Nothing = (new ≡ old) × HasNothingLeft (terminal_at name old)

-- What a piece of a flush run needs, and what it comes to.
use Rattle.std.specs.Prelude.{◌≡◌, ◌⊎◌, ℕ, List, IsTrue, true, false, ◌<◌, ◌≤◌, MatchBool, length}
use Rattle.tty_base.specs.Sizes.{PIECE}
use Rattle.tty_base.specs.declared.characters.Flagged.{Flagged}
use Rattle.word_ring.specs.Ends.{with_shown}
use Rattle.flip_buffer.specs.Drops.{LooksAt}
use Rattle.tty_terminal.specs.Receiving.{accepts}
use Rattle.tty_terminal.specs.Steps.{follows, nothing_to_flush}
use Rattle.tty_terminal.specs.Runs.{RunHas}
use Rattle.port_core.specs.declared.ports.flushing.Flushed.{Flushed}
use Rattle.port_core.specs.declared.ports.flushing.Flushed.TheVariants as flushed
use Rattle.port_core.specs.Flips.{TakesOut, shown_count}
use Rattle.port_core.specs.Ports.{PortValue, Appends, is_stuck, flush_entry}

-- `most` characters at most are asked for; the piece continues the latest run, or begins the next one
pub record IsPieceOf (v : PortValue) (run part most : ℕ) : Type 0 where
  pub some : 1 ≤ most
  pub few : most ≤ PIECE
  pub numbered : IsTrue (follows v.terminal.flushed run part)
  pub one : 0 < part → RunHas run v.terminal.generation v.journal

-- A piece took the first characters of those that one look shows, and stopped early only where the look shows no more
-- or the discipline does not accept.
pub record Takes (old new : PortValue) (run part most n : ℕ) : Type 0 where
  pub chars : List Flagged
  pub count : length chars ≡ n
  pub appends : Appends old new new.flip (flush_entry old run part chars)
  pub takes_out : TakesOut old.flip new.flip chars
  pub tail : ℕ
  pub looks : LooksAt old.flip new.flip tail
  pub some : 0 < n
  pub few : n ≤ most
  pub within : n ≤ shown_count old.terminal tail
  pub stops : n < most → (n ≡ shown_count old.terminal tail) ⊎ (accepts new.terminal ≡ false)

-- one look was made, which shows no character
pub record LooksAtNone (old new : PortValue) : Type 0 where
  pub looked : new ≡ record old { flip = with_shown old.flip new.flip.floor }
  pub looks : LooksAt old.flip new.flip new.flip.floor
  pub none : shown_count old.terminal new.flip.floor ≡ 0

-- No handle is live, the discipline does not accept, or one look shows nothing. So all that is known to be sent is
-- taken, or the port is stuck; once the line is over nothing is left to flush.
pub record TakesNone (old new : PortValue) : Type 0 where
  pub cause : MatchBool (is_stuck old.terminal) (new ≡ old) (LooksAtNone old new)
  pub caught_up : is_stuck old.terminal ≡ false → old.terminal.sent ≤ old.terminal.taken
  pub idle : IsTrue old.terminal.line_over → nothing_to_flush old.terminal ≡ true

abbrev pub Flushes : PortValue → PortValue → ℕ → ℕ → ℕ → Flushed → Type 0
Flushes old new run part most (flushed.Took n) = Takes old new run part most n
Flushes old new run part most flushed.Nothing = TakesNone old new

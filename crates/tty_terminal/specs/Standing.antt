-- Where a caller stands, as it follows from its own entries and from the ends of phases alone.
use Rattle.std.specs.Prelude.{ℕ, ◌+◌, ◌==◌, List, [], ◌∷◌, Bool, true, false, is_some, if◌then◌else◌}
use Rattle.tty_calls.specs.Plain.{PlainEvent, answered, parted, waited, flushed, ticked, line_ended}
use Rattle.tty_calls.specs.Plain.{clock_ended, caller_ended, phase_ended, hung_up, PlainEntry, is_caller}
use Rattle.tty_terminal.specs.declared.callers.CallerState.{CallerState}
use Rattle.tty_terminal.specs.Terminals.{has_begun}

-- All of a caller's state but the tick since which it waits, and what became of its handle.
pub record Standing : Type 0 where
  pub next : ℕ
  pub over : Bool
  pub waits : Bool
  pub parts : ℕ
  pub taken : ℕ
  pub generation : ℕ
  pub begun : Bool

abbrev pub standing_of : CallerState → Standing
standing_of s =
    record {
      next = s.next;
      over = s.over;
      waits = is_some s.waits;
      parts = s.parts;
      taken = s.taken;
      generation = s.generation;
      begun = has_begun s;
    }

-- after an entry of its own, which has this generation
abbrev pub standing_after_own : PlainEvent → (generation : ℕ) → Standing → Standing
standing_after_own (answered a dropped) generation s =
    record { next = s.next + 1; over = s.over; waits = false; parts = 0; taken = 0; generation = 0; begun = false }
standing_after_own (parted n) generation s =
    record s {
      waits = false;
      parts = s.parts + 1;
      taken = s.taken + n;
      generation = if s.parts == 0 then generation else s.generation;
      begun = true;
    }
standing_after_own waited generation s = record s { waits = true; begun = true }
standing_after_own (flushed chars) generation s = s
standing_after_own ticked generation s = s
standing_after_own (line_ended n) generation s = s
standing_after_own clock_ended generation s = s
standing_after_own caller_ended generation s = record s { over = true }
standing_after_own phase_ended generation s = s
standing_after_own (hung_up dropped) generation s = s

-- after an entry of another: only the end of a phase tells it anything
abbrev pub standing_after_other : PlainEvent → Standing → Standing
standing_after_other (answered a dropped) s = s
standing_after_other (parted n) s = s
standing_after_other waited s = s
standing_after_other (flushed chars) s = s
standing_after_other ticked s = s
standing_after_other (line_ended n) s = s
standing_after_other clock_ended s = s
standing_after_other caller_ended s = s
standing_after_other phase_ended s = record s { over = false }
standing_after_other (hung_up dropped) s = s

abbrev pub standing_after : ℕ → PlainEntry → Standing → Standing
standing_after c e s =
    if is_caller e.who c then standing_after_own e.event e.generation s else standing_after_other e.event s

-- where a caller stands after these entries
abbrev pub standing_in : ℕ → List PlainEntry → Standing → Standing
standing_in c [] s = s
standing_in c (e ∷ es) s = standing_in c es (standing_after c e s)

-- a caller that has made no entry
abbrev pub at_first : Standing
at_first = record { next = 0; over = false; waits = false; parts = 0; taken = 0; generation = 0; begun = false }

-- What the calls of a caller come to, as its seat knows it.
use Rattle.std.specs.Prelude.{◌≡◌, ◌⊎◌, ℕ, ◌+◌, ◌<◌, ◌≤◌, List, [], ◌∷◌, ◌++◌, Bool, true, false, MatchBool}
use Rattle.tty_calls.specs.Plain.{PlainCall, PlainAnswer, PlainEvent, answered, parted, waited, flushed}
use Rattle.tty_calls.specs.Plain.{ticked, line_ended, clock_ended, caller_ended, phase_ended, hung_up, changes}
use Rattle.port_cell.specs.declared.kept.Stamped.{Stamped}
use Rattle.port_cell.specs.Entries.{Begins}
use Rattle.port_cell.specs.Views.{bit_of}
use Rattle.port_cell.specs.Word.{generation_in, changing_in, users_in}
use Rattle.port_cell.specs.Knowledge.{CellSeat, list_seen, own_entries, last_word, step_count, install_count}
use Rattle.tty_port.specs.Inside.{Name, EntryWithCall}
use Rattle.tty_port.specs.Seen.{IsBetweenCalls}
use Rattle.tty_port.specs.Adding.{IsAnswerOf, IsPartOf, IsWaitOf}
use Rattle.tty_port.specs.declared.kept_port.KeptPort.{KeptPort}

abbrev pub PortSeat : Type 0
PortSeat = CellSeat KeptPort Name EntryWithCall

-- a part of the call, or its wait
abbrev pub IsPause : ℕ → ℕ → PlainCall → Stamped EntryWithCall → Type 0
IsPause c step call x = IsPartOf c step call x ⊎ IsWaitOf c step call x

abbrev pub ArePauses : ℕ → ℕ → PlainCall → List (Stamped EntryWithCall) → Type 0
ArePauses c step call [] = Unit {0}
ArePauses c step call (x ∷ xs) = IsPause c step call x × ArePauses c step call xs

abbrev pub is_wait : PlainEvent → Bool
is_wait (answered a dropped) = false
is_wait (parted n) = false
is_wait waited = true
is_wait (flushed chars) = false
is_wait ticked = false
is_wait (line_ended n) = false
is_wait clock_ended = false
is_wait caller_ended = false
is_wait phase_ended = false
is_wait (hung_up dropped) = false

-- how many of these entries are waits
abbrev pub waits_in : List (Stamped EntryWithCall) → ℕ
waits_in [] = 0
waits_in (x ∷ xs) = bit_of (is_wait x.what.entry.event) + waits_in xs

abbrev pub FirstHas : ℕ → List (Stamped EntryWithCall) → Type 0
FirstHas generation [] = Unit {0}
FirstHas generation (x ∷ xs) = x.what.entry.generation ≡ generation

-- The entries between two waits have one generation: the reference is held from the first of them on, and given back at
-- a wait.
abbrev pub KeepGeneration : List (Stamped EntryWithCall) → Type 0
KeepGeneration [] = Unit {0}
KeepGeneration (x ∷ xs) =
    MatchBool (is_wait x.what.entry.event) (Unit {0}) (FirstHas x.what.entry.generation xs) × KeepGeneration xs

-- The call is answered, by the last of the entries that the seat made meanwhile; those before are its parts and waits.
pub record IsAnswered (c step : ℕ) (call : PlainCall) (a : PlainAnswer) (old new : PortSeat) : Type 0 where
  pub begins : Begins (list_seen old) (list_seen new)
  pub pauses : List (Stamped EntryWithCall)
  pub last : Stamped EntryWithCall
  pub adds : own_entries new ≡ own_entries old ++ (pauses ++ last ∷ [])
  pub are_pauses : ArePauses c step call pauses
  pub is_answer : IsAnswerOf c step call a last
  pub one : KeepGeneration (pauses ++ last ∷ [])
  pub next : IsBetweenCalls c (step + 1) (list_seen new)
  -- the last entry, with those since the last wait, has the generation that the seat last found in the reference word
  pub held : last.what.entry.generation ≡ generation_in (last_word new)
  -- each wait is followed by a new reference: the one before was given back
  pub renewed : step_count old + waits_in pauses ≤ step_count new
  -- where the answer raised the generation, it was installed
  pub installed : install_count new + last.what.entry.generation ≡ install_count old + last.after

-- The generation was found in this call: by taking the reference that the call held, when nobody changed the
-- discipline; or, where the call may change it, after the mark was set, when nobody held a reference. Such a call has
-- no parts and does not wait. Another took a first reference, and one more after each wait.
pub record Answers (c step : ℕ) (call : PlainCall) (a : PlainAnswer) (old new : PortSeat) : Type 0 where
  pub answered : IsAnswered c step call a old new
  pub stepped : step_count old + waits_in answered.pauses < step_count new
  pub found : MatchBool (changes call) (users_in (last_word new) ≡ 0) (changing_in (last_word new) ≡ 0)
  pub at_once : changes call ≡ true → answered.pauses ≡ []

-- The call is not answered; what the seat made meanwhile are its parts and waits.
pub record Pauses (c step : ℕ) (call : PlainCall) (old new : PortSeat) : Type 0 where
  pub begins : Begins (list_seen old) (list_seen new)
  pub pauses : List (Stamped EntryWithCall)
  pub adds : own_entries new ≡ own_entries old ++ pauses
  pub are_pauses : ArePauses c step call pauses
  pub one : KeepGeneration pauses
  pub renewed : step_count old + waits_in pauses ≤ step_count new
  pub installed : install_count new ≡ install_count old

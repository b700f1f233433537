-- What one turn adds to a history.
use Rattle.std.specs.Prelude.{◌≡◌, ◌⊎◌, ℕ, ◌+◌, ◌<◌, List, [], ◌∷◌, ◌++◌, true, false, None, Some, length}
use Rattle.tty_calls.specs.declared.answers.Denied.{Denied}
use Rattle.tty_calls.specs.declared.answers.Denied.TheVariants.{NoMemory, Full}
use Rattle.tty_base.specs.declared.characters.Flagged.{Flagged}
use Rattle.tty_calls.specs.declared.journals.Who.{Who}
use Rattle.tty_calls.specs.declared.journals.Who.TheVariants.{Caller}
use Rattle.tty_calls.specs.Plain.{PlainCall, PlainAnswer, PlainEvent, answered, parted, waited}
use Rattle.tty_terminal.specs.Runs.{is_of_call}
use Rattle.port_core.specs.Attempts.{PlainTried, done_by, took_part, must_wait}
use Rattle.port_cell.specs.declared.kept.Stamped.{Stamped}
use Rattle.port_cell.specs.Entries.{generation_of}
use Rattle.tty_port.specs.Inside.{Name, EntryWithCall}
use Rattle.tty_port.specs.Seen.{standing_at, IsBetweenCalls}

-- one entry more, made in the generation in which the history ended
pub record Adds (P : Stamped EntryWithCall → Type 0) (old new : List (Stamped EntryWithCall)) : Type 0 where
  pub entry : Stamped EntryWithCall
  pub added : new ≡ old ++ entry ∷ []
  pub generation : entry.what.entry.generation ≡ generation_of old
  pub is : P entry

-- an entry of a caller's call, with the call that the port keeps for it
pub record IsOf (c step : ℕ) (call : PlainCall) (event : PlainEvent) (x : Stamped EntryWithCall) : Type 0 where
  pub seat : x.seat ≡ c
  pub who : x.what.entry.who ≡ Caller c
  pub at_step : x.what.entry.step ≡ step
  pub happened : x.what.entry.event ≡ event
  pub keeps : x.what.call ≡ Some call

-- the call's answer, with the characters that were dropped beside it
abbrev pub IsAnswerOf : ℕ → ℕ → PlainCall → PlainAnswer → Stamped EntryWithCall → Type 0
IsAnswerOf c step call a x = (dropped : List Flagged) × IsOf c step call (answered a dropped) x

abbrev pub IsPartOf : ℕ → ℕ → PlainCall → Stamped EntryWithCall → Type 0
IsPartOf c step call x = (n : ℕ) × IsOf c step call (parted n) x

abbrev pub IsWaitOf : ℕ → ℕ → PlainCall → Stamped EntryWithCall → Type 0
IsWaitOf c step call x = IsOf c step call waited x

-- an entry that is of no call
pub record IsEntry (n : ℕ) (maker : Who) (step : ℕ) (event : PlainEvent) (x : Stamped EntryWithCall) : Type 0 where
  pub seat : x.seat ≡ n
  pub who : x.what.entry.who ≡ maker
  pub at_step : x.what.entry.step ≡ step
  pub at_part : x.what.entry.part ≡ 0
  pub happened : x.what.entry.event ≡ event
  pub keeps : x.what.call ≡ None

-- the journal is full; want of memory has no cause
abbrev pub IsFull : Name → Denied → List (Stamped EntryWithCall) → Type 0
IsFull name Full xs = length xs ≡ name.limit
IsFull name NoMemory xs = Unit {0}

-- an entry that is of this call
pub record IsOfStep (c step : ℕ) (call : PlainCall) (x : Stamped EntryWithCall) : Type 0 where
  pub who : x.what.entry.who ≡ Caller c
  pub at_step : x.what.entry.step ≡ step
  pub of_call : is_of_call x.what.entry.event ≡ true
  pub keeps : x.what.call ≡ Some call

-- some entry tells that this is the call of the caller's step
abbrev pub IsToldCall : ℕ → ℕ → PlainCall → List (Stamped EntryWithCall) → Type 0
IsToldCall c step call [] = ⊥
IsToldCall c step call (x ∷ xs) = IsOfStep c step call x ⊎ IsToldCall c step call xs

-- the call is the caller's next, or the one that has begun; where parts of it were taken, and it does not wait, that
-- was in this generation
pub record IsUnderWay (c step : ℕ) (call : PlainCall) (generation : ℕ)
    (xs : List (Stamped EntryWithCall)) : Type 0 where
  pub next : (standing_at c xs).next ≡ step
  pub not_over : (standing_at c xs).over ≡ false
  pub same : (standing_at c xs).begun ≡ true → IsToldCall c step call xs
  pub one : (standing_at c xs).begun ≡ true
      → (standing_at c xs).waits ≡ false
      → 0 < (standing_at c xs).parts
      → (standing_at c xs).generation ≡ generation

-- the call is under way, in whatever generation it goes on
abbrev pub Rests : ℕ → ℕ → PlainCall → List (Stamped EntryWithCall) → Type 0
Rests c step call xs = (generation : ℕ) → IsUnderWay c step call generation xs

-- what an attempt came to
abbrev pub TriesCall : ℕ → ℕ → PlainCall → List (Stamped EntryWithCall) → List (Stamped EntryWithCall) → PlainTried
    → Type 0
TriesCall c step call old new (done_by a) = Adds (IsAnswerOf c step call a) old new × IsBetweenCalls c (step + 1) new
TriesCall c step call old new took_part =
    Adds (IsPartOf c step call) old new
    × IsUnderWay c step call (generation_of old) new
    × ((standing_at c new).waits ≡ false)
TriesCall c step call old new must_wait =
    (((new ≡ old) × ((standing_at c old).waits ≡ true)) ⊎ Adds (IsWaitOf c step call) old new) × Rests c step call new

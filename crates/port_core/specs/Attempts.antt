-- What an attempt of a call needs, and what it comes to.
use Rattle.std.specs.Prelude.{◌≡◌, ◌⊎◌, ℕ, List, [], Bool, IsTrue, true, false}
use Rattle.std.specs.Prelude.{◌+◌, ◌<◌, ◌^◌, None, Some, is_some, MatchBool, sum}
use Rattle.tty_base.specs.Sizes.{MOST_HANDLES}
use Rattle.tty_base.specs.declared.characters.Flagged.{Flagged}
use Rattle.tty_calls.specs.Plain.{PlainCall, handle_of, PlainAnswer, answered, parted, waited, answer_of}
use Rattle.tty_calls.specs.Limits.{byte_count}
use Rattle.tty_terminal.specs.Terminals.{caller_at, has_begun}
use Rattle.tty_terminal.specs.Calls.{outcome, outcome_of}
use Rattle.tty_terminal.specs.Steps.{MustWait, quiet}
use Rattle.tty_terminal.specs.Meeting.{drops_of}
use Rattle.port_core.specs.declared.ports.attempting.Tried.{Tried}
use Rattle.port_core.specs.declared.ports.attempting.Tried.TheVariants as tried
use Rattle.port_core.specs.Flips.{DropsShown}
use Rattle.port_core.specs.Ports.{PortValue, call_in, Appends, with_call, caller_entry}

-- What the caller of `attempt` knows: its next step, in a phase in which its calls are not over; the same call at each
-- attempt of it; and for a write of which parts were taken, and which does not wait, that their generation has not
-- ended.
pub record IsReady (v : PortValue) (c step : ℕ) (call : PlainCall) : Type 0 where
  pub known : c < sum v.counts
  pub next : step ≡ (caller_at v.terminal c).next
  pub not_over : (caller_at v.terminal c).over ≡ false
  pub number : handle_of call < MOST_HANDLES
  pub bytes : byte_count call < 2 ^ 32
  pub same : has_begun (caller_at v.terminal c) ≡ true → call_in v.kept c step ≡ Some call
  pub generation : (caller_at v.terminal c).waits ≡ None
      → 0 < (caller_at v.terminal c).parts
      → (caller_at v.terminal c).generation ≡ v.terminal.generation

-- what an attempt came to
pub data PlainTried : Type 0 where
  done_by : (answer : PlainAnswer) → PlainTried
  took_part : PlainTried
  must_wait : PlainTried

abbrev pub tried_of : Tried → PlainTried
tried_of (tried.Done answer) = done_by (answer_of answer)
tried_of tried.Part = took_part
tried_of tried.MustWait = must_wait

-- The call is answered by one entry. Where it drops what waits in the flip buffer, that is all that one look shows;
-- else nothing is dropped and the flip buffer is as before.
pub record AnswersCall (old new : PortValue) (c step : ℕ) (call : PlainCall) (answer : PlainAnswer) : Type 0 where
  pub dropped : List Flagged
  pub appends : Appends (with_call old c step call) new new.flip (caller_entry old c (answered answer dropped))
  pub drops : MatchBool (drops_of (outcome old.terminal (caller_at old.terminal c) call))
      (DropsShown old.terminal old.flip new.flip dropped)
      ((dropped ≡ []) × (new.flip ≡ old.flip))

-- a write took a part of its bytes, by one entry
pub record TakesPartOf (old new : PortValue) (c step : ℕ) (call : PlainCall) : Type 0 where
  pub count : ℕ
  pub appends : Appends (with_call old c step call) new old.flip (caller_entry old c (parted count))

-- The call must wait. The first time that is one entry; where it waits already, and the port is not quiet, there is
-- none.
pub record MustGoOnWaiting (old new : PortValue) (c step : ℕ) (call : PlainCall) : Type 0 where
  pub must : MustWait (outcome old.terminal (caller_at old.terminal c) call)
  pub waits : MatchBool (is_some (caller_at old.terminal c).waits)
      ((new ≡ old) × (quiet old.counts old.terminal ≡ false))
      (Appends (with_call old c step call) new old.flip (caller_entry old c waited))

abbrev pub Attempts : PortValue → PortValue → ℕ → ℕ → PlainCall → PlainTried → Type 0
Attempts old new c step call (done_by answer) = AnswersCall old new c step call answer
Attempts old new c step call took_part = TakesPartOf old new c step call
Attempts old new c step call must_wait = MustGoOnWaiting old new c step call

-- a call that may change the discipline raises the generation by at most one, and no other call does
abbrev pub Raises : Bool → ℕ → ℕ → Type 0
Raises false old new = new ≡ old
Raises true old new = (new ≡ old) ⊎ (new ≡ old + 1)

-- a call that may change the discipline is answered at its first attempt
abbrev pub IsAtOnce : PlainTried → Type 0
IsAtOnce (done_by answer) = Unit {0}
IsAtOnce took_part = ⊥
IsAtOnce must_wait = ⊥

-- the call of the caller's step waits, and must go on waiting
pub record StillWaits (v : PortValue) (c : ℕ) : Type 0 where
  pub waits : IsTrue (is_some (caller_at v.terminal c).waits)
  pub must : MustWait (outcome_of v.terminal (caller_at v.terminal c) (call_in v.kept c (caller_at v.terminal c).next))

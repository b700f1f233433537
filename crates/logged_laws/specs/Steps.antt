-- A log beside a port's journal, whatever is logged there: its states, its events, and which may come when.
use Rattle.std.specs.Prelude.{◌≡◌, ℕ, ◌+◌, ◌-◌, ◌≤◌, ◌<◌, nat_le, Option, None, Some, List, [], ◌∷◌, length, slice_get}
use Rattle.std.specs.Prelude.{if◌then◌else◌}
use Rattle.tty_calls.specs.Plain.{hangs_up, PlainAnswer, PlainEntry}
use Rattle.tty_calls.specs.Sessions.{PlainSession}
use Rattle.passed_calls.specs.declared.logs.Logged.{Logged}
use Rattle.passed_calls.specs.Journals.{Journal, IsAnswerAt}
use Rattle.order_laws.specs.Sessions.{journal_in}

-- Of a state: after how many entries its latest event was logged, what must be logged next, and each caller's next
-- call. Of an event: the answer of the port that it logs, with its caller, and the handle that it hangs up. Then the
-- event that logs a caller's answer; and of a port, by the session that it was played and its journal, what an event
-- leaves, whether it may be logged after so many entries, and whether it is its turn.
pub record LogSteps (S E : Type 0) : Type 1 where
  pub latest : S → ℕ
  pub due : S → List E
  pub next : S → ℕ → ℕ
  pub answer_in : E → Option (ℕ × PlainAnswer)
  pub handle_in : E → ℕ
  pub passes : (caller step : ℕ) → PlainAnswer → E
  pub after : PlainSession → List PlainEntry → S → ℕ → E → S
  pub IsAllowed : PlainSession → List PlainEntry → S → ℕ → E → Type 0
  pub IsInTurn : PlainSession → List PlainEntry → S → ℕ → E → Type 0

module _ {S E : Type 0} (k : LogSteps S E) (played : PlainSession) (journal : List PlainEntry) where
  -- events that are steps, one after the other, and lead from the one state to the other; the places never fall
  abbrev pub Leads : S → List (Logged E) → S → Type 0
  Leads s [] u = u ≡ s
  Leads s (l ∷ log) u =
      (k.latest s ≤ l.at)
      × (l.at ≤ length journal)
      × k.IsAllowed played journal s l.at l.event
      × Leads (k.after played journal s l.at l.event) log u

  abbrev pub AreInTurn : S → List (Logged E) → Type 0
  AreInTurn s [] = Unit {0}
  AreInTurn s (l ∷ log) =
      k.IsInTurn played journal s l.at l.event × AreInTurn (k.after played journal s l.at l.event) log

  -- the state after the events that were logged after at most so many entries
  abbrev pub state_before : S → List (Logged E) → (at : ℕ) → S
  state_before s [] at = s
  state_before s (l ∷ log) at =
      if nat_le l.at at then state_before (k.after played journal s l.at l.event) log at else s

-- an answer that is logged stands right before its place, and behind the event before
abbrev pub IsLoggedAnswer : Journal → (latest at : ℕ) → Option (ℕ × PlainAnswer) → Type 0
IsLoggedAnswer journal latest at None = Unit {0}
IsLoggedAnswer journal latest at (Some a) = IsAnswerAt journal a.0 at a.1 × (latest < at)

-- what is due comes at once: with no answer where the event before came, and else with that of the next entry, to a
-- hangup
abbrev pub ComesAtOnce : Journal → (latest at handle : ℕ) → Option (ℕ × PlainAnswer) → Type 0
ComesAtOnce journal latest at handle None = at ≡ latest
ComesAtOnce journal latest at handle (Some a) =
    (at ≡ latest + 1)
    × ((e : PlainEntry)
    → slice_get journal.entries (at - 1) ≡ Some e
    → journal.calls a.0 e.step ≡ Some (hangs_up handle))

-- where nothing is due an answer is that to the caller's next call
abbrev pub IsNextAnswer : {S E : Type 0} → LogSteps S E → S → E → Option (ℕ × PlainAnswer) → Type 0
IsNextAnswer k s event None = Unit {0}
IsNextAnswer k s event (Some a) = event ≡ k.passes a.0 (k.next s a.0) a.1

-- what holds of the steps on a port
pub record AreLogSteps {S E : Type 0} (k : LogSteps S E) (p : ℕ) (played : PlainSession)
    (journal : List PlainEntry) : Type 0 where
  pub at_now : (s : S) (at : ℕ) (event : E)
      → k.IsAllowed played journal s at event
      → k.latest (k.after played journal s at event) ≡ at
  pub answered : (s : S) (at : ℕ) (event : E)
      → k.IsAllowed played journal s at event
      → IsLoggedAnswer (journal_in p played journal) (k.latest s) at (k.answer_in event)
  pub due_next : (s : S) (at : ℕ) (event first : E) (rest : List E)
      → k.due s ≡ first ∷ rest
      → k.IsAllowed played journal s at event
      → (event ≡ first)
      × ComesAtOnce (journal_in p played journal) (k.latest s) at (k.handle_in first) (k.answer_in first)
  pub idle_next : (s : S) (at : ℕ) (event : E)
      → k.due s ≡ []
      → k.IsAllowed played journal s at event
      → IsNextAnswer k s event (k.answer_in event)

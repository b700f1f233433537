-- A port whose journal still grows: what is said of it holds of each journal that the port can come to.
use Rattle.std.specs.Prelude.{◌≡◌, ℕ, List, [], ◌∷◌, ◌++◌, sum}
use Rattle.tty_calls.specs.Plain.{PlainAnswer, PlainEntry}
use Rattle.tty_terminal.specs.Terminals.{opening}
use Rattle.tty_terminal.specs.Runs.{KnowsMore}
use Rattle.port_core.specs.Ports.{PortValue, call_in}
use Rattle.passed_calls.specs.Journals.{Journal, IsAnswerBy}

-- a journal to which this port can come: it begins with the port's entries, and knows the calls that it was asked
pub record IsLater (v : PortValue) (journal : Journal) : Type 0 where
  pub opens : journal.opening ≡ opening (sum v.counts) v.flip.capacity
  pub calls : KnowsMore (call_in v.kept) journal.calls
  pub rest : List PlainEntry
  pub entries : journal.entries ≡ v.journal ++ rest

-- a port that came to another one by these entries
pub record ComesBy (old new : PortValue) (part : List PlainEntry) : Type 0 where
  pub added : new.journal ≡ old.journal ++ part
  pub grows : KnowsMore (call_in old.kept) (call_in new.kept)
  pub counts : new.counts ≡ old.counts
  pub capacity : new.flip.capacity ≡ old.flip.capacity

-- the last entry is this answer to a caller's call of this step
pub record WasAnswered (v : PortValue) (c step : ℕ) (answer : PlainAnswer) : Type 0 where
  pub before : List PlainEntry
  pub entry : PlainEntry
  pub last : v.journal ≡ before ++ entry ∷ []
  pub of_step : entry.step ≡ step
  pub is_answer : IsAnswerBy c answer entry

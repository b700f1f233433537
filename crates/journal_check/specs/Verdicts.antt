-- What can be said of the runs of a session: that all are legal, which port has the first wrong entry, or which is
-- the first that is not legal although no entry is wrong.
use Rattle.std.specs.Prelude.{◌≡◌, ℕ, ◌<◌, List, [], ◌∷◌, ◌++◌, Some, length, slice_get, sum}
use Rattle.tty_base.specs.Sizes.{NUMBER_END}
use Rattle.tty_calls.specs.declared.journals.PortRun.{PortRun}
use Rattle.tty_calls.specs.Plain.{PlainEntry}
use Rattle.tty_calls.specs.Sessions.{PlainSession, call_at, counts_on}
use Rattle.tty_terminal.specs.Terminals.{Terminal, opening}
use Rattle.tty_terminal.specs.Steps.{Allowed, after}
use Rattle.tty_terminal.specs.Runs.{OneGeneration}
use Rattle.legal_runs.specs.Legal.{flip_on, IsInPhase, IsLegalOn}
use Rattle.journal_check.specs.declared.verdicts.Verdict.{Verdict}
use Rattle.journal_check.specs.declared.verdicts.Verdict.TheVariants.{Legal, Wrong, Account}
use Rattle.legal_runs.specs.Ports.{OfRun, IsLegalAt, AreLegal}

-- a journal of fewer than 2^31 entries, so that a number of 32 bits counts them, and each number that they raise by one
abbrev pub IsCountable : PortRun → Type 0
IsCountable run = length run.journal.items < NUMBER_END

-- An entry is fine after these entries, which lead to this terminal: it is a step of the terminal, it leaves each
-- flush run and each call between its waits in one generation, and it is of its phase. It is wrong where one of these
-- fails.
pub record IsFine (p : ℕ) (session : PlainSession) (before : List PlainEntry) (t : Terminal)
    (e : PlainEntry) : Type 0 where
  pub step : Allowed (call_at p session) (counts_on p session) t e
  pub one : OneGeneration (before ++ e ∷ [])
  pub in_phase : IsInPhase p session t.phase e.who e.step e.event

-- each of these entries is fine after those before it, and they lead from the one terminal to the other
abbrev pub AreFine : ℕ → PlainSession → List PlainEntry → Terminal → List PlainEntry → Terminal → Type 0
AreFine p session before t [] u = u ≡ t
AreFine p session before t (e ∷ es) u =
    IsFine p session before t e × AreFine p session (before ++ e ∷ []) (after (call_at p session) t e) es u

abbrev pub opening_of : ℕ → PlainSession → Terminal
opening_of p session = opening (sum (counts_on p session)) (flip_on p session)

-- these entries are fine from the first on, and lead to this terminal
abbrev pub AreFineTo : ℕ → PlainSession → List PlainEntry → Terminal → Type 0
AreFineTo p session journal u = AreFine p session [] (opening_of p session) journal u

-- no entry of a journal is wrong
abbrev pub HasNoWrong : ℕ → PlainSession → List PlainEntry → Type 0
HasNoWrong p session journal = (u : Terminal) × AreFineTo p session journal u

-- the entry at this place, counted from 0, is wrong, and none before it
pub record IsFirstWrong (p : ℕ) (session : PlainSession) (journal : List PlainEntry) (n : ℕ) : Type 0 where
  pub before : List PlainEntry
  pub entry : PlainEntry
  pub rest : List PlainEntry
  pub parts : journal ≡ before ++ entry ∷ rest
  pub place : length before ≡ n
  pub terminal : Terminal
  pub fine : AreFineTo p session before terminal
  pub wrong : ¬ (IsFine p session before terminal entry)

-- ---- all ports of a session

abbrev pub HasNoWrongAt : PlainSession → List PortRun → ℕ → Type 0
HasNoWrongAt session runs p = OfRun runs p (λ run. HasNoWrong p session run.journal.items)

-- the port with the first wrong entry, and that entry's place
pub record FirstIsWrong (session : PlainSession) (runs : List PortRun) (p n : ℕ) : Type 0 where
  pub run : PortRun
  pub is_run : slice_get runs p ≡ Some run
  pub before : (q : ℕ) → q < p → HasNoWrongAt session runs q
  pub wrong : IsFirstWrong p session run.journal.items n

-- no entry is wrong, and this port's run is the first that is not legal
pub record FirstIsNotLegal (session : PlainSession) (runs : List PortRun) (p : ℕ) : Type 0 where
  pub run : PortRun
  pub is_run : slice_get runs p ≡ Some run
  pub no_wrong : (q : ℕ) → HasNoWrongAt session runs q
  pub before : (q : ℕ) → q < p → IsLegalAt session runs q
  pub not_legal : ¬ (IsLegalOn p session run)

-- what a verdict says of a session's runs
abbrev pub VerdictFits : PlainSession → List PortRun → Verdict → Type 0
VerdictFits session runs Legal = AreLegal session runs
VerdictFits session runs (Wrong port entry) = FirstIsWrong session runs port entry
VerdictFits session runs (Account port) = FirstIsNotLegal session runs port

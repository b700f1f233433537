-- The texts that are checked: what is written after a session, and what it means.
use Rattle.std.specs.Prelude.{◌≡◌, ℕ, ◌+◌, ◌≤◌, Ok, List, [], ◌∷◌, ◌++◌, length, map, filter, codes, decimal}
use Rattle.std.specs.List.{AllZip, AllByRecursion}
use Rattle.tty_base.specs.declared.lines.Overrun.{Overrun}
use Rattle.tty_calls.specs.Plain.{PlainEntry}
use Rattle.tty_calls.specs.Sessions.{PlainSession}
use Rattle.text_lines.specs.Lines.{says}
use Rattle.session_text.specs.Refusals.{lines_in}
use Rattle.session_text.specs.Grammar.{Written, item_words, session_items, session_meaning, IsWellWritten}
use Rattle.check_text.specs.Callers.{PlainCallers}
use Rattle.check_text.specs.Entries.{entry_in}
use Rattle.check_text.specs.Journals.{callers_by_port}
use Rattle.check_text.specs.Runs.{PlainRun}

-- ---- what is written

abbrev pub heading_words : List ℕ → ℕ → ℕ → List (List ℕ)
heading_words text port count = text ∷ decimal port ∷ decimal count ∷ []

abbrev pub overrun_words : Overrun → List (List ℕ)
overrun_words o = decimal o.at ∷ decimal o.sent ∷ decimal o.seen ∷ []

abbrev pub numbers_words : ℕ → PlainRun → List (List ℕ)
numbers_words port run = codes "line" ∷ decimal port ∷ decimal run.arrived ∷ decimal run.lost ∷ decimal run.sent ∷ []

-- the lines of a port's run, of which these are those of its entries
abbrev pub run_lines : ℕ → List (List (List ℕ)) → PlainRun → List (List (List ℕ))
run_lines port entries run =
    heading_words (codes "journal") port (length run.journal)
    ∷ (entries ++ heading_words (codes "overruns") port (length run.overruns)
    ∷ (map overrun_words run.overruns ++ numbers_words port run ∷ []))

-- .. of the runs of all ports, from this port on
abbrev pub runs_lines : ℕ → List (List (List (List ℕ))) → List PlainRun → List (List (List ℕ))
runs_lines port [] runs = []
runs_lines port (entries ∷ more) [] = []
runs_lines port (entries ∷ more) (run ∷ runs) = run_lines port entries run ++ runs_lines (port + 1) more runs

abbrev pub journals_lines : List (List (List (List ℕ))) → List PlainRun → List (List (List ℕ))
journals_lines entries runs = (codes "journals" ∷ []) ∷ (runs_lines 0 entries runs ++ (codes "done" ∷ []) ∷ [])

-- ---- what is allowed

-- each line is read as the entry
abbrev pub AreEntries : PlainCallers → List (List (List ℕ)) → List PlainEntry → Type 0
AreEntries callers lines entries = AllZip (λ words entry. entry_in callers words ≡ Ok entry) lines entries

-- .. on each port; there is one run for each
abbrev pub AreJournals : List PlainCallers → List (List (List (List ℕ))) → List PlainRun → Type 0
AreJournals [] [] [] = Unit {0}
AreJournals (callers ∷ more) (lines ∷ others) (run ∷ runs) =
    AreEntries callers lines run.journal × AreJournals more others runs
AreJournals callers lines runs = ⊥

abbrev pub most : ℕ
most = 4294967295

pub record IsOverrunWithin (o : Overrun) : Type 0 where
  pub at : o.at ≤ most
  pub sent : o.sent ≤ most
  pub seen : o.seen ≤ most

-- the numbers of a run have 32 bits
pub record IsRunWithin (run : PlainRun) : Type 0 where
  pub entries : length run.journal ≤ most
  pub overruns : length run.overruns ≤ most
  pub each : AllByRecursion IsOverrunWithin run.overruns
  pub arrived : run.arrived ≤ most
  pub lost : run.lost ≤ most
  pub sent : run.sent ≤ most

-- The text spells the session and the runs: the lines that say something are the items of a good written session that
-- means it, and then the lines of the journals, which mean the runs.
pub record Spells (text : List ℕ) (session : PlainSession) (runs : List PlainRun) : Type 0 where
  pub written : Written
  pub entries : List (List (List (List ℕ)))
  pub words : filter says (lines_in text) ≡ map item_words (session_items written) ++ journals_lines entries runs
  pub good : IsWellWritten written
  pub means : session ≡ session_meaning written
  pub journals : AreJournals (callers_by_port session) entries runs
  pub within : AllByRecursion IsRunWithin runs

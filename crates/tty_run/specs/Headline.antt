-- What playing a session on threads comes to.
use Rattle.std.specs.Prelude.{ℕ, List, Bool, Option}
use Rattle.tty_calls.specs.declared.journals.PortRun.{PortRun}
use Rattle.tty_one.specs.declared.playing.Telling.TheVariants.{Report}
use Rattle.tty_one.specs.Endings.{AskRun}
use Rattle.tty_one.specs.Reported.{Returned, IsInAnyOrder, IsReported}
use Rattle.tty_one.specs.Consoles.{AreConsolesOnThreads, IsToldOfConsoles}
use Rattle.tty_one.specs.Outcome.{IsPlayedText, WasGiven}

-- The text that was read spells a session; each of its ports has one returned run, which is legal and leads to the
-- end that is reported; and the sink was given the text of that session, of these runs and of their ends, with the
-- journals where the words ask for them.
pub record IsPlayedOnThreads (words : List (List ℕ)) (left before now : Option (List ℕ))
    (runs : List PortRun) : Type 0 where
  pub journals : Bool
  pub text : List ℕ
  pub asked : AskRun journals words
  pub played : IsPlayedText left (λ session. IsReported IsInAnyOrder (Report journals) session runs text)
  pub given : WasGiven before now text

-- The text that was read spells a session of consoles; the returned entries of their board are the account of its keys
-- and operators' calls; each console has one returned run, which is legal for the keys that went there and leads to the
-- end that is reported; and the sink was given the report of that session, of these entries and runs, and of their
-- ends.
pub record AreConsolesToldOnThreads (left before now : Option (List ℕ)) (back : Returned) : Type 0 where
  pub text : List ℕ
  pub played : IsToldOfConsoles AreConsolesOnThreads left back text
  pub given : WasGiven before now text

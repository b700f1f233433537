-- A session that a text spells with its runs keeps the limits of every session, and each of its ports has a run.
use Rattle.std.proofs.Common.{◌≡◌, ℕ, List, [], ◌∷◌, length, refl, sym, subst, ◌∙◌, arith}
use Rattle.std.proofs.lemmas.List.FromFn.{length-map-range_with_len}
use Rattle.tty_calls.specs.Sessions.{PlainSession}
use Rattle.tty_calls.specs.Limits.{IsWithinLimits}
use Rattle.session_text.proofs.Within.{written_within}
use Rattle.check_text.specs.Callers.{PlainCallers, callers_on}
use Rattle.check_text.specs.Grammar.{AreJournals, Spells}
use Rattle.check_text.specs.Journals.{callers_by_port}
use Rattle.check_text.specs.Runs.{PlainRun}

pub session_within : (text : List ℕ) (session : PlainSession) (runs : List PlainRun)
    → Spells text session runs
    → IsWithinLimits session
session_within text session runs h = subst IsWithinLimits (sym h.means) (written_within h.written h.good)

runs_counted : (callers : List PlainCallers) (entries : List (List (List (List ℕ)))) (runs : List PlainRun)
    → AreJournals callers entries runs
    → length runs ≡ length callers
runs_counted [] [] [] h = refl
runs_counted [] [] (run ∷ runs) h = absurd h
runs_counted [] (lines ∷ others) runs h = absurd h
runs_counted (c ∷ callers) [] runs h = absurd h
runs_counted (c ∷ callers) (lines ∷ others) [] h = absurd h
runs_counted (c ∷ callers) (lines ∷ others) (run ∷ runs) h =
    let more = runs_counted callers others runs h.1 in omega (arith, more)

pub run_for_each : (text : List ℕ) (session : PlainSession) (runs : List PlainRun)
    → Spells text session runs
    → length runs ≡ session.ports
run_for_each text session runs h =
    runs_counted (callers_by_port session) h.entries runs h.journals
    ∙ length-map-range_with_len (λ port. callers_on port session) 0 session.ports

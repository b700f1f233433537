-- What `run --journal` prints of a session is told to be legal.
use Rattle.std.proofs.Common.{◌≡◌, ℕ, ◌<◌, ◌≤◌, inl, inr, List, [], ◌∷◌, true, false, codes}
use Rattle.std.proofs.Common.{Option, Some, map, length, sym, ◌∙◌, ap, subst, arith, append_assoc}
use Rattle.tty_calls.specs.declared.journals.PortRun.{PortRun}
use Rattle.tty_calls.specs.Sessions.{PlainSession}
use Rattle.session_text.specs.Grammar.{Spells}
use Rattle.session_print.specs.Report.{calls_from, ports_from}
use Rattle.check_text.specs.Grammar.{most, Spells as SpellsRuns}
use Rattle.check_text.specs.Printed.{text_after}
use Rattle.check_text.specs.Runs.{run_of}
use Rattle.legal_runs.specs.Ports.{OfRun, AreLegal}
use Rattle.journal_check.specs.declared.verdicts.Verdict.TheVariants.{Legal}
use Rattle.journal_check.proofs.VerdictLemmas.{one_verdict}
use Rattle.read_back.proofs.Runs.{are_read_back}
use Rattle.tty_one.specs.declared.playing.Telling.TheVariants.{Report}
use Rattle.tty_one.specs.declared.words.Command.{Command}
use Rattle.tty_one.specs.declared.words.Command.TheVariants.{Run, RunOne, Modem, Jobs, Gen, Check, Vt, VtOne}
use Rattle.tty_one.specs.Endings.{Ask, AskJournals}
use Rattle.tty_one.specs.Reported.{Returned, IsOrdered, IsInAnyOrder, IsReported}
use Rattle.tty_one.specs.Outcome.{IsPlayedText, IsToldBy, IsDone, with_journals, IsReadBack, GaveJournals}
use Rattle.tty_one.proofs.Judged.{spelled_in, legal_alike}
use Rattle.tty_one.proofs.AskedWords.{not_gen_and_run, not_gen_and_one, not_check_and_run, not_check_and_one}
use Rattle.tty_one.proofs.AskedWords.{not_modem_and_one, not_modem_and_run, not_run_and_one, not_jobs_and_run}
use Rattle.tty_one.proofs.AskedWords.{not_jobs_and_one, not_vt_and_run, not_vt_and_one}
use Rattle.tty_one.proofs.PortLemmas.{there_too}

pub reported_back : (InOrder : ℕ → PlainSession → PortRun → Type 0)
    → (text : List ℕ) (session : PlainSession) (runs : List PortRun) (report : List ℕ)
    → Spells text session
    → IsReported InOrder (Report true) session runs report
    → IsReadBack text session runs report
reported_back InOrder text session runs report spelled h =
    record {
      ends = h.ends;
      told =
          h.told
          ∙ sym (append_assoc (calls_from 0 session runs) (ports_from 0 session runs h.ends) (text_after session runs));
      spelled = spells;
      judged = λ verdict j. one_verdict j.session j.runs verdict Legal j.fits
          (legal_alike (with_journals text session runs) session j.session runs j.runs spells
          (spelled_in (with_journals text session runs) verdict j) legal);
      checked = λ status completes. completes.legal session runs spells legal;
    }
  where
    legal : AreLegal session runs
    legal = record {
      each = λ p run is.
          let end = there_too runs h.ends p run (h.runs_of_all ∙ sym h.ends_of_all) is in
          let whole = h.each p run end.0 is end.1 in
          (whole.terminal, whole.legal);
    }

    few : (p : ℕ) → OfRun runs p (λ run. length run.journal.items ≤ most)
    few p run is =
        let end = there_too runs h.ends p run (h.runs_of_all ∙ sym h.ends_of_all) is in
        let room = (h.each p run end.0 is end.1).room in
        omega (arith, room)

    spells : SpellsRuns (with_journals text session runs) session (map run_of runs)
    spells = are_read_back text session runs spelled h.runs_of_all legal few

-- ---- what was given

-- a session was read, and its report with journals is read back
record IsTold (bytes : List ℕ) (runs : List PortRun) (text : List ℕ) : Type 0 where
  session : PlainSession
  spelled : Spells bytes session
  read_back : IsReadBack bytes session runs text

played_back : (InOrder : ℕ → PlainSession → PortRun → Type 0) → (bytes : List ℕ) (runs : List PortRun) (text : List ℕ)
    → IsPlayedText (Some bytes) (λ session. IsReported InOrder (Report true) session runs text)
    → IsTold bytes runs text
played_back InOrder bytes runs text h =
    let spelled : Spells bytes h.session = subst (λ (read : List ℕ). Spells read h.session) h.whole h.spelled in
    record {
      session = h.session;
      spelled = spelled;
      read_back = reported_back InOrder bytes h.session runs text spelled h.ends;
    }

not_two : (words : List (List ℕ)) (one other : List (List ℕ))
    → words ≡ one
    → words ≡ other
    → length one < length other
    → ⊥
not_two words one other h k less = (let same : length one ≡ length other =
    ap (λ (ws : List (List ℕ)). length ws) (sym h ∙ k) in
    omega (arith, same, less))

told_back : (words : List (List ℕ)) (bytes : List ℕ) (command : Command) (back : Returned) (text : List ℕ)
    → AskJournals words
    → Ask command words
    → IsToldBy command (Some bytes) back text
    → IsTold bytes back.runs text
told_back words bytes (Run true) back text journals asked told = played_back IsInAnyOrder bytes back.runs text told
told_back words bytes (Run false) back text (inl h) asked told =
    absurd (not_two words (codes "run" ∷ []) (codes "run" ∷ codes "--journal" ∷ []) asked h (omega arith))
told_back words bytes (Run false) back text (inr h) asked told = absurd (not_run_and_one words false true asked h)
told_back words bytes (RunOne true) back text journals asked told = played_back IsOrdered bytes back.runs text told
told_back words bytes (RunOne false) back text (inl h) asked told = absurd (not_run_and_one words true false h asked)
told_back words bytes (RunOne false) back text (inr (inl h)) asked told =
    absurd (not_two words (codes "run" ∷ codes "--one" ∷ []) (codes "run" ∷ codes "--one" ∷ codes "--journal" ∷ [])
    asked h (omega arith))
told_back words bytes (RunOne false) back text (inr (inr h)) asked told =
    absurd (not_two words (codes "run" ∷ codes "--one" ∷ []) (codes "run" ∷ codes "--journal" ∷ codes "--one" ∷ [])
    asked h (omega arith))
told_back words bytes Modem back text (inl h) asked told = absurd (not_modem_and_run words asked true h)
told_back words bytes Modem back text (inr h) asked told = absurd (not_modem_and_one words asked true h)
told_back words bytes Jobs back text (inl h) asked told = absurd (not_jobs_and_run words true asked h)
told_back words bytes Jobs back text (inr h) asked told = absurd (not_jobs_and_one words true asked h)
told_back words bytes (Gen number) back text (inl h) asked told = absurd (not_gen_and_run words true (number, asked) h)
told_back words bytes (Gen number) back text (inr h) asked told = absurd (not_gen_and_one words true (number, asked) h)
told_back words bytes Check back text (inl h) asked told = absurd (not_check_and_run words true asked h)
told_back words bytes Check back text (inr h) asked told = absurd (not_check_and_one words true asked h)
told_back words bytes Vt back text (inl h) asked told = absurd (not_vt_and_run words true (inl asked) h)
told_back words bytes Vt back text (inr h) asked told = absurd (not_vt_and_one words true (inl asked) h)
told_back words bytes VtOne back text (inl h) asked told = absurd (not_vt_and_run words true (inr asked) h)
told_back words bytes VtOne back text (inr h) asked told = absurd (not_vt_and_one words true (inr asked) h)

pub gave_journals : (words : List (List ℕ)) (bytes before : List ℕ) (now : Option (List ℕ)) (back : Returned)
    → AskJournals words
    → IsDone words (Some bytes) (Some before) now back
    → GaveJournals bytes before now back.runs
gave_journals words bytes before now back journals h =
    let told = told_back words bytes h.command back h.text journals h.asked h.done in
    record {
      session = told.session;
      report = h.text;
      spelled = told.spelled;
      given = h.given;
      read_back = told.read_back;
    }

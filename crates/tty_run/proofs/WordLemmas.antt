-- What tells the words of one thread from those of threads, and what each come to.
use Rattle.std.proofs.Common.{ℕ, List, Option, None, Some, IfSome, inl, inr}
use Rattle.tty_one.specs.declared.words.Command.{Command}
use Rattle.tty_one.specs.declared.words.Command.TheVariants.{Run, RunOne, Modem, Jobs, Gen, Check, Vt, VtOne}
use Rattle.tty_one.specs.declared.works.Ending.{Ending}
use Rattle.tty_one.specs.Endings.{Ask, AreKnown, AreOfOne, AreOnThreads, AreRun, AreRunOne, AskConsoles, AskModem}
use Rattle.tty_one.specs.Endings.{AskJobs}
use Rattle.tty_one.specs.Endings.{AskOneToRead, AskToPlay, AskToRead, AskVt, AskVtOne, IsOnThreads}
use Rattle.tty_one.specs.Reported.{Returned}
use Rattle.tty_one.specs.Outcome.{IsBroken, breaks_words, breaks_fault, breaks_long}
use Rattle.tty_one.specs.Outcome.{breaks_refusal, breaks_text, breaks_verdict, IsDone, IsToldBy, WasGiven}
use Rattle.tty_one.specs.Works.{CanEndWith, ReadsNothing}
use Rattle.tty_one.proofs.AskedWords.{not_modem_and_run, not_modem_and_vt, not_jobs_and_run, not_jobs_and_vt}
use Rattle.tty_one.proofs.AskedWords.{not_vt_and_run, one_if_not_on_threads, run_is_not_one, vt_is_not_one}
use Rattle.tty_run.specs.Headline.{AreConsolesToldOnThreads, IsPlayedOnThreads}

-- ---- other words than those of threads

pub unknown_to_one : (words : List (List ℕ)) → (AreKnown words → ⊥) → AreOfOne words → ⊥
unknown_to_one words unknown known = unknown (known.0, known.2)

module _ (words : List (List ℕ)) (other : AreOnThreads words → ⊥) where
  pub not_run : AreRun words → ⊥
  not_run run = other (Run run.0, (λ of_one. of_one), run.1)

  pub not_vt : AskVt words → ⊥
  not_vt vt = other (Vt, (λ of_one. of_one), vt)

  pub play_one : AskToPlay words → AreRunOne words
  play_one (inl run) = absurd (not_run run)
  play_one (inr one) = one

  pub consoles_one : AskConsoles words → AskVtOne words
  consoles_one (inl vt) = absurd (not_vt vt)
  consoles_one (inr one) = one

  pub broken_one : (faults faults' : ℕ) (left rest before now : Option (List ℕ)) (back : Returned)
      → IsBroken (AreOfOne words) (AskOneToRead words) words faults faults' left rest before now back
      → IsBroken (AreKnown words) (AskToRead words) words faults faults' left rest before now back
  broken_one faults faults' left rest before now back (breaks_words unknown none front) =
      breaks_words (λ known. unknown (one_if_not_on_threads words other known)) none front
  broken_one faults faults' left rest before now back (breaks_fault reads rose none front) =
      breaks_fault (inr reads) rose none front
  broken_one faults faults' left rest before now back (breaks_long reads took none front) =
      breaks_long (inr reads) took none front
  broken_one faults faults' left rest before now back (breaks_refusal command bad asked refused none front) =
      breaks_refusal command bad asked refused none front
  broken_one faults faults' left rest before now back (breaks_text command text asked told front) =
      breaks_text command text asked told front
  broken_one faults faults' left rest before now back (breaks_verdict verdict text asked told illegal front) =
      breaks_verdict verdict text asked told illegal front

-- what holds for some words holds for fewer
pub for_fewer : (Some_ask Fewer : Type 0) (Comes : List ℕ → Type 0) (left : Option (List ℕ))
    → (Fewer → Some_ask)
    → IfSome left (λ bytes. Some_ask → Comes bytes)
    → IfSome left (λ bytes. Fewer → Comes bytes)
for_fewer Some_ask Fewer Comes None asks h = h
for_fewer Some_ask Fewer Comes (Some bytes) asks h = λ fewer. h (asks fewer)

-- ---- words of threads

-- a command of threads reads a text, and can end in each way; and it is not that of modem lines or of processes
pub threads_end : (command : Command) (e : Ending) → IsOnThreads command → CanEndWith command e
threads_end (Run journals) e on = tt
threads_end (RunOne journals) e on = absurd (on tt)
threads_end Modem e on = absurd (on tt)
threads_end Jobs e on = absurd (on tt)
threads_end (Gen number) e on = absurd (on tt)
threads_end Check e on = absurd (on tt)
threads_end Vt e on = tt
threads_end VtOne e on = absurd (on tt)

pub threads_reading : (command : Command) → IsOnThreads command → ReadsNothing command → ⊥
threads_reading (Run journals) on none = none
threads_reading (RunOne journals) on none = on tt
threads_reading Modem on none = on tt
threads_reading Jobs on none = on tt
threads_reading (Gen number) on none = on tt
threads_reading Check on none = on tt
threads_reading Vt on none = none
threads_reading VtOne on none = on tt

pub threads_are_not_modem : (words : List (List ℕ)) (command : Command)
    → IsOnThreads command
    → Ask command words
    → AskModem words
    → ⊥
threads_are_not_modem words (Run journals) on asked modem = not_modem_and_run words modem journals asked
threads_are_not_modem words (RunOne journals) on asked modem = on tt
threads_are_not_modem words Modem on asked modem = on tt
threads_are_not_modem words Jobs on asked modem = on tt
threads_are_not_modem words (Gen number) on asked modem = on tt
threads_are_not_modem words Check on asked modem = on tt
threads_are_not_modem words Vt on asked modem = not_modem_and_vt words modem (inl asked)
threads_are_not_modem words VtOne on asked modem = on tt

pub threads_are_not_jobs : (words : List (List ℕ)) (command : Command)
    → IsOnThreads command
    → Ask command words
    → AskJobs words
    → ⊥
threads_are_not_jobs words (Run journals) on asked jobs = not_jobs_and_run words journals jobs asked
threads_are_not_jobs words (RunOne journals) on asked jobs = on tt
threads_are_not_jobs words Modem on asked jobs = on tt
threads_are_not_jobs words Jobs on asked jobs = on tt
threads_are_not_jobs words (Gen number) on asked jobs = on tt
threads_are_not_jobs words Check on asked jobs = on tt
threads_are_not_jobs words Vt on asked jobs = not_jobs_and_vt words jobs (inl asked)
threads_are_not_jobs words VtOne on asked jobs = on tt

-- what is done for the words of threads was done on threads
headline_at : (words : List (List ℕ)) (left before now : Option (List ℕ)) (back : Returned) (command : Command)
    (text : List ℕ)
    → AreRun words
    → Ask command words
    → IsToldBy command left back text
    → WasGiven before now text
    → IsPlayedOnThreads words left before now back.runs
headline_at words left before now back (Run journals) text run asked told given =
    record { journals = journals; text = text; asked = asked; played = told; given = given }
headline_at words left before now back (RunOne journals) text run asked told given =
    absurd (run_is_not_one words run (RunOne journals, tt, asked))
headline_at words left before now back Modem text run asked told given =
    absurd (run_is_not_one words run (Modem, tt, asked))
headline_at words left before now back Jobs text run asked told given =
    absurd (run_is_not_one words run (Jobs, tt, asked))
headline_at words left before now back (Gen number) text run asked told given =
    absurd (run_is_not_one words run (Gen number, tt, asked))
headline_at words left before now back Check text run asked told given =
    absurd (run_is_not_one words run (Check, tt, asked))
headline_at words left before now back Vt text run asked told given =
    absurd (not_vt_and_run words run.0 (inl asked) run.1)
headline_at words left before now back VtOne text run asked told given =
    absurd (run_is_not_one words run (VtOne, tt, asked))

pub headline : (words : List (List ℕ)) (left before now : Option (List ℕ)) (back : Returned)
    → AreRun words
    → IsDone words left before now back
    → IsPlayedOnThreads words left before now back.runs
headline words left before now back run h =
    headline_at words left before now back h.command h.text run h.asked h.done h.given

-- .. and so it is for consoles
consoles_at : (words : List (List ℕ)) (left before now : Option (List ℕ)) (back : Returned) (command : Command)
    (text : List ℕ)
    → AskVt words
    → Ask command words
    → IsToldBy command left back text
    → WasGiven before now text
    → AreConsolesToldOnThreads left before now back
consoles_at words left before now back (Run journals) text vt asked told given =
    absurd (not_vt_and_run words journals (inl vt) asked)
consoles_at words left before now back (RunOne journals) text vt asked told given =
    absurd (vt_is_not_one words vt (RunOne journals, tt, asked))
consoles_at words left before now back Modem text vt asked told given =
    absurd (vt_is_not_one words vt (Modem, tt, asked))
consoles_at words left before now back Jobs text vt asked told given = absurd (vt_is_not_one words vt (Jobs, tt, asked))
consoles_at words left before now back (Gen number) text vt asked told given =
    absurd (vt_is_not_one words vt (Gen number, tt, asked))
consoles_at words left before now back Check text vt asked told given =
    absurd (vt_is_not_one words vt (Check, tt, asked))
consoles_at words left before now back Vt text vt asked told given =
    record { text = text; played = told; given = given }
consoles_at words left before now back VtOne text vt asked told given =
    absurd (vt_is_not_one words vt (VtOne, tt, asked))

pub consoles_headline : (words : List (List ℕ)) (left before now : Option (List ℕ)) (back : Returned)
    → AskVt words
    → IsDone words left before now back
    → AreConsolesToldOnThreads left before now back
consoles_headline words left before now back vt h =
    consoles_at words left before now back h.command h.text vt h.asked h.done h.given

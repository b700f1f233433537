-- Which words ask for what: no words ask for two commands, and what a command reads.
use Rattle.std.proofs.Common.{◌≡◌, ◌⊎◌, length, codes, get_or, arith, ℕ, Bool, true, false, List, [], ◌∷◌, inl, inr}
use Rattle.std.proofs.Common.{sym, ap, ◌∙◌}
use Rattle.tty_one.specs.declared.words.Command.{Command}
use Rattle.tty_one.specs.declared.words.Command.TheVariants.{Run, RunOne, Modem, Jobs, Gen, Check, Vt, VtOne}
use Rattle.tty_one.specs.declared.works.Ending.TheVariants.{ReadFault, TooLong}
use Rattle.tty_one.specs.Endings.{Ask, AskRun, AskRunOne, AskCheck, AskModem, AskJobs, AskVt, AskVtOne, AskOneToRead}
use Rattle.tty_one.specs.Endings.{AskConsoles, AskToPlay, IsOfOne, AreKnown, AreOfOne, AreOnThreads, IsOnThreads}
use Rattle.tty_one.specs.Endings.{AreRun, AreGen}
use Rattle.tty_one.specs.Works.{CanEndWith, ReadsNothing}

same_heads : (a b : List ℕ) (as' bs : List (List ℕ)) → a ∷ as' ≡ b ∷ bs → a ≡ b
same_heads a b as' bs h = cc

same_tails : (a b : List ℕ) (as' bs : List (List ℕ)) → a ∷ as' ≡ b ∷ bs → as' ≡ bs
same_tails a b as' bs h = cc

-- the words of most commands begin with a letter of their own
abbrev letter : List (List ℕ) → ℕ
letter [] = 0
letter (word ∷ words) = get_or word 0 0

abbrev letter_of : Command → ℕ
letter_of (Run journals) = 114
letter_of (RunOne journals) = 114
letter_of Modem = 109
letter_of Jobs = 106
letter_of (Gen number) = 103
letter_of Check = 99
letter_of Vt = 118
letter_of VtOne = 118

asked_letter : (command : Command) (words : List (List ℕ)) → Ask command words → letter words ≡ letter_of command
asked_letter (Run false) words asked = ap letter asked
asked_letter (Run true) words asked = ap letter asked
asked_letter (RunOne false) words asked = ap letter asked
asked_letter (RunOne true) words (inl asked) = ap letter asked
asked_letter (RunOne true) words (inr asked) = ap letter asked
asked_letter Modem words asked = ap letter asked
asked_letter Jobs words asked = ap letter asked
asked_letter (Gen number) words asked = ap letter asked.1
asked_letter Check words asked = ap letter asked
asked_letter Vt words asked = ap letter asked
asked_letter VtOne words asked = ap letter asked

pub other_letter : (command other : Command) (words : List (List ℕ))
    → (letter_of command ≡ letter_of other → ⊥)
    → Ask command words
    → Ask other words
    → ⊥
other_letter command other words differ asked asks =
    differ (sym (asked_letter command words asked) ∙ asked_letter other words asks)

pub not_gen_and_one : (words : List (List ℕ)) (journals : Bool) → AreGen words → AskRunOne journals words → ⊥
not_gen_and_one words journals gen run =
    other_letter (Gen gen.0) (RunOne journals) words (λ e. omega (arith, e)) gen.1 run

pub not_gen_and_run : (words : List (List ℕ)) (journals : Bool) → AreGen words → AskRun journals words → ⊥
not_gen_and_run words journals gen run = other_letter (Gen gen.0) (Run journals) words (λ e. omega (arith, e)) gen.1 run

pub not_check_and_gen : (words : List (List ℕ)) → AreGen words → AskCheck words → ⊥
not_check_and_gen words gen check = other_letter (Gen gen.0) Check words (λ e. omega (arith, e)) gen.1 check

pub not_check_and_one : (words : List (List ℕ)) (journals : Bool) → AskCheck words → AskRunOne journals words → ⊥
not_check_and_one words journals check run =
    other_letter Check (RunOne journals) words (λ e. omega (arith, e)) check run

pub not_check_and_run : (words : List (List ℕ)) (journals : Bool) → AskCheck words → AskRun journals words → ⊥
not_check_and_run words journals check run = other_letter Check (Run journals) words (λ e. omega (arith, e)) check run

pub not_jobs_and_one : (words : List (List ℕ)) (journals : Bool) → AskJobs words → AskRunOne journals words → ⊥
not_jobs_and_one words journals jobs run = other_letter Jobs (RunOne journals) words (λ e. omega (arith, e)) jobs run

pub not_jobs_and_run : (words : List (List ℕ)) (journals : Bool) → AskJobs words → AskRun journals words → ⊥
not_jobs_and_run words journals jobs run = other_letter Jobs (Run journals) words (λ e. omega (arith, e)) jobs run

pub not_jobs_and_gen : (words : List (List ℕ)) → AskJobs words → AreGen words → ⊥
not_jobs_and_gen words jobs gen = other_letter Jobs (Gen gen.0) words (λ e. omega (arith, e)) jobs gen.1

pub not_jobs_and_check : (words : List (List ℕ)) → AskJobs words → AskCheck words → ⊥
not_jobs_and_check words jobs check = other_letter Jobs Check words (λ e. omega (arith, e)) jobs check

pub not_jobs_and_vt : (words : List (List ℕ)) → AskJobs words → AskConsoles words → ⊥
not_jobs_and_vt words jobs (inl vt) = other_letter Jobs Vt words (λ e. omega (arith, e)) jobs vt
not_jobs_and_vt words jobs (inr vt) = other_letter Jobs VtOne words (λ e. omega (arith, e)) jobs vt

pub not_vt_and_one : (words : List (List ℕ)) (journals : Bool) → AskConsoles words → AskRunOne journals words → ⊥
not_vt_and_one words journals (inl vt) run = other_letter Vt (RunOne journals) words (λ e. omega (arith, e)) vt run
not_vt_and_one words journals (inr vt) run = other_letter VtOne (RunOne journals) words (λ e. omega (arith, e)) vt run

pub not_vt_and_run : (words : List (List ℕ)) (journals : Bool) → AskConsoles words → AskRun journals words → ⊥
not_vt_and_run words journals (inl vt) run = other_letter Vt (Run journals) words (λ e. omega (arith, e)) vt run
not_vt_and_run words journals (inr vt) run = other_letter VtOne (Run journals) words (λ e. omega (arith, e)) vt run

pub not_vt_and_gen : (words : List (List ℕ)) → AskConsoles words → AreGen words → ⊥
not_vt_and_gen words (inl vt) gen = other_letter Vt (Gen gen.0) words (λ e. omega (arith, e)) vt gen.1
not_vt_and_gen words (inr vt) gen = other_letter VtOne (Gen gen.0) words (λ e. omega (arith, e)) vt gen.1

pub not_vt_and_check : (words : List (List ℕ)) → AskConsoles words → AskCheck words → ⊥
not_vt_and_check words (inl vt) check = other_letter Vt Check words (λ e. omega (arith, e)) vt check
not_vt_and_check words (inr vt) check = other_letter VtOne Check words (λ e. omega (arith, e)) vt check

option_differs : codes "--journal" ≡ codes "--one" → ⊥
option_differs h = let third : 106 ≡ 111 = ap (λ word. get_or word 2 0) h in omega (arith, third)

pub not_vt_and_vt_one : (words : List (List ℕ)) → AskVt words → AskVtOne words → ⊥
not_vt_and_vt_one words vt one = let same : 1 ≡ 2 = ap length (sym vt ∙ one) in omega (arith, same)

pub not_run_and_one : (words : List (List ℕ)) (journals others : Bool)
    → AskRun journals words
    → AskRunOne others words
    → ⊥
not_run_and_one words false false run one = let same : 1 ≡ 2 = ap length (sym run ∙ one) in omega (arith, same)
not_run_and_one words false true run (inl one) = let same : 1 ≡ 3 = ap length (sym run ∙ one) in omega (arith, same)
not_run_and_one words false true run (inr one) = let same : 1 ≡ 3 = ap length (sym run ∙ one) in omega (arith, same)
not_run_and_one words true false run one = option_differs (same_heads (codes "--journal") (codes "--one") [] []
    (same_tails (codes "run") (codes "run") (codes "--journal" ∷ []) (codes "--one" ∷ []) (sym run ∙ one)))
not_run_and_one words true true run (inl one) = let same : 2 ≡ 3 = ap length (sym run ∙ one) in omega (arith, same)
not_run_and_one words true true run (inr one) = let same : 2 ≡ 3 = ap length (sym run ∙ one) in omega (arith, same)

-- so those of modem lines are no other command's
module _ (words : List (List ℕ)) (modem : AskModem words) where
  pub not_modem_and_run : (journals : Bool) → AskRun journals words → ⊥
  not_modem_and_run journals asked = other_letter Modem (Run journals) words (λ e. omega (arith, e)) modem asked

  pub not_modem_and_one : (journals : Bool) → AskRunOne journals words → ⊥
  not_modem_and_one journals asked = other_letter Modem (RunOne journals) words (λ e. omega (arith, e)) modem asked

  pub not_modem_and_jobs : AskJobs words → ⊥
  not_modem_and_jobs asked = other_letter Modem Jobs words (λ e. omega (arith, e)) modem asked

  pub not_modem_and_gen : AreGen words → ⊥
  not_modem_and_gen asked = other_letter Modem (Gen asked.0) words (λ e. omega (arith, e)) modem asked.1

  pub not_modem_and_check : AskCheck words → ⊥
  not_modem_and_check asked = other_letter Modem Check words (λ e. omega (arith, e)) modem asked

  pub not_modem_and_vt : AskConsoles words → ⊥
  not_modem_and_vt (inl asked) = other_letter Modem Vt words (λ e. omega (arith, e)) modem asked
  not_modem_and_vt (inr asked) = other_letter Modem VtOne words (λ e. omega (arith, e)) modem asked

  pub not_modem_and_play : AskToPlay words → ⊥
  not_modem_and_play (inl run) = not_modem_and_run run.0 run.1
  not_modem_and_play (inr run) = not_modem_and_one run.0 run.1

-- words that ask for a session to be played ask for nothing else
pub not_gen_and_play : (words : List (List ℕ)) → AreGen words → AskToPlay words → ⊥
not_gen_and_play words gen (inl run) = not_gen_and_run words run.0 gen run.1
not_gen_and_play words gen (inr run) = not_gen_and_one words run.0 gen run.1

pub not_check_and_play : (words : List (List ℕ)) → AskCheck words → AskToPlay words → ⊥
not_check_and_play words check (inl run) = not_check_and_run words run.0 check run.1
not_check_and_play words check (inr run) = not_check_and_one words run.0 check run.1

pub not_jobs_and_play : (words : List (List ℕ)) → AskJobs words → AskToPlay words → ⊥
not_jobs_and_play words jobs (inl run) = not_jobs_and_run words run.0 jobs run.1
not_jobs_and_play words jobs (inr run) = not_jobs_and_one words run.0 jobs run.1

pub not_vt_and_play : (words : List (List ℕ)) → AskConsoles words → AskToPlay words → ⊥
not_vt_and_play words vt (inl run) = not_vt_and_run words run.0 vt run.1
not_vt_and_play words vt (inr run) = not_vt_and_one words run.0 vt run.1

-- words that ask for threads are none that need no thread, and other known words are
pub run_is_not_one : (words : List (List ℕ)) → AreRun words → AreOfOne words → ⊥
run_is_not_one words run (Run journals, of_one, asked) = of_one
run_is_not_one words run (RunOne journals, of_one, asked) = not_run_and_one words run.0 journals run.1 asked
run_is_not_one words run (Modem, of_one, asked) = not_modem_and_run words asked run.0 run.1
run_is_not_one words run (Jobs, of_one, asked) = not_jobs_and_run words run.0 asked run.1
run_is_not_one words run (Gen number, of_one, asked) = not_gen_and_run words run.0 (number, asked) run.1
run_is_not_one words run (Check, of_one, asked) = not_check_and_run words run.0 asked run.1
run_is_not_one words run (Vt, of_one, asked) = of_one
run_is_not_one words run (VtOne, of_one, asked) = not_vt_and_run words run.0 (inr asked) run.1

pub vt_is_not_one : (words : List (List ℕ)) → AskVt words → AreOfOne words → ⊥
vt_is_not_one words vt (Run journals, of_one, asked) = of_one
vt_is_not_one words vt (RunOne journals, of_one, asked) = not_vt_and_one words journals (inl vt) asked
vt_is_not_one words vt (Modem, of_one, asked) = not_modem_and_vt words asked (inl vt)
vt_is_not_one words vt (Jobs, of_one, asked) = not_jobs_and_vt words asked (inl vt)
vt_is_not_one words vt (Gen number, of_one, asked) = not_vt_and_gen words (inl vt) (number, asked)
vt_is_not_one words vt (Check, of_one, asked) = not_vt_and_check words (inl vt) asked
vt_is_not_one words vt (Vt, of_one, asked) = of_one
vt_is_not_one words vt (VtOne, of_one, asked) = not_vt_and_vt_one words vt asked

pub one_if_not_on_threads : (words : List (List ℕ)) → (AreOnThreads words → ⊥) → AreKnown words → AreOfOne words
one_if_not_on_threads words other (Run journals, asked) = absurd (other (Run journals, (λ of_one. of_one), asked))
one_if_not_on_threads words other (RunOne journals, asked) = (RunOne journals, tt, asked)
one_if_not_on_threads words other (Modem, asked) = (Modem, tt, asked)
one_if_not_on_threads words other (Jobs, asked) = (Jobs, tt, asked)
one_if_not_on_threads words other (Gen number, asked) = (Gen number, tt, asked)
one_if_not_on_threads words other (Check, asked) = (Check, tt, asked)
one_if_not_on_threads words other (Vt, asked) = absurd (other (Vt, (λ of_one. of_one), asked))
one_if_not_on_threads words other (VtOne, asked) = (VtOne, tt, asked)

-- words of consoles that need no thread
pub one_of_consoles : (words : List (List ℕ)) → AreOfOne words → AskConsoles words → AskVtOne words
one_of_consoles words of_one (inl vt) = absurd (vt_is_not_one words vt of_one)
one_of_consoles words of_one (inr vt) = vt

pub reads_nothing : (command : Command) (words : List (List ℕ))
    → Ask command words
    → AreGen words
    → ReadsNothing command
reads_nothing (Run journals) words asked gen = absurd (not_gen_and_run words journals gen asked)
reads_nothing (RunOne journals) words asked gen = absurd (not_gen_and_one words journals gen asked)
reads_nothing Modem words asked gen = absurd (not_modem_and_gen words asked gen)
reads_nothing Jobs words asked gen = absurd (not_jobs_and_gen words asked gen)
reads_nothing (Gen number) words asked gen = tt
reads_nothing Check words asked gen = absurd (not_check_and_gen words gen asked)
reads_nothing Vt words asked gen = absurd (not_vt_and_gen words (inl asked) gen)
reads_nothing VtOne words asked gen = absurd (not_vt_and_gen words (inr asked) gen)

-- a command that ends for want of what it reads does read
pub read_fault_reads : (command : Command) → CanEndWith command ReadFault → ReadsNothing command → ⊥
read_fault_reads (Run journals) can none = none
read_fault_reads (RunOne journals) can none = none
read_fault_reads Modem can none = none
read_fault_reads Jobs can none = none
read_fault_reads (Gen number) can none = can
read_fault_reads Check can none = none
read_fault_reads Vt can none = none
read_fault_reads VtOne can none = none

pub long_reads : (command : Command) → CanEndWith command TooLong → ReadsNothing command → ⊥
long_reads (Run journals) can none = none
long_reads (RunOne journals) can none = none
long_reads Modem can none = none
long_reads Jobs can none = none
long_reads (Gen number) can none = can
long_reads Check can none = none
long_reads Vt can none = none
long_reads VtOne can none = none

-- the words of a command that reads ask for a text to be read
pub one_reads : (command : Command) (words : List (List ℕ))
    → IsOfOne command
    → Ask command words
    → (ReadsNothing command → ⊥)
    → AskOneToRead words
one_reads (Run journals) words of_one asked some = absurd of_one
one_reads (RunOne journals) words of_one asked some = inl (inl (journals, asked))
one_reads Modem words of_one asked some = inr (inr asked)
one_reads Jobs words of_one asked some = inl (inr asked)
one_reads (Gen number) words of_one asked some = absurd (some tt)
one_reads Check words of_one asked some = inr (inl (inl asked))
one_reads Vt words of_one asked some = absurd of_one
one_reads VtOne words of_one asked some = inr (inl (inr asked))

-- .. and so do those of threads
pub threads_read : (command : Command) (words : List (List ℕ))
    → IsOnThreads command
    → Ask command words
    → AreRun words ⊎ AskVt words
threads_read (Run journals) words on asked = inl (journals, asked)
threads_read (RunOne journals) words on asked = absurd (on tt)
threads_read Modem words on asked = absurd (on tt)
threads_read Jobs words on asked = absurd (on tt)
threads_read (Gen number) words on asked = absurd (on tt)
threads_read Check words on asked = absurd (on tt)
threads_read Vt words on asked = inr asked
threads_read VtOne words on asked = absurd (on tt)

pub not_one_modem : (words : List (List ℕ)) → (AreOfOne words → ⊥) → AskModem words → ⊥
not_one_modem words other modem = other (Modem, tt, modem)

pub not_one_jobs : (words : List (List ℕ)) → (AreOfOne words → ⊥) → AskJobs words → ⊥
not_one_jobs words other jobs = other (Jobs, tt, jobs)

pub not_one_vt : (words : List (List ℕ)) → (AreOfOne words → ⊥) → AskVtOne words → ⊥
not_one_vt words other vt = other (VtOne, tt, vt)

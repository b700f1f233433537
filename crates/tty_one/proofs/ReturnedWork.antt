-- What is returned of the work that ended with a status.
use Rattle.std.proofs.Common.{◌≡◌, ◌⊎◌, ℕ, List, [], Option, None, Some, inl, inr, refl, sym, ap, subst, ◌∙◌}
use Rattle.std.specs.Prelude.{option_map}
use Rattle.tty_calls.specs.declared.sessions.Session.{Session}
use Rattle.tty_calls.specs.Sessions.{session_of}
use Rattle.tty_one.specs.declared.words.Command.{Command}
use Rattle.tty_one.specs.declared.words.Command.TheVariants.{Run, RunOne, Modem, Jobs, Gen, Check, Vt, VtOne}
use Rattle.tty_one.specs.declared.works.Ran.{Ran}
use Rattle.tty_one.specs.declared.works.Work.{Work}
use Rattle.tty_one.specs.declared.works.Ending.{Ending}
use Rattle.tty_one.specs.declared.works.Ending.TheVariants.{Done, BadSession, BadWords, ReadFault, TooLong, NotLegal}
use Rattle.tty_one.specs.Endings.{Ask, AskCheck, AskModem, AskJobs, AskConsoles, status_of}
use Rattle.tty_one.specs.Reported.{Returned, returned, nothing}
use Rattle.tty_one.specs.Works.{brought, IsWork, HasOwn}
use Rattle.tty_one.proofs.AskedWords.{not_check_and_gen, not_check_and_one, not_check_and_run, not_jobs_and_check}
use Rattle.tty_one.proofs.AskedWords.{not_vt_and_check, not_modem_and_check}
use Rattle.tty_one.proofs.ToldWork.{status_is}

-- what the work brought is what is returned
pub work_with : (command : Command) (left : Option (List ℕ)) (e : Ending) (ran : Ran) (work : Work)
    → returned ran ≡ brought work
    → IsWork command left e (brought work)
    → IsWork command left e (returned ran)
work_with command left e ran work same done = subst (IsWork command left e) (sym same) done

-- work that ended without a run returns nothing
pub nothing_told : (ran : Ran) (work : Work) (e : Ending)
    → returned ran ≡ brought work
    → work
    ≡ record {
      ending = e;
      runs = record { items = []; spare = 0 };
      vt = record { items = []; spare = 0 };
      modem = record { items = []; spare = 0 };
      jobs = record { items = []; spare = 0 };
      derived = None;
    }
    → returned ran ≡ nothing
nothing_told ran work e same none = same ∙ ap brought none

-- journals that were judged are not returned
none_at : (left : Option (List ℕ)) (back : Returned) (e : Ending) → IsWork Check left e back → back.runs ≡ []
none_at left back (Done report) done = done.no_runs
none_at left back (BadSession line) done = ap (λ (b : Returned). b.runs) done.0
none_at left back BadWords done = ap (λ (b : Returned). b.runs) done
none_at left back ReadFault done = ap (λ (b : Returned). b.runs) done
none_at left back TooLong done = ap (λ (b : Returned). b.runs) done
none_at left back (NotLegal line) done = done.1.told.no_runs

pub none_judged : (words : List (List ℕ)) (command : Command) (left : Option (List ℕ)) (back : Returned) (e : Ending)
    → Ask command words
    → IsWork command left e back
    → AskCheck words
    → back.runs ≡ []
none_judged words (Run journals) left back e asked done = λ check. absurd (not_check_and_run words journals check asked)
none_judged words (RunOne journals) left back e asked done = λ check.
    absurd (not_check_and_one words journals check asked)
none_judged words Modem left back e asked done = λ check. absurd (not_modem_and_check words asked check)
none_judged words Jobs left back e asked done = λ check. absurd (not_jobs_and_check words asked check)
none_judged words (Gen number) left back e asked done = λ check. absurd (not_check_and_gen words (number, asked) check)
none_judged words Check left back e asked done = λ check. none_at left back e done
none_judged words Vt left back e asked done = λ check. absurd (not_vt_and_check words (inl asked) check)
none_judged words VtOne left back e asked done = λ check. absurd (not_vt_and_check words (inr asked) check)

-- only consoles have entries
pub no_entries : (words : List (List ℕ)) (command : Command) (back : Returned)
    → Ask command words
    → HasOwn command back
    → (AskConsoles words → ⊥)
    → back.entries ≡ []
no_entries words (Run journals) back asked own other = own.0
no_entries words (RunOne journals) back asked own other = own.0
no_entries words Modem back asked own other = own.0
no_entries words Jobs back asked own other = own.0
no_entries words (Gen number) back asked own other = own.0
no_entries words Check back asked own other = own.0
no_entries words Vt back asked own other = absurd (other (inl asked))
no_entries words VtOne back asked own other = absurd (other (inr asked))

-- only ports with modem lines, and processes, have a log
pub no_modem_log : (words : List (List ℕ)) (command : Command) (back : Returned)
    → Ask command words
    → HasOwn command back
    → (AskModem words → ⊥)
    → back.modem_log ≡ []
no_modem_log words (Run journals) back asked own other = own.1
no_modem_log words (RunOne journals) back asked own other = own.1
no_modem_log words Modem back asked own other = absurd (other asked)
no_modem_log words Jobs back asked own other = own.1
no_modem_log words (Gen number) back asked own other = own.1
no_modem_log words Check back asked own other = own.1
no_modem_log words Vt back asked own other = own.0
no_modem_log words VtOne back asked own other = own.0

pub no_log : (words : List (List ℕ)) (command : Command) (back : Returned)
    → Ask command words
    → HasOwn command back
    → (AskJobs words → ⊥)
    → back.log ≡ []
no_log words (Run journals) back asked own other = own.2
no_log words (RunOne journals) back asked own other = own.2
no_log words Modem back asked own other = own.1
no_log words Jobs back asked own other = absurd (other asked)
no_log words (Gen number) back asked own other = own.2
no_log words Check back asked own other = own.2
no_log words Vt back asked own other = own.1
no_log words VtOne back asked own other = own.1

-- .. and the session that they were played
pub none_derived : (words : List (List ℕ)) (command : Command) (back : Returned)
    → Ask command words
    → HasOwn command back
    → (AskModem words ⊎ AskJobs words → ⊥)
    → back.derived ≡ None
none_derived words (Run journals) back asked own other = own.3
none_derived words (RunOne journals) back asked own other = own.3
none_derived words Modem back asked own other = absurd (other (inl asked))
none_derived words Jobs back asked own other = absurd (other (inr asked))
none_derived words (Gen number) back asked own other = own.3
none_derived words Check back asked own other = own.3
none_derived words Vt back asked own other = own.2
none_derived words VtOne back asked own other = own.2

-- a session that is none as plain data is none
pub no_session : (o : Option Session) → option_map session_of o ≡ None → o ≡ None
no_session None h = refl
no_session (Some session) h = absurd (cc)

-- nothing is returned beside a status other than 0 and 4
nothing_at : (command : Command) (left : Option (List ℕ)) (back : Returned) (e : Ending)
    → IsWork command left e back
    → (status_of e ≡ 0 → ⊥)
    → back ≡ nothing
nothing_at command left back (Done report) done some = absurd (some refl)
nothing_at command left back (BadSession line) done some = done.0
nothing_at command left back BadWords done some = done
nothing_at command left back ReadFault done some = done
nothing_at command left back TooLong done some = done
nothing_at command left back (NotLegal line) done some = done.0

pub nothing_by : (command : Command) (left : Option (List ℕ)) (back : Returned) (e : Ending) (status : ℕ)
    → IsWork command left e back
    → (status ≡ status_of e) ⊎ (status ≡ 4)
    → (status ≡ 0 → ⊥)
    → (status ≡ 4 → ⊥)
    → back ≡ nothing
nothing_by command left back e status done is not_done not_four =
    nothing_at command left back e done (λ zero_is. not_done (status_is status (status_of e) is not_four ∙ zero_is))

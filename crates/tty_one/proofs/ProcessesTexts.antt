-- What a text of processes comes to where reading did not fail.
use Rattle.std.proofs.Common.{◌≡◌, ◌⊎◌, ◌≤◌, length, ℕ, List, Option, None, Some, Ok, IfSome, inl, inr, sym, ap}
use Rattle.std.proofs.Common.{subst, ◌∙◌}
use Rattle.tty_base.specs.Sizes.{MOST_TEXT}
use Rattle.tty_base.specs.Outside.{Rose, LeavesRest}
use Rattle.session_text.specs.declared.faults.BadLine.{BadLine}
use Rattle.tty_one.specs.declared.words.Command.{Command}
use Rattle.tty_one.specs.declared.words.Command.TheVariants.{Run, RunOne, Modem, Jobs, Gen, Check, Vt, VtOne}
use Rattle.tty_one.specs.declared.works.Ending.{Ending}
use Rattle.tty_one.specs.Endings.{Ask, AskJobs, status_of, IsOfSource}
use Rattle.tty_one.specs.Reported.{Returned}
use Rattle.job_text.specs.Reading.{jobs_in}
use Rattle.job_text.specs.Sessions.{JobsSession}
use Rattle.tty_one.specs.Processes.{bare_of, fault_in as fault_of_processes, processes_refusal, IsToldOfProcesses}
use Rattle.tty_one.specs.Processes.{CompletesProcesses}
use Rattle.tty_one.specs.Outcome.{IsRefused}
use Rattle.tty_one.specs.Works.{IsWork}
use Rattle.tty_one.proofs.AskedWords.{not_jobs_and_one, not_jobs_and_run, not_jobs_and_gen, not_jobs_and_check}
use Rattle.tty_one.proofs.AskedWords.{not_jobs_and_vt, not_modem_and_jobs}
use Rattle.tty_one.proofs.PlayedTexts.{none_some, by_ending}

processes_spelled : (bytes text : List ℕ) (back : Returned) (h : IsToldOfProcesses (Some bytes) back text)
    → jobs_in bytes ≡ Ok (bare_of h.session)
processes_spelled bytes text back h = subst (λ (read : List ℕ). jobs_in read ≡ Ok (bare_of h.session)) h.whole h.spelled

processes_not_both : (bytes : List ℕ) (session : JobsSession) (bad : BadLine)
    → jobs_in bytes ≡ Ok session
    → processes_refusal bytes ≡ Some bad
    → ⊥
processes_not_both bytes session bad spells refused = none_some bad (sym (ap fault_of_processes spells) ∙ refused)

processes_play : (bytes : List ℕ) (back : Returned) (text : List ℕ) (status : ℕ)
    → status ≡ 0
    → IsToldOfProcesses (Some bytes) back text
    → CompletesProcesses bytes status
processes_play bytes back text status is h =
    record {
      played = λ session spells. inl is;
      refused = λ bad wrong. absurd
          (processes_not_both bytes (bare_of h.session) bad (processes_spelled bytes text back h) wrong);
    }

processes_refuse : (bytes : List ℕ) (bad : BadLine) (status : ℕ)
    → status ≡ 1
    → IsRefused processes_refusal (Some bytes) bad
    → CompletesProcesses bytes status
processes_refuse bytes bad status is h =
    let wrong : processes_refusal bytes ≡ Some bad =
    subst (λ (text : List ℕ). processes_refusal text ≡ Some bad) h.whole h.refused in
    record {
      played = λ session spells. absurd (processes_not_both bytes session bad spells wrong);
      refused = λ other _. inl is;
    }

pub completes_processes : (words : List (List ℕ)) (command : Command) (left rest : Option (List ℕ)) (faults faults' : ℕ)
    (back : Returned) (e : Ending) (status : ℕ)
    → Ask command words
    → (status ≡ status_of e) ⊎ (status ≡ 4)
    → IsOfSource e faults faults' left rest
    → IsWork command left e back
    → IfSome left (λ bytes. LeavesRest bytes rest)
    → IfSome left
    (λ bytes. AskJobs words → length bytes ≤ MOST_TEXT → (Rose faults faults' → ⊥) → CompletesProcesses bytes status)
completes_processes words command None rest faults faults' back e status asked is of done left = left
completes_processes words command (Some bytes) rest faults faults' back e status asked (inr four) of done left =
    λ jobs short sound. record {
      played = λ session spells. inr (inl four);
      refused = λ bad wrong. inr (inl four);
    }
completes_processes words (Run journals) (Some bytes) rest faults faults' back e status asked (inl is) of done left =
    λ jobs. absurd (not_jobs_and_run words journals jobs asked)
completes_processes words (RunOne journals) (Some bytes) rest faults faults' back e status asked (inl is) of done left =
    λ jobs. absurd (not_jobs_and_one words journals jobs asked)
completes_processes words Modem (Some bytes) rest faults faults' back e status asked (inl is) of done left =
    λ jobs. absurd (not_modem_and_jobs words asked jobs)
completes_processes words Jobs (Some bytes) rest faults faults' back e status asked (inl is) of done left =
    λ jobs. by_ending (CompletesProcesses bytes status) Jobs bytes faults faults' rest back e status
    (λ zero_is text told. processes_play bytes back text status zero_is told)
    (λ one_is bad refused. processes_refuse bytes bad status one_is refused) (λ line none. none) is of done left
completes_processes words (Gen number) (Some bytes) rest faults faults' back e status asked (inl is) of done left =
    λ jobs. absurd (not_jobs_and_gen words jobs (number, asked))
completes_processes words Check (Some bytes) rest faults faults' back e status asked (inl is) of done left = λ jobs.
    absurd (not_jobs_and_check words jobs asked)
completes_processes words Vt (Some bytes) rest faults faults' back e status asked (inl is) of done left = λ jobs.
    absurd (not_jobs_and_vt words jobs (inl asked))
completes_processes words VtOne (Some bytes) rest faults faults' back e status asked (inl is) of done left = λ jobs.
    absurd (not_jobs_and_vt words jobs (inr asked))

pub not_processes : (words : List (List ℕ)) (left : Option (List ℕ)) (status : ℕ) (faults faults' : ℕ)
    → (AskJobs words → ⊥)
    → IfSome left
    (λ bytes. AskJobs words → length bytes ≤ MOST_TEXT → (Rose faults faults' → ⊥) → CompletesProcesses bytes status)
not_processes words None status faults faults' other = tt
not_processes words (Some bytes) status faults faults' other = λ jobs. absurd (other jobs)

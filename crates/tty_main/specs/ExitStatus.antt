-- How the program ends: what `tty_run` promises of its status, said of the exit status.
use Rattle.std.specs.Prelude.{◌≡◌, ◌≢◌, ◌⊎◌, ◌≤◌, ℕ, List, [], Option, None, IfSome, length, map, drop, string_bytes}
use Rattle.std.specs.Prelude.{String}
use Rattle.tty_base.specs.Sizes.{MOST_TEXT}
use Rattle.tty_base.specs.Outside.{Rose, TookCount, LeavesRest}
use Rattle.tty_one.specs.Endings.{AreKnown, AreRun, AreGen, AskCheck, AskConsoles, AskModem, AskJobs}
use Rattle.tty_one.specs.Endings.{AskToPlay, AskToRead, AskVt, IsStatus, IsStatusOr, IsTold}
use Rattle.tty_one.specs.Reported.{Returned, nothing}
use Rattle.tty_one.specs.Consoles.{CompletesConsoles}
use Rattle.tty_one.specs.Processes.{CompletesProcesses}
use Rattle.tty_one.specs.ModemLines.{CompletesModemLines}
use Rattle.tty_one.specs.Outcome.{IsDone, IsToldRefused, IsToldIllegal, IsBroken, Completes, CompletesCheck}
use Rattle.tty_run.specs.Headline.{AreConsolesToldOnThreads, IsPlayedOnThreads}

-- the words among the arguments of a program, whose name comes first
abbrev pub words_after_name : {Z : Type 0} → List (String Z) → List (List ℕ)
words_after_name arguments = map string_bytes (drop 1 arguments)

-- Memory was wanting before anything was done: nothing was read or given.
abbrev pub IsStarved : Type 0 → Type 0 → ℕ → Type 0
IsStarved Unread Untold status = (status ≡ 5) × Unread × Untold

-- The call of these words ended with this status: by the faults of the source and of the sink, before and now, and by
-- what the source has left and what the sink was given, before and now, where they tell; and by what the call returned
-- beside its status.
pub record IsEnded (Unread : Type 0) (words : List (List ℕ)) (faults faults' misses misses' : ℕ)
    (left rest before now : Option (List ℕ)) (status : ℕ) : Type 0 where
  pub back : Returned
  pub headline : AreRun words → status ≡ 0 → IsPlayedOnThreads words left before now back.runs
  pub consoles_headline : AskVt words → status ≡ 0 → AreConsolesToldOnThreads left before now back
  pub other_words : (AreKnown words → ⊥) → ((status ≡ 2) ⊎ (status ≡ 4)) × Unread × (back ≡ nothing)
  pub known_words : AreKnown words → status ≢ 2
  pub read_fault : status ≡ 3 → Rose faults faults'
  pub write_fault : status ≡ 4 → Rose misses misses'
  pub too_long : IfSome left (λ bytes. status ≡ 6 → TookCount 4194305 bytes rest)
  pub long : IfSome left (λ bytes. TookCount 4194305 bytes rest → (status ≡ 6) ⊎ (status ≡ 4))
  pub told : IfSome before (λ bytes. IsTold status bytes now)
  pub statuses : IsStatus status
  pub done : status ≡ 0 → IsDone words left before now back
  pub bad_session : status ≡ 1 → IsToldRefused words left before now
  pub not_legal : status ≡ 7 → IsToldIllegal words left before now
  pub broken : status ≡ 4 → IsBroken (AreKnown words) (AskToRead words) words faults faults' left rest before now back
  pub no_runs : status ≢ 0 → status ≢ 4 → back ≡ nothing
  pub none_judged : AskCheck words → back.runs ≡ []
  pub no_entries : (AskConsoles words → ⊥) → back.entries ≡ []
  pub no_log : (AskJobs words → ⊥) → back.log ≡ []
  pub no_modem_log : (AskModem words → ⊥) → back.modem_log ≡ []
  pub none_derived : (AskModem words ⊎ AskJobs words → ⊥) → back.derived ≡ None
  pub rest_left : IfSome left (λ bytes. LeavesRest bytes rest)
  pub complete : IfSome left (λ bytes.
      AskToPlay words → length bytes ≤ MOST_TEXT → (Rose faults faults' → ⊥) → Completes bytes status)
  pub made : AreGen words → IsStatusOr 0 status
  pub unread : AreGen words → Unread
  pub judged : IfSome left
      (λ bytes. AskCheck words → length bytes ≤ MOST_TEXT → (Rose faults faults' → ⊥) → CompletesCheck bytes status)
  pub consoles : IfSome left
      (λ bytes.
      AskConsoles words → length bytes ≤ MOST_TEXT → (Rose faults faults' → ⊥) → CompletesConsoles bytes status)
  pub modem_lines : IfSome left
      (λ bytes.
      AskModem words → length bytes ≤ MOST_TEXT → (Rose faults faults' → ⊥) → CompletesModemLines bytes status)
  pub processes : IfSome left
      (λ bytes. AskJobs words → length bytes ≤ MOST_TEXT → (Rose faults faults' → ⊥) → CompletesProcesses bytes status)

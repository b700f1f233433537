-- The lines of the calls of a port.
use Rattle.std.proofs.Common.{◌≡◌, ℕ, ◌<◌, ◌==◌, if◌then◌else◌, List, [], ◌∷◌, ◌++◌, length}
use Rattle.std.proofs.Common.{map, flat_map, replicate, Vec, Global, refl, sym, ◌∙◌, ap, subst}
use Rattle.std.proofs.lemmas.List.{length-map, length-replicate}
use Rattle.tty_base.specs.Contents.{Contents}
use Rattle.tty_calls.specs.Sessions.{PlainSession}
use Rattle.passed_calls.specs.declared.logs.Logged.{Logged}
use Rattle.passed_calls.specs.declared.placed.PlacedCall.{PlacedCall}
use Rattle.passed_calls.specs.Scripts.{AnyCall, CallerScript}
use Rattle.modem_text.specs.declared.logs.ModemEvent.{ModemEvent as KeptModem}
use Rattle.modem_text.specs.declared.sessions.ModemPart.{ModemPart}
use Rattle.modem_text.specs.Events.{event_of as modem_event, logged_of as modem_logged}
use Rattle.modem_text.specs.Sessions.{part_of, session_with as modem_session}
use Rattle.job_text.specs.declared.calls.OwnCall.{OwnCall as JobOwn}
use Rattle.job_text.specs.declared.logs.JobEvent.{JobEvent as KeptJob}
use Rattle.job_text.specs.declared.sessions.PortProc.{PortProc}
use Rattle.job_text.specs.Events.{event_of as job_event, logged_of as job_logged}
use Rattle.job_text.specs.Sessions.{session_with as jobs_session}
use Rattle.further_report.specs.Calls.{ToldAnswer, calls_text, texts_to}
use Rattle.further_report.specs.Jobs.{own_verb as job_verb, port_calls as job_calls}
use Rattle.further_report.specs.Jobs.{told_in as job_told, told_on as job_told_on}
use Rattle.further_report.specs.Modem.{own_verb as modem_verb, port_calls as modem_calls}
use Rattle.further_report.specs.Modem.{told_in as modem_told, told_on as modem_told_on}
use Rattle.further_report.specs.Printing.{all_noted, answers_to, bytes_of, learned_over}
use Rattle.further_report.specs.Printing.{learned_with_carrier, own_in, scripts_beside, scripts_text}
use Rattle.further_report.proofs.Beside.{job_scripts, modem_scripts}
use Rattle.further_report.proofs.Naming.{job_names, modem_names}
use Rattle.further_report.proofs.Noting.{answers_are, noted_length}
use Rattle.further_report.proofs.Standing.{all_scripts}

pub has_answers : (answers : List (Vec (Contents ℕ) Global)) (callers count : ℕ) (told : List ToldAnswer)
    → callers ≡ count
    → map (λ (texts : Vec (Contents ℕ) Global). bytes_of texts.items) answers ≡ all_noted (replicate callers []) told
    → length answers ≡ count
has_answers answers callers count told many is =
    sym (length-map answers (λ (texts : Vec (Contents ℕ) Global). bytes_of texts.items))
    ∙ ap (λ (l : List (List (List ℕ))). length l) is
    ∙ noted_length (replicate callers []) told
    ∙ length-replicate callers []
    ∙ many

port_told : {C : Type 0} (verb : C → List ℕ) (p callers : ℕ) (names named : List (List ℕ))
    (answers : List (List (List ℕ))) (told : List ToldAnswer) (scripts all : List (CallerScript (AnyCall C)))
    → names ≡ named
    → callers ≡ length names
    → answers ≡ all_noted (replicate callers []) told
    → scripts ≡ all
    → scripts_text verb p names answers (replicate (length names) 0) scripts ≡ calls_text verb p named told all
port_told {C = C} verb p callers names named answers told scripts all are many noted same =
    ap (λ (ss : List (CallerScript (AnyCall C))). scripts_text verb p names answers (replicate (length names) 0) ss)
    same
    ∙ all_scripts verb p names answers (λ c. texts_to c told) all
    (λ c lt.
    ap (λ (ts : List (List (List ℕ))). answers_to ts c) noted
    ∙ answers_are callers c told (subst (λ (n : ℕ). c < n) (sym many) lt))
    ∙ ap (λ (ns : List (List ℕ)). calls_text verb p ns told all) are

modem_log : (p : ℕ) (log : List (Logged KeptModem))
    → flat_map (λ l. if l.port == p then modem_told (modem_event l.event) else []) log
    ≡ modem_told_on p (map modem_logged log)
modem_log p [] = refl
modem_log p (l ∷ ls) =
    ap (λ (told : List ToldAnswer). (if l.port == p then modem_told (modem_event l.event) else []) ++ told)
    (modem_log p ls)

pub modem_port : (session : PlainSession) (parts : List ModemPart) (log : List (Logged KeptModem)) (p callers : ℕ)
    (names : List (List ℕ)) (answers : List (List (List ℕ)))
    → p < session.ports
    → names ≡ learned_with_carrier [] p session.phases
    → callers ≡ length names
    → answers
    ≡ all_noted (replicate callers [])
    (flat_map (λ l. if l.port == p then modem_told (modem_event l.event) else []) log)
    → scripts_text modem_verb p names answers (replicate (length names) 0)
    (scripts_beside (map own_in parts) 0 session.phases)
    ≡ modem_calls (modem_session session (map part_of parts)) (map modem_logged log) p
modem_port session parts log p callers names answers lt are many noted =
    port_told modem_verb p callers names _ answers (modem_told_on p (map modem_logged log))
    (scripts_beside (map own_in parts) 0 session.phases) _
    (are ∙ modem_names session (map part_of parts) p lt) many
    (noted ∙ ap (all_noted (replicate callers [])) (modem_log p log)) (modem_scripts session parts)

job_log : (p : ℕ) (log : List (Logged KeptJob))
    → flat_map (λ l. if l.port == p then job_told (job_event l.event) else []) log ≡ job_told_on p (map job_logged log)
job_log p [] = refl
job_log p (l ∷ ls) =
    ap (λ (told : List ToldAnswer). (if l.port == p then job_told (job_event l.event) else []) ++ told) (job_log p ls)

pub job_port : (session : PlainSession) (procs : List PortProc) (parts : List (List (PlacedCall JobOwn)))
    (log : List (Logged KeptJob)) (p callers : ℕ) (names : List (List ℕ)) (answers : List (List (List ℕ)))
    → names ≡ learned_over [] p session.phases
    → callers ≡ length names
    → answers
    ≡ all_noted (replicate callers []) (flat_map (λ l. if l.port == p then job_told (job_event l.event) else []) log)
    → scripts_text job_verb p names answers (replicate (length names) 0) (scripts_beside parts 0 session.phases)
    ≡ job_calls (jobs_session session procs parts) (map job_logged log) p
job_port session procs parts log p callers names answers are many noted =
    port_told job_verb p callers names _ answers (job_told_on p (map job_logged log))
    (scripts_beside parts 0 session.phases) _
    (are ∙ job_names session procs parts p) many (noted ∙ ap (all_noted (replicate callers [])) (job_log p log))
    (job_scripts session procs parts)

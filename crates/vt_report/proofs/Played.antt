-- The report of a session does not tell the lines of its consoles.
use Rattle.std.proofs.Common.{◌≡◌, ℕ, ◌+◌, List, [], ◌∷◌, ◌++◌, drop, length, flat_map, refl, ◌∙◌, ap, arith}
use Rattle.tty_calls.specs.declared.journals.PortRun.{PortRun}
use Rattle.tty_calls.specs.Sessions.{PlainScript, PlainPhase, scripts_on, scripts_over, names_of}
use Rattle.session_print.specs.Ends.{PlainEnd}
use Rattle.session_print.specs.Report.{answer_in, calls_text, calls_from, told_in, told_line}
use Rattle.vt_consoles.specs.declared.entries.VtEntry.{VtEntry}
use Rattle.vt_text.specs.Sessions.{PlainVtPhase, PlainVtSession}
use Rattle.vt_account.specs.Keyed.{HasAllPhases, consoles_in, keyed, keyed_phases}
use Rattle.vt_report.specs.Report.{behind_callers, report_text}

-- the scripts stay
pub same_scripts : (p ports : ℕ) (consoles : List ℕ) (keyboards : List PlainVtPhase) (phases : List PlainPhase)
    → length phases ≡ length keyboards
    → scripts_over p (keyed_phases ports consoles keyboards phases) ≡ scripts_over p phases
same_scripts p ports consoles [] phases e = refl
same_scripts p ports consoles (keyboard ∷ keyboards) [] e = refl
same_scripts p ports consoles (keyboard ∷ keyboards) (phase ∷ phases) e =
    ap (λ (l : List PlainScript). scripts_on p phase ++ l)
    (same_scripts p ports (drop (length keyboard.keys) consoles) keyboards phases (omega (arith, e)))

same_calls : (session : PlainVtSession) (entries : List VtEntry) (p : ℕ) (run : PortRun)
    → HasAllPhases session
    → calls_text p (keyed session entries) run ≡ calls_text p session.calls run
same_calls session entries p run whole =
    ap (λ (scripts : List PlainScript).
    flat_map (told_line p (answer_in run.journal.items)) (told_in (names_of scripts) [] scripts))
    (same_scripts p session.calls.ports (consoles_in entries) session.phases session.calls.phases whole)

same_callers : (session : PlainVtSession) (entries : List VtEntry) (p : ℕ) (runs : List PortRun)
    → HasAllPhases session
    → calls_from p (keyed session entries) runs ≡ calls_from p session.calls runs
same_callers session entries p [] whole = refl
same_callers session entries p (run ∷ runs) whole =
    ap (λ (l : List ℕ). l ++ calls_from (p + 1) (keyed session entries) runs) (same_calls session entries p run whole)
    ∙ ap (λ (l : List ℕ). calls_text p session.calls run ++ l) (same_callers session entries (p + 1) runs whole)

pub same_report : (session : PlainVtSession) (entries : List VtEntry) (runs : List PortRun) (ends : List PlainEnd)
    → HasAllPhases session
    → report_text (record session { calls = keyed session entries }) entries runs ends
    ≡ report_text session entries runs ends
same_report session entries runs ends whole =
    ap (λ (l : List ℕ). l ++ behind_callers session entries runs ends) (same_callers session entries 0 runs whole)

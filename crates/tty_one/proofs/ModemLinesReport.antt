-- Two reports of a session of ports with modem lines on one thread are the same.
use Rattle.std.proofs.Common.{◌≡◌, ◌<◌, inl, inr, ℕ, List, ◌++◌, Some, Option, Ok}
use Rattle.std.proofs.Common.{codes, sym, ◌∙◌, ap, subst, arith}
use Rattle.tty_calls.specs.declared.journals.PortRun.{PortRun}
use Rattle.session_print.specs.Ends.{PlainEnd}
use Rattle.session_print.specs.Lines.{newline}
use Rattle.passed_calls.specs.Blocks.{names_on}
use Rattle.passed_calls.specs.Logs.{logged_on}
use Rattle.modem_text.specs.Events.{ModemLog}
use Rattle.modem_text.specs.Reading.{modem_in}
use Rattle.modem_text.specs.Sessions.{ModemSession, blocks_in}
use Rattle.modem_steps.specs.Derived.{derived}
use Rattle.modem_one.specs.Played.{port_in, IsLoggedWhole}
use Rattle.modem_laws.specs.OneRun.{IsPlayedWhole}
use Rattle.modem_laws.proofs.OnePort.{one_port}
use Rattle.further_report.specs.Calls.{ToldAnswer, calls_text}
use Rattle.further_report.specs.Modem.{own_verb, told_in, scripts_in, port_calls, modem_report_text}
use Rattle.further_report.specs.Ports.{without_phases}
use Rattle.tty_one.specs.declared.words.Command.{Command}
use Rattle.tty_one.specs.declared.words.Command.TheVariants.{Run, RunOne, Modem, Jobs, Gen, Check, Vt, VtOne}
use Rattle.tty_one.specs.Endings.{Ask, AskModem}
use Rattle.tty_one.specs.ModemLines.{log_of, IsOrderedWith, AreModemLinesPlayed, IsToldOfModemLines}
use Rattle.tty_one.specs.Outcome.{IsToldBy, IsDone, GaveTheSame}
use Rattle.tty_one.specs.Reported.{Returned, end_at, IsWhole}
use Rattle.tty_one.proofs.LoggedReport.{IsSameTold, IsReportOf, one_logged_report, same_ok}
use Rattle.tty_one.proofs.LogsAlike.{told_same, each_same}
use Rattle.tty_one.proofs.OneReport.{AreSame, all_ports, both_gave}
use Rattle.tty_one.proofs.AskedWords.{not_modem_and_run, not_modem_and_one, not_modem_and_jobs, not_modem_and_gen}
use Rattle.tty_one.proofs.AskedWords.{not_modem_and_check, not_modem_and_vt}

-- logs that are the same on each port, and runs that are the same, are told alike
same_told : (session : ModemSession) (log other : ModemLog) (runs others : List PortRun) (ends : List PlainEnd)
    → ((p : ℕ) → p < session.ports → logged_on p log ≡ logged_on p other)
    → AreSame runs others
    → modem_report_text session log runs ends ≡ modem_report_text session other others ends
same_told session log other runs others ends same h =
    let calls = each_same (port_calls session log) (port_calls session other) 0 session.ports (λ p low high.
    ap (λ (ts : List ToldAnswer). calls_text own_verb p (names_on p (blocks_in session)) ts (scripts_in session))
    (told_same told_in p log other (same p (omega (arith, high))))) in
    let ports = all_ports (without_phases session.version session.ports session.flips) 0 runs others ends h in
    λ i. calls i ++ (ports i ++ (codes "done" ++ newline))

-- ---- of one session

-- a port that was played, with what is told of it
record IsToldPort (session : ModemSession) (log : ModemLog) (p : ℕ) (run : PortRun) (end : PlainEnd) : Type 0 where
  whole : IsWhole (IsOrderedWith session log) p (derived session log) run end
  logged : IsLoggedWhole (port_in session (derived session log) p run.journal.items) log

played_whole : (session : ModemSession) (log : ModemLog) (p : ℕ) (run : PortRun) (end : PlainEnd)
    → (h : IsToldPort session log p run end)
    → IsPlayedWhole p session log run h.whole.terminal
played_whole session log p run end h =
    record { legal = h.whole.legal; logged = h.logged; in_order = h.whole.in_order }

same_port : (session : ModemSession) (log other : ModemLog) (p : ℕ) (run again : PortRun) (end last : PlainEnd)
    → IsToldPort session log p run end
    → IsToldPort session other p again last
    → IsSameTold p log other run again end last
same_port session log other p run again end last h k =
    let same = one_port p session log other run again h.whole.terminal k.whole.terminal
    (played_whole session log p run end h) (played_whole session other p again last k) in
    record {
      run_same = same.run_same;
      end_same = h.whole.at_end ∙ (ap end_at same.terminal ∙ sym k.whole.at_end);
      log_same = same.log_same;
    }

report_of : (session : ModemSession) (back : Returned) (text : List ℕ)
    → AreModemLinesPlayed session back text
    → IsReportOf session.ports (modem_report_text session) (IsToldPort session (log_of back)) (log_of back)
    back.runs text
report_of session back text h = record {
  ends = h.told.ends;
  runs_of_all = h.told.runs_of_all;
  ends_of_all = h.told.ends_of_all;
  each = λ p run end is at. record { whole = h.told.each p run end is at; logged = h.logged p run is };
  told = h.told.told;
}

pub one_modem_report : (session : ModemSession) (back other : Returned) (text told : List ℕ)
    → AreModemLinesPlayed session back text
    → AreModemLinesPlayed session other told
    → text ≡ told
one_modem_report session back other text told h k =
    let log = log_of back in
    let log' = log_of other in
    one_logged_report session.ports (modem_report_text session) (IsToldPort session log) (IsToldPort session log') log
    log' back.runs other.runs text told
    (λ p run again end last x y. same_port session log log' p run again end last x y)
    (λ ends logs runs. same_told session log log' back.runs other.runs ends logs runs) (report_of session back text h)
    (report_of session other told k)

-- ---- two calls

modem_told : (words : List (List ℕ)) (bytes : List ℕ) (command : Command) (back : Returned) (text : List ℕ)
    → AskModem words
    → Ask command words
    → IsToldBy command (Some bytes) back text
    → IsToldOfModemLines (Some bytes) back text
modem_told words bytes (Run journals) back text modem asked told =
    absurd (not_modem_and_run words modem journals asked)
modem_told words bytes (RunOne journals) back text modem asked told =
    absurd (not_modem_and_one words modem journals asked)
modem_told words bytes Modem back text modem asked told = told
modem_told words bytes Jobs back text modem asked told = absurd (not_modem_and_jobs words modem asked)
modem_told words bytes (Gen number) back text modem asked told =
    absurd (not_modem_and_gen words modem (number, asked))
modem_told words bytes Check back text modem asked told = absurd (not_modem_and_check words modem asked)
modem_told words bytes Vt back text modem asked told = absurd (not_modem_and_vt words modem (inl asked))
modem_told words bytes VtOne back text modem asked told = absurd (not_modem_and_vt words modem (inr asked))

pub modem_lines_tell_the_same : (words : List (List ℕ)) (bytes before before' : List ℕ) (now now' : Option (List ℕ))
    (back other : Returned)
    → AskModem words
    → IsDone words (Some bytes) (Some before) now back
    → IsDone words (Some bytes) (Some before') now' other
    → GaveTheSame before before' now now'
modem_lines_tell_the_same words bytes before before' now now' back other modem h k =
    let first = modem_told words bytes h.command back h.text modem h.asked h.done in
    let second = modem_told words bytes k.command other k.text modem k.asked k.done in
    let one = subst (λ (read : List ℕ). modem_in read ≡ Ok first.session) first.whole first.spelled in
    let two = subst (λ (read : List ℕ). modem_in read ≡ Ok second.session) second.whole second.spelled in
    let same = same_ok first.session second.session (modem_in bytes) one two in
    both_gave before before' h.text k.text now now'
    (one_modem_report second.session back other h.text k.text
    (subst (λ (s : ModemSession). AreModemLinesPlayed s back h.text) same first.played) second.played)
    h.given k.given

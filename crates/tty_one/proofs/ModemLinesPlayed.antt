-- What became of a session of ports with modem lines that was played, as it is reported.
use Rattle.std.proofs.Common.{◌≡◌, ℕ, List, [], Option, Some, Result, Ok, Err, map, sym, ap, subst, ◌∙◌, arith}
use Rattle.std.specs.Prelude.{IfOk, slice_get}
use Rattle.std.proofs.lemmas.List.{length-map}
use Rattle.tty_base.specs.declared.buffers.NoMemory.{NoMemory}
use Rattle.tty_calls.specs.declared.answers.PortEnd.{PortEnd}
use Rattle.tty_calls.specs.declared.journals.PortRun.{PortRun}
use Rattle.tty_calls.specs.Sessions.{PlainSession, session_of}
use Rattle.session_print.specs.Ends.{end_of}
use Rattle.legal_runs.specs.Order.{AllSeeAll}
use Rattle.play_base.specs.Played.{ArePlayed}
use Rattle.passed_calls.specs.Within.{ArePassedWithin}
use Rattle.modem_text.specs.declared.sessions.ModemSession.{ModemSession as KeptSession}
use Rattle.modem_text.specs.Events.{ModemLog, logged_of}
use Rattle.modem_text.specs.Sessions.{ModemSession, modem_session_of}
use Rattle.modem_steps.specs.Derived.{derived}
use Rattle.modem_steps.specs.Order.{AreInModemTurn}
use Rattle.modem_one.specs.Played.{port_in, AreModemsPlayed, IsLoggedWhole}
use Rattle.modem_ports.specs.declared.running.ModemRan.{ModemRan}
use Rattle.further_report.specs.Modem.{modem_report_text}
use Rattle.tty_one.specs.declared.reading.Reading.{Reading}
use Rattle.tty_one.specs.declared.reading.Reading.TheVariants.{Of}
use Rattle.tty_one.specs.declared.works.Work.{Work}
use Rattle.tty_one.specs.declared.works.Ending.{Ending}
use Rattle.tty_one.specs.declared.works.Ending.TheVariants.{Done, BadSession, BadWords, ReadFault, TooLong, NotLegal}
use Rattle.tty_one.specs.Reported.{Returned, IsToldAs}
use Rattle.tty_one.specs.ModemLines.{given_to, IsOrderedWith, AreModemLinesPlayed}
use Rattle.tty_one.specs.Works.{brought, AreModemLinesRead, AreModemLinesWork, CanModemLinesBePlayed}
use Rattle.tty_one.specs.Works.{IsNeverFull, IsReportOfModemLines}
use Rattle.tty_one.proofs.ModemLinesRoom.{can_modem_lines_be_played}
use Rattle.tty_one.proofs.PortLemmas.{each_whole, there_too}
use Rattle.order_laws.specs.Sessions.{AreNotFull}

-- ---- a session

-- what was played of a port, whatever session this was
abbrev IsLoggedFor : (p : ℕ) → ModemSession → PlainSession → ModemLog → PortRun → Type 0
IsLoggedFor p session played log run = IsLoggedWhole (port_in session played p run.journal.items) log

module _ (session : ModemSession) (log : ModemLog) (runs : List PortRun) (ends : List PortEnd) (was : PlainSession)
    (can : CanModemLinesBePlayed session) (plays : AreModemsPlayed session log runs ends was)
    (within : ArePassedWithin (given_to session log runs)) where
  same_ports : session.ports ≡ was.ports
  same_ports = ap (λ (s : PlainSession). s.ports) (sym plays.is_played)

  never_full : IsNeverFull was
  never_full = subst IsNeverFull (sym plays.is_played) (can.never_full log runs within)

  not_full : AreNotFull runs
  not_full p run is = λ full.
      let end = there_too runs ends p run (plays.runs_of_all ∙ sym plays.ends_of_all) is in
      let on = (plays.each p run end.0 is end.1).played_on in
      let room = never_full p run on.terminal on.short in
      omega (arith, full, room)

  pub is_derived : was ≡ derived session log
  is_derived = plays.is_derived not_full

  ports_played : ArePlayed was runs ends
  ports_played = record {
    runs_of_all = plays.runs_of_all ∙ same_ports;
    ends_of_all = plays.ends_of_all ∙ same_ports;
    each = λ p run end is at. (plays.each p run end is at).played_on;
  }

  -- the entries and events of a port are in their turn, and its overruns have seen all, of the session that was derived
  turns_and_seen : (p : ℕ) (run : PortRun)
      → slice_get runs p ≡ Some run
      → AreInModemTurn was (port_in session was p run.journal.items) log
      × AllSeeAll p was run.journal.items run.line.overruns.items
  turns_and_seen p run is =
      let end = there_too runs ends p run (plays.runs_of_all ∙ sym plays.ends_of_all) is in
      let on = plays.each p run end.0 is end.1 in
      (on.logged.in_turn, on.seen (not_full p run is))

  ordered : (p : ℕ) (run : PortRun) → slice_get runs p ≡ Some run → IsOrderedWith session log p was run
  ordered p run is =
      let both = turns_and_seen p run is in
      let turns : AreInModemTurn (derived session log) (port_in session was p run.journal.items) log =
      subst (λ (s : PlainSession). AreInModemTurn s (port_in session was p run.journal.items) log) is_derived both.0 in
      let seen : AllSeeAll p (derived session log) run.journal.items run.line.overruns.items =
      subst (λ (s : PlainSession). AllSeeAll p s run.journal.items run.line.overruns.items) is_derived both.1 in
      record { turns = turns; seen = seen }

  told_of : (text : List ℕ)
      → text ≡ modem_report_text session log runs (map end_of ends)
      → IsToldAs (IsOrderedWith session log) (modem_report_text session log) was runs text
  told_of text told = record {
    ends = map end_of ends;
    runs_of_all = plays.runs_of_all ∙ same_ports;
    ends_of_all = length-map ends end_of ∙ (plays.ends_of_all ∙ same_ports);
    each = each_whole (IsOrderedWith session log) was runs ends never_full ports_played
        (λ p run is room. ordered p run is);
    told = told;
  }

  logs_of : (p : ℕ) (run : PortRun) → slice_get runs p ≡ Some run → IsLoggedFor p session was log run
  logs_of p run is =
      let end = there_too runs ends p run (plays.runs_of_all ∙ sym plays.ends_of_all) is in
      (plays.each p run end.0 is end.1).whole (not_full p run is)

  pub told_derived : (text : List ℕ)
      → text ≡ modem_report_text session log runs (map end_of ends)
      → IsToldAs (IsOrderedWith session log) (modem_report_text session log) (derived session log) runs text
  told_derived text told = subst
      (λ (s : PlainSession). IsToldAs (IsOrderedWith session log) (modem_report_text session log) s runs text)
      is_derived (told_of text told)

  pub logs_derived : (p : ℕ) (run : PortRun)
      → slice_get runs p ≡ Some run
      → IsLoggedFor p session (derived session log) log run
  logs_derived p run is = subst (λ (s : PlainSession). IsLoggedFor p session s log run) is_derived (logs_of p run is)

-- what a player of ports with modem lines returned
module _ (session : ModemSession) (ran : ModemRan) (can : CanModemLinesBePlayed session)
    (plays : AreModemsPlayed session (map logged_of ran.log.items) ran.runs.items ran.ends.items
    (session_of ran.derived))
    (within : ArePassedWithin (given_to session (map logged_of ran.log.items) ran.runs.items)) where
  abbrev back_of : Returned
  back_of = record {
    runs = ran.runs.items;
    entries = [];
    modem_log = ran.log.items;
    log = [];
    derived = Some (session_of ran.derived);
  }

  made : (text : List ℕ)
      → text ≡ modem_report_text session (map logged_of ran.log.items) ran.runs.items (map end_of ran.ends.items)
      → AreModemLinesPlayed session back_of text
  made text told =
      let log = map logged_of ran.log.items in
      let was = session_of ran.derived in
      record {
        told = told_derived session log ran.runs.items ran.ends.items was can plays within text told;
        logged = logs_derived session log ran.runs.items ran.ends.items was can plays within;
        derives = ap (λ (s : PlainSession). Some s)
            (is_derived session log ran.runs.items ran.ends.items was can plays within);
      }

  work_at : (e : Ending) (back : Returned)
      → IsReportOfModemLines session ran e
      → back ≡ back_of
      → AreModemLinesWork session e back
  work_at (Done text) back told same =
      subst (λ (b : Returned). AreModemLinesPlayed session b text.items) (sym same) (made text.items told)
  work_at (BadSession line) back told same = told
  work_at BadWords back told same = told
  work_at ReadFault back told same = told
  work_at TooLong back told same = told
  work_at (NotLegal line) back told same = told

  pub played_modem_lines : (r : Result Work NoMemory)
      → IfOk r (λ work. IsReportOfModemLines session ran work.ending)
      → IfOk r (λ work. brought work ≡ back_of)
      → IfOk r (λ work. AreModemLinesWork session work.ending (brought work))
  played_modem_lines (Ok work) told same = work_at work.ending (brought work) told same
  played_modem_lines (Err e) told same = told

-- ---- a text

-- a session of ports with modem lines that was read can be played
pub modem_lines_can : (faults now : ℕ) (left rest : Option (List ℕ)) (reading : Reading KeptSession)
    (session : KeptSession)
    → reading ≡ Of session
    → AreModemLinesRead reading faults now left rest
    → CanModemLinesBePlayed (modem_session_of session)
modem_lines_can faults now left rest reading session is h =
    let here = subst (λ (r : Reading KeptSession). AreModemLinesRead r faults now left rest) is h in
    can_modem_lines_be_played here.0.read (modem_session_of session) here.0.spelled here.0.few

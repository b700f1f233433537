-- What became of a session of consoles that was played, as it is reported.
use Rattle.std.proofs.Common.{◌≡◌, ℕ, List, Option, Result, Ok, Err, map, sym, ap, subst, ◌∙◌}
use Rattle.std.specs.Prelude.{IfOk}
use Rattle.std.proofs.lemmas.List.{length-map}
use Rattle.tty_base.specs.declared.buffers.NoMemory.{NoMemory}
use Rattle.tty_calls.specs.declared.journals.PortRun.{PortRun}
use Rattle.tty_calls.specs.Sessions.{PlainSession}
use Rattle.session_print.specs.Ends.{end_of}
use Rattle.vt_text.specs.declared.sessions.VtSession.{VtSession}
use Rattle.vt_text.specs.Sessions.{PlainVtSession, vt_session_of}
use Rattle.vt_account.specs.Keyed.{keyed}
use Rattle.vt_one.specs.declared.playing.VtPlayed.{VtPlayed}
use Rattle.vt_one.specs.Played.{IsVtPlayed, IsVtInOrder}
use Rattle.vt_report.specs.Report.{report_text}
use Rattle.vt_report.proofs.Played.{same_report}
use Rattle.tty_one.specs.declared.reading.Reading.{Reading}
use Rattle.tty_one.specs.declared.reading.Reading.TheVariants.{Of}
use Rattle.tty_one.specs.declared.works.Work.{Work}
use Rattle.tty_one.specs.declared.works.Ending.{Ending}
use Rattle.tty_one.specs.declared.works.Ending.TheVariants.{Done, BadSession, BadWords, ReadFault, TooLong, NotLegal}
use Rattle.tty_one.specs.Reported.{Returned, IsOrdered, IsInAnyOrder}
use Rattle.tty_one.specs.Consoles.{AreConsolesPlayed, AreConsolesInOrder, AreConsolesOnThreads}
use Rattle.tty_one.specs.Works.{brought, of_consoles, AreConsolesRead, CanBePlayed, IsConsolesWork, IsReportOf}
use Rattle.tty_one.proofs.ConsolesRoom.{can_be_played}
use Rattle.tty_one.proofs.PortLemmas.{AreOrdered, each_whole}

-- ---- a session

-- what playing consoles brings
abbrev back_of : VtPlayed → Returned
back_of played = of_consoles played.consoles.runs.items played.board.entries

-- the report of consoles that were played
abbrev told_of : PlainVtSession → VtPlayed → List ℕ
told_of session played =
    report_text session played.board.entries played.consoles.runs.items (map end_of played.consoles.ends.items)

-- the work on what was played
module _ (ArePlayed : Returned → List ℕ → Type 0) (session : PlainVtSession) (played : VtPlayed)
    (reports : (text : List ℕ) → text ≡ told_of session played → ArePlayed (back_of played) text) where
  work_at : (e : Ending) (back : Returned)
      → IsReportOf session played e
      → back ≡ back_of played
      → IsConsolesWork ArePlayed e back
  work_at (Done text) back told same =
      subst (λ (b : Returned). ArePlayed b text.items) (sym same) (reports text.items told)
  work_at (BadSession line) back told same = told
  work_at BadWords back told same = told
  work_at ReadFault back told same = told
  work_at TooLong back told same = told
  work_at (NotLegal line) back told same = told

  report_works : (r : Result Work NoMemory)
      → IfOk r (λ work. IsReportOf session played work.ending)
      → IfOk r (λ work. brought work ≡ back_of played)
      → IfOk r (λ work. IsConsolesWork ArePlayed work.ending (brought work))
  report_works (Ok work) told same = work_at work.ending (brought work) told same
  report_works (Err e) told same = told

module _ (session : PlainVtSession) (played : VtPlayed) (can : CanBePlayed session)
    (plays : IsVtPlayed session played.board.entries played.consoles.runs.items played.consoles.ends.items) where
  reported : (InOrder : ℕ → PlainSession → PortRun → Type 0) (text : List ℕ)
      → AreOrdered InOrder (keyed session played.board.entries) played.consoles.runs.items
      → text ≡ told_of session played
      → AreConsolesPlayed InOrder session (back_of played) text
  reported InOrder text ordered told =
      record {
        account = plays.account;
        told = record {
          ends = map end_of played.consoles.ends.items;
          runs_of_all = plays.consoles.runs_of_all;
          ends_of_all = length-map played.consoles.ends.items end_of ∙ plays.consoles.ends_of_all;
          each = each_whole InOrder (keyed session played.board.entries) played.consoles.runs.items
              played.consoles.ends.items (can.never_full played.board.entries) plays.consoles ordered;
          told = told;
        };
      }

  pub played_on_threads : (r : Result Work NoMemory)
      → IfOk r (λ work. IsReportOf session played work.ending)
      → IfOk r (λ work. brought work ≡ back_of played)
      → IfOk r (λ work. IsConsolesWork (AreConsolesOnThreads session) work.ending (brought work))
  played_on_threads = report_works (AreConsolesOnThreads session) session played
      (λ text told. reported IsInAnyOrder text (λ p run is room. tt) told)

  -- where the session's calls are afterwards those that its consoles played
  pub played_in_order : (now : PlainVtSession) (r : Result Work NoMemory)
      → IsVtInOrder session played.board.entries played.consoles.runs.items
      → now.calls ≡ keyed session played.board.entries
      → now.phases ≡ session.phases
      → IfOk r (λ work. IsReportOf now played work.ending)
      → IfOk r (λ work. brought work ≡ back_of played)
      → IfOk r (λ work. IsConsolesWork (AreConsolesInOrder session) work.ending (brought work))
  played_in_order now r ordered calls phases =
      report_works (AreConsolesInOrder session) now played (λ text told. record {
        in_order = ordered.board;
        played = reported IsOrdered text (λ p run is. (ordered.consoles p run is).whole) (told ∙ told_now);
      }) r
    where
      told_now : told_of now played ≡ told_of session played
      told_now =
          let same : now ≡ record session { calls = keyed session played.board.entries } = λ i.
          record { calls = calls i; phases = phases i } in
          ap (λ (s : PlainVtSession). told_of s played) same
          ∙ same_report session played.board.entries played.consoles.runs.items
          (map end_of played.consoles.ends.items) can.within.whole

-- ---- a text

-- a session of consoles that was read can be played
pub consoles_can : (faults now : ℕ) (left rest : Option (List ℕ)) (reading : Reading VtSession) (session : VtSession)
    → reading ≡ Of session
    → AreConsolesRead reading faults now left rest
    → CanBePlayed (vt_session_of session)
consoles_can faults now left rest reading session is h =
    let here = subst (λ (r : Reading VtSession). AreConsolesRead r faults now left rest) is h in
    can_be_played here.0.read (vt_session_of session) here.0.spelled here.0.few

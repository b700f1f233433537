-- Two reports of one session whose ports have logs are the same where its ports are.
use Rattle.std.proofs.Common.{◌≡◌, ◌<◌, ℕ, List, Some, Result, Ok, length, sym, ◌∙◌, ap, arith}
use Rattle.std.specs.Prelude.{slice_get}
use Rattle.tty_calls.specs.declared.journals.PortRun.{PortRun}
use Rattle.session_text.specs.declared.faults.BadLine.{BadLine}
use Rattle.session_print.specs.Ends.{PlainEnd}
use Rattle.order_laws.specs.Lost.{IsSameRun}
use Rattle.passed_calls.specs.declared.logs.Logged.{Logged}
use Rattle.passed_calls.specs.Logs.{logged_on}
use Rattle.tty_one.proofs.LogsAlike.{some_at}
use Rattle.tty_one.proofs.OneReport.{AreSame, OneEach, all_one}

-- a port that was played twice has the same run, end and log
pub record IsSameTold {E : Type 0} (p : ℕ) (log other : List (Logged E)) (run again : PortRun) (end last : PlainEnd)
    : Type 0 where
  pub run_same : IsSameRun run again
  pub end_same : end ≡ last
  pub log_same : logged_on p log ≡ logged_on p other

-- a report of the ports of a session, of each of which something is known
pub record IsReportOf {E : Type 0} (ports : ℕ) (report : List (Logged E) → List PortRun → List PlainEnd → List ℕ)
    (Known : ℕ → PortRun → PlainEnd → Type 0) (log : List (Logged E)) (runs : List PortRun) (text : List ℕ)
    : Type 0 where
  pub ends : List PlainEnd
  pub runs_of_all : length runs ≡ ports
  pub ends_of_all : length ends ≡ ports
  pub each : (p : ℕ) (run : PortRun) (end : PlainEnd)
      → slice_get runs p ≡ Some run
      → slice_get ends p ≡ Some end
      → Known p run end
  pub told : text ≡ report log runs ends

pub one_logged_report : {E : Type 0} (ports : ℕ) (report : List (Logged E) → List PortRun → List PlainEnd → List ℕ)
    (Known Again : ℕ → PortRun → PlainEnd → Type 0) (log other : List (Logged E)) (runs others : List PortRun)
    (text told : List ℕ)
    → ((p : ℕ) (run again : PortRun) (end last : PlainEnd)
    → Known p run end
    → Again p again last
    → IsSameTold p log other run again end last)
    → ((ends : List PlainEnd)
    → ((p : ℕ) → p < ports → logged_on p log ≡ logged_on p other)
    → AreSame runs others
    → report log runs ends ≡ report other others ends)
    → IsReportOf ports report Known log runs text
    → IsReportOf ports report Again other others told
    → text ≡ told
one_logged_report ports report Known Again log other runs others text told same alike h k =
    let first : OneEach Known runs h.ends = record { count = h.ends_of_all ∙ sym h.runs_of_all; each = h.each } in
    let second : OneEach Again others k.ends = record { count = k.ends_of_all ∙ sym k.runs_of_all; each = k.each } in
    let all = all_one Known Again
    (λ p run again end last x y. let its = same p run again end last x y in (its.run_same, its.end_same))
    runs others h.ends k.ends (h.runs_of_all ∙ sym k.runs_of_all) first second in
    let logs : (p : ℕ) → p < ports → logged_on p log ≡ logged_on p other = λ p lt.
    let run = some_at runs p (omega (arith, lt, h.runs_of_all)) in
    let end = some_at h.ends p (omega (arith, lt, h.ends_of_all)) in
    let again = some_at others p (omega (arith, lt, k.runs_of_all)) in
    let last = some_at k.ends p (omega (arith, lt, k.ends_of_all)) in
    let its = same p run.0 again.0 end.0 last.0 (h.each p run.0 end.0 run.1 end.1)
    (k.each p again.0 last.0 again.1 last.1) in
    its.log_same in
    h.told
    ∙ (alike h.ends logs all.0 ∙ (ap (λ (es : List PlainEnd). report other others es) all.1 ∙ sym k.told))

-- ---- what a text spells

abbrev as_read : {A : Type 0} → A → Result A BadLine
as_read x = Ok x

pub same_ok : {A : Type 0} (one other : A) (r : Result A BadLine) → r ≡ Ok one → r ≡ Ok other → one ≡ other
same_ok {A} one other r h k = ok_same (sym h ∙ k)
  where
    ok_same : as_read one ≡ as_read other → one ≡ other
    ok_same e = cc

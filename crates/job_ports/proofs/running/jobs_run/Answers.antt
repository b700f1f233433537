use Rattle.std.proofs.Common.{◌≡◌, List, map, sym, ap, ◌∙◌, subst}
use Rattle.tty_calls.specs.declared.journals.PortRun.{PortRun}
use Rattle.tty_calls.specs.Sessions.{PlainSession, session_of}
use Rattle.passed_calls.specs.Within.{ArePassedWithin}
use Rattle.job_text.specs.Events.{JobLog, logged_of}
use Rattle.job_text.specs.Sessions.{jobs_session_of}
use Rattle.job_one.specs.Played.{AreJobsPlayed, derived_with, all_passed}
use Rattle.job_ports.proofs.Joining.{all_played, all_within}
use Rattle.job_ports.proofs.running.jobs_run.Goals as goal
use Rattle.order_laws.specs.Sessions.{journal_on}

pub derive_session-requires-clause-passed : goal.derive_session-requires-clause-passed
derive_session-requires-clause-passed c =
    let session = jobs_session_of c.args.session.now in
    let log : JobLog = map logged_of c.in_ok-ran.ran.log.items in
    let runs = c.in_ok-ran.ran.runs.items in
    let log_is : map logged_of c.as_slice.result.now ≡ log = ap (map logged_of) c.as_slice.ensures.value in
    let all = all_within session log runs c.in_ok-ran.ran.ends.items c.in_ok-ran.ensures in
    subst
    (λ (ls : JobLog).
    ArePassedWithin (λ p. all_passed session ls p (journal_on c.as_slice-2.result.now p))) (sym log_is)
    (subst (λ (rs : List PortRun). ArePassedWithin (λ p. all_passed session log p (journal_on rs p)))
    (sym c.as_slice-2.ensures) all)

pub returns-clause-played : goal.returns-clause-played
returns-clause-played c =
    let session = jobs_session_of c.args.session.now in
    let log : JobLog = map logged_of c.in_ok-ran.ran.log.items in
    let runs = c.in_ok-ran.ran.runs.items in
    let ends = c.in_ok-ran.ran.ends.items in
    let log_is : map logged_of c.from_vec.result.items ≡ log =
    ap (λ b. map logged_of b.items) c.from_vec.ensures in
    let played = all_played session log runs ends c.requires c.in_ok-ran.ensures in
    subst (λ (ls : JobLog). AreJobsPlayed session ls runs ends (session_of c.in_ok-derived.derived)) (sym log_is)
    (subst (λ (derived : PlainSession). AreJobsPlayed session log runs ends derived)
    (sym (c.in_ok-derived.ensures
    ∙ λ i. derived_with session (map logged_of (c.as_slice.ensures.value i)) (c.as_slice-2.ensures i))) played)

pub returns-clause-within : goal.returns-clause-within
returns-clause-within c =
    let session = jobs_session_of c.args.session.now in
    let log : JobLog = map logged_of c.in_ok-ran.ran.log.items in
    let runs = c.in_ok-ran.ran.runs.items in
    let log_is : map logged_of c.from_vec.result.items ≡ log =
    ap (λ b. map logged_of b.items) c.from_vec.ensures in
    subst (λ (ls : JobLog). ArePassedWithin (λ p. all_passed session ls p (journal_on runs p))) (sym log_is)
    (all_within session log runs c.in_ok-ran.ran.ends.items c.in_ok-ran.ensures)

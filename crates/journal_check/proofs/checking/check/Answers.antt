use Rattle.std.proofs.Common.{◌+◌, ◌<◌, ℕ, length, ◌∙◌, sym, ap, subst, arith}
use Rattle.std.proofs.lemmas.List.Elements.{All-get_or}
use Rattle.tty_calls.specs.Sessions.{session_of}
use Rattle.journal_check.specs.declared.checking.Finding.{Finding}
use Rattle.journal_check.specs.Findings.{Finds, first_found}
use Rattle.journal_check.specs.Verdicts.{IsCountable, FirstIsWrong}
use Rattle.journal_check.proofs.CheckLemmas.{SoFar, so_far_legal, so_far_account}
use Rattle.journal_check.proofs.CheckLemmas.{is_wrong_there, all_legal, not_all_legal}
use Rattle.journal_check.proofs.checking.check.Goals as goal
use Rattle.journal_check.proofs.checking.check.Goals.{in-Legal, in-Account}

pub bounds-runs-place : goal.bounds-runs-place
bounds-runs-place c = omega (arith, c.from-place.ensures, c.loop-port-test.true, c.requires.runs)

pub judge_run-requires-clause-few : goal.judge_run-requires-clause-few
judge_run-requires-clause-few c =
    let within : c.from-place.result < length c.args.runs.now =
    omega (arith, c.from-place.ensures, c.loop-port-test.true, c.requires.runs) in
    subst IsCountable (sym c.index-runs-place.is)
    (All-get_or IsCountable c.args.runs.now c.from-place.result c.index-runs-place.result within c.requires.few)

pub returns-in-Wrong : goal.returns-in-Wrong
returns-in-Wrong c =
    let within : c.from-place.result < length c.args.runs.now =
    omega (arith, c.from-place.ensures, c.loop-port-test.true, c.requires.runs) in
    let so_far = subst (λ (q : ℕ). SoFar (session_of c.args.session.now) c.args.runs.now q c.loop-port.account)
    (sym c.from-place.ensures) c.loop-port.invariant in
    subst (λ (q : ℕ). FirstIsWrong (session_of c.args.session.now) c.args.runs.now q c.in-Wrong.entry)
    c.from-place.ensures
    (is_wrong_there (session_of c.args.session.now) c.args.runs.now c.from-place.result c.in-Wrong.entry
    c.index-runs-place.result c.loop-port.account within c.index-runs-place.is so_far
    (subst (λ (f : Finding). Finds c.from-place.result (session_of c.args.session.now) c.index-runs-place.result f)
    c.in-Wrong.is c.in_ok-judge_run.ensures))

pub loop-port-preserved : goal.loop-port-preserved
loop-port-preserved c =
    let within : c.from-place.result < length c.args.runs.now =
    omega (arith, c.from-place.ensures, c.loop-port-test.true, c.requires.runs) in
    let so_far = subst (λ (q : ℕ). SoFar (session_of c.args.session.now) c.args.runs.now q c.loop-port.account)
    (sym c.from-place.ensures) c.loop-port.invariant in
    subst (λ (q : ℕ). SoFar (session_of c.args.session.now) c.args.runs.now (q + 1) c.match-branch-2.account)
    c.from-place.ensures
    (elim c.match-branch-2.branch [
      | in-Legal w ↦ so_far_legal (session_of c.args.session.now) c.args.runs.now c.from-place.result
          c.index-runs-place.result c.loop-port.account c.match-branch-2.account within c.index-runs-place.is so_far
          (subst
          (λ (f : Finding). Finds c.from-place.result (session_of c.args.session.now) c.index-runs-place.result f)
          w.in-Legal.is c.in_ok-judge_run.ensures) w.account-is
      | in-Account w ↦ so_far_account (session_of c.args.session.now) c.args.runs.now c.from-place.result
          c.index-runs-place.result c.loop-port.account c.match-branch-2.account within c.index-runs-place.is so_far
          (subst
          (λ (f : Finding). Finds c.from-place.result (session_of c.args.session.now) c.index-runs-place.result f)
          w.in-Account.is c.in_ok-judge_run.ensures)
          (w.account-is
          ∙ (w.first_of-account.ensures ∙ ap (first_found c.loop-port.account) (sym c.from-place.ensures)))
    ])

pub returns-in-None : goal.returns-in-None
returns-in-None c = all_legal (session_of c.args.session.now) c.args.runs.now c.loop-port.port c.loop-port.account
    (omega (arith, c.loop-port-test.false, c.requires.runs)) c.in-None.is c.loop-port.invariant

pub returns-in-Some : goal.returns-in-Some
returns-in-Some c = not_all_legal (session_of c.args.session.now) c.args.runs.now c.loop-port.port c.in-Some.port
    c.loop-port.account (omega (arith, c.loop-port-test.false, c.requires.runs)) c.in-Some.is c.loop-port.invariant

use Rattle.std.proofs.Common.{length, map, ap, sym, ◌∙◌, subst, arith}
use Rattle.std.specs.Prelude.{List, All}
use Rattle.std.proofs.lemmas.List.{length-map}
use Rattle.tty_calls.specs.declared.journals.PortRun.{PortRun}
use Rattle.tty_calls.specs.Sessions.{session_of}
use Rattle.check_text.specs.Runs.{run_of}
use Rattle.check_text.proofs.Within.{session_within, run_for_each}
use Rattle.journal_check.specs.Verdicts.{IsCountable}
use Rattle.journal_check.proofs.WellFormedLemmas.{within_limits_are_well_formed}
use Rattle.tty_one.proofs.judging.judged_text.Goals as goal

pub check-requires-clause-runs : goal.check-requires-clause-runs
check-requires-clause-runs c =
    ap length c.as_slice.ensures.value
    ∙ sym (length-map c.in-Ok.runs.items run_of)
    ∙ run_for_each c.args.text.now (session_of c.in-Ok.session) (map run_of c.in-Ok.runs.items) c.in-Ok.ensures.ok

pub check-requires-clause-formed : goal.check-requires-clause-formed
check-requires-clause-formed c =
    within_limits_are_well_formed (session_of c.in-Ok.session)
    (session_within c.args.text.now (session_of c.in-Ok.session) (map run_of c.in-Ok.runs.items) c.in-Ok.ensures.ok)

pub check-requires-clause-few : goal.check-requires-clause-few
check-requires-clause-few c =
    subst (λ (runs : List PortRun). All IsCountable runs) (sym c.as_slice.ensures.value)
    (λ k d lt. let few = c.in-Ok.ensures.short k d lt in omega (arith, few, c.requires))

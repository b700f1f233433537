use Rattle.std.proofs.Common.{ℕ, ◌+◌, nat_eq, length, get_or, sym, ◌∙◌, ap, arith}
use Rattle.tty_calls.specs.Plain.{entry_of}
use Rattle.tty_calls.specs.Sessions.{session_of, ticks_on}
use Rattle.legal_runs.specs.Legal.{phase_at}
use Rattle.journal_check.specs.Finishing.{may_go}
use Rattle.journal_check.proofs.WalkLemmas.{last_hangup, not_last, not_well, well_more}
use Rattle.journal_check.proofs.finishing.goes_well.Goals as goal

pub returns-then-is_hangup : goal.returns-then-is_hangup
returns-then-is_hangup c =
    ap (λ (n : ℕ). nat_eq (c.loop-place.place + 1) n) c.len.ensures
    ∙ last_hangup (λ k. get_or c.args.sents.now k 0)
    (λ k. ticks_on c.args.port (phase_at (session_of c.args.session.now) k))
    (length (session_of c.args.session.now).phases) c.loop-place.phase c.loop-place.passed c.args.journal.now.items
    c.loop-place.place (entry_of c.at-entry.result)
    c.at-entry.ensures (omega (arith, c.if-phase-sents.true, c.requires))
    (sym c.is_hangup.ensures ∙ c.if-is_hangup.true)
    ∙ c.loop-place.invariant.goes

pub returns-else-is_hangup : goal.returns-else-is_hangup
returns-else-is_hangup c =
    c.if-is_hangup.false
    ∙ not_last (λ k. get_or c.args.sents.now k 0)
    (λ k. ticks_on c.args.port (phase_at (session_of c.args.session.now) k))
    (length (session_of c.args.session.now).phases) c.loop-place.phase c.loop-place.passed c.args.journal.now.items
    c.loop-place.place (entry_of c.at-entry.result)
    c.at-entry.ensures (omega (arith, c.if-phase-sents.true, c.requires))
    (sym c.is_hangup.ensures ∙ c.if-is_hangup.false)
    ∙ c.loop-place.invariant.goes

pub returns-then-not-may_go : goal.returns-then-not-may_go
returns-then-not-may_go c =
    not_well (λ k. get_or c.args.sents.now k 0) (λ k. ticks_on c.args.port (phase_at (session_of c.args.session.now) k))
    (length (session_of c.args.session.now).phases) c.loop-place.phase c.loop-place.passed c.args.journal.now.items
    c.loop-place.place (entry_of c.at-entry.result)
    c.at-entry.ensures (omega (arith, c.if-phase-sents.false, c.requires))
    (ap (λ (n : ℕ).
    may_go (entry_of c.at-entry.result).event (get_or c.args.sents.now c.loop-place.phase 0) n c.loop-place.passed)
    (sym c.ticks_in.ensures)
    ∙ (sym c.may_go.ensures ∙ c.if-not-may_go.true))
    ∙ c.loop-place.invariant.goes

pub loop-place-preserved : goal.loop-place-preserved
loop-place-preserved c =
    let i = c.loop-place.invariant in
    record {
      goes = well_more (λ k. get_or c.args.sents.now k 0)
          (λ k. ticks_on c.args.port (phase_at (session_of c.args.session.now) k))
          (length (session_of c.args.session.now).phases) c.loop-place.phase c.loop-place.passed
          c.phase_then-phase.result c.ticks_so_far-passed.result c.args.journal.now.items c.loop-place.place
          (entry_of c.at-entry.result)
          c.at-entry.ensures (omega (arith, c.if-phase-sents.false, c.requires))
          (ap (λ (n : ℕ). may_go (entry_of c.at-entry.result).event (get_or c.args.sents.now c.loop-place.phase 0)
          n c.loop-place.passed)
          (sym c.ticks_in.ensures)
          ∙ (sym c.may_go.ensures ∙ c.if-not-may_go.false))
          c.phase_then-phase.ensures.value c.ticks_so_far-passed.ensures.value
          ∙ i.goes;
      phases = omega (arith, i.phases, c.phase_then-phase.ensures.most);
      few = omega (arith, i.few, c.ticks_so_far-passed.ensures.most);
    }

use Rattle.std.proofs.Common.{◌≡◌, replicate, rules, ◌∙◌}
use Rattle.journal_check.specs.Scripts.{no_turn}
use Rattle.tty_calls.specs.Sessions.{session_of}
use Rattle.journal_check.proofs.JudgingLemmas.{first_idle}
use Rattle.journal_check.proofs.judging.first_turns.Goals as goal

pub begin_phase-requires-clause-idle : goal.begin_phase-requires-clause-idle
begin_phase-requires-clause-idle c =
    let made : c.in_ok-turns.turns.items ≡ replicate c.args.callers no_turn = search rules in
    first_idle c.args.port (session_of c.args.session.now) c.args.callers c.as_mut_slice.result.now c.requires.callers
    (c.as_mut_slice.ensures.value ∙ made)

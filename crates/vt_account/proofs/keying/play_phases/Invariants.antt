use Rattle.std.proofs.Common.{map}
use Rattle.tty_calls.specs.Sessions.{phase_of}
use Rattle.vt_text.specs.Sessions.{vt_phase_of}
use Rattle.vt_account.specs.Played.{HasPlayed}
use Rattle.vt_account.proofs.keying.play_phases.Given as goal

abbrev pub invariant-loop-k : goal.invariant-loop-k
invariant-loop-k l = HasPlayed l.names (map vt_phase_of l.keyboards) l.k l.first l.initial.board l.board
    (map phase_of l.initial.phases) (map phase_of l.phases)

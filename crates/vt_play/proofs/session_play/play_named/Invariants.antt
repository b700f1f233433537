use Rattle.vt_text.specs.Sessions.{vt_session_of}
use Rattle.vt_play.specs.Phases.{IsVtBefore}
use Rattle.vt_play.proofs.session_play.play_named.Given as goal

abbrev pub invariant-loop-k : goal.invariant-loop-k
invariant-loop-k g l = record { before : IsVtBefore (vt_session_of l.session) l.k l.in_play }

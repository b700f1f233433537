use Rattle.play_base.specs.Played.{ArePlayed}
use Rattle.many_threads.proofs.Onward.{at_ok}
use Rattle.vt_play.proofs.Overs.{can_end_over, vt_played}
use Rattle.vt_play.proofs.playing.end.Goals as goal

pub end_all-played-requires : goal.end_all-played-requires
end_all-played-requires c = can_end_over c.requires.0 c.args.in_play c.requires.1

pub returns : goal.returns
returns c session over =
    vt_played session c.args.in_play c.in_ok-board.board c.in_ok-board.consoles over c.in_ok-board.ensures.kept
    (λ x count stand. at_ok c.end_all-played.result c.in_ok-board.consoles (λ p. ArePlayed x p.runs.items p.ends.items)
    c.in_ok-board.ensures.made (c.end_all-played.ensures x count stand))

use Rattle.std.proofs.Common.{rules, refl, subst}
use Rattle.play_base.specs.Roles.{scene_of}
use Rattle.many_threads.specs.InPlay.{IsBeforePhase, WerePlayedBefore}
use Rattle.many_threads.specs.declared.shared_phase.PhaseEnd.{PhaseEnd}
use Rattle.threads_play.proofs.ports.play_phase.Goals as goal

pub play_on-requires : goal.play_on-requires
play_on-requires g c κs within =
    let s = scene_of c.args.port.number c.args.session.now in
    let station = c.args.port.station in
    let in_play = c.requires.in_play in
    let before : IsBeforePhase s c.args.k station c.in-Over.run' =
    subst (λ (end : PhaseEnd). WerePlayedBefore s c.args.k station end) c.in-Over.is in_play.stands in (
      search rules,
      (
        search rules,
        (
          search rules,
          (
            search rules,
            (
              refl,
              (
                c.requires.within,
                (
                  c.requires.phase,
                  (
                    c.requires.known,
                    (in_play.names, (in_play.callers, before)),
                  ),
                ),
              ),
            ),
          ),
        ),
      ),
    )

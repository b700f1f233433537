use Rattle.std.proofs.Common.{refl, ap, ◌∙◌}
use Rattle.std.specs.Prelude.{sum}
use Rattle.play_base.specs.Roles.{scene_of}
use Rattle.many_threads.proofs.Onward.{opened_before}
use Rattle.threads_play.proofs.ports.open.Goals as goal

pub returns : goal.returns
returns c = record {
  number = refl;
  names = c.in_ok-names.ensures;
  callers = c.caller_count-callers.ensures ∙ ap sum (c.as_slice.ensures.value ∙ c.in_ok-counts.ensures);
  stands = opened_before (scene_of c.args.number c.args.session.now) c.in_ok-station.station c.in_ok-station.ensures;
}

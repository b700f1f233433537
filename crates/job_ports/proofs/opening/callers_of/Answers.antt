use Rattle.std.proofs.Common.{◌≡◌, ◌-◌, ℕ, List, ap, ◌∙◌, arith}
use Rattle.std.specs.Vec.{with_items}
use Rattle.std.proofs.lemmas.List.{with_items_is}
use Rattle.tty_calls.specs.Sessions.{number_in}
use Rattle.job_ports.specs.Callers.{with_proc}
use Rattle.job_ports.proofs.Opened.{all_noted, one_noted}
use Rattle.job_ports.proofs.opening.callers_of.Goals as goal

pub loop-left-preserved : goal.loop-left-preserved
loop-left-preserved c =
    let at = c.loop-left in
    let names = c.args.names.now in
    let x = c.index-procs-left.result in
    let place = at.left - 1 in
    let new = c.note_proc.new.callers in
    let more = c.loop-left-test.true in
    let within = at.invariant.within in
    let written : (with_items at.callers new).items ≡ new =
    with_items_is at.callers new (c.note_proc.auto.callers ∙ c.as_mut_slice.ensures.len) in
    record {
      noted = one_noted c.args.procs.now names at.left place at.callers.items (with_items at.callers new).items x
          c.requires.once (omega (arith, more)) c.index-procs-left.is (omega (arith, more, within))
          (written
          ∙ (c.note_proc.ensures
          ∙ ap (λ (cs : List ℕ). with_proc cs (number_in names x.name.bytes) place) c.as_mut_slice.ensures.value))
          at.invariant.noted;
      within = omega (arith, within);
    }

pub returns : goal.returns
returns c =
    all_noted c.args.procs.now c.args.names.now c.loop-left.left c.loop-left.callers.items
    (omega (arith, c.loop-left-test.false)) c.loop-left.invariant.noted

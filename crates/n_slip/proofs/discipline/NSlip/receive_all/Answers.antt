use Rattle.std.proofs.Common.{◌≡◌, ◌∙◌, ◌+◌, take, drop, map, ◌++◌, ap, sym, subst, arith, length, length-drop}
use Rattle.std.proofs.lemmas.List.{drop-drop, drop_all}
use Rattle.flow_control.specs.declared.tally.Tally.{Tally}
use Rattle.n_slip.specs.Discipline.{Slip, after_characters, counts_after_characters}
use Rattle.n_slip.specs.History.{character, HasSeen}
use Rattle.n_slip.proofs.FrontLemmas.{front_first, front_counted, HasSeen-characters}
use Rattle.n_slip.proofs.discipline.NSlip.receive_all.Goals as goal

pub loop-done-preserved : goal.loop-done-preserved
loop-done-preserved c =
    let i = c.loop-done.invariant in
    let chars = c.args.chars.now in
    let done = c.loop-done.done in
    let slip : Slip = c.loop-done.self in
    let before : Tally = c.loop-done.tally in
    let some = c.receive_some-done in
    let count = some.result in
    let made = some.ensures in
    let next : some.new.self ≡ after_characters slip (take count (drop done chars)) =
    made.after ∙ ap (λ cs. after_characters slip (take count cs)) c.rest_of.ensures in
    let counted : some.new.tally.counts ≡ counts_after_characters slip (take count (drop done chars)) before.counts =
    ap (λ (t : Tally). t.counts) made.counts
    ∙ ap (λ cs. counts_after_characters slip (take count cs) before.counts) c.rest_of.ensures in
    let left : drop (done + count) chars ≡ drop count (drop done chars) = sym (drop-drop count done chars) in
    record {
      bound = omega (arith, i.bound, made.within, ap length c.rest_of.ensures, length-drop done chars);
      after = (λ k. after_characters (next k) (left k)) ∙ front_first count (drop done chars) slip ∙ i.after;
      counts =
          (λ k. counts_after_characters (next k) (left k) (counted k))
          ∙ front_counted count (drop done chars) slip before.counts
          ∙ i.counts;
      signals = ap (λ (t : Tally). t.signals) made.counts ∙ i.signals;
    }

pub returns-clause-after : goal.returns-clause-after
returns-clause-after c =
    let slip : Slip = c.loop-done.self in
    sym
    (ap (after_characters slip) (drop_all c.loop-done.done c.args.chars.now (omega (arith, c.loop-done-test.false))))
    ∙ c.loop-done.invariant.after

pub returns-clause-counts : goal.returns-clause-counts
returns-clause-counts c =
    let slip : Slip = c.loop-done.self in
    let left : Tally = c.loop-done.tally in
    let counted : left.counts ≡ counts_after_characters c.args.self.now c.args.chars.now c.args.tally.now.counts =
    sym (ap (λ cs. counts_after_characters slip cs left.counts)
    (drop_all c.loop-done.done c.args.chars.now (omega (arith, c.loop-done-test.false))))
    ∙ c.loop-done.invariant.counts in
    λ k. record { counts = counted k; signals = c.loop-done.invariant.signals k }

pub returns-clause-seen : goal.returns-clause-seen
returns-clause-seen c events h =
    let slip : Slip = c.loop-done.self in
    let after : slip ≡ after_characters c.args.self.now c.args.chars.now =
    sym
    (ap (after_characters slip) (drop_all c.loop-done.done c.args.chars.now (omega (arith, c.loop-done-test.false))))
    ∙ c.loop-done.invariant.after in
    subst (λ (s : Slip). HasSeen s (events ++ map character c.args.chars.now)) (sym after)
    (HasSeen-characters c.args.self.now events c.args.chars.now h)

use Rattle.std.proofs.Common.{◌+◌, sym, ◌∙◌, ap, arith}
use Rattle.tty_base.specs.Contents.{Contents}
use Rattle.tty_base.specs.declared.characters.Flag.TheVariants as flag
use Rattle.tty_base.specs.declared.characters.Flagged.{Flagged}
use Rattle.journal_check.proofs.AccountLemmas.{KeepsOn, keeps_skip, keeps_add}
use Rattle.journal_check.proofs.lines.keep.Goals as goal
use Rattle.journal_check.proofs.lines.keep.Goals.{then-is_next_at, else-is_next_at}

abbrev no_character : Flagged
no_character = record { byte = 0; flag = flag.Normal }

pub loop-offset-preserved : goal.loop-offset-preserved
loop-offset-preserved c =
    let i = c.loop-offset.invariant in
    elim c.if-is_next_at.branch [
      | then-is_next_at w ↦ (let on : KeepsOn c.args.kept.now.items c.args.place c.args.chars.now c.args.overruns.now
          (c.loop-offset.offset + 1) c.if-is_next_at.next c.if-is_next_at.kept.items =
          keeps_skip c.args.kept.now.items c.args.place c.args.chars.now c.args.overruns.now c.loop-offset.offset
          c.loop-offset.next c.if-is_next_at.next c.loop-offset.kept.items c.if-is_next_at.kept.items
          no_character c.loop-offset-test.true
          (sym c.is_next_at.ensures.value ∙ w.if-is_next_at.true) w.next-is
          (ap (λ (k : Contents Flagged). k.items) w.kept-is) i.kept i.rest in
          record {
            kept = on.kept;
            rest = on.rest;
            within = omega (arith, w.next-is, c.is_next_at.ensures.there w.if-is_next_at.true);
            spare = omega (arith, i.spare, ap (λ (k : Contents Flagged). k.spare) w.kept-is);
            room = omega (arith, i.room, ap (λ (k : Contents Flagged). k.spare) w.kept-is);
          })
      | else-is_next_at w ↦ (let on : KeepsOn c.args.kept.now.items c.args.place c.args.chars.now c.args.overruns.now
          (c.loop-offset.offset + 1) c.if-is_next_at.next c.if-is_next_at.kept.items =
          keeps_add c.args.kept.now.items c.args.place c.args.chars.now c.args.overruns.now c.loop-offset.offset
          c.loop-offset.next c.if-is_next_at.next c.loop-offset.kept.items c.if-is_next_at.kept.items
          no_character c.loop-offset-test.true
          (sym c.is_next_at.ensures.value ∙ w.if-is_next_at.false) w.next-is
          (ap (λ (k : Contents Flagged). k.items) (w.kept-is ∙ w.add.ensures)) i.kept i.rest in
          record {
            kept = on.kept;
            rest = on.rest;
            within = omega (arith, w.next-is, i.within);
            spare = omega (arith, i.spare, ap (λ (k : Contents Flagged). k.spare) (w.kept-is ∙ w.add.ensures));
            room = omega (
              arith,
              i.room,
              ap (λ (k : Contents Flagged). k.spare) (w.kept-is ∙ w.add.ensures),
              c.loop-offset-test.true,
            );
          })
    ]

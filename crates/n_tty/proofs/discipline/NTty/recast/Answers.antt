use Rattle.std.proofs.Common.{◌≡◌, ◌&&◌, not, true, false, Bool, length, ap, sym, subst, ◌∙◌, refl, arith}
use Rattle.std.proofs.lemmas.Bool.{and_parts, not-true}
use Rattle.tty_modes.specs.Settings.{has_flag}
use Rattle.tty_modes.specs.declared.places.TheConstants.{ICANON}
use Rattle.line_store.specs.Unread.{bytes_of, end_count}
use Rattle.line_store.proofs.ItemLemmas.{bytes_of-plain, end_count-plain}
use Rattle.n_tty.specs.States.{NTtyState, AllEnded}
use Rattle.n_tty.proofs.StoringLemmas.{length-bytes_of-plain, end_count-with_plain}
use Rattle.n_tty.proofs.FitsLemmas.{AllEnded-end, AllEnded-no_bytes, length-bytes_of-end}
use Rattle.n_tty.proofs.FitsLemmas.{FitsModes-canonical, FitsModes-plain, FitsModes-alike}
use Rattle.n_tty.proofs.discipline.NTty.recast.Goals as goal
use Rattle.n_tty.proofs.discipline.NTty.recast.Goals.{else-modes_leave-2-via-then-modes_leave-2+else-len-gt0}
use Rattle.n_tty.proofs.discipline.NTty.recast.Goals.{else-modes_leave-2-via-else-modes_leave-2}

-- neither went without the other
alike : (a b : Bool) → (a && not b) ≡ false → (b && not a) ≡ false → a ≡ b
alike true true left begun = refl
alike false false left begun = refl
alike true false left begun = left
alike false true left begun = sym begun

pub append-requires : goal.append-requires
append-requires c =
    omega (
      arith,
      ap (λ items. length (bytes_of items)) c.plain.ensures,
      ap length (bytes_of-plain (bytes_of c.self.inside.store)),
      ap length c.bytes.ensures.bytes,
      c.self.invariant.within,
    )

pub invariant_of-self : goal.invariant_of-self
invariant_of-self c =
    let left = ap length c.kill-count.ensures.line in
    record {
      within = omega (
        arith,
        left,
        ap (λ items. length (bytes_of items)) c.append.ensures,
        length-bytes_of-plain c.plain.new.self c.bytes.result.now,
        ap (λ items. length (bytes_of items)) c.plain.ensures,
        ap length (bytes_of-plain (bytes_of c.self.inside.store)),
        ap length c.bytes.ensures.bytes,
        c.self.invariant.within,
      );
      line = omega (arith, left);
    }

pub invariant_of-self-then-len-gt0 : goal.invariant_of-self-then-len-gt0
invariant_of-self-then-len-gt0 c =
    record {
      within = omega (
        arith,
        ap (λ items. length (bytes_of items)) c.end_line.ensures,
        length-bytes_of-end c.self.inside.store,
        c.self.invariant.within,
      );
      line = c.self.invariant.line;
    }

pub returns-then-modes_leave-clause-fits : goal.returns-then-modes_leave-clause-fits
returns-then-modes_leave-clause-fits c =
    let both = and_parts (has_flag c.args.old.now ICANON) (not (has_flag c.args.new.now ICANON))
    (sym c.modes_leave.ensures ∙ c.if-modes_leave.true) in
    FitsModes-plain c.args.new.now _ (not-true (has_flag c.args.new.now ICANON) both.1)
    (ap end_count c.append.ensures
    ∙ end_count-with_plain c.plain.new.self c.bytes.result.now
    ∙ ap end_count c.plain.ensures
    ∙ end_count-plain (bytes_of c.self.inside.store))
    c.kill-count.ensures.line

pub returns-then-len-gt0-clause-fits : goal.returns-then-len-gt0-clause-fits
returns-then-len-gt0-clause-fits c =
    let both = and_parts (has_flag c.args.new.now ICANON) (not (has_flag c.args.old.now ICANON))
    (sym c.modes_leave-else-modes_leave.ensures ∙ c.if-modes_leave-2.true) in
    FitsModes-canonical c.args.new.now _ both.0
    (subst AllEnded (sym c.end_line.ensures) (AllEnded-end c.self.inside.store))

pub returns-else-modes_leave-2-clause-fits : goal.returns-else-modes_leave-2-clause-fits
returns-else-modes_leave-2-clause-fits c =
    let old = has_flag c.args.old.now ICANON in
    let new = has_flag c.args.new.now ICANON in
    elim c.else-modes_leave-2.branch [
      | else-modes_leave-2-via-then-modes_leave-2+else-len-gt0 w ↦
          let both = and_parts new (not old) (sym c.modes_leave-else-modes_leave.ensures ∙ w.if-modes_leave-2.true) in
          FitsModes-canonical c.args.new.now _ both.0
          (AllEnded-no_bytes c.args.self.now.items (omega (
            arith,
            ap (λ (tty : NTtyState). length (bytes_of tty.items)) c.self.view_is,
            w.len.ensures.len,
            w.if-len-gt0.false,
          )))
      | else-modes_leave-2-via-else-modes_leave-2 w ↦
          FitsModes-alike c.args.old.now c.args.new.now _
          (alike old new (sym c.modes_leave.ensures ∙ c.if-modes_leave.false)
          (sym c.modes_leave-else-modes_leave.ensures ∙ w.if-modes_leave-2.false)) c.requires
    ]

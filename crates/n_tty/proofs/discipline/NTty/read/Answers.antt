use Rattle.std.proofs.Common.{◌≡◌, length, true, false, ap, sym, subst, ◌∙◌, arith}
use Rattle.tty_modes.specs.Settings.{has_flag}
use Rattle.tty_modes.specs.declared.places.TheConstants.{ICANON}
use Rattle.line_store.specs.Unread.{bytes_of, end_count, read_size}
use Rattle.n_tty.specs.States.{AllEnded}
use Rattle.n_tty.proofs.FitsLemmas.{AllEnded-drop, by_after_line, end_count-drop, length-bytes_of-drop}
use Rattle.n_tty.proofs.FitsLemmas.{length-bytes_of-after_line, FitsModes-canonical, FitsModes-plain}
use Rattle.n_tty.proofs.discipline.NTty.read.Goals as goal

pub invariant_of-self : goal.invariant_of-self
invariant_of-self c =
    record {
      within = omega (
        arith,
        ap (λ items. length (bytes_of items)) c.take_line.ensures.left,
        length-bytes_of-after_line (read_size c.args.n) c.self.inside.store,
        c.self.invariant.within,
      );
      line = c.self.invariant.line;
    }

pub invariant_of-self-else-has : goal.invariant_of-self-else-has
invariant_of-self-else-has c =
    record {
      within = omega (
        arith,
        ap (λ items. length (bytes_of items)) c.take_raw.ensures.left,
        length-bytes_of-drop (read_size c.args.n) c.self.inside.store,
        c.self.invariant.within,
      );
      line = c.self.invariant.line;
    }

pub returns-then-has-clause-fits : goal.returns-then-has-clause-fits
returns-then-has-clause-fits c =
    let canonical : has_flag c.args.modes.now ICANON ≡ true = sym c.has.ensures ∙ c.if-has.true in
    let ended : AllEnded c.self.inside.store =
    subst (λ tty. AllEnded tty.items) (sym c.self.view_is) (c.requires.fitting.ended canonical) in
    FitsModes-canonical c.args.modes.now _ canonical (subst AllEnded (sym c.take_line.ensures.left)
    (by_after_line AllEnded (read_size c.args.n) c.self.inside.store (λ k. AllEnded-drop k c.self.inside.store ended)))

pub returns-else-has-clause-fits : goal.returns-else-has-clause-fits
returns-else-has-clause-fits c =
    let plain : has_flag c.args.modes.now ICANON ≡ false = sym c.has.ensures ∙ c.if-has.false in
    FitsModes-plain c.args.modes.now _ plain
    (ap end_count c.take_raw.ensures.left
    ∙ end_count-drop (read_size c.args.n) c.self.inside.store
    (ap (λ tty. end_count tty.items) c.self.view_is ∙ c.requires.fitting.no_ends plain))
    (ap (λ tty. tty.edit) c.self.view_is ∙ c.requires.fitting.no_line plain)

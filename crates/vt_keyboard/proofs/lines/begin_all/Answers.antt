use Rattle.std.proofs.Common.{rules, ◌≡◌, List, Some, subst}
use Rattle.std.specs.Prelude.{slice_get}
use Rattle.tty_base.specs.declared.characters.Flagged.{Flagged}
use Rattle.uart_line.specs.LineState.{LineState}
use Rattle.word_ring.specs.Ends.{PutterState}
use Rattle.vt_keyboard.proofs.lines.begin_all.Goals as goal

pub begin_each-requires-clause-can : goal.begin_each-requires-clause-can
begin_each-requires-clause-can c p l e at_l at_e =
    let lines : c.as_mut_slice.result.now ≡ c.args.keyed.now.lines.items = first_of (search rules, cc) in
    let ends : c.as_mut_slice-2.result.now ≡ c.args.keyed.now.ends.items = first_of (search rules, cc) in
    c.requires.can p l e (subst (λ (xs : List LineState). slice_get xs p ≡ Some l) lines at_l)
    (subst (λ (xs : List (PutterState Flagged)). slice_get xs p ≡ Some e) ends at_e)

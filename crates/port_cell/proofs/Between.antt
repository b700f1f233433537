-- What the rule says of any state between two steps.
use Rattle.std.proofs.Common.{◌≡◌, ℕ, ◌<◌, ◌≤◌, inl, inr, List, true, false, slice_index, sym, ap, ◌∙◌, arith}
use Rattle.std.proofs.lemmas.Bool.{false≢true}
use Rattle.port_cell.specs.declared.kept.Stamped.{Stamped}
use Rattle.port_cell.specs.declared.view.View.{View}
use Rattle.port_cell.specs.Entries.{generation_of}
use Rattle.port_cell.specs.Word.{CHANGING, generation_in}
use Rattle.port_cell.specs.Views.{total, users_of, references_of, lone_marks_of}
use Rattle.port_cell.specs.Rule.{ViewOk}
use Rattle.port_cell.specs.Laws.{NobodyHoldsBesideOneAlone, GrowsByInstalling, StandsInTurn}
use Rattle.port_cell.proofs.Totals.{part_le}
use Rattle.port_cell.proofs.Words.{generation_is}
use Rattle.port_cell.proofs.Counting.{word_is, few, raised_here}

module _ {V N E : Type 0} (name : V → N) (list : V → List (Stamped E)) where
  pub nobody_holds : NobodyHoldsBesideOneAlone name list
  nobody_holds first seats s r i v at only j w there =
      let mine : lone_marks_of v ≤ total lone_marks_of s.views = part_le lone_marks_of s.views i v at in
      let nobody = r.lone (omega arith) in
      let his : references_of w ≤ total references_of s.views = part_le references_of s.views j w there in
      omega arith

  pub grows_by_installing : GrowsByInstalling name list
  grows_by_installing first seats s r =
      let few_users = few name list first seats s r in
      let small : total users_of s.views < CHANGING = omega arith in
      generation_is (slice_index s.words 0) _ _ _ (word_is name list first seats s r) r.one_mark small ∙ r.grows

  saw_latest : (first : V) (latest : List (Stamped E)) (generation : ℕ) (views : List (View N E)) (i : ℕ) (v : View N E)
      → ViewOk (name first) (list first) latest generation views i v → v.turn ≡ true → v.seen ≡ latest
  saw_latest first latest generation views i v ok turn =
      elim (ok.live) [
        | inl spent ↦ absurd (false≢true (sym (ap (λ (x : View N E). x.turn) spent) ∙ turn))
        | inr live ↦ live.newest turn
      ]

  pub stands_in_turn : StandsInTurn name list
  stands_in_turn first seats s r i v at turn =
      let few_users = few name list first seats s r in
      let small : total users_of s.views < CHANGING = omega arith in
      let word : generation_in (slice_index s.words 0) ≡ r.generation =
      generation_is (slice_index s.words 0) _ _ _ (word_is name list first seats s r) r.one_mark small in
      let all = raised_here name list first seats s r i v at turn in
      let tie = r.tie in
      let seen : generation_of v.seen ≡ generation_of r.latest =
      ap generation_of (saw_latest first r.latest r.generation s.views i v (r.each_view i v at) turn) in
      omega arith

-- A step that changes one view keeps the rule, where the numbers fit.
use Rattle.std.proofs.Common.{◌≡◌, ◌≢◌, ◌⊎◌, ℕ, ◌+◌, ◌<◌, ◌≤◌, List, [], ◌∷◌, ◌++◌, length, set, true}
use Rattle.std.proofs.Common.{Option, Some, None, IsSome, inl, inr, ⊎_elim, sym, ap, ◌∙◌, subst, ◌==◌, arith}
use Rattle.std.proofs.Math.ListN.{length-set}
use mathlib.Core.Option.{some, none, some-injective}
use mathlib.Core.Option as maybe
use lib.ListN.{get_elem?}
use Rattle.atomic_table.specs.Table.{State}
use Rattle.atomic_table.proofs.Lists.{at_set, set_else}
use Rattle.port_cell.specs.declared.kept.Stamped.{Stamped}
use Rattle.port_cell.specs.declared.view.Joined.{Joined}
use Rattle.port_cell.specs.declared.view.View.{View}
use Rattle.port_cell.specs.Entries.{generation_of, Each, GoesOn, Begins, Keeps}
use Rattle.port_cell.specs.Word.{GENERATION_END, word_of}
use Rattle.port_cell.specs.Views.{total, Knows, bit_of, lone_part, turns_of, raises_of, users_of}
use Rattle.port_cell.specs.Views.{references_of, marks_of, lone_marks_of, installs_of, spent_view}
use Rattle.port_cell.specs.Rule.{joins_of, TookIn, LiveOk, ViewOk, Rule}
use Rattle.port_cell.proofs.Totals.{at_lt, total_same, two_le}
use Rattle.port_cell.proofs.Histories.{each_weaker, goes_on}

-- a view with a name is not spent
pub not_spent : {N E : Type 0} (v : View N E) → IsSome v.name → v ≡ spent_view → ⊥
not_spent {N} {E} v named e = let is : v.name ≡ None = ap (λ (u : View N E). u.name) e in cc

module _ {N E : Type 0} (name : N) (first latest : List (Stamped E)) (generation : ℕ) (views : List (View N E)) where
  pub is_live : (i : ℕ) (v : View N E)
      → IsSome v.name
      → ViewOk name first latest generation views i v
      → LiveOk name first latest views i v
  is_live i v named ok = ⊎_elim (λ (e : v ≡ spent_view). absurd (not_spent v named e))
      (λ (l : LiveOk name first latest views i v). l) ok.live

  -- the view v at i becomes w, the list now is the latest one and more, and next is installed
  pub record Change (i : ℕ) (v w : View N E) (next : ℕ) (now more : List (Stamped E)) : Type 0 where
    pub place : get_elem? views i ≡ some v
    pub named : IsSome v.name
    pub same_name : w.name ≡ v.name
    pub same_number : w.number ≡ v.number
    pub same_made : w.made ≡ v.made
    pub same_joined : w.joined ≡ v.joined
    pub longer : now ≡ latest ++ more
    pub by : Each (λ k. k ≡ i) more
    pub in_turn : (now ≡ latest) ⊎ (v.turn ≡ true)
    pub began : Begins first w.seen
    pub stands : Keeps i w.seen now
    pub newest : w.turn ≡ true → w.seen ≡ now
    pub knows : Knows next w.user
    pub raised : w.raised ≡ true → (w.turn ≡ true) × (lone_part w.user ≡ 1) × (generation_of w.seen < GENERATION_END)
    pub others : (j : ℕ) (u : View N E)
        → j ≢ i
        → get_elem? views j ≡ some u
        → Knows generation u.user
        → Knows next u.user

  module _ (i : ℕ) (v w : View N E) (next : ℕ) (now more : List (Stamped E)) (c : Change i v w next now more) where
    stays : (j : ℕ) (seen : List (Stamped E)) → j ≢ i → Keeps j seen latest → Keeps j seen now
    stays j seen apart h =
        subst (λ (xs : List (Stamped E)). Keeps j seen xs) (sym c.longer)
        (goes_on (λ k. k ≢ j) seen latest more h
        (each_weaker (λ k. k ≡ i) (λ k. k ≢ j) (λ k is other. apart (sym other ∙ is)) more c.by))

    took_in : (xs : List (Joined N E)) → TookIn name views latest xs → TookIn name (set views i w) now xs
    took_in [] t = tt
    took_in (x ∷ xs) t =
        let apart : x.number ≢ i = λ e. not_spent v c.named
        (some-injective v spent_view (sym c.place ∙ (ap (λ k. get_elem? views k) (sym e) ∙ t.0.1))) in
        ((t.0.0, set_else views i x.number w apart ∙ t.0.1, stays x.number x.seen apart t.0.2), took_in xs t.1)

    mine : LiveOk name first latest views i v → ViewOk name first now next (set views i w) i w
    mine l = record {
      live = inr record {
        named = c.same_name ∙ l.named;
        numbered = c.same_number ∙ l.numbered;
        made = λ h.
            let was = l.made (subst (λ k. 0 < k) c.same_made h) in
            (was.0, c.same_made ∙ was.1 ∙ sym (length-set views i w));
        began = c.began;
        stands = c.stands;
        joins = subst (λ (xs : List (Joined N E)). TookIn name (set views i w) now xs) (sym c.same_joined)
            (took_in v.joined l.joins);
        newest = c.newest;
      };
      knows = c.knows;
      raised = c.raised;
    }

    other : total turns_of views ≤ 1
        → (j : ℕ) (u : View N E)
        → j ≢ i
        → get_elem? views j ≡ some u
        → ViewOk name first latest generation views j u
        → ViewOk name first now next (set views i w) j u
    other one j u apart at ok = record {
      live = ⊎_elim
          (λ (e : u ≡ spent_view). inl e)
          (λ (l : LiveOk name first latest views j u). inr record {
            named = l.named;
            numbered = l.numbered;
            made = λ h. let was = l.made h in (was.0, was.1 ∙ sym (length-set views i w));
            began = l.began;
            stands = stays j u.seen apart l.stands;
            joins = took_in u.joined l.joins;
            newest = λ t. l.newest t ∙ ⊎_elim
                (λ (e : now ≡ latest). sym e)
                (λ (s : v.turn ≡ true).
                let a : turns_of v ≡ 1 = ap bit_of s in
                let b : turns_of u ≡ 1 = ap bit_of t in
                let h = two_le turns_of views i j v u apart c.place at in
                absurd (omega arith))
                c.in_turn;
          })
          ok.live;
      knows = c.others j u apart at ok.knows;
      raised = ok.raised;
    }

    pub views_ok : total turns_of views ≤ 1
        → ((j : ℕ) (u : View N E) → get_elem? views j ≡ some u → ViewOk name first latest generation views j u)
        → (j : ℕ) (u : View N E)
        → get_elem? (set views i w) j ≡ some u
        → ViewOk name first now next (set views i w) j u
    views_ok one each j u at =
        ⊎_elim
        (λ (x : (j ≡ i) × (w ≡ u)).
        subst (λ (y : ℕ × View N E). ViewOk name first now next (set views i w) y.0 y.1) (λ k. (sym x.0 k, x.1 k))
        (mine (is_live i v c.named (each i v c.place))))
        (λ (x : (j ≢ i) × (get_elem? views j ≡ some u)). other one j u x.0 x.1 (each j u x.1))
        (at_set views i j w u at)

module _ {V N E : Type 0} (name : V → N) (list : V → List (Stamped E)) (first : V) (seats : ℕ) where
  -- the value at home, where no seat has the turn
  abbrev pub AtHome : ℕ → List (Stamped E) → List (maybe.Option (Option V)) → Type 0
  AtHome turns now homes =
      (turns ≡ 0 → (v : V) × (homes ≡ some (Some v) ∷ []) × (name v ≡ name first) × (list v ≡ now))
      × (turns ≡ 1 → homes ≡ none ∷ [])

  pub kept : (s : State (Option V) (View N E)) (r : Rule name list first seats s) (i : ℕ) (v w : View N E) (next : ℕ)
      (now more : List (Stamped E))
      → Change (name first) (list first) r.latest r.generation s.views i v w next now more
      → (words : List ℕ) (homes : List (maybe.Option (Option V)))
      → words
      ≡ word_of next (total marks_of (set s.views i w)) (total users_of (set s.views i w))
      ∷ total turns_of (set s.views i w) ∷ length now ∷ []
      → total turns_of (set s.views i w) ≤ 1
      → AtHome (total turns_of (set s.views i w)) now homes
      → total marks_of (set s.views i w) ≤ 1
      → (0 < total lone_marks_of (set s.views i w) → total references_of (set s.views i w) ≡ 0)
      → generation_of now ≡ next + total raises_of (set s.views i w)
      → next ≡ generation_of (list first) + total installs_of (set s.views i w)
      → Rule name list first seats record { words = words; homes = homes; views = set s.views i w }
  kept s r i v w next now more c words homes words_are one_turn at_home one_mark lone tie grows = record {
    generation = next;
    latest = now;
    words = words_are;
    one_turn = one_turn;
    home = at_home.0;
    out = at_home.1;
    grown = subst (λ (xs : List (Stamped E)). GoesOn (λ k. k < length (set s.views i w)) (list first) xs) (sym c.longer)
        (goes_on (λ k. k < length (set s.views i w)) (list first) r.latest more
        (subst (λ (n : ℕ). GoesOn (λ k. k < n) (list first) r.latest) (sym (length-set s.views i w)) r.grown)
        (each_weaker (λ k. k ≡ i) (λ k. k < length (set s.views i w))
        (λ k e. let here = at_lt s.views i v c.place in let n = length-set s.views i w in omega arith) more c.by));
    room = (let n = length-set s.views i w in let h = r.room in omega arith, r.room.1);
    apart = λ n.
        let h = r.apart n in
        let same = total_same (joins_of n) s.views i v w c.place
        (ap (λ (xs : List (Joined N E)). total (λ x. bit_of (x.number == n)) xs) c.same_joined) in
        omega arith;
    one_mark = one_mark;
    lone = lone;
    tie = tie;
    grows = grows;
    each_view =
        views_ok (name first) (list first) r.latest r.generation s.views i v w next now more c r.one_turn r.each_view;
  }

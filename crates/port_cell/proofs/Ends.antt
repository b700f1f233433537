-- The first state of a cell, how seats are made from the first and joined again, and the last state.
use Rattle.std.proofs.Common.{◌≡◌, ◌≢◌, ◌⊎◌, ℕ, zero, suc, ◌+◌, ◌<◌, ◌≤◌, ◌==◌, List, [], ◌∷◌, ◌++◌, length}
use Rattle.std.proofs.Common.{set, true, false, Option, Some, None, IsSome, inl, inr, ⊎_elim, refl, sym, ap}
use Rattle.std.proofs.Common.{◌∙◌, subst, slice_get, true≢false, eq-eqb, ne_eqb, length-append, arith}
use Rattle.std.proofs.Math.ListN.{length-set}
use Rattle.std.proofs.Math.Logic.{dite}
use native.Mathlib.Decide.{ℕ_discrete}
use mathlib.Core.Option.{some, some-injective, some-ne-none}
use lib.ListN.{get_elem?}
use Rattle.atomic_table.specs.Table.{State, Splits, Joins, Final, Seen}
use Rattle.atomic_table.specs.declared.shared.Seat.{Seat}
use Rattle.atomic_table.specs.Seated.{TableId}
use Rattle.atomic_table.proofs.Lists.{at_set, set_here, set_else, at_longer}
use Rattle.port_cell.specs.declared.kept.Stamped.{Stamped}
use Rattle.port_cell.specs.declared.view.Joined.{Joined}
use Rattle.port_cell.specs.declared.view.User.TheVariants.{Free}
use Rattle.port_cell.specs.declared.view.View.{View}
use Rattle.port_cell.specs.Entries.{generation_of, GoesOn, Keeps}
use Rattle.port_cell.specs.Views.{total, bit_of, user_part, reference_part, mark_part, lone_part, turns_of}
use Rattle.port_cell.specs.Views.{raises_of, users_of, references_of, marks_of, lone_marks_of, installs_of}
use Rattle.port_cell.specs.Views.{spent_view, with_one_made, next_view, joined_part, with_joined}
use Rattle.port_cell.specs.Rule.{joins_of, TookIn, LiveOk, ViewOk, Rule}
use Rattle.port_cell.specs.Seats.{IsNew, AllNew, HasAll, EachSeat}
use Rattle.port_cell.specs.Joining.{Finds, Member, PartOf, HasJoined, HasNumber, FindsJoined}
use Rattle.port_cell.proofs.Totals.{at_lt, total_set, total_same, total_snoc, total_append, total_none, total_one}
use Rattle.port_cell.proofs.Histories.{goes_weaker, unmade}
use Rattle.port_cell.proofs.Words.{three}
use Rattle.port_cell.proofs.Keeping.{not_spent, is_live}
use Rattle.port_cell.proofs.Counting.{lowered}

pub regrouped : (x a b t u n : ℕ) → x ≡ a + b → t ≡ u + b → a + t ≡ n → x + u ≡ n
regrouped x a b t u n e f g = omega arith

pub grown_by_all : (now opening all last rest total : ℕ)
    → now ≡ opening + all
    → all ≡ last + rest
    → total ≡ rest + last
    → now ≡ opening + total
grown_by_all now opening all last rest total e f g = omega arith

at_push : {X : Type 0} (xs : List X) (x y : X) (j : ℕ)
    → get_elem? (xs ++ x ∷ []) j ≡ some y
    → (get_elem? xs j ≡ some y) ⊎ ((j ≡ length xs) × (x ≡ y))
at_push [] x y zero e = inr (refl, some-injective x y e)
at_push [] x y (suc j) e = absurd (some-ne-none y (sym e))
at_push (z ∷ zs) x y zero e = inl e
at_push (z ∷ zs) x y (suc j) e = ⊎_elim (λ (h : get_elem? zs j ≡ some y). inl h)
    (λ (h : (j ≡ length zs) × (x ≡ y)). inr (ap suc h.0, h.1)) (at_push zs x y j e)

module _ {N E : Type 0} (name : N) (latest : List (Stamped E)) where
  -- the places that are spent stay so
  took_moved : (views after : List (View N E))
      → ((k : ℕ) → get_elem? views k ≡ some spent_view → get_elem? after k ≡ some spent_view)
      → (xs : List (Joined N E))
      → TookIn name views latest xs
      → TookIn name after latest xs
  took_moved views after stay [] t = tt
  took_moved views after stay (x ∷ xs) t = ((t.0.0, stay x.number t.0.1, t.0.2), took_moved views after stay xs t.1)

  took_both : (views : List (View N E)) (xs ys : List (Joined N E))
      → TookIn name views latest xs
      → TookIn name views latest ys
      → TookIn name views latest (xs ++ ys)
  took_both views [] ys t u = u
  took_both views (x ∷ xs) ys t u = (t.0, took_both views xs ys t.1 u)

  -- a seat that is not spent was not joined
  not_joined : (views : List (View N E)) (o : ℕ) (w : View N E)
      → get_elem? views o ≡ some w
      → IsSome w.name
      → (xs : List (Joined N E))
      → TookIn name views latest xs
      → total (λ (x : Joined N E). bit_of (x.number == o)) xs ≡ 0
  not_joined views o w at named [] t = refl
  not_joined views o w at named (x ∷ xs) t =
      let apart : x.number ≢ o = λ e.
      not_spent w named (some-injective w spent_view (sym at ∙ (ap (λ k. get_elem? views k) (sym e) ∙ t.0.1))) in
      let here : bit_of (x.number == o) ≡ 0 = ap bit_of (ne_eqb x.number o apart) in
      let h = not_joined views o w at named xs t.1 in
      omega arith

  took_found : (views : List (View N E)) (xs : List (Joined N E))
      → TookIn name views latest xs
      → FindsJoined name latest xs
  took_found views [] t = tt
  took_found views (x ∷ xs) t = ((t.0.0, t.0.2), took_found views xs t.1)

  took_place : (views : List (View N E)) (n : ℕ) (xs : List (Joined N E))
      → TookIn name views latest xs
      → HasJoined n xs
      → get_elem? views n ≡ some spent_view
  took_place views n [] t j = absurd j
  took_place views n (x ∷ xs) t j =
      ⊎_elim (λ (e : x.number ≡ n). subst (λ k. get_elem? views k ≡ some spent_view) e t.0.1)
      (λ (h : HasJoined n xs). took_place views n xs t.1 h) j

module _ {V N E : Type 0} (name : V → N) (list : V → List (Stamped E)) (first : V) (seats : ℕ) where
  abbrev Holds : State (Option V) (View N E) → Type 0
  Holds = Rule name list first seats

  abbrev Live : State (Option V) (View N E) → List (Stamped E) → List (View N E) → ℕ → View N E → Type 0
  Live s latest views j v = LiveOk (name first) (list first) latest views j v

  pub splits : (i : ℕ) (v : View N E)
      → IsSome v.name
      → 0 < v.made
      → v.made < seats
      → Splits Holds i v (with_one_made v) (next_view v)
  splits i v named made room s r at =
      let w = with_one_made v in
      let u = next_view v in
      let views = set s.views i w ++ u ∷ [] in
      let live : Live s r.latest s.views i v =
      is_live (name first) (list first) r.latest r.generation s.views i v named (r.each_view i v at) in
      let first_one = live.made made in
      let size : length views ≡ length s.views + 1 =
      length-append (set s.views i w) (u ∷ []) ∙ ap (λ n. n + 1) (length-set s.views i w) in
      let same : (f : View N E → ℕ) → f w ≡ f v → f u ≡ 0 → total f views ≡ total f s.views = λ f a b.
      let x = total_snoc f (set s.views i w) u in let y = total_same f s.views i v w at a in omega arith in
      let turns = same turns_of refl refl in
      let counted = same users_of refl refl in
      let marked = same marks_of refl refl in
      let stay : (k : ℕ) → get_elem? s.views k ≡ some spent_view → get_elem? views k ≡ some spent_view = λ k e.
      at_longer (set s.views i w) (u ∷ []) k spent_view
      (set_else s.views i k w
      (λ is. not_spent v named (some-injective v spent_view (sym at ∙ (ap (λ n. get_elem? s.views n) (sym is) ∙ e))))
      ∙ e) in
      let old : (j : ℕ) (x : View N E)
      → j ≢ i
      → ViewOk (name first) (list first) r.latest r.generation s.views j x
      → ViewOk (name first) (list first) r.latest r.generation views j x = λ j x apart ok.
      record {
        live = ⊎_elim
            (λ (e : x ≡ spent_view). inl e)
            (λ (l : Live s r.latest s.views j x). inr record {
              named = l.named;
              numbered = l.numbered;
              made = λ h. absurd (apart ((l.made h).0 ∙ sym first_one.0));
              began = l.began;
              stands = l.stands;
              joins = took_moved (name first) r.latest s.views views stay x.joined l.joins;
              newest = l.newest;
            })
            ok.live;
        knows = ok.knows;
        raised = ok.raised;
      } in
      let mine : ViewOk (name first) (list first) r.latest r.generation views i w =
      record {
        live = inr record {
          named = live.named;
          numbered = live.numbered;
          made = λ h. (first_one.0, omega arith);
          began = live.began;
          stands = live.stands;
          joins = took_moved (name first) r.latest s.views views stay v.joined live.joins;
          newest = live.newest;
        };
        knows = (r.each_view i v at).knows;
        raised = (r.each_view i v at).raised;
      } in
      let new : ViewOk (name first) (list first) r.latest r.generation views (length s.views) u =
      record {
        live = inr record {
          named = live.named;
          numbered = first_one.1;
          made = λ h. absurd (omega arith);
          began = live.began;
          stands = unmade (length s.views) (list first) v.seen r.latest r.grown live.began
              (subst (λ n. Keeps n v.seen r.latest) first_one.0 live.stands);
          joins = tt;
          newest = λ no. absurd (true≢false (sym no));
        };
        knows = tt;
        raised = λ no. absurd (true≢false (sym no));
      } in
      record {
        generation = r.generation;
        latest = r.latest;
        words = r.words ∙ three _ _ _ _ _ _ (omega arith) (sym turns) refl;
        one_turn = let h = r.one_turn in omega arith;
        home = λ e. r.home (sym turns ∙ e);
        out = λ e. r.out (sym turns ∙ e);
        grown = goes_weaker (λ k. k < length s.views) (λ k. k < length views) (λ k h. omega arith) (list first)
            r.latest r.grown;
        room = (let h = r.room in omega arith, r.room.1);
        apart = λ n. let h = r.apart n in let e = same (joins_of n) refl refl in omega arith;
        one_mark = let h = r.one_mark in omega arith;
        lone =
            let e = same lone_marks_of refl refl in
            let f = same references_of refl refl in λ some_alone. let h = r.lone (omega arith) in omega arith;
        tie = let e = same raises_of refl refl in let h = r.tie in omega arith;
        grows = let e = same installs_of refl refl in let h = r.grows in omega arith;
        each_view = λ j x there.
            ⊎_elim
            (λ (h : get_elem? (set s.views i w) j ≡ some x).
            ⊎_elim
            (λ (y : (j ≡ i) × (w ≡ x)). subst
            (λ (z : ℕ × View N E). ViewOk (name first) (list first) r.latest r.generation views z.0 z.1)
            (λ k. (sym y.0 k, y.1 k)) mine)
            (λ (y : (j ≢ i) × (get_elem? s.views j ≡ some x)). old j x y.0 (r.each_view j x y.1))
            (at_set s.views i j w x h))
            (λ (h : (j ≡ length (set s.views i w)) × (u ≡ x)).
            subst (λ (z : ℕ × View N E). ViewOk (name first) (list first) r.latest r.generation views z.0 z.1)
            (λ k. (sym (h.0 ∙ length-set s.views i w) k, h.1 k)) new)
            (at_push (set s.views i w) u x j there);
      }

  -- a number is joined once, since a seat that is joined was not joined before
  joined_once : (s : State (Option V) (View N E)) (r : Holds s) (o : ℕ) (w : View N E)
      → get_elem? s.views o ≡ some w
      → IsSome w.name
      → total (joins_of o) s.views ≡ 0
  joined_once s r o w at named =
      total_none (joins_of o) s.views (λ j x there. ⊎_elim
      (λ (e : x ≡ spent_view). ap (joins_of o) e)
      (λ (l : Live s r.latest s.views j x). not_joined (name first) r.latest s.views o w at named x.joined l.joins)
      (r.each_view j x there).live)

  pub joins : (i : ℕ) (v : View N E) (o : ℕ) (w : View N E)
      → IsSome v.name
      → IsSome w.name
      → w.user ≡ Free
      → w.turn ≡ false
      → Joins Holds i v o w (with_joined v w) spent_view
  joins i v o w named other_named free without s r at apart there =
      let b = with_joined v w in
      let one = set s.views i b in
      let views = set one o spent_view in
      let was : get_elem? s.views o ≡ some w = sym (set_else s.views i o b apart) ∙ there in
      let live : Live s r.latest s.views i v =
      is_live (name first) (list first) r.latest r.generation s.views i v named (r.each_view i v at) in
      let other : Live s r.latest s.views o w =
      is_live (name first) (list first) r.latest r.generation s.views o w other_named (r.each_view o w was) in
      let size : length views ≡ length s.views = length-set one o spent_view ∙ length-set s.views i b in
      let same : (f : View N E → ℕ) → f b ≡ f v → f w ≡ 0 → f spent_view ≡ 0 → total f views ≡ total f s.views =
      λ f p q t.
      let x = total_same f s.views i v b at p in let y = total_set f one o w spent_view there in omega arith in
      let turns = same turns_of refl (ap bit_of without) refl in
      let counted = same users_of refl (ap user_part free) refl in
      let marked = same marks_of refl (ap mark_part free) refl in
      let not_raised : w.raised ≡ true → ⊥ = λ raised.
      true≢false (sym ((r.each_view o w was).raised raised).0 ∙ without) in
      let o_live : o ≢ i = apart in
      let kept_spent : (k : ℕ) → get_elem? s.views k ≡ some spent_view → get_elem? views k ≡ some spent_view = λ k e.
      let not_i : k ≢ i = λ is.
      not_spent v named (some-injective v spent_view (sym at ∙ (ap (λ n. get_elem? s.views n) (sym is) ∙ e))) in
      let not_o : k ≢ o = λ is.
      not_spent w other_named (some-injective w spent_view (sym was ∙ (ap (λ n. get_elem? s.views n) (sym is) ∙ e))) in
      set_else one o k spent_view not_o ∙ (set_else s.views i k b not_i ∙ e) in
      let moved : (xs : List (Joined N E))
      → TookIn (name first) s.views r.latest xs
      → TookIn (name first) views r.latest xs =
      took_moved (name first) r.latest s.views views kept_spent in
      let here : get_elem? views w.number ≡ some spent_view =
      ap (λ n. get_elem? views n) other.numbered ∙ set_here one o spent_view (at_lt one o w there) in
      let mine : ViewOk (name first) (list first) r.latest r.generation views i b =
      record {
        live = inr record {
          named = live.named;
          numbered = live.numbered;
          made = λ h. let m = live.made h in (m.0, m.1 ∙ sym size);
          began = live.began;
          stands = live.stands;
          joins = (
            (other.named, here, subst (λ n. Keeps n w.seen r.latest) (sym other.numbered) other.stands),
            took_both (name first) r.latest views w.joined v.joined (moved w.joined other.joins)
                (moved v.joined live.joins),
          );
          newest = live.newest;
        };
        knows = (r.each_view i v at).knows;
        raised = (r.each_view i v at).raised;
      } in
      let old : (j : ℕ) (x : View N E)
      → ViewOk (name first) (list first) r.latest r.generation s.views j x
      → ViewOk (name first) (list first) r.latest r.generation views j x = λ j x ok.
      record {
        live = ⊎_elim
            (λ (e : x ≡ spent_view). inl e)
            (λ (l : Live s r.latest s.views j x). inr record {
              named = l.named;
              numbered = l.numbered;
              made = λ h. let m = l.made h in (m.0, m.1 ∙ sym size);
              began = l.began;
              stands = l.stands;
              joins = moved x.joined l.joins;
              newest = l.newest;
            })
            ok.live;
        knows = ok.knows;
        raised = ok.raised;
      } in
      let gone : (j : ℕ) → ViewOk (name first) (list first) r.latest r.generation views j spent_view = λ j.
      record { live = inl refl; knows = tt; raised = λ no. absurd (true≢false (sym no)) } in
      let once : (n : ℕ) → total (joins_of n) views ≤ 1 = λ n.
      let x = total_set (joins_of n) s.views i v b at in
      let y = total_set (joins_of n) one o w spent_view there in
      let both = total_append (λ (k : Joined N E). bit_of (k.number == n)) w.joined v.joined in
      dite (ℕ_discrete w.number n)
      (λ (e : w.number ≡ n).
      let bit : bit_of (w.number == n) ≡ 1 = ap bit_of (eq-eqb w.number n e) in
      let fresh = joined_once s r o w was other_named in
      let so : total (joins_of n) s.views ≡ 0 = ap (λ k. total (joins_of k) s.views) (sym e ∙ other.numbered) ∙ fresh in
      omega arith)
      (λ (ne : w.number ≢ n).
      let bit : bit_of (w.number == n) ≡ 0 = ap bit_of (ne_eqb w.number n ne) in
      let h = r.apart n in
      omega arith) in
      record {
        generation = r.generation;
        latest = r.latest;
        words = r.words ∙ three _ _ _ _ _ _ (omega arith) (sym turns) refl;
        one_turn = let h = r.one_turn in omega arith;
        home = λ e. r.home (sym turns ∙ e);
        out = λ e. r.out (sym turns ∙ e);
        grown = subst (λ (n : ℕ). GoesOn (λ k. k < n) (list first) r.latest) (sym size) r.grown;
        room = (let h = r.room in omega arith, r.room.1);
        apart = once;
        one_mark = let h = r.one_mark in omega arith;
        lone =
            let e = same lone_marks_of refl (ap lone_part free) refl in
            let f = same references_of refl (ap reference_part free) refl in
            λ some_alone. let h = r.lone (omega arith) in omega arith;
        tie = let e = same raises_of refl (lowered w.raised not_raised) refl in let h = r.tie in omega arith;
        grows =
            let x = total_set installs_of s.views i v b at in
            let y = total_set installs_of one o w spent_view there in
            let both = total_append (λ (k : Joined N E). k.installs) w.joined v.joined in
            let h = r.grows in
            omega arith;
        each_view = λ j x h.
            ⊎_elim
            (λ (y : (j ≡ o) × (spent_view ≡ x)).
            subst (λ (u : View N E). ViewOk (name first) (list first) r.latest r.generation views j u) y.1 (gone j))
            (λ (y : (j ≢ o) × (get_elem? one j ≡ some x)).
            ⊎_elim
            (λ (q : (j ≡ i) × (b ≡ x)). subst
            (λ (u : ℕ × View N E). ViewOk (name first) (list first) r.latest r.generation views u.0 u.1)
            (λ k. (sym q.0 k, q.1 k)) mine)
            (λ (q : (j ≢ i) × (get_elem? s.views j ≡ some x)). old j x (r.each_view j x q.1))
            (at_set s.views i j b x y.1))
            (at_set one o j spent_view x h);
      }

  -- what the value is at the end, as one free seat knows that has all numbers
  pub record EndsAs (v : View N E) (value : V) : Type 0 where
    pub opening : name value ≡ name first
    pub grown : GoesOn (λ k. k < seats) (list first) (list value)
    pub grows : generation_of (list value) ≡ generation_of (list first) + installs_of v
    pub found : (v.name ≡ Some (name value)) × Keeps v.number v.seen (list value)
    pub joined : FindsJoined (name value) (list value) v.joined

  pub closes : (i : ℕ) (v : View N E) (words : List ℕ) (homes : List (Option V))
      → IsSome v.name
      → v.user ≡ Free
      → v.turn ≡ false
      → ((n : ℕ) → n < seats → HasNumber v n)
      → Final (Seen Holds i v) words homes
      → (value : V) × (get_elem? homes 0 ≡ some (Some value)) × EndsAs v value
  closes i v words homes named free without all last =
      let s = last.0 in
      let r = last.1.0 in
      let at = last.1.1 in
      let live : Live s r.latest s.views i v =
      is_live (name first) (list first) r.latest r.generation s.views i v named (r.each_view i v at) in
      let room = r.room in
      let only : (f : View N E → ℕ) → f spent_view ≡ 0 → total f s.views ≡ f v = λ f q.
      total_one f s.views i v at (λ j x apart there.
      let in_range = at_lt s.views j x there in
      ⊎_elim
      (λ (e : v.number ≡ j). absurd (apart (sym e ∙ live.numbered)))
      (λ (h : HasJoined j v.joined).
      let same : spent_view ≡ x =
      some-injective spent_view x (sym (took_place (name first) r.latest s.views j v.joined live.joins h) ∙ there) in
      ap f (sym same) ∙ q)
      (all j (omega arith))) in
      let installs = only installs_of refl in
      let nothing : (f : View N E → ℕ) → f v ≡ 0 → f spent_view ≡ 0 → total f s.views ≡ 0 = λ f p q. only f q ∙ p in
      let low : v.raised ≡ true → ⊥ = λ raised. true≢false (sym ((r.each_view i v at).raised raised).0 ∙ without) in
      let turns = nothing turns_of (ap bit_of without) refl in
      let raised = nothing raises_of (lowered v.raised low) refl in
      let home = r.home turns in
      let list_is : list home.0 ≡ r.latest = home.3 in
      let tie = r.tie in
      let generation : generation_of (list home.0) ≡ r.generation = ap generation_of list_is ∙ omega arith in (
        home.0,
        last.4 0 (Some home.0) (ap (λ hs. get_elem? hs 0) home.1),
        record {
          opening = home.2;
          grown = subst (λ (ys : List (Stamped E)). GoesOn (λ k. k < seats) (list first) ys) (sym list_is)
              (goes_weaker (λ k. k < length s.views) (λ k. k < seats) (λ k h. omega arith) (list first)
              r.latest r.grown);
          grows = let h = r.grows in omega arith;
          found = (
            live.named ∙ ap Some (sym home.2),
            subst (λ (y : ℕ × List (Stamped E)). Keeps y.0 v.seen y.1) (λ k. (sym live.numbered k, sym list_is k))
                live.stands,
          );
          joined = subst (λ (y : N × List (Stamped E)). FindsJoined y.0 y.1 v.joined)
              (λ k. (sym home.2 k, sym list_is k)) (took_found (name first) r.latest s.views v.joined live.joins);
        },
      )

  module _ (i : ℕ) (v : View N E) (words : List ℕ) (homes : List (Option V)) (named : IsSome v.name)
      (free : v.user ≡ Free) (without : v.turn ≡ false) (all : (n : ℕ) → n < seats → HasNumber v n)
      (last : Final (Seen Holds i v) words homes) (place : Option V) (at : get_elem? homes 0 ≡ some place) where
    pub not_empty : place ≡ None → ⊥
    not_empty empty =
        let end = closes i v words homes named free without all last in
        let both : some (Some end.0) ≡ some None = sym end.1 ∙ (at ∙ ap some empty) in
        cc

    pub ends_as : (x : V) → place ≡ Some x → EndsAs v x
    ends_as x is =
        let end = closes i v words homes named free without all last in
        let both : some (Some end.0) ≡ some (Some x) = sym end.1 ∙ (at ∙ ap some is) in
        let same : end.0 ≡ x = cc in
        subst (EndsAs v) same end.2

module _ {V N E : Type 0} (z : TableId) (name : N) (list : List (Stamped E)) where
  pub fresh_push : (n : ℕ) (ss : List (Seat (Option V) (View N E))) (s : Seat (Option V) (View N E))
      → AllNew z name list n ss
      → IsNew z name list (n + length ss) s
      → AllNew z name list n (ss ++ s ∷ [])
  fresh_push n [] s all new = (subst (λ (k : ℕ). IsNew z name list k s) (let e : n + 0 ≡ n = omega arith in e) new, tt)
  fresh_push n (t ∷ ts) s all new = (
    all.0,
    fresh_push (n + 1) ts s all.1
        (subst (λ (k : ℕ). IsNew z name list k s)
        (let e : n + suc (length ts) ≡ n + 1 + length ts = omega arith in e) new),
  )

module _ {V N E : Type 0} (z : TableId) (name : N) (list : List (Stamped E)) where
  pub fresh_front : (n : ℕ) (ss : List (Seat (Option V) (View N E))) (s : Seat (Option V) (View N E))
      → AllNew z name list n (ss ++ s ∷ [])
      → AllNew z name list n ss × IsNew z name list (n + length ss) s
  fresh_front n [] s all = (tt, subst (λ (k : ℕ). IsNew z name list k s) (let e : n ≡ n + 0 = omega arith in e) all.0)
  fresh_front n (t ∷ ts) s all =
      let rest = fresh_front (n + 1) ts s all.1 in (
        (all.0, rest.0),
        subst (λ (k : ℕ). IsNew z name list k s) (let e : n + 1 + length ts ≡ n + suc (length ts) = omega arith in e)
            rest.1,
      )

module _ {N E : Type 0} where
  member_right : (y : Joined N E) (xs ys : List (Joined N E)) → Member y ys → Member y (xs ++ ys)
  member_right y [] ys m = m
  member_right y (x ∷ xs) ys m = inr (member_right y xs ys m)

  member_number : (y : Joined N E) (xs : List (Joined N E)) → Member y xs → HasJoined y.number xs
  member_number y [] m = absurd m
  member_number y (x ∷ xs) m = ⊎_elim (λ (e : x ≡ y). inl (ap (λ (j : Joined N E). j.number) e))
      (λ (h : Member y xs). inr (member_number y xs h)) m

  member_found : (name : N) (list : List (Stamped E)) (y : Joined N E) (xs : List (Joined N E))
      → Member y xs
      → FindsJoined name list xs
      → (y.name ≡ Some name) × Keeps y.number y.seen list
  member_found name list y [] m f = absurd m
  member_found name list y (x ∷ xs) m f =
      ⊎_elim (λ (e : x ≡ y). subst (λ (j : Joined N E). (j.name ≡ Some name) × Keeps j.number j.seen list) e f.0)
      (λ (h : Member y xs). member_found name list y xs h f.1) m

  pub installs_of-joining : (v w : View N E) → installs_of (with_joined v w) ≡ installs_of v + installs_of w
  installs_of-joining v w = let both = total_append (λ (j : Joined N E). j.installs) w.joined v.joined in omega arith

module _ {V N E : Type 0} where
  pub each_push : (P : Seat (Option V) (View N E) → Type 0) (ss : List (Seat (Option V) (View N E)))
      (s : Seat (Option V) (View N E))
      → EachSeat P ss
      → P s
      → EachSeat P (ss ++ s ∷ [])
  each_push P [] s all p = (p, tt)
  each_push P (t ∷ ts) s all p = (all.0, each_push P ts s all.1 p)

  pub each_front : (P : Seat (Option V) (View N E) → Type 0) (ss : List (Seat (Option V) (View N E)))
      (s : Seat (Option V) (View N E))
      → EachSeat P (ss ++ s ∷ [])
      → EachSeat P ss × P s
  each_front P [] s all = (tt, all.0)
  each_front P (t ∷ ts) s all = let rest = each_front P ts s all.1 in ((all.0, rest.0), rest.1)

  pub each_weaker : (P Q : Seat (Option V) (View N E) → Type 0)
      → ((s : Seat (Option V) (View N E)) → P s → Q s)
      → (ss : List (Seat (Option V) (View N E)))
      → EachSeat P ss
      → EachSeat Q ss
  each_weaker P Q f [] all = tt
  each_weaker P Q f (s ∷ ss) all = (f s all.0, each_weaker P Q f ss all.1)

  each_at : (P : Seat (Option V) (View N E) → Type 0) (ss : List (Seat (Option V) (View N E))) (i : ℕ)
      (s : Seat (Option V) (View N E))
      → EachSeat P ss
      → slice_get ss i ≡ Some s
      → P s
  each_at P [] i s all e = absurd (cc)
  each_at P (t ∷ ts) zero s all e = let same : t ≡ s = cc in subst P same all.0
  each_at P (t ∷ ts) (suc i) s all e = each_at P ts i s all.1 e

  -- what was part of a seat is part of it once another is joined into it, as is the other
  pub part_more : (v w : View N E) (s : Seat (Option V) (View N E)) → PartOf v s → PartOf (with_joined v w) s
  part_more v w s part =
      ⊎_elim (λ (e : joined_part v ≡ joined_part s.me.0). inl e)
      (λ (m : Member (joined_part s.me.0) v.joined). inr (inr (member_right (joined_part s.me.0) w.joined v.joined m)))
      part

  pub part_joined : (v : View N E) (s : Seat (Option V) (View N E)) → PartOf (with_joined v s.me.0) s
  part_joined v s = inr (inl refl)

  pub has_numbers : (n : ℕ) (ss : List (Seat (Option V) (View N E))) (v : View N E)
      → HasAll n ss
      → EachSeat (PartOf v) ss
      → (k : ℕ)
      → k < n
      → HasNumber v k
  has_numbers n ss v all parts k below =
      let found = all k below in
      let s = found.1 in
      subst (λ (m : ℕ). HasNumber v m) found.3
      (⊎_elim
      (λ (e : joined_part v ≡ joined_part s.me.0). inl (ap (λ (j : Joined N E). j.number) e))
      (λ (m : Member (joined_part s.me.0) v.joined). inr (member_number (joined_part s.me.0) v.joined m))
      (each_at (PartOf v) ss found.0 s parts found.2))

  pub part_found : (name : N) (list : List (Stamped E)) (v : View N E)
      → (v.name ≡ Some name) × Keeps v.number v.seen list
      → FindsJoined name list v.joined
      → (s : Seat (Option V) (View N E))
      → PartOf v s
      → Finds name list s
  part_found name list v mine joined s part =
      ⊎_elim
      (λ (e : joined_part v ≡ joined_part s.me.0).
      subst (λ (j : Joined N E). (j.name ≡ Some name) × Keeps j.number j.seen list) e mine)
      (λ (m : Member (joined_part s.me.0) v.joined). member_found name list (joined_part s.me.0) v.joined m joined)
      part

  -- two seats with the numbers 0 and 1
  pub has_two : (ss : List (Seat (Option V) (View N E))) (a b : Seat (Option V) (View N E))
      → ss ≡ a ∷ b ∷ []
      → a.me.0.number ≡ 0
      → b.me.0.number ≡ 1
      → HasAll 2 ss
  has_two ss a b e x y zero h = (0, a, ap (λ (l : List (Seat (Option V) (View N E))). slice_get l 0) e, x)
  has_two ss a b e x y (suc zero) h = (1, b, ap (λ (l : List (Seat (Option V) (View N E))). slice_get l 1) e, y)
  has_two ss a b e x y (suc (suc k)) h = absurd (omega arith)

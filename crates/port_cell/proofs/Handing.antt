-- Each step of the turn keeps the rule.
use Rattle.std.proofs.Common.{◌≡◌, ◌≢◌, ◌⊎◌, ℕ, ◌+◌, ◌<◌, ◌≤◌, List, [], ◌∷◌, ◌++◌, length, set}
use Rattle.std.proofs.Common.{Bool, true, false, Option, Some, IsSome, inl, inr, ⊎_elim, refl, sym}
use Rattle.std.proofs.Common.{ap, ◌∙◌, subst, append-nil, slice_index, nat_lt, true≢false, arith}
use Rattle.std.proofs.lemmas.Bool.Decides.{nat_tests}
use mathlib.Core.Option.{some, none}
use mathlib.Core.Option as maybe
use lib.ListN.{get_elem?}
use Rattle.atomic_table.specs.Table.{State, Allows, keeps, takes, gives, step, put_back}
use Rattle.atomic_table.proofs.Lists.{set_again}
use Rattle.port_cell.specs.declared.kept.Stamped.{Stamped}
use Rattle.port_cell.specs.declared.view.View.{View}
use Rattle.port_cell.specs.Entries.{generation_of, Each, Begins, Keeps, AddsBy}
use Rattle.port_cell.specs.Word.{GENERATION_END, word_of}
use Rattle.port_cell.specs.Views.{total, Knows, bit_of, lone_part, turns_of, raises_of, users_of}
use Rattle.port_cell.specs.Views.{references_of, marks_of, lone_marks_of, installs_of, with_turn}
use Rattle.port_cell.specs.Views.{with_list, without_turn, installed_generation, MayTell}
use Rattle.port_cell.specs.Rule.{LiveOk, Rule}
use Rattle.port_cell.specs.Plays.{SeatState, Takes, Notes, Gives}
use Rattle.port_cell.proofs.Totals.{total_set, total_same, total_none, part_le}
use Rattle.port_cell.proofs.Histories.{each_weaker, goes_on, goes_nowhere, begins}
use Rattle.port_cell.proofs.Words.{zero_or_one, three}
use Rattle.port_cell.proofs.Keeping.{is_live, AtHome, kept}
use Rattle.port_cell.proofs.Counting.{lowered, raised_here}

not_raised : (a b : ℕ) → b ≡ a → nat_lt a b ≡ false
not_raised a b e = grind (arith, nat_tests)

is_raised : (a b : ℕ) → b ≡ a + 1 → nat_lt a b ≡ true
is_raised a b e = grind (arith, nat_tests)

is_low : (b : Bool) → (b ≡ true → ⊥) → b ≡ false
is_low true h = absurd (h refl)
is_low false h = refl

module _ {V N E : Type 0} (name : V → N) (list : V → List (Stamped E)) (first : V) (seats : ℕ) where
  abbrev Holds : State (Option V) (View N E) → Type 0
  Holds = Rule name list first seats

  module _ (s : State (Option V) (View N E)) (r : Rule name list first seats s) where
    turn_word : slice_index s.words 1 ≡ total turns_of s.views
    turn_word = ap (λ ws. slice_index ws 1) r.words

    none_raised : total turns_of s.views ≡ 0 → total raises_of s.views ≡ 0
    none_raised free =
        total_none raises_of s.views (λ j u there. lowered u.raised (λ raised.
        let one : turns_of u ≡ 1 = ap bit_of ((r.each_view j u there).raised raised).0 in
        let part : turns_of u ≤ total turns_of s.views = part_le turns_of s.views j u there in
        omega arith))

    living : (i : ℕ) (v : View N E)
        → get_elem? s.views i ≡ some v
        → IsSome v.name
        → LiveOk (name first) (list first) r.latest s.views i v
    living i v at named = is_live (name first) (list first) r.latest r.generation s.views i v named (r.each_view i v at)

    -- a step that changes the turn, or what its seat has seen and noted
    hands : (i : ℕ) (v : View N E) (turn : Bool) (seen : List (Stamped E)) (raised : Bool) (now more : List (Stamped E))
        (words : List ℕ) (homes : List (maybe.Option (Option V)))
        → get_elem? s.views i ≡ some v
        → IsSome v.name
        → now ≡ r.latest ++ more
        → Each (λ k. k ≡ i) more
        → (now ≡ r.latest) ⊎ (v.turn ≡ true)
        → Begins (list first) seen
        → Keeps i seen now
        → (turn ≡ true → seen ≡ now)
        → (raised ≡ true → (turn ≡ true) × (lone_part v.user ≡ 1) × (generation_of seen < GENERATION_END))
        → let w : View N E = record v { turn = turn; seen = seen; raised = raised } in
        words
        ≡ word_of r.generation (total marks_of s.views) (total users_of s.views) ∷ total turns_of (set s.views i w)
        ∷ length now ∷ []
        → total turns_of (set s.views i w) ≤ 1
        → AtHome name list first seats (total turns_of (set s.views i w)) now homes
        → generation_of now ≡ r.generation + total raises_of (set s.views i w)
        → Holds record { words = words; homes = homes; views = set s.views i w }
    hands i v turn seen raised now more words homes at named longer by in_turn
        began stands newest raises words_are one_turn at_home tie =
        let w : View N E = record v { turn = turn; seen = seen; raised = raised } in
        let a = total_same marks_of s.views i v w at refl in
        let b = total_same users_of s.views i v w at refl in
        let d = total_same references_of s.views i v w at refl in
        let e = total_same lone_marks_of s.views i v w at refl in
        kept name list first seats s r i v w r.generation now more
        record {
          place = at;
          named = named;
          same_name = refl;
          same_number = refl;
          same_made = refl;
          same_joined = refl;
          longer = longer;
          by = by;
          in_turn = in_turn;
          began = began;
          stands = stands;
          newest = newest;
          knows = (r.each_view i v at).knows;
          raised = raises;
          others = λ j u apart there k. k;
        }
        words homes
        (words_are ∙ three _ _ _ _ _ _ (omega arith) refl refl)
        one_turn at_home
        (let h = r.one_mark in omega arith)
        (λ some_alone. let h = r.lone (omega arith) in omega arith)
        tie
        (let h = r.grows in let i = total_same installs_of s.views i v w at refl in omega arith)

  pub takes_turn : (slots i : ℕ) (m : SeatState V N E) → m.0.turn ≡ false → IsSome m.0.name
      → Allows Holds slots i m 1 (λ _. 1) (Takes name list (step slots 1 1 0 none) m)
  takes_turn slots i m without named s r deep at fits =
      let v = m.0 in
      let n = turn_word s r in
      let live = living s r i v at named in
      let zero_mine : turns_of v ≡ 0 = ap bit_of without in
      ⊎_elim
      (λ (free : total turns_of s.views ≡ 0).
      let x = (r.home free).0 in
      let home = r.home free in
      let here : list x ≡ r.latest = home.3 in
      let w = with_turn (list x) v in
      let t : total turns_of (set s.views i w) + turns_of v ≡ total turns_of s.views + 1 =
      total_set turns_of s.views i v w at in
      let u = total_same raises_of s.views i v w at refl in
      let low = none_raised s r free in
      let tie = r.tie in
      let same : generation_of (list x) ≡ r.generation = ap generation_of here ∙ omega arith in
      let opened : total turns_of (set s.views i w) ≡ 1 = omega arith in (
        w,
        takes 0 (Some x),
        ap (λ hs. get_elem? hs 0) home.1,
        hands s r i v true (list x) v.raised r.latest [] (set s.words 1 1) (set s.homes 0 none) at named
            (sym (append-nil r.latest)) tt (inl refl)
            (subst (λ (ys : List (Stamped E)). Begins (list first) ys) (sym here)
            (begins (λ k. k < length s.views) (list first) r.latest r.grown))
            (subst (λ (ys : List (Stamped E)). Keeps i ys r.latest) (sym here) (goes_nowhere (λ k. k ≢ i) r.latest))
            (λ _. here)
            (λ raised. absurd (true≢false (sym ((r.each_view i v at).raised raised).0 ∙ without)))
            (ap (λ ws. set ws 1 1) r.words ∙ three _ _ _ _ _ _ refl (sym opened) refl)
            (omega arith)
            ((λ e. absurd (omega arith)), (λ _. ap (λ hs. set hs 0 none) home.1))
            (omega arith),
        (
          (λ _. (
            x,
            refl,
            live.named ∙ ap Some (sym home.2),
            subst (λ (y : ℕ × List (Stamped E)). Keeps y.0 v.seen y.1) (λ k. (sym live.numbered k, sym here k))
                live.stands,
            subst (λ g. Knows g v.user) (sym same) (r.each_view i v at).knows,
            is_low v.raised (λ raised. true≢false (sym ((r.each_view i v at).raised raised).0 ∙ without)),
          )),
          (λ other. absurd (other (n ∙ free))),
        ),
      ))
      (λ (taken : total turns_of s.views ≡ 1). (
        v,
        keeps,
        tt,
        subst (λ (y : List ℕ × List (View N E)). Holds record { words = y.0; homes = s.homes; views = y.1 })
            (λ k. (
              sym (set_again s.words 1 1 (ap (λ ws. get_elem? ws 1) r.words ∙ ap some taken)) k,
              sym (set_again s.views i v at) k,
            )) r,
        ((λ free. absurd (omega arith)), (λ _. refl)),
      ))
      (zero_or_one (total turns_of s.views) r.one_turn)

  pub notes : (slots i : ℕ) (m : SeatState V N E) (count : ℕ) (told : List (Stamped E))
      → m.0.turn ≡ true
      → IsSome m.0.name
      → AddsBy m.0.number m.0.seen told
      → MayTell m.0 (generation_of told)
      → count ≡ length told
      → Allows Holds slots i m 2 (λ _. count) (λ _. Notes told (step slots 2 count 0 none) m count)
  notes slots i m count told turn named adds may counted s r deep at fits =
      let v = m.0 in
      let live = living s r i v at named in
      let newest = live.newest turn in
      let w = with_list told v in
      let mine : turns_of v ≡ 1 = ap bit_of turn in
      let part : turns_of v ≤ total turns_of s.views = part_le turns_of s.views i v at in
      let one = r.one_turn in
      let t : total turns_of (set s.views i w) ≡ total turns_of s.views = total_same turns_of s.views i v w at refl in
      let u : total raises_of (set s.views i w) + raises_of v ≡ total raises_of s.views + raises_of w =
      total_set raises_of s.views i v w at in
      let high = raised_here name list first seats s r i v at turn in
      let tie = r.tie in
      let seen : generation_of v.seen ≡ generation_of r.latest = ap generation_of newest in
      let installed : installed_generation v ≡ r.generation = omega arith in
      let longer : told ≡ r.latest ++ adds.0 = adds.1 ∙ ap (λ ys. ys ++ adds.0) newest in
      let by : Each (λ k. k ≡ i) adds.0 = subst (λ n. Each (λ k. k ≡ n) adds.0) live.numbered adds.2 in
      let put : (raised : Bool)
      → raised ≡ w.raised
      → (raised ≡ true → (lone_part v.user ≡ 1) × (generation_of told < GENERATION_END))
      → generation_of told ≡ r.generation + bit_of raised
      → Holds record { words = set s.words 2 count; homes = s.homes; views = set s.views i w } = λ raised is raises fit.
      let part_is : raises_of w ≡ bit_of raised = ap bit_of (sym is) in
      hands s r i v v.turn told w.raised told adds.0 (set s.words 2 count) s.homes at named
      longer by (inr turn)
      (subst (λ (ys : List (Stamped E)). Begins (list first) ys) (sym longer)
      (goes_on (λ k. Unit {0}) (list first) r.latest adds.0
      (begins (λ k. k < length s.views) (list first) r.latest r.grown)
      (each_weaker (λ k. k ≡ i) (λ k. Unit {0}) (λ k e. tt) adds.0 by)))
      (goes_nowhere (λ k. k ≢ i) told)
      (λ _. refl)
      (λ high. let h = raises (is ∙ high) in (turn, h.0, h.1))
      (ap (λ ws. set ws 2 count) r.words ∙ three _ _ _ _ _ _ refl (sym t) counted)
      (omega arith)
      ((λ e. absurd (omega arith)), (λ e. r.out (sym t ∙ e)))
      (omega arith) in (
        w,
        keeps,
        tt,
        ⊎_elim
            (λ (same : generation_of told ≡ installed_generation v).
            put false (sym (not_raised _ _ same)) (λ no. absurd (true≢false (sym no))) (omega arith))
            (λ (next : (lone_part v.user ≡ 1)
            × (generation_of told ≡ installed_generation v + 1)
            × (generation_of told < GENERATION_END)).
            put true (sym (is_raised _ _ next.1)) (λ _. (next.0, next.2)) (omega arith))
            may,
        refl,
      )

  pub gives_turn : (slots i : ℕ) (m : SeatState V N E) (x : V) → m.0.turn ≡ true → IsSome m.0.name
      → m.0.name ≡ Some (name x) → m.0.seen ≡ list x → m.0.raised ≡ false → m.1 ≡ (0, Some x) ∷ []
      → Allows Holds slots i m 1 (λ _. 0) (λ _. Gives (step slots 1 0 0 none) m 0)
  gives_turn slots i m x turn named is_name is_list low hand s r deep at fits =
      let v = m.0 in
      let live = living s r i v at named in
      let newest = live.newest turn in
      let w = without_turn v in
      let mine : turns_of v ≡ 1 = ap bit_of turn in
      let part : turns_of v ≤ total turns_of s.views = part_le turns_of s.views i v at in
      let one = r.one_turn in
      let t : total turns_of (set s.views i w) + turns_of v ≡ total turns_of s.views + 0 =
      total_set turns_of s.views i v w at in
      let u : total raises_of (set s.views i w) ≡ total raises_of s.views =
      total_same raises_of s.views i v w at refl in
      let free : total turns_of (set s.views i w) ≡ 0 = omega arith in
      let out = r.out (omega arith) in
      let tie = r.tie in
      let named_so : Some (name x) ≡ Some (name first) = sym is_name ∙ live.named in (
        w,
        gives,
        tt,
        hands s r i v false v.seen v.raised r.latest [] (set s.words 1 0) (put_back s.homes m.1) at named
            (sym (append-nil r.latest)) tt (inl refl)
            live.began live.stands
            (λ no. absurd (true≢false (sym no)))
            (λ raised. absurd (true≢false (sym raised ∙ low)))
            (ap (λ ws. set ws 1 0) r.words ∙ three _ _ _ _ _ _ refl (sym free) refl)
            (omega arith) (
              (λ _. (
                x,
                ap (λ (y : List (maybe.Option (Option V)) × List (ℕ × Option V)). put_back y.0 y.1)
                    (λ k. (out k, hand k)),
                (cc),
                sym is_list ∙ newest,
              )),
              (λ e. absurd (omega arith)),
            )
            (omega arith),
        refl,
      )

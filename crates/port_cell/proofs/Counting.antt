-- Each step on the reference word keeps the rule.
use Rattle.std.proofs.Common.{◌≡◌, ◌≢◌, ℕ, ◌+◌, ◌%◌, ◌<◌, ◌≤◌, List, [], length, set, Bool}
use Rattle.std.proofs.Common.{true, false, Option, IsSome, bit_and, bit_or, inl, ⊎_elim, refl}
use Rattle.std.proofs.Common.{sym, ap, ◌∙◌, subst, append-nil, slice_index, true≢false, arith}
use Rattle.tty_base.specs.Sizes.{MOST_SEATS}
use mathlib.Core.Option.{some, none}
use lib.ListN.{get_elem?}
use Rattle.atomic_table.specs.Table.{State, Allows, step}
use Rattle.atomic_table.specs.Table.Act.{keeps}
use Rattle.port_cell.specs.declared.kept.Stamped.{Stamped}
use Rattle.port_cell.specs.declared.view.User.{User}
use Rattle.port_cell.specs.declared.view.User.TheVariants.{Free, Trying, Held, Marked, Alone}
use Rattle.port_cell.specs.declared.view.View.{View}
use Rattle.port_cell.specs.Entries.{generation_of}
use Rattle.port_cell.specs.Word.{CHANGING, GENERATION_END, word_of, generation_in}
use Rattle.port_cell.specs.Views.{total, Knows, bit_of, user_part, reference_part, mark_part}
use Rattle.port_cell.specs.Views.{lone_part, turns_of, raises_of, users_of, references_of, marks_of}
use Rattle.port_cell.specs.Views.{lone_marks_of, installs_of, with_word, with_user, after_install}
use Rattle.port_cell.specs.Rule.{Rule}
use Rattle.port_cell.specs.Plays.{SeatState, HasTurn, Enters, Leaves, Marks, Looks, Installs}
use Rattle.port_cell.proofs.Totals.{total_set, total_same, total_le, total_few, total_one, part_le, two_le}
use Rattle.port_cell.proofs.Words.{zero_or_one, none_or_some, three, generation_is}
use Rattle.port_cell.proofs.Words.{changing_is, users_is, or_bit, and_not_bit}
use Rattle.port_cell.proofs.Keeping.{is_live, kept}

pub counts_few : (u : User) → user_part u ≤ 1
counts_few Trying = omega arith
counts_few (Held g) = omega arith
counts_few _ = omega arith

pub holds_le : (u : User) → reference_part u ≤ user_part u
holds_le (Held g) = omega arith
holds_le Trying = omega arith
holds_le _ = omega arith

pub alone_le : (u : User) → lone_part u ≤ mark_part u
alone_le (Alone g) = omega arith
alone_le (Marked g) = omega arith
alone_le _ = omega arith

-- a user has a reference or the changing bit, and not both
pub one_part : (u : User) → user_part u + mark_part u ≤ 1
one_part Trying = omega arith
one_part (Held g) = omega arith
one_part (Marked g) = omega arith
one_part (Alone g) = omega arith
one_part Free = omega arith

pub holds_counts : (u : User) → reference_part u ≡ 1 → user_part u ≡ 1
holds_counts u h = let a = holds_le u in let b = counts_few u in omega arith

pub knows_free : (g h : ℕ) (u : User) → reference_part u ≡ 0 → mark_part u ≡ 0 → Knows g u → Knows h u
knows_free g h Free a b k = tt
knows_free g h Trying a b k = tt
knows_free g h (Held x) a b k = absurd (omega arith)
knows_free g h (Marked x) a b k = absurd (omega arith)
knows_free g h (Alone x) a b k = absurd (omega arith)

pub lowered : (b : Bool) → (b ≡ true → ⊥) → bit_of b ≡ 0
lowered true h = absurd (h refl)
lowered false h = refl

module _ {V N E : Type 0} (name : V → N) (list : V → List (Stamped E)) (first : V) (seats : ℕ) where
  abbrev pub Holds : State (Option V) (View N E) → Type 0
  Holds = Rule name list first seats

  module _ (s : State (Option V) (View N E)) (r : Rule name list first seats s) where
    pub word_is : slice_index s.words 0 ≡ word_of r.generation (total marks_of s.views) (total users_of s.views)
    word_is = ap (λ ws. slice_index ws 0) r.words

    pub few : total users_of s.views ≤ MOST_SEATS
    few = let a = total_few users_of (λ v. counts_few v.user) s.views in let b = r.room in omega arith

    pub holds_few : total references_of s.views ≤ total users_of s.views
    holds_few = total_le references_of users_of (λ v. holds_le v.user) s.views

    pub alone_few : total lone_marks_of s.views ≤ total marks_of s.views
    alone_few = total_le lone_marks_of marks_of (λ v. alone_le v.user) s.views

    -- where a seat has the turn, no other has noted a list that is to be installed
    pub raised_here : (i : ℕ) (v : View N E)
        → get_elem? s.views i ≡ some v
        → v.turn ≡ true
        → total raises_of s.views ≡ raises_of v
    raised_here i v at turn =
        total_one raises_of s.views i v at (λ j u apart there. lowered u.raised (λ raised.
        let one : turns_of v ≡ 1 = ap bit_of turn in
        let two : turns_of u ≡ 1 = ap bit_of ((r.each_view j u there).raised raised).0 in
        let both = two_le turns_of s.views i j v u apart at there in
        let most = r.one_turn in
        omega arith))

    in_turn : (i : ℕ) (v : View N E) (w : ℕ)
        → get_elem? s.views i ≡ some v
        → IsSome v.name
        → generation_in w ≡ r.generation
        → HasTurn v w
    in_turn i v w at named is turn low =
        let none : raises_of v ≡ 0 = ap bit_of low in
        let all = raised_here i v at turn in
        let tie = r.tie in
        let seen : generation_of v.seen ≡ generation_of r.latest =
        ap generation_of (
        (is_live (name first) (list first) r.latest r.generation s.views i v named (r.each_view i v at)).newest turn) in
        omega arith

    -- a step of one seat that changes what it does with the reference word
    pub uses : (i : ℕ) (v : View N E) (u : User) (raised : Bool) (found steps installs next word : ℕ)
        → get_elem? s.views i ≡ some v
        → IsSome v.name
        → Knows next u
        → (raised ≡ true → (v.turn ≡ true) × (lone_part u ≡ 1) × (generation_of v.seen < GENERATION_END))
        → ((j : ℕ) (x : View N E)
        → j ≢ i
        → get_elem? s.views j ≡ some x
        → Knows r.generation x.user
        → Knows next x.user)
        → let w : View N E = record v { user = u; raised = raised; word = found; steps = steps; installs = installs } in
        let views = set s.views i w in
        word ≡ word_of next (total marks_of views) (total users_of views)
        → total marks_of views ≤ 1
        → (0 < total lone_marks_of views → total references_of views ≡ 0)
        → generation_of r.latest ≡ next + total raises_of views
        → next ≡ generation_of (list first) + total installs_of views
        → Holds record { words = set s.words 0 word; homes = s.homes; views = views }
    uses i v u raised found steps installs next word at named knows raises others word_now one_mark lone tie grows =
        let w : View N E = record v { user = u; raised = raised; word = found; steps = steps; installs = installs } in
        let live = is_live (name first) (list first) r.latest r.generation s.views i v named (r.each_view i v at) in
        let turns = total_same turns_of s.views i v w at refl in
        kept name list first seats s r i v w next r.latest []
        record {
          place = at;
          named = named;
          same_name = refl;
          same_number = refl;
          same_made = refl;
          same_joined = refl;
          longer = sym (append-nil r.latest);
          by = tt;
          in_turn = inl refl;
          began = live.began;
          stands = live.stands;
          newest = live.newest;
          knows = knows;
          raised = raises;
          others = others;
        }
        (set s.words 0 word) s.homes
        (ap (λ ws. set ws 0 word) r.words
        ∙ three word (total turns_of s.views) (length r.latest) _ _ _ word_now (sym turns) refl)
        (let h = r.one_turn in omega arith)
        ((λ e. r.home (sym turns ∙ e)), (λ e. r.out (sym turns ∙ e)))
        one_mark lone tie grows

  -- the totals before and after one user's change
  record Moved (s : State (Option V) (View N E)) (i : ℕ) (v w : View N E) : Type 0 where
    pub counted : total users_of (set s.views i w) + user_part v.user ≡ total users_of s.views + user_part w.user
    pub held : total references_of (set s.views i w) + reference_part v.user
        ≡ total references_of s.views + reference_part w.user
    pub marked : total marks_of (set s.views i w) + mark_part v.user ≡ total marks_of s.views + mark_part w.user
    pub lonely : total lone_marks_of (set s.views i w) + lone_part v.user
        ≡ total lone_marks_of s.views + lone_part w.user
    pub raised : total raises_of (set s.views i w) + raises_of v ≡ total raises_of s.views + raises_of w
    pub installs : total installs_of (set s.views i w) + installs_of v ≡ total installs_of s.views + installs_of w

  moved : (s : State (Option V) (View N E)) (i : ℕ) (v w : View N E) → get_elem? s.views i ≡ some v → Moved s i v w
  moved s i v w at = record {
    counted = total_set users_of s.views i v w at;
    held = total_set references_of s.views i v w at;
    marked = total_set marks_of s.views i v w at;
    lonely = total_set lone_marks_of s.views i v w at;
    raised = total_set raises_of s.views i v w at;
    installs = total_set installs_of s.views i v w at;
  }

  -- what a free seat has
  not_raised : (s : State (Option V) (View N E)) (r : Holds s) (i : ℕ) (v : View N E)
      → get_elem? s.views i ≡ some v
      → lone_part v.user ≡ 0
      → v.raised ≡ true
      → ⊥
  not_raised s r i v at apart raised = let h = ((r.each_view i v at).raised raised).1 in omega arith

  pub enters : (slots i : ℕ) (m : SeatState V N E) → m.0.user ≡ Free → IsSome m.0.name
      → Allows Holds slots i m 0 (λ n. (n + 1) % 18446744073709551616) (Enters (step slots 0 1 0 none) m)
  enters slots i m free named s r deep at fits =
      let v = m.0 in
      let n = slice_index s.words 0 in
      let is = word_is s r in
      let few = few s r in
      let small : total users_of s.views < CHANGING = omega arith in
      let bit = r.one_mark in
      let gen = generation_is n _ _ _ is bit small in
      let chg = changing_is n _ _ _ is bit small in
      let a : user_part v.user ≡ 0 = ap user_part free in
      let b : reference_part v.user ≡ 0 = ap reference_part free in
      let d : mark_part v.user ≡ 0 = ap mark_part free in
      let e : lone_part v.user ≡ 0 = ap lone_part free in
      let low = alone_few s r in
      let turn = in_turn s r i v n at named gen in
      ⊎_elim
      (λ (clear : total marks_of s.views ≡ 0).
      let w = with_word n (Held (generation_in n)) v in
      let t = moved s i v w at in (
        w,
        keeps,
        tt,
        uses s r i v (Held (generation_in n)) v.raised n (v.steps + 1) v.installs r.generation
            ((n + 1) % 18446744073709551616) at named gen
            (λ raised. absurd (not_raised s r i v at e raised)) (λ j x apart there k. k)
            (omega arith) (omega arith) (λ some_alone. absurd (omega arith)) (let tie = r.tie in omega arith)
            (let grows = r.grows in omega arith),
        ((λ _. refl), (λ other. absurd (omega arith)), turn),
      ))
      (λ (changing : total marks_of s.views ≡ 1).
      let w = with_word n Trying v in
      let t = moved s i v w at in (
        w,
        keeps,
        tt,
        uses s r i v Trying v.raised n (v.steps + 1) v.installs r.generation ((n + 1) % 18446744073709551616)
            at named tt
            (λ raised. absurd (not_raised s r i v at e raised)) (λ j x apart there k. k)
            (omega arith) (omega arith) (λ some_alone. let h = r.lone (omega arith) in omega arith)
            (let tie = r.tie in omega arith) (let grows = r.grows in omega arith),
        ((λ other. absurd (omega arith)), (λ _. refl), turn),
      ))
      (zero_or_one (total marks_of s.views) bit)

  pub leaves : (slots i : ℕ) (m : SeatState V N E)
      → user_part m.0.user ≡ 1
      → IsSome m.0.name
      → Allows Holds slots i m 0 (λ n. (n + 18446744073709551615) % 18446744073709551616)
      (Leaves (step slots 0 1 0 none) m)
  leaves slots i m user named s r deep at fits =
      let v = m.0 in
      let n = slice_index s.words 0 in
      let is = word_is s r in
      let few = few s r in
      let part = one_part v.user in
      let lone = alone_le v.user in
      let w = with_user Free v in
      let t = moved s i v w at in
      let mine : users_of v ≤ total users_of s.views = part_le users_of s.views i v at in (
        w,
        keeps,
        tt,
        uses s r i v Free v.raised v.word v.steps v.installs r.generation
            ((n + 18446744073709551615) % 18446744073709551616) at named tt
            (λ raised. absurd (not_raised s r i v at (omega arith) raised)) (λ j x apart there k. k)
            (omega arith) (let bit = r.one_mark in omega arith)
            (λ some_alone. let h = r.lone (omega arith) in omega arith) (let tie = r.tie in omega arith)
            (let grows = r.grows in omega arith),
        refl,
      )

  pub marks_it : (slots i : ℕ) (m : SeatState V N E) → m.0.user ≡ Free → IsSome m.0.name
      → Allows Holds slots i m 0 (λ n. bit_or n CHANGING) (Marks (step slots 0 CHANGING 0 none) m)
  marks_it slots i m free named s r deep at fits =
      let v = m.0 in
      let n = slice_index s.words 0 in
      let is = word_is s r in
      let few = few s r in
      let small : total users_of s.views < CHANGING = omega arith in
      let bit = r.one_mark in
      let gen = generation_is n _ _ _ is bit small in
      let chg = changing_is n _ _ _ is bit small in
      let set_bit = or_bit n _ _ _ is bit small in
      let a : user_part v.user ≡ 0 = ap user_part free in
      let b : reference_part v.user ≡ 0 = ap reference_part free in
      let d : mark_part v.user ≡ 0 = ap mark_part free in
      let e : lone_part v.user ≡ 0 = ap lone_part free in
      let low = alone_few s r in
      let turn = in_turn s r i v n at named gen in
      ⊎_elim
      (λ (clear : total marks_of s.views ≡ 0).
      let w = with_word n (Marked (generation_in n)) v in
      let t = moved s i v w at in (
        w,
        keeps,
        tt,
        uses s r i v (Marked (generation_in n)) v.raised n (v.steps + 1) v.installs r.generation (bit_or n CHANGING)
            at named gen
            (λ raised. absurd (not_raised s r i v at e raised)) (λ j x apart there k. k)
            (omega arith) (omega arith) (λ some_alone. absurd (omega arith)) (let tie = r.tie in omega arith)
            (let grows = r.grows in omega arith),
        ((λ _. refl), (λ other. absurd (omega arith)), turn),
      ))
      (λ (changing : total marks_of s.views ≡ 1).
      let w = with_word n Free v in
      let t = moved s i v w at in (
        w,
        keeps,
        tt,
        uses s r i v Free v.raised n (v.steps + 1) v.installs r.generation (bit_or n CHANGING) at named tt
            (λ raised. absurd (not_raised s r i v at e raised)) (λ j x apart there k. k)
            (omega arith) (omega arith) (λ some_alone. let h = r.lone (omega arith) in omega arith)
            (let tie = r.tie in omega arith) (let grows = r.grows in omega arith),
        ((λ other. absurd (omega arith)), (λ _. refl), turn),
      ))
      (zero_or_one (total marks_of s.views) bit)

  pub looks : (slots i : ℕ) (m : SeatState V N E) → mark_part m.0.user ≡ 1 → lone_part m.0.user ≡ 0 → IsSome m.0.name
      → Allows Holds slots i m 0 (λ n. n) (Looks (step slots 0 0 0 none) m)
  looks slots i m mark e named s r deep at fits =
      let v = m.0 in
      let n = slice_index s.words 0 in
      let is = word_is s r in
      let few = few s r in
      let small : total users_of s.views < CHANGING = omega arith in
      let bit = r.one_mark in
      let gen = generation_is n _ _ _ is bit small in
      let usr = users_is n _ _ _ is bit small in
      let part = one_part v.user in
      let hold = holds_le v.user in
      let low = holds_few s r in
      let turn = in_turn s r i v n at named gen in
      let knows : Knows (generation_in n) v.user = subst (λ g. Knows g v.user) (sym gen) (r.each_view i v at).knows in
      ⊎_elim
      (λ (unused : total users_of s.views ≡ 0).
      let w = with_word n (Alone (generation_in n)) v in
      let t = moved s i v w at in (
        w,
        keeps,
        tt,
        uses s r i v (Alone (generation_in n)) v.raised n (v.steps + 1) v.installs r.generation n at named gen
            (λ raised. absurd (not_raised s r i v at e raised)) (λ j x apart there k. k)
            (omega arith) (omega arith) (λ some_alone. omega arith) (let tie = r.tie in omega arith)
            (let grows = r.grows in omega arith),
        ((λ _. refl), (λ other. absurd (omega arith)), knows, turn),
      ))
      (λ (some_users : 0 < total users_of s.views).
      let w = with_word n v.user v in
      let t = moved s i v w at in (
        w,
        keeps,
        tt,
        uses s r i v v.user v.raised n (v.steps + 1) v.installs r.generation n at named (r.each_view i v at).knows
            (λ raised. absurd (not_raised s r i v at e raised)) (λ j x apart there k. k)
            (omega arith) (omega arith) (λ some_alone. let h = r.lone (omega arith) in omega arith)
            (let tie = r.tie in omega arith) (let grows = r.grows in omega arith),
        ((λ other. absurd (omega arith)), (λ _. refl), knows, turn),
      ))
      (none_or_some (total users_of s.views))

  -- where nobody has set the changing bit nobody is alone
  none_alone : (views : List (View N E)) → total marks_of views ≡ 0 → 0 < total lone_marks_of views → ⊥
  none_alone views unset some_alone =
      let h = total_le lone_marks_of marks_of (λ (v : View N E). alone_le v.user) views in omega arith

  pub unmarks : (slots i : ℕ) (m : SeatState V N E)
      → mark_part m.0.user ≡ 1
      → m.0.raised ≡ false
      → IsSome m.0.name
      → Allows Holds slots i m 0 (λ n. bit_and n 18446744071562067967)
      (Leaves (step slots 0 18446744071562067967 0 none) m)
  unmarks slots i m mark low named s r deep at fits =
      let v = m.0 in
      let n = slice_index s.words 0 in
      let is = word_is s r in
      let few = few s r in
      let small : total users_of s.views < CHANGING = omega arith in
      let bit = r.one_mark in
      let clear_bit = and_not_bit n _ _ _ is bit small fits in
      let part = one_part v.user in
      let hold = holds_le v.user in
      let w = with_user Free v in
      let t = moved s i v w at in
      let mine : marks_of v ≤ total marks_of s.views = part_le marks_of s.views i v at in
      let unset : total marks_of (set s.views i w) ≡ 0 = omega arith in (
        w,
        keeps,
        tt,
        uses s r i v Free v.raised v.word v.steps v.installs r.generation (bit_and n 18446744071562067967) at named tt
            (λ raised. absurd (true≢false (sym raised ∙ low))) (λ j x apart there k. k)
            (omega arith) (omega arith) (λ some_alone. absurd (none_alone (set s.views i w) unset some_alone))
            (let tie = r.tie in omega arith) (let grows = r.grows in omega arith),
        refl,
      )

  pub installs : (slots i : ℕ) (m : SeatState V N E)
      → lone_part m.0.user ≡ 1
      → m.0.turn ≡ true
      → m.0.raised ≡ true
      → IsSome m.0.name
      → Allows Holds slots i m 0 (λ n. (n + CHANGING) % 18446744073709551616)
      (Installs (step slots 0 CHANGING 0 none) m)
  installs slots i m only turn raised named s r deep at fits =
      let v = m.0 in
      let n = slice_index s.words 0 in
      let is = word_is s r in
      let few = few s r in
      let bit = r.one_mark in
      let part = one_part v.user in
      let mark = alone_le v.user in
      let hold = holds_le v.user in
      let w = after_install v in
      let t = moved s i v w at in
      let mine : marks_of v ≤ total marks_of s.views = part_le marks_of s.views i v at in
      let me_alone : lone_marks_of v ≤ total lone_marks_of s.views = part_le lone_marks_of s.views i v at in
      let unset : total marks_of (set s.views i w) ≡ 0 = omega arith in
      let one : raises_of v ≡ 1 = ap bit_of raised in
      let all = raised_here s r i v at turn in
      let tie = r.tie in
      let seen : generation_of v.seen ≡ generation_of r.latest =
      ap generation_of
      ((is_live (name first) (list first) r.latest r.generation s.views i v named (r.each_view i v at)).newest turn) in
      let below = ((r.each_view i v at).raised raised).2 in
      let nobody = r.lone (omega arith) in (
        w,
        keeps,
        tt,
        uses s r i v Free false v.word v.steps (v.installs + 1) (r.generation + 1)
            ((n + CHANGING) % 18446744073709551616) at named tt
            (λ no. absurd (true≢false (sym no)))
            (λ j x apart there k.
            let his : references_of x ≤ total references_of s.views = part_le references_of s.views j x there in
            let both : marks_of v + marks_of x ≤ total marks_of s.views =
            two_le marks_of s.views i j v x apart at there in
            knows_free r.generation (r.generation + 1) x.user (omega arith) (omega arith) k)
            (omega arith) (omega arith) (λ some_alone. absurd (none_alone (set s.views i w) unset some_alone))
            (omega arith) (let grows = r.grows in omega arith),
        refl,
      )

use Rattle.std.proofs.Common.{rules, arith, refl, sym, ap, subst, ◌∙◌, ◌≡◌, ◌+◌, ◌-◌, ◌*◌}
use Rattle.std.proofs.Common.{◌%◌, ◌/◌, ◌<◌, ◌≤◌, ◌++◌, ℕ, List, inl, inr, append_assoc}
use Rattle.word_ring.specs.declared.taker.Taker.TheInside.{Inside}
use Rattle.word_ring.specs.Lanes.{lanes, top_lanes}
use Rattle.word_ring.specs.Rule.{place}
use Rattle.word_ring.specs.TakerParts.{taker_state, IsTaker}
use Rattle.word_ring.proofs.Taking.{next_is, more_shown, HasRead, ReadsOne, reads_there, reads_loaded}
use Rattle.word_ring.proofs.Taking.{reads_rest, reads_first, word_within, loads_next, still_taker, peeks_some}
use Rattle.word_ring.proofs.taker.Taker.peek_across.Goals as goal
use Rattle.word_ring.proofs.taker.Taker.peek_across.Goals.{then-self, else-self, After-place_of_next-at}

pub load-self-inside-requires : goal.load-self-inside-requires
load-self-inside-requires c =
    let t = c.self.inside in
    let same = c.if-self.true in
    let at = c.self.invariant.taking.start_is ∙ ap (λ (k : ℕ). place t.capacity (k / 4)) (sym same) in
    let more : t.next < t.seat.me.0.tail =
    omega (arith, more_shown _ _ 4 c.self.invariant c.self.view_is c.requires.shown) in (
      search rules,
      (let board = ap (λ z. z.shared.table_id.words) c.deref.ensures in
          omega (arith, word_within t c.self.invariant (inl same) more _ at, board)),
      loads_next t c.self.invariant (inl same) more _ at _ _ _,
    )

four : (c : After-place_of_next-at) → c.self.inside.next + 4 ≤ c.self.inside.seat.me.0.tail
four c = more_shown _ _ 4 c.self.invariant c.self.view_is c.requires.shown

inside : (c : After-place_of_next-at) → 0 < c.self.inside.next % 4
inside c = subst (λ (k : ℕ). 0 < k % 4) (next_is _ _ c.self.invariant c.self.view_is) c.requires.inside

-- both ways
reads_one : (c : After-place_of_next-at) → ReadsOne c.self.inside c.if-self.self-inside
reads_one c =
    let t = c.self.inside in
    let more : t.next < t.seat.me.0.tail = omega (arith, four c) in
    let order = c.self.invariant.taking.order in
    elim c.if-self.branch [
      | then-self w ↦
          let same = w.if-self.true in
          let at = c.self.invariant.taking.start_is ∙ ap (λ (k : ℕ). place t.capacity (k / 4)) (sym same) in
          let loaded = w.load-self-inside.ensures in
          subst (ReadsOne t) (sym w.self-inside-is)
          (reads_loaded _ _ c.self.invariant refl at loaded.0 loaded.2 (inl same) more)
      | else-self w ↦ subst (ReadsOne t) (sym w.self-inside-is)
          (reads_there t c.self.invariant (omega (arith, w.if-self.false)) (inside c) more)
    ]

abbrev lead : After-place_of_next-at → ℕ
lead c = 4 - c.self.inside.next % 4

reads : (c : After-place_of_next-at)
    → HasRead c.self.inside c.if-self.self-inside (lead c) (top_lanes c.if-self.self-inside.word (lead c))
reads c = reads_rest _ _ c.self.invariant (reads_one c) (four c)

abbrev between : After-place_of_next-at → Inside
between c = record c.if-self.self-inside { next = c.self.inside.next + lead c }

is_taker : (c : After-place_of_next-at) → IsTaker (between c)
is_taker c = still_taker _ _ _ _ (reads c) c.self.invariant

begins : (c : After-place_of_next-at) → (between c).next % 4 ≡ 0
begins c = omega (arith, inside c)

rest : (c : After-place_of_next-at) → (between c).next + c.self.inside.next % 4 ≤ (between c).seat.me.0.tail
rest c = let tail = ap (λ z. z.tail) (reads c).view in omega (arith, four c, tail)

place_is : (c : After-place_of_next-at) → c.place_of_next-at.result ≡ place (between c).capacity ((between c).next / 4)
place_is c =
    let is : (c.self.inside.next + 4) / 4 * 4 / 4 ≡ (between c).next / 4 = omega (arith, inside c) in
    c.place_of_next-at.ensures ∙ ap (place c.if-self.self-inside.capacity) is

pub load-second-requires : goal.load-second-requires
load-second-requires c =
    let d = (goal.at.load-second-requires c).After-place_of_next-at in
    let more : (between d).next < (between d).seat.me.0.tail = omega (arith, rest d, inside d) in (
      search rules,
      (let board = ap (λ z. z.shared.table_id.words) c.deref-2.ensures in
          omega (arith, word_within (between d) (is_taker d) (inr (begins d)) more _ (place_is d), board)),
      loads_next (between d) (is_taker d) (inr (begins d)) more _ (place_is d) _ _ _,
    )

abbrev at_next : goal.After-joined → After-place_of_next-at
at_next c = (goal.at.returns c).After-place_of_next-at

abbrev after : goal.After-joined → ℕ → Inside
after c n = record (between (at_next c)) {
  seat = c.load-second.new.seat;
  word = c.load-second.result;
  at = c.place_of_next-at.result;
  next = n;
}

reads_more : (c : goal.After-joined)
    → HasRead (between (at_next c)) (after c (between (at_next c)).next) (c.self.inside.next % 4)
    (lanes c.load-second.result (c.self.inside.next % 4))
reads_more c =
    let d = at_next c in
    let loaded = c.load-second.ensures in
    reads_first _ _ (is_taker d) refl (place_is d) loaded.0 loaded.2 (c.self.inside.next % 4) (begins d) (inside d)
    (omega arith) (rest d)

steps_on : (c : goal.After-joined) → (between (at_next c)).next + c.self.inside.next % 4 ≡ c.self.inside.next + 4
steps_on c = omega arith

pub invariant_of-self : goal.invariant_of-self
invariant_of-self c =
    subst (λ (n : ℕ). IsTaker (after c n)) (steps_on c) (still_taker _ _ _ _ (reads_more c) (is_taker (at_next c)))

pub returns : goal.returns
returns c =
    let d = at_next c in
    let old = c.args.self.now in
    let count = c.self.inside.next % 4 in
    let first = top_lanes c.if-self.self-inside.word (lead d) in
    let second = c.load-second.result in
    let back : 4 - lead d ≡ count = omega arith in
    let both : first ++ lanes second count ≡ lanes c.joined.result 4 =
    ap (λ (k : ℕ). first ++ lanes second k) (sym back) ∙ sym c.joined.ensures in
    ap (λ (n : ℕ). taker_state (after c n)) (sym (steps_on c))
    ∙ (peeks_some _ _ _ _ (reads_more c) _ (peeks_some _ _ _ _ (reads d) _ c.self.view_is)
    ∙ ap (λ (xs : List ℕ). record old { peeked = xs })
    (append_assoc old.peeked first (lanes second count) ∙ ap (λ (xs : List ℕ). old.peeked ++ xs) both))

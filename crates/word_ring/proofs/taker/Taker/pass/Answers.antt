use Rattle.std.proofs.Common.{rules, arith, refl, sym, ap, subst, ◌∙◌, ◌≡◌, ◌+◌, ◌/◌, ◌≤◌, ◌++◌, ◌∷◌, ℕ, List, length}
use Rattle.atomic_table.specs.Table.{rest}
use Rattle.word_ring.specs.declared.putter.Putter.TheInside.{Inside as PutterInside}
use Rattle.word_ring.specs.declared.table.View.{View}
use Rattle.word_ring.specs.declared.taker.Taker.TheInside.{Inside as TakerInside}
use Rattle.word_ring.specs.Ends.{PutterState, TakerState, NothingWaits, Passes}
use Rattle.word_ring.specs.Lanes.{HasLast}
use Rattle.word_ring.specs.Plays.{with_putter, with_put_past, held, putter_of, taker_of}
use Rattle.word_ring.specs.PutterParts.{putter_state, IsPutting}
use Rattle.word_ring.specs.Rule.{place}
use Rattle.word_ring.specs.TakerParts.{taker_state, IsTaking}
use Rattle.word_ring.proofs.Joining.{leaves, ends, parts}
use Rattle.word_ring.proofs.PastSlot.{puts_past, takes_past}
use Rattle.word_ring.proofs.Passed.{both, level, whole, joined_length, pushed_length, pushed_last}
use Rattle.word_ring.proofs.Passed.{put_by, passed, passed_by, putting, taking, passes}
use Rattle.word_ring.proofs.taker.Taker.pass.Goals as goal
use Rattle.word_ring.proofs.taker.Taker.pass.Goals.{After-word_after-putter-inside}

pub split_seat-seat-requires : goal.split_seat-seat-requires
split_seat-seat-requires c = (
  search rules,
  search rules,
  leaves _ _ _ c.putter.invariant.putting.puts c.putter.invariant.putting.alone c.putter.invariant.putting.still,
)

pub join_seat-requires : goal.join_seat-requires
join_seat-requires c = (
  search rules,
  search rules,
  search rules,
  search rules,
  ends _ _ _ _ _ c.self.invariant.taking.takes
      (ap (λ m. m.0.puts) c.split_seat-seat.ensures.4 ∙ c.putter.invariant.putting.puts),
)

pub store-requires : goal.store-requires
store-requires c =
    let p = c.putter.inside in
    let t = c.self.inside in
    let clear : NothingWaits (putter_state p) (taker_state t) =
    subst (λ (z : PutterState ℕ × TakerState ℕ). NothingWaits z.0 z.1)
    (λ i. (sym c.putter.view_is i, sym c.self.view_is i)) c.requires.clear in
    let all : View = both p t c.putter.invariant c.self.invariant clear in
    let here : c.exchange.new.seat.me.0 ≡ all =
    ap (λ m. m.0) c.exchange.ensures.3
    ∙ (ap (λ m. m.0) c.join_seat.ensures.2 ∙ (λ i. with_putter t.seat.me.0 (c.split_seat-seat.ensures.4 i).0)) in
    let bytes : held c.exchange.new.seat.me.1 ≡ c.args.bytes.now =
    ap (λ m. held m.1) c.exchange.ensures.3 ∙ c.of.ensures in
    let room : length c.args.bytes.now ≤ t.capacity =
    subst (λ (z : TakerState ℕ). length c.args.bytes.now ≤ z.capacity) (sym c.self.view_is) c.requires.room in
    let long : length (all.pushed ++ c.args.bytes.now) ≡ p.sent + length c.args.bytes.now =
    joined_length p t c.putter.invariant c.self.invariant clear c.args.bytes.now (p.sent + length c.args.bytes.now)
    refl in (
      search rules,
      search rules,
      puts_past _ _ _ _ _ (ap (λ (u : View). u.puts) here)
          (ap (λ (u : View). u.takes) here ∙ c.self.invariant.taking.takes)
          (subst (λ (u : View). length u.taken ≡ length u.pushed) (sym here)
          (level p t c.putter.invariant c.self.invariant clear))
          (subst (λ (z : List ℕ × ℕ). length z.0 ≤ z.1)
          (λ i. (sym bytes i, ap (λ (u : View). u.takes_within) (sym here) i))
          (omega (arith, room, c.self.invariant.taking.room)))
          (subst (λ (u : View). length u.written ≤ length u.pushed) (sym here)
          (whole p t c.putter.invariant c.self.invariant clear))
          (sym long ∙ (λ i. length (ap (λ (u : View). u.pushed) (sym here) i ++ sym bytes i))),
    )

pub store-requires-2 : goal.store-requires-2
store-requires-2 c =
    let p = c.putter.inside in
    let t = c.self.inside in
    let clear : NothingWaits (putter_state p) (taker_state t) =
    subst (λ (z : PutterState ℕ × TakerState ℕ). NothingWaits z.0 z.1)
    (λ i. (sym c.putter.view_is i, sym c.self.view_is i)) c.requires.clear in
    let all : View = both p t c.putter.invariant c.self.invariant clear in
    let now : c.store.new.seat.me.0 ≡ with_put_past all c.args.bytes.now =
    put_by p t c.putter.invariant c.self.invariant clear c.args.bytes.now c.of.result c.split_seat-seat.result.me.0
    c.join_seat.new.seat.me c.exchange.new.seat.me c.store.new.seat.me
    c.of.ensures (ap (λ m. m.0) c.split_seat-seat.ensures.4) (ap (λ m. m.0) c.join_seat.ensures.2) c.exchange.ensures.3
    c.store.ensures.2.0 in (
      search rules,
      search rules,
      takes_past _ _ _ _ _ (ap (λ (u : View). u.puts) now)
          (ap (λ (u : View). u.takes) now ∙ c.self.invariant.taking.takes)
          (subst (λ (u : View). length u.written ≤ length u.pushed) (sym now) (omega arith))
          (sym (joined_length p t c.putter.invariant c.self.invariant clear c.args.bytes.now
          (p.sent + length c.args.bytes.now) refl)
          ∙ ap (λ (u : View). length u.pushed) (sym now)),
    )

pub split_seat-requires : goal.split_seat-requires
split_seat-requires c =
    let puts =
    ap (λ (u : View). u.puts) c.store-2.ensures.2.0
    ∙ (ap (λ (u : View). u.puts) c.store.ensures.2.0
    ∙ (ap (λ m. m.0.puts) c.exchange.ensures.3 ∙ ap (λ m. m.0.puts) c.join_seat.ensures.2)) in
    let takes =
    ap (λ (u : View). u.takes) c.store-2.ensures.2.0
    ∙ (ap (λ (u : View). u.takes) c.store.ensures.2.0
    ∙ (ap (λ m. m.0.takes) c.exchange.ensures.3 ∙ ap (λ m. m.0.takes) c.join_seat.ensures.2)) in (
      search rules,
      search rules,
      parts _ _ _ puts (takes ∙ c.self.invariant.taking.takes) (ap (λ (u : View). u.passing) c.store-2.ensures.2.0),
    )

module _ (c : After-word_after-putter-inside) where
  abbrev p : PutterInside
  p = c.putter.inside

  abbrev t : TakerInside
  t = c.self.inside

  abbrev bytes : List ℕ
  bytes = c.args.bytes.now

  abbrev end : ℕ
  end = p.sent + length bytes

  clear : NothingWaits (putter_state p) (taker_state t)
  clear = subst (λ (z : PutterState ℕ × TakerState ℕ). NothingWaits z.0 z.1)
      (λ i. (sym c.putter.view_is i, sym c.self.view_is i)) c.requires.clear

  size : length (p.seat.me.0.pushed ++ bytes) ≡ end
  size = joined_length p t c.putter.invariant c.self.invariant clear bytes end refl

  abbrev word : ℕ
  word = c.word_after-putter-inside.result

  last : HasLast word (p.seat.me.0.pushed ++ bytes)
  last = c.word_after-putter-inside.ensures p.seat.me.0.pushed
      (pushed_length p t c.putter.invariant c.self.invariant clear)
      (pushed_last p t c.putter.invariant c.self.invariant clear)

  abbrev all : View
  all = passed p t c.putter.invariant c.self.invariant clear bytes end size word last

  now : c.store-2.new.seat.me.0 ≡ all
  now = passed_by p t c.putter.invariant c.self.invariant clear bytes end size word last
      c.of.result c.split_seat-seat.result.me.0 c.join_seat.new.seat.me c.exchange.new.seat.me
      c.store.new.seat.me c.store-2.new.seat.me
      c.of.ensures (ap (λ m. m.0) c.split_seat-seat.ensures.4) (ap (λ m. m.0) c.join_seat.ensures.2)
      c.exchange.ensures.3 c.store.ensures.2.0 c.store-2.ensures.2.0

  table : c.store-2.new.seat.table_id ≡ t.seat.table_id
  table = c.store-2.ensures.0 ∙ (c.store.ensures.0 ∙ (c.exchange.ensures.0 ∙ c.join_seat.ensures.0))

  one_ring : t.seat.table_id ≡ p.seat.table_id
  one_ring = ap (λ s. s.ring) c.self.view_is ∙ (sym c.requires.ring ∙ sym (ap (λ s. s.ring) c.putter.view_is))

  putter_view : c.split_seat.result.me.0 ≡ putter_of all
  putter_view = ap (λ m. m.0) c.split_seat.ensures.4 ∙ ap putter_of now

  taker_view : c.split_seat.new.seat.me.0 ≡ taker_of all
  taker_view = ap (λ m. m.0) c.split_seat.ensures.2 ∙ ap taker_of now

  putter_ring : c.split_seat.result.table_id ≡ p.seat.table_id
  putter_ring = c.split_seat.ensures.3 ∙ (table ∙ one_ring)

  taker_ring : c.split_seat.new.seat.table_id ≡ t.seat.table_id
  taker_ring = c.split_seat.ensures.0 ∙ table

  one_capacity : p.capacity ≡ t.capacity
  one_capacity =
      sym c.putter.invariant.putting.room
      ∙ (subst (λ (u : View). u.puts_within ≡ u.takes_within)
      (ap (λ m. m.0) c.exchange.ensures.3
      ∙ (ap (λ m. m.0) c.join_seat.ensures.2 ∙ (λ i. with_putter t.seat.me.0 (c.split_seat-seat.ensures.4 i).0)))
      c.store.ensures.2.4
      ∙ c.self.invariant.taking.room)

pub place_further-putter-inside-requires : goal.place_further-putter-inside-requires
place_further-putter-inside-requires c =
    let t = c.self.inside in
    let one : c.putter.inside.capacity ≡ t.capacity =
    sym c.putter.invariant.putting.room
    ∙ (subst (λ (u : View). u.puts_within ≡ u.takes_within)
    (ap (λ m. m.0) c.exchange.ensures.3
    ∙ (ap (λ m. m.0) c.join_seat.ensures.2 ∙ (λ i. with_putter t.seat.me.0 (c.split_seat-seat.ensures.4 i).0)))
    c.store.ensures.2.4
    ∙ c.self.invariant.taking.room) in
    let room : length c.args.bytes.now ≤ t.capacity =
    subst (λ (z : TakerState ℕ). length c.args.bytes.now ≤ z.capacity) (sym c.self.view_is) c.requires.room in
    record {
      small = c.putter.invariant.small;
      order = (omega arith, omega (arith, one, room));
      at = c.putter.invariant.at;
    }

pub invariant_of-self : goal.invariant_of-self
invariant_of-self c =
    let d = (goal.at.invariant_of-self c).After-word_after-putter-inside in
    let view = taker_view d in
    let it = c.self.invariant in
    record {
      table = taker_ring d ∙ it.table;
      key = it.key;
      words = ap (λ r. r.words) (taker_ring d) ∙ it.words;
      small = it.small;
      slot = c.of.result;
      holds = ap (λ m. m.1) c.split_seat.ensures.2
          ∙ (c.store-2.ensures.2.1
          ∙ (c.store.ensures.2.1
          ∙ (ap (λ m. m.1) c.exchange.ensures.3
          ∙ ap (λ l. (0, c.of.result) ∷ rest l) (ap (λ m. m.1) c.join_seat.ensures.2 ∙ it.holds))));
      tail = sym (ap (λ (u : View). u.tail) view ∙ size d);
      ended = it.ended ∙ ((clear d).apart ∙ sym (ap (λ (u : View). u.puts) view));
      taking = subst (IsTaking c.self.inside.capacity (end d) (end d) c.self.inside.word
          c.place_further-putter-inside.result c.self.inside.at)
          (sym view)
          (taking (p d) (t d) c.putter.invariant it (clear d) (bytes d) (end d) (size d) (word d) (last d)
          c.self.inside.word c.place_further-putter-inside.result c.self.inside.at
          (c.place_further-putter-inside.ensures ∙ ap (λ (n : ℕ). place n ((end d) / 4)) (one_capacity d))
          (omega
          (arith, c.requires.small, ap (λ s. length s.sent) c.putter.view_is, c.putter.invariant.putting.count)));
    }

pub invariant_of-putter : goal.invariant_of-putter
invariant_of-putter c =
    let d = (goal.at.invariant_of-putter c).After-word_after-putter-inside in
    let view = putter_view d in
    let ip = c.putter.invariant in
    record {
      table = putter_ring d ∙ ip.table;
      key = ip.key;
      words = ap (λ r. r.words) (putter_ring d) ∙ ip.words;
      small = ip.small;
      at = c.place_further-putter-inside.ensures;
      bare = ap (λ m. m.1) c.split_seat.ensures.4;
      shown = sym (ap (λ (u : View). length u.pushed) view ∙ size d);
      head = sym (ap (λ (u : View). u.head) view ∙ size d);
      putting = subst (IsPutting c.putter.inside.capacity (end d) (word d)) (sym view)
          (putting (p d) (t d) ip c.self.invariant (clear d) (bytes d) (end d) (size d) (word d) (last d));
    }

pub returns : goal.returns
returns c =
    let d = (goal.at.returns c).After-word_after-putter-inside in
    let here : c.exchange.new.seat.me.0 ≡ both (p d) (t d) c.putter.invariant c.self.invariant (clear d) =
    ap (λ m. m.0) c.exchange.ensures.3
    ∙ (ap (λ m. m.0) c.join_seat.ensures.2
    ∙ (λ i. with_putter c.self.inside.seat.me.0 (c.split_seat-seat.ensures.4 i).0)) in
    let sent : ℕ = end d in
    let at = c.place_further-putter-inside.result in
    let p' : PutterInside = record c.putter.inside {
      seat = c.split_seat.result;
      sent = sent;
      word = word d;
      at = at;
      shown = sent;
      head = sent;
    } in
    let t' : TakerInside =
    record c.self.inside { seat = c.split_seat.new.seat; taken = sent; next = sent; start = at; tail = sent } in
    subst (λ (z : PutterState ℕ × TakerState ℕ). Passes z.0 (putter_state p') z.1 (taker_state t') c.args.bytes.now)
    (λ i. (c.putter.view_is i, c.self.view_is i))
    (passes (p d) (t d) c.putter.invariant c.self.invariant (clear d) (bytes d) (end d) (size d) (word d) (last d)
    p' t' (putter_ring d) (putter_view d) refl (taker_ring d) (taker_view d) refl
    (subst (λ (u : View). u.taken ≡ u.pushed) here c.store.ensures.2.2)
    (subst (λ (u : View). u.tail ≤ length u.pushed) here c.store.ensures.2.3))

-- What the two ends are after some numbers were passed, with all that was put taken before.
use Rattle.std.proofs.Common.{◌≡◌, ℕ, suc, ◌+◌, ◌-◌, ◌/◌, ◌%◌, ◌^◌, ◌<◌, ◌≤◌, List, [], ◌∷◌}
use Rattle.std.proofs.Common.{◌++◌, length, drop, refl, sym, ap, ◌∙◌, subst, arith}
use Rattle.std.proofs.Common.{append_assoc, length-append, take-append-drop, take, get_or, ◌*◌}
use mathlib.Core.List.{IsPrefix}
use Rattle.std.specs.List.{All}
use Rattle.std.specs.List.Sorted.{IsNonDecreasing}
use Rattle.std.proofs.lemmas.Bool.{false≢true}
use Rattle.std.proofs.Math.Seq.{take-suc, length-take-le, drop-append_seam, drop-append-le}
use Rattle.word_ring.specs.declared.putter.Putter.TheInside.{Inside as PutterInside}
use Rattle.word_ring.specs.declared.taker.Taker.TheInside.{Inside as TakerInside}
use Rattle.word_ring.specs.declared.table.View.{View}
use Rattle.word_ring.specs.Ends.{PutterState, NothingWaits, Passes, with_loaded, with_all_taken}
use Rattle.word_ring.specs.Lanes.{LANE, lanes, top_lanes, whole_words, HasLast}
use Rattle.atomic_table.specs.Table.{Me, rest}
use Rattle.word_ring.specs.Plays.{with_putter, with_put_past, with_taken_past, with_passed, held, putter_of, taker_of}
use Rattle.word_ring.specs.PutterParts.{putter_state, sent_of, IsPutter, IsPutting}
use Rattle.word_ring.specs.TakerParts.{taker_state, IsTaker, IsTaking, peeked_of}
use Rattle.word_ring.specs.Rule.{Slot, place}
use Rattle.word_ring.proofs.Beginnings.{begins_itself, begins_length}
use Rattle.word_ring.proofs.Packing.{lanes_length, lanes_split}
use Rattle.word_ring.proofs.Putting.{all_pushed}
use Rattle.word_ring.proofs.Released.{rises_push, below_push}
use Rattle.word_ring.proofs.Taking.{clean, none_peeked}

-- a list that ends with the four numbers of a word
pub four_last : (front : List ℕ) (four : ℕ) → HasLast four (front ++ lanes four 4)
four_last front four =
    let all : List ℕ = front ++ lanes four 4 in
    let k : ℕ = length all % 4 in
    let low : List ℕ = front ++ lanes four (4 - k) in
    let parts : low ++ top_lanes four k ≡ all =
    append_assoc front (lanes four (4 - k)) (top_lanes four k)
    ∙ ap (λ (xs : List ℕ). front ++ xs) (lanes_split four k (omega arith)) in
    let long : length all ≡ length front + 4 =
    length-append front (lanes four 4) ∙ omega (arith, lanes_length four 4) in
    let short : length low ≡ length front + (4 - k) =
    length-append front (lanes four (4 - k)) ∙ omega (arith, lanes_length four (4 - k)) in
    let whole : length all / 4 * 4 ≡ length low = omega (arith, long, short) in
    sym (ap (λ (n : ℕ). drop n all) whole
    ∙ (ap (λ (xs : List ℕ). drop (length low) xs) (sym parts) ∙ drop-append_seam low (top_lanes four k)))

-- a list that ends with the last lanes of a word, by how long it is
pub lanes_last : (front : List ℕ) (word sent : ℕ)
    → sent ≡ length (front ++ top_lanes word (sent % 4))
    → HasLast word (front ++ top_lanes word (sent % 4))
lanes_last front word sent is =
    let ys : List ℕ = top_lanes word (sent % 4) in
    let long : length (front ++ ys) ≡ length front + sent % 4 =
    length-append front ys ∙ omega (arith, lanes_length (word / LANE ^ (4 - sent % 4)) (sent % 4)) in
    let whole : length (front ++ ys) / 4 * 4 ≡ length front = omega (arith, is, long) in
    ap (λ (n : ℕ). top_lanes word (n % 4)) (sym is)
    ∙ sym (ap (λ (n : ℕ). drop n (front ++ ys)) whole ∙ drop-append_seam front ys)

-- one more number in the next lane, after what fills whole words of all
pub goes_on : (front bytes : List ℕ) (sent at word word' : ℕ)
    → length front ≡ sent
    → at < length bytes
    → top_lanes word' ((sent + length bytes) % 4 + at - length bytes + 1)
    ≡ top_lanes word ((sent + length bytes) % 4 + at - length bytes) ++ get_or bytes at 0 ∷ []
    → top_lanes word ((sent + length bytes) % 4 + at - length bytes)
    ≡ drop ((sent + length bytes) / 4 * 4) (front ++ take at bytes)
    → (sent + length bytes) / 4 * 4 ≤ sent + at
    → length bytes ≤ (sent + length bytes) % 4 + at
    → top_lanes word' ((sent + length bytes) % 4 + (at + 1) - length bytes)
    ≡ drop ((sent + length bytes) / 4 * 4) (front ++ take (at + 1) bytes)
goes_on front bytes sent at word word' long lt next so_far low begun =
    let c : ℕ = (sent + length bytes) / 4 * 4 in
    let x : ℕ = get_or bytes at 0 in
    let size : length (front ++ take at bytes) ≡ sent + at =
    length-append front (take at bytes) ∙ omega (arith, long, lt, length-take-le at bytes (omega (arith, lt))) in
    let lane : (sent + length bytes) % 4 + (at + 1) - length bytes ≡ (sent + length bytes) % 4 + at - length bytes + 1 =
    omega (arith, begun) in
    let one : suc at ≡ at + 1 = omega arith in
    let more : front ++ take at bytes ++ x ∷ [] ≡ front ++ take (at + 1) bytes =
    append_assoc front (take at bytes) (x ∷ [])
    ∙ ap (λ (xs : List ℕ). front ++ xs) (sym (take-suc bytes at 0 lt) ∙ ap (λ (n : ℕ). take n bytes) one) in
    ap (top_lanes word') lane
    ∙ (next
    ∙ (ap (λ (xs : List ℕ). xs ++ x ∷ []) so_far
    ∙ (sym (drop-append-le c (front ++ take at bytes) (x ∷ []) (omega (arith, size, low)))
    ∙ ap (λ (xs : List ℕ). drop c xs) more)))

module _ (p : PutterInside) (t : TakerInside) (ip : IsPutter p) (it : IsTaker t)
    (clear : NothingWaits (putter_state p) (taker_state t)) where
  abbrev v : View
  v = t.seat.me.0

  abbrev w : View
  w = p.seat.me.0

  -- what the seat of both ends knows
  abbrev pub both : View
  both = with_putter v w

  pub sent_is : w.pushed ≡ sent_of p.sent p.word w
  sent_is = all_pushed p.capacity p.sent p.word w ip.putting (clear.pushed ∙ sym ip.putting.count)

  pub level : length both.taken ≡ length both.pushed
  level = clear.taken ∙ sym clear.pushed

  pub whole : length both.written ≤ length both.pushed
  whole = omega (arith, begins_length w.written (sent_of p.sent p.word w) ip.putting.begins, clear.pushed)

  -- the seat of both ends was made, given the numbers, and put them
  pub put_by : (bytes : List ℕ) (slot : Slot) (left : View) (joined exchanged put : Me Slot View)
      → slot.items ≡ bytes
      → left ≡ w
      → joined.0 ≡ with_putter v left
      → exchanged ≡ (joined.0, (0, slot) ∷ rest joined.1)
      → put.0 ≡ with_put_past exchanged.0 (held exchanged.1)
      → put.0 ≡ with_put_past both bytes
  put_by bytes slot left joined exchanged put has leaves joins gets puts =
      puts
      ∙ ((λ i. with_put_past (gets i).0 (held (gets i).1))
      ∙ (λ i. with_put_past ((joins ∙ ap (with_putter v) leaves) i) (has i)))

  pub joined_length : (bytes : List ℕ) (end : ℕ) → end ≡ p.sent + length bytes → length (w.pushed ++ bytes) ≡ end
  joined_length bytes end is = omega (arith, length-append w.pushed bytes, is, clear.pushed, ip.putting.count)

  pub pushed_length : length w.pushed ≡ p.sent
  pushed_length = clear.pushed ∙ sym ip.putting.count

  pub pushed_last : HasLast p.word w.pushed
  pushed_last = subst (HasLast p.word) (sym sent_is) (lanes_last (whole_words w.written) p.word p.sent ip.putting.count)

  module _ (bytes : List ℕ) (end : ℕ) (size : length (w.pushed ++ bytes) ≡ end) (word : ℕ)
      (last : HasLast word (w.pushed ++ bytes)) where
    abbrev pub passed : View
    passed = with_passed both bytes

    abbrev all : List ℕ
    all = w.pushed ++ bytes

    sent_now : sent_of end word (putter_of passed) ≡ all
    sent_now =
        ap (λ (n : ℕ). whole_words all ++ top_lanes word (n % 4)) (sym size)
        ∙ (ap (λ (xs : List ℕ). whole_words all ++ xs) last ∙ take-append-drop (length all / 4 * 4) all)

    -- and took them
    pub passed_by : (slot : Slot) (left : View) (joined exchanged put taken : Me Slot View)
        → slot.items ≡ bytes
        → left ≡ w
        → joined.0 ≡ with_putter v left
        → exchanged ≡ (joined.0, (0, slot) ∷ rest joined.1)
        → put.0 ≡ with_put_past exchanged.0 (held exchanged.1)
        → taken.0 ≡ with_taken_past put.0
        → taken.0 ≡ passed
    passed_by slot left joined exchanged put taken has leaves joins gets puts takes =
        takes ∙ ap with_taken_past (put_by bytes slot left joined exchanged put has leaves joins gets puts)

    low : w.head ≤ length all
    low = omega (arith, clear.known, ip.putting.count, clear.pushed, length-append w.pushed bytes)

    pub putting : IsPutting p.capacity end word (putter_of passed)
    putting = record {
      puts = refl;
      alone = refl;
      still = refl;
      room = ip.putting.room;
      begins = subst (λ (xs : List ℕ). IsPrefix all xs) (sym sent_now) (begins_itself all);
      pushed = subst (λ (xs : List ℕ). IsPrefix all xs) (sym sent_now) (begins_itself all);
      count = sym (ap length sent_now ∙ size);
      fits = omega (arith, size);
      rise = rises_push w.heads w.head (length all) ip.putting.rise ip.putting.most low;
      most = below_push w.heads w.head (length all) ip.putting.most low;
    }

    pub taking : (known start at : ℕ)
        → start ≡ place t.capacity (end / 4)
        → end < 2 ^ 64
        → IsTaking t.capacity end end known start at (taker_of passed)
    taking known start at start_is fits = clean t.capacity end known start at (taker_of passed) it.taking.takes refl
        it.taking.room (sym size) refl start_is (omega (arith, size, fits))
        (λ is. absurd (false≢true is)) (λ is. absurd (false≢true is)) (λ _. refl)

    module _ (p' : PutterInside) (t' : TakerInside)
        (putter_ring : p'.seat.table_id ≡ p.seat.table_id) (putter_view : p'.seat.me.0 ≡ putter_of passed)
        (putter_is : p' ≡ record p { seat = p'.seat; sent = end; word = word; at = p'.at; shown = end; head = end })
        (taker_ring : t'.seat.table_id ≡ t.seat.table_id) (taker_view : t'.seat.me.0 ≡ taker_of passed)
        (taker_is : t' ≡ record t { seat = t'.seat; taken = end; next = end; start = t'.start; tail = end })
        (met : both.taken ≡ both.pushed) (floor : both.tail ≤ length both.pushed) where
      abbrev sent : List ℕ
      sent = sent_of p.sent p.word w

      all_is : all ≡ sent ++ bytes
      all_is = ap (λ (xs : List ℕ). xs ++ bytes) sent_is

      putter_now : putter_state p'
          ≡ with_loaded (record (putter_state p) { sent = sent ++ bytes; pushed = sent ++ bytes })
          (length (sent ++ bytes))
      putter_now =
          ap putter_state putter_is
          ∙ (ap (λ (u : View). record {
            ring = p'.seat.table_id;
            capacity = p.capacity;
            sent = sent_of end word u;
            pushed = u.pushed;
            heads = u.heads;
            floor = u.head;
          }) putter_view
          ∙ (λ i. record {
            ring = putter_ring i;
            capacity = p.capacity;
            sent = (sent_now ∙ all_is) i;
            pushed = all_is i;
            heads = w.heads ++ length (all_is i) ∷ [];
            floor = length (all_is i);
          }))

      none : peeked_of end end (taker_of passed) ≡ []
      none = none_peeked end (taker_of passed) size refl

      taker_now : taker_state t' ≡ with_all_taken (taker_state t) (sent ++ bytes)
      taker_now =
          ap taker_state taker_is
          ∙ (ap (λ (u : View). record {
            ring = t'.seat.table_id;
            capacity = t.capacity;
            taken = u.taken;
            peeked = peeked_of end end u;
            released = u.released;
            tails = u.tails;
            floor = u.tail;
            ended = u.puts;
            sent = u.pushed;
          }) taker_view
          ∙ (λ i. record {
            ring = taker_ring i;
            capacity = t.capacity;
            taken = all_is i;
            peeked = none i;
            released = v.released ++ length (all_is i) ∷ [];
            tails = v.tails ++ length (all_is i) ∷ [];
            floor = length (all_is i);
            ended = sym clear.apart i;
            sent = sym (it.taking.alone clear.apart) i;
          }))

      pub passes : Passes (putter_state p) (putter_state p') (taker_state t) (taker_state t') bytes
      passes = record {
        met = met ∙ sent_is;
        putter = putter_now;
        taker = taker_now;
        floor = omega (arith, floor, ap length sent_is);
        heads = subst (λ (z : PutterState ℕ). All (λ h. h ≤ length (sent ++ bytes)) z.heads) (sym putter_now)
            (subst (λ (xs : List ℕ). All (λ h. h ≤ length xs) (w.heads ++ length xs ∷ [])) all_is putting.most);
        rise = subst (λ (z : PutterState ℕ). IsNonDecreasing z.heads) (sym putter_now)
            (subst (λ (xs : List ℕ). IsNonDecreasing (w.heads ++ length xs ∷ [])) all_is putting.rise);
      }

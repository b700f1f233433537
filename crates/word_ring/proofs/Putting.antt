-- What a putter's seat knows fits its numbers after each step.
use Rattle.std.proofs.Common.{◌≡◌, ℕ, ◌+◌, ◌-◌, ◌*◌, ◌/◌, ◌%◌, ◌^◌, ◌<◌, ◌≤◌, List, [], ◌∷◌, ◌++◌}
use Rattle.std.proofs.Common.{length, max, sym, ap, ◌∙◌, subst, arith, append_assoc, length-append}
use mathlib.Core.List.{IsPrefix}
use Rattle.word_ring.specs.declared.putter.Putter.TheInside.{Inside}
use Rattle.word_ring.specs.declared.table.View.{View}
use Rattle.word_ring.specs.Ends.{PutterState}
use Rattle.word_ring.specs.Lanes.{LANE, lanes, top_lanes, whole_words}
use Rattle.word_ring.specs.Plays.{with_head, with_written, with_all_pushed, with_head_note}
use Rattle.word_ring.specs.PutterParts.{putter_state, sent_of, IsPutter, IsPutting}
use Rattle.word_ring.proofs.Beginnings.{begins_itself, begins_more, begins_through, begins_whole}
use Rattle.word_ring.proofs.LastWord.{long_is, group_is, whole_again, whole_full, put_short, put_full, put_stored}
use Rattle.word_ring.proofs.Packing.{lanes_split, top_all, whole_length}
use Rattle.std.proofs.lemmas.List.{append-nil}
use Rattle.word_ring.proofs.Released.{rises_push, below_more, below_push}

-- where so many more find room, they do by what the seat knows
pub room_for : (t : Inside) (u : PutterState ℕ) (n : ℕ)
    → IsPutter t
    → putter_state t ≡ u
    → length u.sent + n ≤ u.floor + u.capacity
    → t.sent + n ≤ t.seat.me.0.head + t.capacity
room_for t u n inner e le =
    let count = inner.putting.count in
    let fits : length (sent_of t.sent t.word t.seat.me.0) + n ≤ t.seat.me.0.head + t.capacity =
    subst (λ (z : PutterState ℕ). length z.sent + n ≤ z.floor + z.capacity) (sym e) le in
    omega arith

module _ (capacity sent word : ℕ) (v : View) (p : IsPutting capacity sent word v) where
  pub after_load : (h : ℕ) → v.head ≤ h → IsPutting capacity sent word (with_head v h)
  after_load h le = record {
    puts = p.puts;
    alone = p.alone;
    still = p.still;
    room = p.room;
    begins = p.begins;
    pushed = p.pushed;
    count = p.count;
    fits = (let fits = p.fits in omega arith);
    rise = rises_push v.heads v.head h p.rise p.most le;
    most = below_push v.heads v.head h p.most le;
  }

  pub after_told : (w : View) → IsPutting capacity sent word (with_head_note v w)
  after_told w = record {
    puts = p.puts;
    alone = p.alone;
    still = p.still;
    room = p.room;
    begins = p.begins;
    pushed = p.pushed;
    count = p.count;
    fits = (let fits = p.fits in omega arith);
    rise = p.rise;
    most = below_more v.heads v.head (max v.head w.head) (omega arith) p.most;
  }

  pub group : sent / 4 ≡ length v.written / 4
  group = group_is v.written (word / LANE ^ (4 - sent % 4)) sent p.count

  -- where as many were pushed as were put, all that was put is
  pub all_pushed : length v.pushed ≡ sent → v.pushed ≡ sent_of sent word v
  all_pushed is = let count = p.count in begins_whole v.pushed (sent_of sent word v) p.pushed (omega arith)

  -- all that was put is stored and pushed
  pub after_push : IsPutting capacity sent word (with_all_pushed (with_written v (sent_of sent word v)))
  after_push =
      let same : sent_of sent word (with_all_pushed (with_written v (sent_of sent word v))) ≡ sent_of sent word v =
      ap (λ (xs : List ℕ). xs ++ top_lanes word (sent % 4))
      (whole_again v.written (word / LANE ^ (4 - sent % 4)) (sent % 4) (omega arith)) in
      record {
        puts = p.puts;
        alone = p.alone;
        still = p.still;
        room = p.room;
        begins =
            subst (λ (xs : List ℕ). IsPrefix (sent_of sent word v) xs) (sym same) (begins_itself (sent_of sent word v));
        pushed =
            subst (λ (xs : List ℕ). IsPrefix (sent_of sent word v) xs) (sym same) (begins_itself (sent_of sent word v));
        count = p.count ∙ ap length (sym same);
        fits = p.fits;
        rise = p.rise;
        most = p.most;
      }

  pub pushed_same : sent_of sent word (with_all_pushed (with_written v (sent_of sent word v))) ≡ sent_of sent word v
  pushed_same = ap (λ (xs : List ℕ). xs ++ top_lanes word (sent % 4))
      (whole_again v.written (word / LANE ^ (4 - sent % 4)) (sent % 4) (omega arith))

  -- a whole word is put after whole words, and was stored
  module _ (x : ℕ) (full : sent % 4 ≡ 0) (room : sent + 4 ≤ v.head + capacity) where
    abbrev all : List ℕ
    all = whole_words v.written ++ top_lanes x 4

    before_is : sent_of sent word v ≡ whole_words v.written
    before_is = ap (λ (k : ℕ). whole_words v.written ++ top_lanes word k) full ∙ append-nil (whole_words v.written)

    after_is : sent_of (sent + 4) word (with_written v all) ≡ all
    after_is =
        let is : (sent + 4) % 4 ≡ 0 = omega arith in
        ap (λ (k : ℕ). whole_words all ++ top_lanes word k) is
        ∙ (append-nil (whole_words all) ∙ whole_full v.written (x / LANE ^ (4 - 4)))

    pub after_word : IsPutting capacity (sent + 4) word (with_written v all)
    after_word =
        let whole : length (whole_words v.written) ≡ length v.written / 4 * 4 = whole_length v.written in
        let long : length all ≡ length v.written / 4 * 4 + 4 = long_is v.written (x / LANE ^ (4 - 4)) 4 in
        let count = p.count in
        let before = ap length before_is in
        let more : IsPrefix (sent_of sent word v) all =
        subst (λ (xs : List ℕ). IsPrefix xs all) (sym before_is)
        (begins_more (whole_words v.written) (top_lanes x 4)) in
        record {
          puts = p.puts;
          alone = p.alone;
          still = p.still;
          room = p.room;
          begins = subst (λ (xs : List ℕ). IsPrefix all xs) (sym after_is) (begins_itself all);
          pushed = subst (λ (xs : List ℕ). IsPrefix v.pushed xs) (sym after_is)
              (begins_through v.pushed (sent_of sent word v) all p.pushed more);
          count = (let after = ap length after_is in omega arith);
          fits = room;
          rise = p.rise;
          most = p.most;
        }

  -- four numbers are put, and the last word, which the first of them fill, was stored
  module _ (full four : ℕ) (fills : lanes full 4 ≡ top_lanes word (sent % 4) ++ lanes four (4 - sent % 4))
      (room : sent + 4 ≤ v.head + capacity) where
    abbrev filled : List ℕ
    filled = whole_words v.written ++ top_lanes full 4

    filled_is : filled ≡ sent_of sent word v ++ lanes four (4 - sent % 4)
    filled_is =
        ap (λ (xs : List ℕ). whole_words v.written ++ xs) (top_all full ∙ fills)
        ∙ sym (append_assoc (whole_words v.written) (top_lanes word (sent % 4)) (lanes four (4 - sent % 4)))

    pub filled_begins : IsPrefix v.written filled
    filled_begins = subst (λ (xs : List ℕ). IsPrefix v.written xs) (sym filled_is)
        (begins_through v.written (sent_of sent word v) (sent_of sent word v ++ lanes four (4 - sent % 4)) p.begins
        (begins_more (sent_of sent word v) (lanes four (4 - sent % 4))))

    whole_is : whole_words filled ≡ filled
    whole_is = whole_full v.written (full / LANE ^ (4 - 4))

    pub across_is : sent_of (sent + 4) four (with_written v filled) ≡ sent_of sent word v ++ lanes four 4
    across_is =
        let old : List ℕ = sent_of sent word v in
        let again : (sent + 4) % 4 ≡ sent % 4 = omega arith in
        ap (λ (k : ℕ). whole_words filled ++ top_lanes four k) again
        ∙ (ap (λ (xs : List ℕ). xs ++ top_lanes four (sent % 4)) (whole_is ∙ filled_is)
        ∙ (append_assoc old (lanes four (4 - sent % 4)) (top_lanes four (sent % 4))
        ∙ ap (λ (xs : List ℕ). old ++ xs) (lanes_split four (sent % 4) (omega arith))))

    pub after_across : IsPutting capacity (sent + 4) four (with_written v filled)
    after_across =
        let old : List ℕ = sent_of sent word v in
        let four_more = length-append old (lanes four 4) in
        let count = p.count in
        record {
          puts = p.puts;
          alone = p.alone;
          still = p.still;
          room = p.room;
          begins = subst (λ (xs : List ℕ). IsPrefix filled (xs ++ top_lanes four ((sent + 4) % 4))) (sym whole_is)
              (begins_more filled (top_lanes four ((sent + 4) % 4)));
          pushed = subst (λ (xs : List ℕ). IsPrefix v.pushed xs) (sym across_is)
              (begins_through v.pushed old (old ++ lanes four 4) p.pushed (begins_more old (lanes four 4)));
          count = sym (ap length across_is ∙ omega arith);
          fits = room;
          rise = p.rise;
          most = p.most;
        }

  module _ (word' x : ℕ) (laid : top_lanes word' (sent % 4 + 1) ≡ top_lanes word (sent % 4) ++ x ∷ [])
      (room : sent + 1 ≤ v.head + capacity) where
    -- a number is put in the last word
    pub after_put : sent % 4 < 3 → IsPutting capacity (sent + 1) word' v
    after_put lt =
        let next : sent_of (sent + 1) word' v ≡ sent_of sent word v ++ x ∷ [] =
        put_short v.written word word' sent x laid lt in
        let one = length-append (sent_of sent word v) (x ∷ []) in
        let count = p.count in
        record {
          puts = p.puts;
          alone = p.alone;
          still = p.still;
          room = p.room;
          begins = subst (λ (xs : List ℕ). IsPrefix v.written xs) (sym next)
              (begins_through v.written (sent_of sent word v) (sent_of sent word v ++ x ∷ []) p.begins
              (begins_more (sent_of sent word v) (x ∷ [])));
          pushed = subst (λ (xs : List ℕ). IsPrefix v.pushed xs) (sym next)
              (begins_through v.pushed (sent_of sent word v) (sent_of sent word v ++ x ∷ []) p.pushed
              (begins_more (sent_of sent word v) (x ∷ [])));
          count = sym (ap length next ∙ omega arith);
          fits = omega arith;
          rise = p.rise;
          most = p.most;
        }

    pub full_is : 3 ≤ sent % 4 → whole_words v.written ++ top_lanes word' 4 ≡ sent_of sent word v ++ x ∷ []
    full_is ge = put_full v.written word word' sent x laid ge

    pub full_begins : 3 ≤ sent % 4 → IsPrefix v.written (whole_words v.written ++ top_lanes word' 4)
    full_begins ge = subst (λ (xs : List ℕ). IsPrefix v.written xs) (sym (full_is ge))
        (begins_through v.written (sent_of sent word v) (sent_of sent word v ++ x ∷ []) p.begins
        (begins_more (sent_of sent word v) (x ∷ [])))

    pub full_fits : 3 ≤ sent % 4 → length (whole_words v.written ++ top_lanes word' 4) ≤ v.head + capacity
    full_fits ge =
        let one = length-append (sent_of sent word v) (x ∷ []) in
        let count = p.count in let is = ap length (full_is ge) in omega arith

    -- the last word is full and was stored
    pub after_store : 3 ≤ sent % 4
        → IsPutting capacity (sent + 1) word' (with_written v (whole_words v.written ++ top_lanes word' 4))
    after_store ge =
        let all : List ℕ = whole_words v.written ++ top_lanes word' 4 in
        let next : sent_of (sent + 1) word' (with_written v all) ≡ sent_of sent word v ++ x ∷ [] =
        put_stored v.written word word' sent x laid ge in
        let one = length-append (sent_of sent word v) (x ∷ []) in
        let count = p.count in
        record {
          puts = p.puts;
          alone = p.alone;
          still = p.still;
          room = p.room;
          begins = subst (λ (xs : List ℕ). IsPrefix all xs) (full_is ge ∙ sym next) (begins_itself all);
          pushed = subst (λ (xs : List ℕ). IsPrefix v.pushed xs) (sym next)
              (begins_through v.pushed (sent_of sent word v) (sent_of sent word v ++ x ∷ []) p.pushed
              (begins_more (sent_of sent word v) (x ∷ [])));
          count = sym (ap length next ∙ omega arith);
          fits = omega arith;
          rise = p.rise;
          most = p.most;
        }

-- What a taker's seat knows fits its numbers after each step.
use Rattle.std.proofs.Common.{◌≡◌, ◌⊎◌, ℕ, zero, suc, ◌+◌, ◌-◌, ◌*◌, ◌/◌, ◌%◌, ◌^◌, ◌<◌, ◌≤◌, true}
use Rattle.std.proofs.Common.{false, List, [], ◌∷◌, ◌++◌, length, min, max, refl, sym, ap, ◌∙◌, subst}
use Rattle.std.proofs.Common.{⊎_elim, inr, arith, append_assoc, take, drop, length-take, length-drop}
use mathlib.Core.List.{IsPrefix}
use mathlib.Core.Option.{none}
use Rattle.atomic_table.specs.Table.{step, Allows}
use Rattle.std.specs.Arc.{arc_value}
use Rattle.std.proofs.lemmas.Bool.{cases_lt, false≢true}
use Rattle.std.proofs.lemmas.List.{drop_all, drop-take, take_all, take_at, take-append-drop, take-take}
use Rattle.word_ring.specs.declared.table.View.{View}
use Rattle.word_ring.specs.declared.taker.Taker.TheInside.{Inside}
use Rattle.word_ring.specs.Ends.{TakerState, with_taken}
use Rattle.word_ring.specs.Lanes.{LANE, lane, lanes, top_lanes}
use Rattle.word_ring.specs.Plays.{with_tail, with_read, with_taken_to, with_note, with_putter, LoadsLanes}
use Rattle.word_ring.specs.Rule.{Ring, place}
use Rattle.word_ring.specs.TakerParts.{taker_state, IsTaker, IsTaking, HasLanes, peeked_of}
use Rattle.word_ring.proofs.Beginnings.{begins_itself, begins_longer, begins_take, begins_through}
use Rattle.word_ring.proofs.Keeps.{loads_lanes}
use Rattle.word_ring.proofs.Packing.{lane_on}
use Rattle.word_ring.proofs.Standing.{place_below}
use Rattle.word_ring.proofs.Reading.{shown_of, shown_length, shown_lanes, peeked_more}

-- where nothing is peeked
pub none_peeked : (taken : ℕ) (v : View) → length v.taken ≡ taken → v.read ≡ v.taken → peeked_of taken taken v ≡ []
none_peeked taken v count is = drop_all taken (take taken v.read) (omega (arith, length-take taken v.read))

-- a seat that has forgotten what it read fits
pub clean : (capacity taken word start at : ℕ) (v : View)
    → v.takes ≡ true
    → v.passing ≡ false
    → v.takes_within ≡ capacity
    → taken ≡ length v.taken
    → v.read ≡ v.taken
    → start ≡ place capacity (taken / 4)
    → v.tail < 2 ^ 64
    → (v.puts ≡ true → v.tail ≡ length v.pushed)
    → (v.puts ≡ true → IsPrefix v.taken v.pushed)
    → (v.puts ≡ false → v.pushed ≡ [])
    → IsTaking capacity taken taken word start at v
clean capacity taken word start at v takes still room count read start_is fits ended begins alone =
    let long = ap length read in
    record {
      takes = takes;
      still = still;
      room = room;
      count = count;
      goes_on = subst (λ (z : List ℕ). IsPrefix v.taken z) (sym read) (begins_itself v.taken);
      order = omega arith;
      peeked = omega arith;
      none = λ _. omega arith;
      some = λ lt. absurd (omega arith);
      lanes = λ i low high. absurd (omega arith);
      start_is = start_is;
      at_is = λ lt. absurd (omega arith);
      fits = fits;
      ended = ended;
      begins = λ is. subst (λ (z : List ℕ). IsPrefix z v.pushed) (sym read) (begins is);
      alone = alone;
    }

module _ (capacity taken next word start at : ℕ) (v : View) (t : IsTaking capacity taken next word start at v) where
  -- what was taken begins what was put, where that is known
  pub taken_begins : v.puts ≡ true → IsPrefix v.taken v.pushed
  taken_begins is = begins_through v.taken v.read v.pushed t.goes_on (t.begins is)

  -- a look tells no more than all that was put, where that is known
  pub after_look : (n : ℕ)
      → n < 2 ^ 64
      → (v.puts ≡ true → n ≡ length v.pushed)
      → IsTaking capacity taken taken word start at (with_tail v n)
  after_look n fits most =
      clean capacity taken word start at (with_tail v n) t.takes t.still t.room
      t.count refl t.start_is fits most taken_begins t.alone

  -- it is told what was pushed, which it knew where the putter was taken over
  pub after_told : (w : View)
      → w.tail < 2 ^ 64
      → (v.puts ≡ true → max v.tail w.tail ≤ length v.pushed)
      → IsTaking capacity taken taken word start at (with_note v w)
  after_told w fits most =
      let mine = t.fits in
      clean capacity taken word start at (with_note v w) t.takes t.still t.room t.count refl t.start_is (omega arith)
      (λ is. (let e = t.ended is in let m = most is in omega arith)) taken_begins t.alone

  pub after_end : (w : View)
      → length w.pushed < 2 ^ 64
      → max v.tail (length w.pushed) ≤ length w.pushed
      → IsPrefix v.taken w.pushed
      → IsTaking capacity taken taken word start at (with_putter v w)
  after_end w fits most begins = clean capacity taken word start at (with_putter v w) t.takes t.still t.room t.count
      refl t.start_is (omega arith) (λ is. omega arith) (λ _. begins) (λ is. absurd (false≢true (sym is)))

  -- ---- the next number

  -- all that was read is peeked, where its word has to be loaded
  used_up : (next ≡ taken) ⊎ (next % 4 ≡ 0) → length v.read ≡ next
  used_up why = ⊎_elim
      (λ same. (let n = t.none same in omega arith))
      (λ whole. ⊎_elim
      (λ lt. (let s = t.some lt in let p = t.peeked in omega arith))
      (λ le. (let o = t.order in let n = t.none (omega arith) in omega arith))
      (cases_lt taken next))
      why

  module _ (w : View) (n at' : ℕ) (why : (next ≡ taken) ⊎ (next % 4 ≡ 0)) (more : next < v.tail)
      (loaded : w ≡ with_read v (shown_of v.tail v.read n)) (longer : IsPrefix v.read w.read)
      (pushed : v.puts ≡ true → IsPrefix w.read v.pushed) (at_is : at' ≡ place capacity (next / 4)) where
    long : length v.read ≡ next
    long = used_up why

    read_is : w.read ≡ shown_of v.tail v.read n
    read_is = ap (λ z. z.read) loaded

    size : length w.read ≡ min v.tail (next / 4 * 4 + 4)
    size = ap length read_is ∙ (shown_length v.tail v.read n ∙ ap (λ (k : ℕ). min v.tail (k / 4 * 4 + 4)) long)

    in_lanes : HasLanes n next w.read
    in_lanes = subst (λ (z : List ℕ). HasLanes n next z) (sym read_is)
        (subst (λ (k : ℕ). HasLanes n k (shown_of v.tail v.read n)) long (shown_lanes v.tail v.read n))

    -- of a loaded word
    after_load : IsTaking capacity taken (next + 1) n start at' w
    after_load =
        let order = t.order in
        let s = size in
        let tail : w.tail ≡ v.tail = ap (λ z. z.tail) loaded in
        record {
          takes = ap (λ z. z.takes) loaded ∙ t.takes;
          still = ap (λ z. z.passing) loaded ∙ t.still;
          room = ap (λ z. z.takes_within) loaded ∙ t.room;
          count = t.count ∙ ap (λ z. length z.taken) (sym loaded);
          goes_on = subst (λ (z : List ℕ). IsPrefix z w.read) (ap (λ z. z.taken) (sym loaded))
              (begins_through v.taken v.read w.read t.goes_on longer);
          order = omega arith;
          peeked = omega arith;
          none = λ same. absurd (omega arith);
          some = λ lt. omega arith;
          lanes = λ i low high. in_lanes i (omega arith) high;
          start_is = t.start_is;
          at_is = λ lt.
              (let is : next + 1 - 1 ≡ next = omega arith in at_is ∙ ap (λ (k : ℕ). place capacity (k / 4)) (sym is));
          fits = (let f = t.fits in omega arith);
          ended = λ is. tail ∙ (t.ended (ap (λ z. z.puts) (sym loaded) ∙ is) ∙ ap (λ z. length z.pushed) (sym loaded));
          begins = λ is. subst (λ (z : List ℕ). IsPrefix w.read z) (ap (λ z. z.pushed) (sym loaded))
              (pushed (ap (λ z. z.puts) (sym loaded) ∙ is));
          alone = λ is. ap (λ z. z.pushed) loaded ∙ t.alone (ap (λ z. z.puts) (sym loaded) ∙ is);
        }

    peeks_loaded : peeked_of taken (next + 1) w ≡ peeked_of taken next v ++ lane n (next % 4) ∷ []
    peeks_loaded =
        let s = size in
        let here : next < length w.read = omega arith in
        let same : take next w.read ≡ take next v.read =
        ap (take next) (sym longer.1)
        ∙ (take_at v.read longer.0 next (omega (arith, long)) ∙ sym (take_all next v.read (omega (arith, long)))) in
        peeked_more taken next w.read (lane n (next % 4)) t.order here (in_lanes next (omega arith) here)
        ∙ ap (λ (z : List ℕ). drop taken z ++ lane n (next % 4) ∷ []) same

  module _ (some : taken < next) (inside : 0 < next % 4) (more : next < v.tail) where
    -- of the word that was loaded before
    here : next < length v.read
    here = let s = t.some some in omega arith

    after_peek : IsTaking capacity taken (next + 1) word start at v
    after_peek =
        let h = here in
        let s = t.some some in
        record {
          takes = t.takes;
          still = t.still;
          room = t.room;
          count = t.count;
          goes_on = t.goes_on;
          order = omega arith;
          peeked = omega arith;
          none = λ same. absurd (omega arith);
          some = λ lt. omega arith;
          lanes = λ i low high. t.lanes i (omega arith) high;
          start_is = t.start_is;
          at_is = λ lt.
              (let is : (next - 1) / 4 ≡ (next + 1 - 1) / 4 = omega arith in t.at_is some ∙ ap (place capacity) is);
          fits = t.fits;
          ended = t.ended;
          begins = t.begins;
          alone = t.alone;
        }

    peeks_next : peeked_of taken (next + 1) v ≡ peeked_of taken next v ++ lane word (next % 4) ∷ []
    peeks_next = peeked_more taken next v.read (lane word (next % 4)) t.order here (t.lanes next (omega arith) here)

  -- ---- the first of what was peeked is taken

  module _ (head : ℕ) (low : taken ≤ head) (high : head ≤ next) where
    pub all_to : v.taken ++ peeked_of taken head v ≡ take head v.read
    all_to =
        let enough = t.peeked in
        let count = t.count in
        let within = begins_longer v.taken (take head v.read) v.read t.goes_on (begins_take head v.read)
        (omega (arith, length-take head v.read)) in
        let front : take taken (take head v.read) ≡ v.taken =
        ap (take taken) (sym within.1) ∙ take_at v.taken within.0 taken (omega arith) in
        ap (λ (z : List ℕ). z ++ drop taken (take head v.read)) (sym front) ∙ take-append-drop taken (take head v.read)

    pub first_peeked : (n : ℕ) → head ≡ taken + n → take n (peeked_of taken next v) ≡ peeked_of taken head v
    first_peeked n is =
        sym (drop-take taken n (take next v.read))
        ∙ ap (drop taken) (ap (λ (k : ℕ). take k (take next v.read)) (sym is) ∙ take-take head next v.read high)

    pub after_release : (start' : ℕ)
        → start' ≡ place capacity (head / 4)
        → IsTaking capacity head head word start' at (with_taken_to v head)
    after_release start' start_is =
        let enough = t.peeked in
        clean capacity head word start' at (with_taken_to v head) t.takes t.still t.room
        (sym (length-take head v.read ∙ omega arith)) refl start_is t.fits t.ended
        (λ is. begins_through (take head v.read) v.read v.pushed (begins_take head v.read) (t.begins is)) t.alone

pub begins_seen : (t : Inside) (u : TakerState ℕ)
    → IsTaker t
    → taker_state t ≡ u
    → u.ended ≡ true
    → IsPrefix u.taken u.sent
begins_seen t u inner e =
    subst (λ (z : TakerState ℕ). z.ended ≡ true → IsPrefix z.taken z.sent) e (taken_begins _ _ _ _ _ _ _ inner.taking)

-- how many were taken or are peeked
pub next_is : (t : Inside) (u : TakerState ℕ)
    → IsTaker t
    → taker_state t ≡ u
    → length u.taken + length u.peeked ≡ t.next
next_is t u inner e =
    let v = t.seat.me.0 in
    let count = inner.taking.count in
    let order = inner.taking.order in
    let enough = inner.taking.peeked in
    let cut = length-take t.next v.read in
    let rest : length (peeked_of t.taken t.next v) ≡ t.next - t.taken =
    length-drop t.taken (take t.next v.read) ∙ omega arith in
    subst (λ (z : TakerState ℕ). length z.taken + length z.peeked ≡ t.next) e (omega arith)

-- the next number begins a word
pub begins_word : (t : Inside) (u : TakerState ℕ)
    → IsTaker t
    → taker_state t ≡ u
    → (length u.taken + length u.peeked) % 4 ≡ 0
    → t.next % 4 ≡ 0
begins_word t u inner e begins = ap (λ (k : ℕ). k % 4) (sym (next_is t u inner e)) ∙ begins

-- a look has shown the next numbers
pub more_shown : (t : Inside) (u : TakerState ℕ) (n : ℕ)
    → IsTaker t
    → taker_state t ≡ u
    → length u.taken + length u.peeked + n ≤ u.floor
    → t.next + n ≤ t.seat.me.0.tail
more_shown t u n inner e le =
    let is = next_is t u inner e in let floor : t.seat.me.0.tail ≡ u.floor = ap (λ z. z.floor) e in omega arith

-- a taker that has read the next numbers, so many
pub record HasRead (old new : Inside) (n : ℕ) (xs : List ℕ) : Type 0 where
  pub ring : new.seat.table_id ≡ old.seat.table_id
  pub bare : new.seat.me.1 ≡ old.seat.me.1
  pub view : new.seat.me.0 ≡ with_read old.seat.me.0 new.seat.me.0.read
  pub same : new ≡ record old { seat = new.seat; word = new.word; at = new.at }
  pub taking : IsTaking old.capacity old.taken (old.next + n) new.word old.start new.at new.seat.me.0
  pub peeks : peeked_of old.taken (old.next + n) new.seat.me.0 ≡ peeked_of old.taken old.next old.seat.me.0 ++ xs

module _ (old new : Inside) (n : ℕ) (xs : List ℕ) (h : HasRead old new n xs) where
  pub steps_on : record new { next = old.next + n }
      ≡ record old { seat = new.seat; word = new.word; at = new.at; next = old.next + n }
  steps_on = ap (λ (t : Inside). record t { next = old.next + n }) h.same

  pub still_taker : IsTaker old → IsTaker (record new { next = old.next + n })
  still_taker inner = subst IsTaker (sym steps_on) (record {
    table = h.ring ∙ inner.table;
    key = inner.key;
    words = ap (λ r. r.words) h.ring ∙ inner.words;
    small = inner.small;
    slot = inner.slot;
    holds = h.bare ∙ inner.holds;
    tail = inner.tail ∙ sym (ap (λ z. z.tail) h.view);
    ended = inner.ended ∙ sym (ap (λ z. z.puts) h.view);
    taking = h.taking;
  })

  pub peeks_some : (u : TakerState ℕ)
      → taker_state old ≡ u
      → taker_state (record new { next = old.next + n }) ≡ record u { peeked = u.peeked ++ xs }
  peeks_some u e =
      let v = h.view in
      ap taker_state steps_on
      ∙ ((λ i. record {
        ring = h.ring i;
        capacity = old.capacity;
        taken = ap (λ z. z.taken) v i;
        peeked = h.peeks i;
        released = ap (λ z. z.released) v i;
        tails = ap (λ z. z.tails) v i;
        floor = ap (λ z. z.tail) v i;
        ended = ap (λ z. z.puts) v i;
        sent = ap (λ z. z.pushed) v i;
      })
      ∙ ap (λ (s : TakerState ℕ). record s { peeked = s.peeked ++ xs }) e)

-- what a load of a word tells of it
abbrev pub IsLoaded : Inside → Inside → Type 0
IsLoaded old new =
    let v = old.seat.me.0 in
    let w = new.seat.me.0 in
    (w ≡ with_read v (shown_of v.tail v.read new.word))
    × (new.seat.me.1 ≡ old.seat.me.1)
    × IsPrefix v.read w.read
    × (v.puts ≡ true → IsPrefix w.read v.pushed)

-- the next number, in the lane of the word that has it
abbrev pub ReadsOne : Inside → Inside → Type 0
ReadsOne old new = HasRead old new 1 (lane new.word (old.next % 4) ∷ [])

-- it stands in the word that was loaded before
pub reads_there : (old : Inside)
    → IsTaker old
    → old.taken < old.next
    → 0 < old.next % 4
    → old.next < old.seat.me.0.tail
    → ReadsOne old old
reads_there old inner some inside more = record {
  ring = refl;
  bare = refl;
  view = refl;
  same = refl;
  taking = after_peek _ _ _ _ _ _ _ inner.taking some inside more;
  peeks = peeks_next _ _ _ _ _ _ _ inner.taking some inside more;
}

-- its word may be loaded
module _ (t : Inside) (inner : IsTaker t) (why : (t.next ≡ t.taken) ⊎ (t.next % 4 ≡ 0))
    (more : t.next < t.seat.me.0.tail) (at : ℕ) (at_is : at ≡ place t.capacity (t.next / 4)) where
  pub word_within : at < (arc_value t.board).shared.table_id.words
  word_within =
      let below = place_below t.capacity (t.next / 4) in
      let words = inner.words in
      let table = ap (λ z. z.words) inner.table in
      omega arith

  pub loads_next : (n slots id : ℕ)
      → Allows (Ring n) slots id t.seat.me at (λ x. x) (LoadsLanes (step slots at 0 0 none) t.seat.me)
  loads_next n slots id =
      let v = t.seat.me.0 in
      let k = inner.taking in
      let long : length v.read ≡ t.next = used_up _ _ _ _ _ _ _ k why in
      loads_lanes n slots id t.seat.me at k.takes k.still
      (at_is
      ∙ (ap (λ (z : ℕ). place z (t.next / 4)) (sym k.room) ∙ ap (λ (z : ℕ). place v.takes_within (z / 4)) (sym long)))
      (omega arith)

module _ (old new : Inside) (inner : IsTaker old) where
  -- with it some more of its word
  reads_on : ReadsOne old new
      → (j : ℕ)
      → old.next % 4 + j < 4
      → old.next + j < old.seat.me.0.tail
      → HasRead old new (suc j) (lanes (new.word / LANE ^ (old.next % 4)) (suc j))
  reads_on one zero inside more =
      let here : lane (new.word / LANE ^ (old.next % 4)) 0 ≡ lane new.word (old.next % 4) =
      lane_on new.word (old.next % 4) 0 ∙ ap (lane new.word) (omega arith) in
      record {
        ring = one.ring;
        bare = one.bare;
        view = one.view;
        same = one.same;
        taking = one.taking;
        peeks = one.peeks ∙ ap (λ (x : ℕ). peeked_of old.taken old.next old.seat.me.0 ++ x ∷ []) (sym here);
      }
  reads_on one (suc j) inside more =
      let so_far = reads_on one j (omega arith) (omega arith) in
      let before : List ℕ = peeked_of old.taken old.next old.seat.me.0 in
      let word : ℕ = new.word / LANE ^ (old.next % 4) in
      let order = inner.taking.order in
      let tail : new.seat.me.0.tail ≡ old.seat.me.0.tail = ap (λ z. z.tail) one.view in
      let step : old.next + suc j + 1 ≡ old.next + suc (suc j) = omega arith in
      let in_lane : (old.next + suc j) % 4 ≡ old.next % 4 + suc j = omega arith in
      let here : lane new.word ((old.next + suc j) % 4) ≡ lane word (suc j) =
      ap (lane new.word) in_lane ∙ sym (lane_on new.word (old.next % 4) (suc j)) in
      record {
        ring = one.ring;
        bare = one.bare;
        view = one.view;
        same = one.same;
        taking = subst (λ (k : ℕ). IsTaking old.capacity old.taken k new.word old.start new.at new.seat.me.0) step
            (after_peek _ _ _ _ _ _ _ so_far.taking (omega arith) (omega arith) (omega arith));
        peeks = ap (λ (k : ℕ). peeked_of old.taken k new.seat.me.0) (sym step)
            ∙ (peeks_next _ _ _ _ _ _ _ so_far.taking (omega arith) (omega arith) (omega arith)
            ∙ (ap (λ (xs : List ℕ). xs ++ lane new.word ((old.next + suc j) % 4) ∷ []) so_far.peeks
            ∙ (append_assoc before (lanes word (suc j)) (lane new.word ((old.next + suc j) % 4) ∷ [])
            ∙ ap (λ (x : ℕ). before ++ (lanes word (suc j) ++ x ∷ [])) here)));
      }

  -- its word was loaded
  module _ (same : new ≡ record old { seat = new.seat; word = new.word; at = new.at })
      (at_is : new.at ≡ place old.capacity (old.next / 4)) (ring : new.seat.table_id ≡ old.seat.table_id)
      (loaded : IsLoaded old new) where
    pub reads_loaded : (old.next ≡ old.taken) ⊎ (old.next % 4 ≡ 0) → old.next < old.seat.me.0.tail → ReadsOne old new
    reads_loaded why more = record {
      ring = ring;
      bare = loaded.1;
      view = (let is = loaded.0 in is ∙ ap (λ z. record old.seat.me.0 { read = z.read }) (sym is));
      same = same;
      taking =
          after_load _ _ _ _ _ _ _ inner.taking new.seat.me.0 new.word new.at why more loaded.0 loaded.2 loaded.3 at_is;
      peeks = peeks_loaded _ _ _ _ _ _ _ inner.taking new.seat.me.0
          new.word new.at why more loaded.0 loaded.2 loaded.3 at_is;
    }

    -- with it the first numbers of a word
    pub reads_first : (k : ℕ)
        → old.next % 4 ≡ 0
        → 0 < k
        → k ≤ 4
        → old.next + k ≤ old.seat.me.0.tail
        → HasRead old new k (lanes new.word k)
    reads_first zero whole some few more = absurd (omega arith)
    reads_first (suc j) whole some few more =
        let all : new.word / LANE ^ (old.next % 4) ≡ new.word =
        ap (λ (k : ℕ). new.word / LANE ^ k) whole ∙ omega arith in
        subst (λ (w : ℕ). HasRead old new (suc j) (lanes w (suc j))) all
        (reads_on (reads_loaded (inr whole) (omega arith)) j (omega arith) (omega arith))

  -- with it the others of its word
  pub reads_rest : ReadsOne old new
      → old.next + 4 ≤ old.seat.me.0.tail
      → HasRead old new (4 - old.next % 4) (top_lanes new.word (4 - old.next % 4))
  reads_rest one more =
      let count : suc (3 - old.next % 4) ≡ 4 - old.next % 4 = omega arith in
      let from : old.next % 4 ≡ 4 - (4 - old.next % 4) = omega arith in
      subst (λ (l : ℕ). HasRead old new (4 - old.next % 4) (lanes (new.word / LANE ^ l) (4 - old.next % 4))) from
      (subst (λ (k : ℕ). HasRead old new k (lanes (new.word / LANE ^ (old.next % 4)) k)) count
      (reads_on one (3 - old.next % 4) (omega arith) (omega arith)))

-- where there are some, they are taken and their head is stored
with_some : {A : Type 0} (t : TakerState A) (xs : List A)
    → 0 < length xs
    → with_taken t xs
    ≡ record t { taken = t.taken ++ xs; peeked = []; released = t.released ++ length (t.taken ++ xs) ∷ [] }
with_some t [] lt = absurd (omega arith)
with_some t (x ∷ xs) lt = refl

-- the head is stored of the first that were peeked
module _ (old new : Inside) (n : ℕ) (inner : IsTaker old) (some : 0 < n) (high : old.taken + n ≤ old.next)
    (ring : new.seat.table_id ≡ old.seat.table_id) (bare : new.seat.me.1 ≡ old.seat.me.1)
    (view : new.seat.me.0 ≡ with_taken_to old.seat.me.0 (old.taken + n))
    (same : new ≡ record old { seat = new.seat; taken = old.taken + n; next = old.taken + n; start = new.start }) where
  pub released_taker : new.start ≡ place old.capacity ((old.taken + n) / 4) → IsTaker new
  released_taker start_is = subst IsTaker (sym same) (record {
    table = ring ∙ inner.table;
    key = inner.key;
    words = ap (λ r. r.words) ring ∙ inner.words;
    small = inner.small;
    slot = inner.slot;
    holds = bare ∙ inner.holds;
    tail = inner.tail ∙ sym (ap (λ z. z.tail) view);
    ended = inner.ended ∙ sym (ap (λ z. z.puts) view);
    taking = subst (IsTaking old.capacity (old.taken + n) (old.taken + n) old.word new.start old.at) (sym view)
        (after_release _ _ _ _ _ _ _ inner.taking (old.taken + n) (omega arith) high new.start start_is);
  })

  pub released_state : (u : TakerState ℕ) → taker_state old ≡ u → taker_state new ≡ with_taken u (take n u.peeked)
  released_state u e =
      let v = old.seat.me.0 in
      let w = new.seat.me.0 in
      let head = old.taken + n in
      let enough = inner.taking.peeked in
      let long : length (take head v.read) ≡ head = length-take head v.read ∙ omega arith in
      let all = all_to _ _ _ _ _ _ _ inner.taking head (omega arith) high in
      let none : peeked_of head head w ≡ [] =
      none_peeked head w (ap (λ z. length z.taken) view ∙ long)
      (ap (λ z. z.read) view ∙ sym (ap (λ z. z.taken) view)) in
      let first : List ℕ = peeked_of old.taken head v in
      let first_is : take n (peeked_of old.taken old.next v) ≡ first =
      first_peeked _ _ _ _ _ _ _ inner.taking head (omega arith) high n refl in
      let several : 0 < length first = omega (arith, length-drop old.taken (take head v.read)) in
      let count : head ≡ length (v.taken ++ first) = sym long ∙ sym (ap length all) in
      ap taker_state same
      ∙ ((λ i. record {
        ring = ring i;
        capacity = old.capacity;
        taken = ap (λ z. z.taken) view i;
        peeked = none i;
        released = ap (λ z. z.released) view i;
        tails = ap (λ z. z.tails) view i;
        floor = ap (λ z. z.tail) view i;
        ended = ap (λ z. z.puts) view i;
        sent = ap (λ z. z.pushed) view i;
      })
      ∙ ((λ i. record {
        ring = old.seat.table_id;
        capacity = old.capacity;
        taken = sym all i;
        peeked = [];
        released = v.released ++ count i ∷ [];
        tails = v.tails;
        floor = v.tail;
        ended = v.puts;
        sent = v.pushed;
      })
      ∙ (sym (with_some (taker_state old) first several)
      ∙ (ap (with_taken (taker_state old)) (sym first_is)
      ∙ ap (λ (s : TakerState ℕ). with_taken s (take n s.peeked)) e))))

-- no more are peeked than were read
pub peeked_within : (t : Inside) (u : TakerState ℕ) (n : ℕ)
    → IsTaker t
    → taker_state t ≡ u
    → n ≤ length u.peeked
    → t.taken + n ≤ t.next
peeked_within t u n inner e le =
    let order = inner.taking.order in
    let enough = inner.taking.peeked in
    let cut = length-take t.next t.seat.me.0.read in
    let rest : length (peeked_of t.taken t.next t.seat.me.0) ≡ t.next - t.taken =
    length-drop t.taken (take t.next t.seat.me.0.read) ∙ omega arith in
    let fits : n ≤ length (peeked_of t.taken t.next t.seat.me.0) =
    subst (λ (z : TakerState ℕ). n ≤ length z.peeked) (sym e) le in
    omega arith

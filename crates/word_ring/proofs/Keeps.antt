-- Loads and stores on a ring keep its rule, and a new ring has it.
use Rattle.std.proofs.Common.{◌≡◌, ◌≢◌, ℕ, ◌+◌, ◌/◌, ◌%◌, ◌<◌, ◌≤◌, true, false, List, [], ◌∷◌, ◌++◌, length, take}
use Rattle.std.proofs.Common.{drop, get_or, set, replicate, All, Contains, inl, inr, ⊎_elim, refl, sym, ap, ◌∙◌}
use Rattle.std.proofs.Common.{subst, arith, length-take, length-set, get_or-set_same, get_or-set_other}
use mathlib.Core.List.{IsPrefix}
use mathlib.Core.Option.{none, some-ne-none}
use Rattle.std.proofs.lemmas.Bool.{cases_lt}
use Rattle.std.proofs.lemmas.List.{set-get_or, get_or-take, length-replicate, get_or-replicate}
use Rattle.std.proofs.lemmas.List.Elements.{All-push, Contains-append_right}
use Rattle.std.proofs.Math.ListN.{get_or-append}
use Rattle.atomic_table.specs.Table.{State, Me, step, keeps, opening, Allows}
use Rattle.word_ring.specs.declared.table.View.{View}
use Rattle.word_ring.specs.Ends.{IsOneWithin, AreReleased, IsReleased}
use Rattle.word_ring.specs.Lanes.{lane, lanes, whole_words}
use Rattle.word_ring.specs.Plays.{both_ends, with_head, with_written, with_all_pushed}
use Rattle.word_ring.specs.Plays.{with_tail, with_read, with_taken_to}
use Rattle.word_ring.specs.Plays.{LoadsHead, StoresLanes, StoresTail, LoadsTail}
use Rattle.word_ring.specs.Plays.{LoadsLanes, StoresHead, Compares}
use Rattle.word_ring.specs.Rule.{Story, KnowsPuts, KnowsTakes, Knows, Slot, StandsInLane, Ring, place}
use Rattle.word_ring.proofs.Beginnings.{begins_itself, begins_through, begins_length}
use Rattle.word_ring.proofs.Beginnings.{begins_longer, begins_take, begins_at, begins_from}
use Rattle.word_ring.proofs.Reading.{rest_long, rest_at}
use Rattle.word_ring.proofs.Released.{released_more, released_push, below_more, released_below}
use Rattle.word_ring.proofs.Seats.{GoesOn, knows_on, each_set, each_end}
use Rattle.word_ring.proofs.Standing.{place_below, stands_index, stands_above, stands_lanes}

abbrev pub Seat : Type 0
Seat = Me Slot View

abbrev pub RingState : Type 0
RingState = State Slot View

-- a load changes one view alone
loaded : (n : ℕ) (s : RingState) (r : Ring n s) (i id : ℕ) (w : View)
    → Knows n r.story id w
    → Ring n record { words = set s.words i (get_or s.words i 0); homes = s.homes; views = set s.views id w }
loaded n s r i id w known = subst
    (λ (ws : List ℕ). Ring n record { words = ws; homes = s.homes; views = set s.views id w })
    (sym (set-get_or s.words i 0)) record {
      story = r.story;
      wide = r.wide;
      head = r.head;
      tail = r.tail;
      taken = r.taken;
      pushed = r.pushed;
      fits = r.fits;
      stands = r.stands;
      one = r.one;
      released = r.released;
      last = r.last;
      home = r.home;
      each = each_set n r.story r.story s.views id w r.each known (λ seat v apart k. k);
    }

pub loads_head : (n slots id : ℕ) (me : Seat)
    → me.0.puts ≡ true
    → Allows (Ring n) slots id me 0 (λ x. x) (LoadsHead (step slots 0 0 0 none) me)
loads_head n slots id me puts s r _ here _ =
    let g : Story = r.story in
    let k : Knows n g id me.0 = r.each id me.0 here in
    let p : KnowsPuts n g id me.0 = k.puts puts in
    let h : ℕ = get_or s.words 0 0 in
    let w : View = with_head me.0 h in
    let among : IsReleased g.released h = subst (λ (z : ℕ). IsReleased g.released z) (sym r.head) r.last in
    let stored = r.head in
    let least = k.head in
    let known : Knows n g id w = record {
      noted = k.noted;
      noted_heads = k.noted_heads;
      head = omega arith;
      tail = k.tail;
      puts = λ _. record {
        at = p.at;
        capacity = p.capacity;
        written = p.written;
        pushed = p.pushed;
        heads = released_push g.released me.0.heads h p.heads among;
        passing = p.passing;
      };
      takes = λ is. (let t = k.takes is in
          record {
            at = t.at;
            capacity = t.capacity;
            taken = t.taken;
            released = t.released;
            begins = t.begins;
            read = t.read;
            known = t.known;
            out = t.out;
            passing = t.passing;
          });
    } in
    let pushed_is : length me.0.pushed ≡ length g.pushed = ap length p.pushed in
    let written_is : length me.0.written ≡ length g.written = ap length p.written in
    let most = begins_length g.taken g.pushed r.taken in
    let all = begins_length g.pushed g.written r.pushed in
    (w, keeps, tt, loaded n s r 0 id w known, (refl, refl, omega arith, omega arith, omega arith))

pub stores_lanes : (n slots id : ℕ) (me : Seat) (at word k : ℕ)
    → me.0.puts ≡ true
    → at ≡ place me.0.puts_within (length me.0.written / 4)
    → 1 < at
    → k ≤ 4
    → IsPrefix me.0.written (whole_words me.0.written ++ lanes word k)
    → length (whole_words me.0.written ++ lanes word k) ≤ me.0.head + me.0.puts_within
    → Allows (Ring n) slots id me at (λ _. word) (λ _. StoresLanes k (step slots at word 0 none) me word)
stores_lanes n slots id me at word k puts at_is inner few goes_on fits s r _ here _ =
    let g : Story = r.story in
    let k' : Knows n g id me.0 = r.each id me.0 here in
    let p : KnowsPuts n g id me.0 = k'.puts puts in
    let same : me.0.written ≡ g.written = p.written in
    let cap : me.0.puts_within ≡ n = p.capacity in
    let xs : List ℕ = whole_words me.0.written ++ lanes word k in
    let g' : Story = record g { written = xs } in
    let w : View = with_written me.0 xs in
    let place_is : at ≡ place n (length g.written / 4) = at_is ∙ (λ i. place (cap i) (length (same i) / 4)) in
    let further : IsPrefix g.written xs = subst (λ (z : List ℕ). IsPrefix z xs) same goes_on in
    let wide : length s.words ≡ n / 4 + 4 = r.wide in
    let low : at < n / 4 + 4 = subst (λ (z : ℕ). z < n / 4 + 4) (sym place_is) (place_below n (length g.written / 4)) in
    let head = k'.head in
    let room : length xs ≤ length g.taken + n = omega arith in
    let stands : g.passing ≡ false → StandsInLane n (set s.words at word) (length g.taken) xs = λ still.
    subst (λ (z : List ℕ). StandsInLane n (set s.words at word) (length g.taken) (whole_words z ++ lanes word k))
    (sym same)
    (stands_lanes n s.words (length g.taken) g.written at word k place_is (omega arith) few
    (subst (λ (z : List ℕ). IsPrefix g.written (whole_words z ++ lanes word k)) same further)
    (subst (λ (z : List ℕ). length (whole_words z ++ lanes word k) ≤ length g.taken + n) same room) (r.stands still)) in
    let known : Knows n g' id w = record {
      noted = k'.noted;
      noted_heads = k'.noted_heads;
      head = k'.head;
      tail = k'.tail;
      puts = λ _. record {
        at = p.at;
        capacity = p.capacity;
        written = refl;
        pushed = p.pushed;
        heads = p.heads;
        passing = p.passing;
      };
      takes = λ is. (let t = k'.takes is in
          record {
            at = t.at;
            capacity = t.capacity;
            taken = t.taken;
            released = t.released;
            begins = t.begins;
            read = t.read;
            known = t.known;
            out = t.out;
            passing = t.passing;
          });
    } in
    let on : (seat : ℕ) (v : View) → seat ≢ id → Knows n g seat v → Knows n g' seat v = λ seat v apart old.
    knows_on n g g' seat v
    record { pushed = begins_itself g.pushed; released = λ hs a. a; taken = omega arith }
    (λ q. absurd (apart (q.at ∙ sym p.at)))
    (λ t. record {
      at = t.at;
      capacity = t.capacity;
      taken = t.taken;
      released = t.released;
      begins = t.begins;
      read = t.read;
      known = t.known;
      out = t.out;
      passing = t.passing;
    }) old in (
      w,
      keeps,
      tt,
      record {
        story = g';
        wide = length-set s.words at word ∙ r.wide;
        head = (let same = get_or-set_other s.words at 0 word 0 (λ e. omega arith) in let h = r.head in omega arith);
        tail = (let same = get_or-set_other s.words at 1 word 0 (λ e. omega arith) in let t = r.tail in omega arith);
        taken = r.taken;
        pushed = begins_through g.pushed g.written xs r.pushed further;
        fits = room;
        stands = stands;
        one = r.one;
        released = r.released;
        last = r.last;
        home = r.home;
        each = each_set n g g' s.views id w r.each known on;
      },
      (refl, refl),
    )

pub stores_tail : (n slots id : ℕ) (me : Seat) (x : ℕ)
    → me.0.puts ≡ true
    → x ≡ length me.0.written
    → Allows (Ring n) slots id me 1 (λ _. x) (λ _. StoresTail (step slots 1 x 0 none) me x)
stores_tail n slots id me x puts x_is s r _ here _ =
    let g : Story = r.story in
    let k : Knows n g id me.0 = r.each id me.0 here in
    let p : KnowsPuts n g id me.0 = k.puts puts in
    let g' : Story = record g { pushed = g.written } in
    let w : View = with_all_pushed me.0 in
    let wide = r.wide in
    let more = begins_length g.pushed g.written r.pushed in
    let known : Knows n g' id w = record {
      noted = begins_through me.0.noted g.pushed g.written k.noted r.pushed;
      noted_heads = k.noted_heads;
      head = k.head;
      tail = (let t = k.tail in omega arith);
      puts = λ _. record {
        at = p.at;
        capacity = p.capacity;
        written = p.written;
        pushed = p.written;
        heads = p.heads;
        passing = p.passing;
      };
      takes = λ is. (let t = k.takes is in
          record {
            at = t.at;
            capacity = t.capacity;
            taken = t.taken;
            released = t.released;
            begins = t.begins;
            read = begins_through me.0.read g.pushed g.written t.read r.pushed;
            known = t.known;
            out = t.out;
            passing = t.passing;
          });
    } in
    let on : (seat : ℕ) (v : View) → seat ≢ id → Knows n g seat v → Knows n g' seat v = λ seat v apart old.
    knows_on n g g' seat v
    record { pushed = r.pushed; released = λ hs a. a; taken = omega arith }
    (λ q. absurd (apart (q.at ∙ sym p.at)))
    (λ t. record {
      at = t.at;
      capacity = t.capacity;
      taken = t.taken;
      released = t.released;
      begins = t.begins;
      read = begins_through v.read g.pushed g.written t.read r.pushed;
      known = t.known;
      out = t.out;
      passing = t.passing;
    }) old in (
      w,
      keeps,
      tt,
      record {
        story = g';
        wide = length-set s.words 1 x ∙ r.wide;
        head = (let same = get_or-set_other s.words 1 0 x 0 (λ e. omega arith) in let h = r.head in omega arith);
        tail = (let same = get_or-set_same s.words 1 x 0 (omega arith) ∙ (x_is ∙ ap length p.written) in omega arith);
        taken = begins_through g.taken g.pushed g.written r.taken r.pushed;
        pushed = begins_itself g.written;
        fits = r.fits;
        stands = λ still. stands_index n s.words (length g.taken) g.written 1 x (omega arith) (r.stands still);
        one = r.one;
        released = r.released;
        last = r.last;
        home = r.home;
        each = each_set n g g' s.views id w r.each known on;
      },
      (refl, refl),
    )

pub loads_tail : (n slots id : ℕ) (me : Seat)
    → me.0.takes ≡ true
    → Allows (Ring n) slots id me 1 (λ x. x) (LoadsTail (step slots 1 0 0 none) me)
loads_tail n slots id me takes s r _ here _ =
    let g : Story = r.story in
    let k : Knows n g id me.0 = r.each id me.0 here in
    let t : KnowsTakes n g id me.0 = k.takes takes in
    let h : ℕ = get_or s.words 1 0 in
    let w : View = with_tail me.0 h in
    let stored = r.tail in
    let least = k.tail in
    let within = begins_length me.0.taken me.0.read t.begins in
    let bound = t.known in
    let taken_is : length me.0.taken ≡ length g.taken = ap length t.taken in
    let cap = t.capacity in
    let known : Knows n g id w = record {
      noted = k.noted;
      noted_heads = k.noted_heads;
      head = k.head;
      tail = omega arith;
      puts = λ is. (let p = k.puts is in
          record {
            at = p.at;
            capacity = p.capacity;
            written = p.written;
            pushed = p.pushed;
            heads = p.heads;
            passing = p.passing;
          });
      takes = λ _. record {
        at = t.at;
        capacity = t.capacity;
        taken = t.taken;
        released = t.released;
        begins = begins_itself me.0.taken;
        read = subst (λ (z : List ℕ). IsPrefix z g.pushed) (sym t.taken) r.taken;
        known = omega arith;
        out = t.out;
        passing = t.passing;
      };
    } in
    let all = begins_length g.pushed g.written r.pushed in
    let fits = r.fits in
    let low = begins_length g.taken g.pushed r.taken in
    let most : me.0.puts ≡ true → h ≡ length me.0.pushed = λ is. r.tail ∙ sym (ap length (k.puts is).pushed) in
    (w, keeps, tt, loaded n s r 1 id w known, (refl, refl, omega arith, omega arith, omega arith, most))

-- what is read of a word, as far as the tail is known
read_on : (n : ℕ) (words : List ℕ) (head : ℕ) (read pushed written : List ℕ) (at tail : ℕ)
    → StandsInLane n words head written
    → IsPrefix read pushed
    → IsPrefix pushed written
    → at ≡ place n (length read / 4)
    → head ≤ length read
    → length read < tail
    → tail ≤ length pushed
    → IsPrefix (take tail (read ++ drop (length read % 4) (lanes (get_or words at 0) 4))) pushed
read_on n words head read pushed written at tail stands reads pushes at_is low more known =
    let word : ℕ = get_or words at 0 in
    let rest : List ℕ = drop (length read % 4) (lanes word 4) in
    let long = rest_long read word in
    let cut = length-take tail (read ++ rest) in
    let all = begins_length pushed written pushes in
    begins_from (take tail (read ++ rest)) pushed (omega arith)
    (λ i lt. get_or-take tail (read ++ rest) i 0 (omega arith) ∙ ⊎_elim
    (λ below. get_or-append read rest 0 i below ∙ begins_at read pushed reads i below)
    (λ above.
    let group : i / 4 ≡ length read / 4 = omega arith in
    let here : get_or words (place n (i / 4)) 0 ≡ word =
    ap (λ (q : ℕ). get_or words (place n q) 0) group ∙ ap (λ (z : ℕ). get_or words z 0) (sym at_is) in
    rest_at read word i above (omega arith)
    ∙ (ap (λ (z : ℕ). lane z (i % 4)) (sym here)
    ∙ (stands i (omega arith) (omega arith) ∙ sym (begins_at pushed written pushes i (omega arith)))))
    (cases_lt i (length read)))

pub loads_lanes : (n slots id : ℕ) (me : Seat) (at : ℕ)
    → me.0.takes ≡ true
    → me.0.passing ≡ false
    → at ≡ place me.0.takes_within (length me.0.read / 4)
    → length me.0.read < me.0.tail
    → Allows (Ring n) slots id me at (λ x. x) (LoadsLanes (step slots at 0 0 none) me)
loads_lanes n slots id me at takes still at_is more s r _ here _ =
    let g : Story = r.story in
    let k : Knows n g id me.0 = r.each id me.0 here in
    let t : KnowsTakes n g id me.0 = k.takes takes in
    let word : ℕ = get_or s.words at 0 in
    let xs : List ℕ = take me.0.tail (me.0.read ++ drop (length me.0.read % 4) (lanes word 4)) in
    let w : View = with_read me.0 xs in
    let start : length me.0.taken ≤ length me.0.read = begins_length me.0.taken me.0.read t.begins in
    let taken_is : length me.0.taken ≡ length g.taken = ap length t.taken in
    let place_is : at ≡ place n (length me.0.read / 4) =
    at_is ∙ ap (λ (z : ℕ). place z (length me.0.read / 4)) t.capacity in
    let reads : IsPrefix xs g.pushed =
    read_on n s.words (length g.taken) me.0.read g.pushed g.written at me.0.tail (r.stands (sym t.passing ∙ still))
    t.read r.pushed place_is (omega arith) more k.tail in
    let long = rest_long me.0.read word in
    let cut = length-take me.0.tail (me.0.read ++ drop (length me.0.read % 4) (lanes word 4)) in
    let longer : IsPrefix me.0.read xs = begins_longer me.0.read xs g.pushed t.read reads (omega arith) in
    let known : Knows n g id w = record {
      noted = k.noted;
      noted_heads = k.noted_heads;
      head = k.head;
      tail = k.tail;
      puts = λ is. (let p = k.puts is in
          record {
            at = p.at;
            capacity = p.capacity;
            written = p.written;
            pushed = p.pushed;
            heads = p.heads;
            passing = p.passing;
          });
      takes = λ _. record {
        at = t.at;
        capacity = t.capacity;
        taken = t.taken;
        released = t.released;
        begins = begins_through me.0.taken me.0.read xs t.begins longer;
        read = reads;
        known = omega arith;
        out = t.out;
        passing = t.passing;
      };
    } in
    let pushed : me.0.puts ≡ true → IsPrefix xs me.0.pushed = λ is.
    subst (λ (z : List ℕ). IsPrefix xs z) (sym (k.puts is).pushed) reads in
    (w, keeps, tt, loaded n s r at id w known, (refl, refl, longer, pushed))

pub stores_head : (n slots id : ℕ) (me : Seat) (x : ℕ)
    → me.0.takes ≡ true
    → length me.0.taken ≤ x
    → x ≤ length me.0.read
    → Allows (Ring n) slots id me 0 (λ _. x) (λ _. StoresHead (step slots 0 x 0 none) me x)
stores_head n slots id me x takes low high s r _ here _ =
    let g : Story = r.story in
    let k : Knows n g id me.0 = r.each id me.0 here in
    let t : KnowsTakes n g id me.0 = k.takes takes in
    let xs : List ℕ = take x me.0.read in
    let g' : Story = record g { taken = xs; released = g.released ++ x ∷ [] } in
    let w : View = with_taken_to me.0 x in
    let wide = r.wide in
    let cut : length xs ≡ x = length-take x me.0.read ∙ omega arith in
    let taken_is : length me.0.taken ≡ length g.taken = ap length t.taken in
    let reads : IsPrefix xs g.pushed = begins_through xs me.0.read g.pushed (begins_take x me.0.read) t.read in
    let fits = r.fits in
    let bound = t.known in
    let on_ : GoesOn g g' = record {
      pushed = begins_itself g.pushed;
      released = λ hs a. released_more g.released (x ∷ []) hs a;
      taken = omega arith;
    } in
    let known : Knows n g' id w = record {
      noted = k.noted;
      noted_heads = released_more g.released (x ∷ []) me.0.noted_heads k.noted_heads;
      head = omega arith;
      tail = k.tail;
      puts = λ is. (let p = k.puts is in
          record {
            at = p.at;
            capacity = p.capacity;
            written = p.written;
            pushed = p.pushed;
            heads = released_more g.released (x ∷ []) me.0.heads p.heads;
            passing = p.passing;
          });
      takes = λ _. record {
        at = t.at;
        capacity = t.capacity;
        taken = refl;
        released = ap (λ (z : List ℕ). z ++ x ∷ []) t.released;
        begins = begins_itself xs;
        read = reads;
        known = omega arith;
        out = t.out;
        passing = t.passing;
      };
    } in
    let on : (seat : ℕ) (v : View) → seat ≢ id → Knows n g seat v → Knows n g' seat v = λ seat v apart old.
    knows_on n g g' seat v on_
    (λ q. record {
      at = q.at;
      capacity = q.capacity;
      written = q.written;
      pushed = q.pushed;
      heads = released_more g.released (x ∷ []) v.heads q.heads;
      passing = q.passing;
    })
    (λ u. absurd (apart (u.at ∙ sym t.at))) old in (
      w,
      keeps,
      tt,
      record {
        story = g';
        wide = length-set s.words 0 x ∙ r.wide;
        head = (let same = get_or-set_same s.words 0 x 0 (omega arith) in omega arith);
        tail = (let same = get_or-set_other s.words 0 1 x 0 (λ e. omega arith) in let t = r.tail in omega arith);
        taken = reads;
        pushed = r.pushed;
        fits = omega arith;
        stands = λ still. stands_above n (set s.words 0 x) (length g.taken) (length xs) g.written (omega arith)
            (stands_index n s.words (length g.taken) g.written 0 x (omega arith) (r.stands still));
        one = r.one;
        released = All-push (λ (h : ℕ). h ≤ length xs) g.released x
            (below_more g.released (length g.taken) (length xs) (omega arith) r.released) (omega arith);
        last = inr (subst (λ (z : ℕ). Contains (g.released ++ x ∷ []) z) (sym cut)
            (Contains-append_right g.released (x ∷ []) x (0, omega arith, refl)));
        home = r.home;
        each = each_set n g g' s.views id w r.each known on;
      },
      (refl, refl),
    )

pub compares : (n slots id : ℕ) (me : Seat)
    → me.0.takes ≡ true
    → Allows (Ring n) slots id me 0 (λ x. x) (Compares (step slots 0 0 0 none) me)
compares n slots id me takes s r _ here _ =
    let g : Story = r.story in
    let k : Knows n g id me.0 = r.each id me.0 here in
    let t : KnowsTakes n g id me.0 = k.takes takes in
    let one : IsOneWithin g.taken me.0.noted = ⊎_elim
    (λ lt. inl (begins_longer g.taken me.0.noted g.pushed r.taken k.noted (omega arith)))
    (λ ge. inr (begins_longer me.0.noted g.taken g.pushed k.noted r.taken ge))
    (cases_lt (length g.taken) (length me.0.noted)) in
    let tail = k.tail in (
      me.0,
      keeps,
      tt,
      loaded n s r 0 id me.0 k,
      (
        refl,
        subst (λ (z : List ℕ). IsOneWithin z me.0.noted) (sym t.taken) one,
        subst (λ (z : List ℕ). AreReleased z me.0.noted_heads) (sym t.released) k.noted_heads,
        subst (λ (z : List ℕ). All (λ h. h ≤ length z) me.0.noted_heads) (sym t.taken)
            (released_below g.released me.0.noted_heads (length g.taken) r.released k.noted_heads),
        λ is. (let p = k.puts is in let pushed_is : length me.0.pushed ≡ length g.pushed = ap length p.pushed in (
          subst (λ (z : List ℕ × List ℕ). IsPrefix z.0 z.1) (λ i. (sym t.taken i, sym p.pushed i)) r.taken,
          subst (λ (z : List ℕ). AreReleased z me.0.heads) (sym t.released) p.heads,
          omega arith,
        )),
      ),
    )

-- a new ring
pub begins : (n : ℕ) (xs : Slot) → Ring n (opening (replicate (n / 4 + 4) 0) (xs ∷ []) (both_ends n))
begins n xs =
    let g : Story = record {
      written = [];
      pushed = [];
      taken = [];
      released = [];
      putter = 0;
      taker = 0;
      out = false;
      passing = false;
    } in
    let known : Knows n g 0 (both_ends n) = record {
      noted = ([], refl);
      noted_heads = λ i d lt. absurd (omega arith);
      head = omega arith;
      tail = omega arith;
      puts = λ is. record {
        at = refl;
        capacity = refl;
        written = refl;
        pushed = refl;
        heads = λ i d lt. absurd (omega arith);
        passing = refl;
      };
      takes = λ is. record {
        at = refl;
        capacity = refl;
        taken = refl;
        released = refl;
        begins = ([], refl);
        read = ([], refl);
        known = omega arith;
        out = refl;
        passing = refl;
      };
    } in
    record {
      story = g;
      wide = length-replicate (n / 4 + 4) 0;
      head = get_or-replicate (n / 4 + 4) 0 0 0 (omega arith);
      tail = get_or-replicate (n / 4 + 4) 1 0 0 (omega arith);
      taken = ([], refl);
      pushed = ([], refl);
      fits = omega arith;
      stands = λ _ i low high. absurd (omega arith);
      one = λ _. refl;
      released = λ i d lt. absurd (omega arith);
      last = inl refl;
      home = λ _. (xs, refl);
      each = each_end n g [] (both_ends n) (λ seat v e. absurd (some-ne-none v (sym e))) known;
    }

-- What is passed in the slot, past the words of a ring, keeps its rule.
use Rattle.std.proofs.Common.{◌≡◌, ◌≢◌, ℕ, ◌+◌, ◌≤◌, true, false, List, [], ◌∷◌, ◌++◌, length}
use Rattle.std.proofs.Common.{set, Contains, inr, refl, sym, ap, ◌∙◌}
use Rattle.std.proofs.Common.{subst, arith, length-append, length-set, get_or-set_same, get_or-set_other}
use mathlib.Core.List.{IsPrefix}
use mathlib.Core.Option.{none}
use Rattle.std.proofs.lemmas.Bool.{false≢true}
use Rattle.std.proofs.lemmas.List.{set-get_or}
use Rattle.std.proofs.lemmas.List.Elements.{All-push, Contains-append_right}
use Rattle.atomic_table.specs.Table.{step, Act, keeps, Allows}
use Rattle.word_ring.specs.declared.table.View.{View}
use Rattle.word_ring.specs.Plays.{with_put_past, with_taken_past}
use Rattle.word_ring.specs.Plays.{held, TakesSlot}
use Rattle.word_ring.specs.Plays.{PutsPast, TakesPast}
use Rattle.word_ring.specs.Rule.{Story, KnowsPuts, KnowsTakes, Knows, Ring}
use Rattle.word_ring.proofs.Beginnings.{begins_itself, begins_more, begins_through, begins_length}
use Rattle.word_ring.proofs.Beginnings.{begins_whole}
use Rattle.word_ring.proofs.Released.{released_more, released_push, below_more}
use Rattle.word_ring.proofs.Seats.{GoesOn, knows_on, each_set}
use Rattle.word_ring.proofs.Keeps.{Seat}
use Rattle.word_ring.proofs.Joining.{stays_on}

-- the slot is taken, once
pub takes_slot : (n slots id : ℕ) (me : Seat)
    → me.0.takes ≡ true
    → me.0.holds ≡ false
    → Allows (Ring n) slots id me 0 (λ x. x) (TakesSlot (step slots 0 0 0 none) me)
takes_slot n slots id me takes holds s r _ here _ =
    let g : Story = r.story in
    let k : Knows n g id me.0 = r.each id me.0 here in
    let t : KnowsTakes n g id me.0 = k.takes takes in
    let there = r.home (sym t.out ∙ holds) in
    let g' : Story = record g { out = true } in
    let w : View = record me.0 { holds = true } in
    let known : Knows n g' id w = record {
      noted = k.noted;
      noted_heads = k.noted_heads;
      head = k.head;
      tail = k.tail;
      puts = λ is. (let p = k.puts is in
          record {
            at = p.at;
            capacity = p.capacity;
            written = p.written;
            pushed = p.pushed;
            heads = p.heads;
            passing = p.passing;
          });
      takes = λ _. record {
        at = t.at;
        capacity = t.capacity;
        taken = t.taken;
        released = t.released;
        begins = t.begins;
        read = t.read;
        known = t.known;
        out = refl;
        passing = t.passing;
      };
    } in
    let on : (seat : ℕ) (v : View) → seat ≢ id → Knows n g seat v → Knows n g' seat v = λ seat v apart old.
    knows_on n g g' seat v (stays_on g g' refl refl refl)
    (λ q. record {
      at = q.at;
      capacity = q.capacity;
      written = q.written;
      pushed = q.pushed;
      heads = q.heads;
      passing = q.passing;
    })
    (λ u. absurd (apart (u.at ∙ sym t.at))) old in
    let ring : Ring n record { words = s.words; homes = set s.homes 0 none; views = set s.views id w } = record {
      story = g';
      wide = r.wide;
      head = r.head;
      tail = r.tail;
      taken = r.taken;
      pushed = r.pushed;
      fits = r.fits;
      stands = r.stands;
      one = r.one;
      released = r.released;
      last = r.last;
      home = λ is. absurd (false≢true (sym is));
      each = each_set n g g' s.views id w r.each known on;
    } in (
      w,
      Act.takes 0 there.0,
      there.1,
      subst (λ (ws : List ℕ). Ring n record { words = ws; homes = set s.homes 0 none; views = set s.views id w })
          (sym (set-get_or s.words 0 0)) ring,
      (refl, (there.0, refl)),
    )

-- the numbers in the slot are put and pushed past the words
pub puts_past : (n slots id : ℕ) (me : Seat) (x : ℕ)
    → me.0.puts ≡ true
    → me.0.takes ≡ true
    → length me.0.taken ≡ length me.0.pushed
    → length (held me.1) ≤ me.0.takes_within
    → length me.0.written ≤ length me.0.pushed
    → x ≡ length (me.0.pushed ++ held me.1)
    → Allows (Ring n) slots id me 1 (λ _. x) (λ _. PutsPast (step slots 1 x 0 none) me x)
puts_past n slots id me x puts takes level room whole x_is s r _ here _ =
    let g : Story = r.story in
    let k : Knows n g id me.0 = r.each id me.0 here in
    let p : KnowsPuts n g id me.0 = k.puts puts in
    let t : KnowsTakes n g id me.0 = k.takes takes in
    let xs : List ℕ = held me.1 in
    let ys : List ℕ = me.0.pushed ++ xs in
    let g' : Story = record g { written = ys; pushed = ys; passing = true } in
    let w : View = with_put_past me.0 xs in
    let pushed_is : length me.0.pushed ≡ length g.pushed = ap length p.pushed in
    let taken_is : length me.0.taken ≡ length g.taken = ap length t.taken in
    let long : length ys ≡ length me.0.pushed + length xs = length-append me.0.pushed xs in
    let met : me.0.taken ≡ me.0.pushed =
    t.taken ∙ (begins_whole g.taken g.pushed r.taken (omega arith) ∙ sym p.pushed) in
    let more : IsPrefix g.pushed ys = subst (λ (z : List ℕ). IsPrefix z ys) p.pushed (begins_more me.0.pushed xs) in
    let cap = t.capacity in
    let wide = r.wide in
    let known : Knows n g' id w = record {
      noted = begins_through me.0.noted g.pushed ys k.noted more;
      noted_heads = k.noted_heads;
      head = k.head;
      tail = (let tail = k.tail in omega arith);
      puts = λ _.
          record { at = p.at; capacity = p.capacity; written = refl; pushed = refl; heads = p.heads; passing = refl };
      takes = λ _. record {
        at = t.at;
        capacity = t.capacity;
        taken = t.taken;
        released = t.released;
        begins = t.begins;
        read = begins_through me.0.read g.pushed ys t.read more;
        known = t.known;
        out = t.out;
        passing = refl;
      };
    } in
    let on : (seat : ℕ) (v : View) → seat ≢ id → Knows n g seat v → Knows n g' seat v = λ seat v apart old.
    knows_on n g g' seat v
    record { pushed = more; released = λ hs a. a; taken = omega arith }
    (λ q. absurd (apart (q.at ∙ sym p.at)))
    (λ u. absurd (apart (u.at ∙ sym t.at))) old in (
      w,
      keeps,
      tt,
      record {
        story = g';
        wide = length-set s.words 1 x ∙ r.wide;
        head = get_or-set_other s.words 1 0 x 0 (λ e. omega arith) ∙ r.head;
        tail = get_or-set_same s.words 1 x 0 (omega arith) ∙ x_is;
        taken = begins_through g.taken g.pushed ys r.taken more;
        pushed = begins_itself ys;
        fits = omega arith;
        stands = λ is. absurd (false≢true (sym is));
        one = λ _. sym p.at ∙ t.at;
        released = r.released;
        last = r.last;
        home = r.home;
        each = each_set n g g' s.views id w r.each known on;
      },
      (refl, refl, met, (let tail = k.tail in omega arith), p.capacity ∙ sym t.capacity),
    )

-- all that was pushed is taken past the words
pub takes_past : (n slots id : ℕ) (me : Seat) (x : ℕ)
    → me.0.puts ≡ true
    → me.0.takes ≡ true
    → length me.0.written ≤ length me.0.pushed
    → x ≡ length me.0.pushed
    → Allows (Ring n) slots id me 0 (λ _. x) (λ _. TakesPast (step slots 0 x 0 none) me x)
takes_past n slots id me x puts takes whole x_is s r _ here _ =
    let g : Story = r.story in
    let k : Knows n g id me.0 = r.each id me.0 here in
    let p : KnowsPuts n g id me.0 = k.puts puts in
    let t : KnowsTakes n g id me.0 = k.takes takes in
    let ys : List ℕ = me.0.pushed in
    let size : ℕ = length ys in
    let g' : Story = record g { taken = ys; released = g.released ++ size ∷ []; passing = false } in
    let w : View = with_taken_past me.0 in
    let pushed_is : length ys ≡ length g.pushed = ap length p.pushed in
    let written_is : length me.0.written ≡ length g.written = ap length p.written in
    let low = begins_length g.taken g.pushed r.taken in
    let wide = r.wide in
    let all : IsPrefix ys g.pushed =
    subst (λ (z : List ℕ). IsPrefix z g.pushed) (sym p.pushed) (begins_itself g.pushed) in
    let there : Contains (g.released ++ size ∷ []) size =
    Contains-append_right g.released (size ∷ []) size (0, omega arith, refl) in
    let known : Knows n g' id w = record {
      noted = k.noted;
      noted_heads = released_more g.released (size ∷ []) me.0.noted_heads k.noted_heads;
      head = omega arith;
      tail = omega arith;
      puts = λ _. record {
        at = p.at;
        capacity = p.capacity;
        written = p.written;
        pushed = p.pushed;
        heads = released_push (g.released ++ size ∷ []) me.0.heads size
            (released_more g.released (size ∷ []) me.0.heads p.heads) (inr there);
        passing = refl;
      };
      takes = λ _. record {
        at = t.at;
        capacity = t.capacity;
        taken = refl;
        released = ap (λ (z : List ℕ). z ++ size ∷ []) t.released;
        begins = begins_itself ys;
        read = all;
        known = omega arith;
        out = t.out;
        passing = refl;
      };
    } in
    let on_ : GoesOn g g' = record {
      pushed = begins_itself g.pushed;
      released = λ hs a. released_more g.released (size ∷ []) hs a;
      taken = omega arith;
    } in
    let on : (seat : ℕ) (v : View) → seat ≢ id → Knows n g seat v → Knows n g' seat v = λ seat v apart old.
    knows_on n g g' seat v on_
    (λ q. absurd (apart (q.at ∙ sym p.at)))
    (λ u. absurd (apart (u.at ∙ sym t.at))) old in (
      w,
      keeps,
      tt,
      record {
        story = g';
        wide = length-set s.words 0 x ∙ r.wide;
        head = get_or-set_same s.words 0 x 0 (omega arith) ∙ x_is;
        tail = get_or-set_other s.words 0 1 x 0 (λ e. omega arith) ∙ r.tail;
        taken = all;
        pushed = r.pushed;
        fits = omega arith;
        stands = λ _ i low high. absurd (omega arith);
        one = λ is. absurd (false≢true is);
        released = All-push (λ (h : ℕ). h ≤ size) g.released size
            (below_more g.released (length g.taken) size (omega arith) r.released) (omega arith);
        last = inr there;
        home = r.home;
        each = each_set n g g' s.views id w r.each known on;
      },
      (refl, refl),
    )

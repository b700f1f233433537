-- Seats of a ring that are split and joined keep its rule.
use Rattle.std.proofs.Common.{◌≡◌, ◌≢◌, ℕ, ◌+◌, ◌≤◌, true, false, List, [], ◌∷◌, ◌++◌, length}
use Rattle.std.proofs.Common.{set, All, refl, sym, ap, ◌∙◌}
use Rattle.std.proofs.Common.{subst, arith}
use mathlib.Core.List.{IsPrefix}
use Rattle.std.proofs.lemmas.Bool.{false≢true}
use Rattle.atomic_table.specs.Table.{Splits, Joins}
use Rattle.word_ring.specs.declared.table.View.{View}
use Rattle.word_ring.specs.Ends.{AreReleased, IsReleased}
use Rattle.word_ring.specs.Plays.{blank_view}
use Rattle.word_ring.specs.Plays.{putter_of}
use Rattle.word_ring.specs.Plays.{taker_of, note_of, head_note_of, with_note, with_head_note, with_putter}
use Rattle.word_ring.specs.Rule.{Story, KnowsPuts, KnowsTakes, Knows, StandsInLane, Ring}
use Rattle.word_ring.proofs.Beginnings.{begins_itself, begins_through, begins_length}
use Rattle.word_ring.proofs.Seats.{GoesOn, knows_on, knows_nothing, Each, each_set, each_end, known_before, each_join}
use Rattle.word_ring.proofs.Keeps.{RingState}

-- what was pushed, released and taken is the same
pub stays_on : (g g' : Story) → g.pushed ≡ g'.pushed → g.released ≡ g'.released → g.taken ≡ g'.taken → GoesOn g g'
stays_on g g' pushed released taken = record {
  pushed = subst (λ (z : List ℕ). IsPrefix g.pushed z) pushed (begins_itself g.pushed);
  released = λ hs a. subst (λ (z : List ℕ). AreReleased z hs) released a;
  taken = omega (arith, ap length taken);
}

-- the views alone change
viewed : (n : ℕ) (s : RingState) (r : Ring n s) (g' : Story) (views : List View)
    → g'.written ≡ r.story.written
    → g'.pushed ≡ r.story.pushed
    → g'.taken ≡ r.story.taken
    → g'.released ≡ r.story.released
    → g'.out ≡ r.story.out
    → g'.passing ≡ r.story.passing
    → (g'.passing ≡ true → g'.putter ≡ g'.taker)
    → Each n g' views
    → Ring n record { words = s.words; homes = s.homes; views = views }
viewed n s r g' views written pushed taken released out passing one each = record {
  story = g';
  wide = r.wide;
  head = r.head ∙ ap length (sym taken);
  tail = r.tail ∙ ap length (sym pushed);
  taken = subst (λ (z : List ℕ × List ℕ). IsPrefix z.0 z.1) (λ i. (sym taken i, sym pushed i)) r.taken;
  pushed = subst (λ (z : List ℕ × List ℕ). IsPrefix z.0 z.1) (λ i. (sym pushed i, sym written i)) r.pushed;
  fits = subst (λ (z : List ℕ × List ℕ). length z.0 ≤ length z.1 + n) (λ i. (sym written i, sym taken i)) r.fits;
  stands = λ still. subst (λ (z : List ℕ × List ℕ). StandsInLane n s.words (length z.0) z.1)
      (λ i. (sym taken i, sym written i)) (r.stands (sym passing ∙ still));
  one = one;
  released =
      subst (λ (z : List ℕ × List ℕ). All (λ h. h ≤ length z.0) z.1) (λ i. (sym taken i, sym released i)) r.released;
  last = subst (λ (z : List ℕ × List ℕ). IsReleased z.1 (length z.0)) (λ i. (sym taken i, sym released i)) r.last;
  home = λ is. r.home (sym out ∙ is);
  each = each;
}

pub notes : (n id : ℕ) (v : View) → v.puts ≡ true → Splits (Ring n) id v v (note_of v)
notes n id v puts s r here =
    let g : Story = r.story in
    let k : Knows n g id v = r.each id v here in
    let p : KnowsPuts n g id v = k.puts puts in
    let views : List View = set s.views id v in
    let pushed_is : length v.pushed ≡ length g.pushed = ap length p.pushed in
    let known : Knows n g (length views) (note_of v) = record {
      noted = subst (λ (z : List ℕ). IsPrefix z g.pushed) (sym p.pushed) (begins_itself g.pushed);
      noted_heads = p.heads;
      head = omega arith;
      tail = omega arith;
      puts = λ is. absurd (false≢true is);
      takes = λ is. absurd (false≢true is);
    } in
    viewed n s r g (views ++ note_of v ∷ []) refl refl refl refl refl refl r.one
    (each_end n g views (note_of v) (each_set n g g s.views id v r.each k (λ seat u apart old. old)) known)

pub notes_head : (n id : ℕ) (v : View) → v.takes ≡ true → Splits (Ring n) id v v (head_note_of v)
notes_head n id v takes s r here =
    let g : Story = r.story in
    let k : Knows n g id v = r.each id v here in
    let t : KnowsTakes n g id v = k.takes takes in
    let views : List View = set s.views id v in
    let taken_is : length v.taken ≡ length g.taken = ap length t.taken in
    let known : Knows n g (length views) (head_note_of v) = record {
      noted = (g.pushed, refl);
      noted_heads = λ i d lt. absurd (omega arith);
      head = omega arith;
      tail = omega arith;
      puts = λ is. absurd (false≢true is);
      takes = λ is. absurd (false≢true is);
    } in
    viewed n s r g (views ++ head_note_of v ∷ []) refl refl refl refl refl refl r.one
    (each_end n g views (head_note_of v) (each_set n g g s.views id v r.each k (λ seat u apart old. old)) known)

pub parts : (n id : ℕ) (v : View)
    → v.puts ≡ true
    → v.takes ≡ true
    → v.passing ≡ false
    → Splits (Ring n) id v (taker_of v) (putter_of v)
parts n id v puts takes still s r here =
    let g : Story = r.story in
    let k : Knows n g id v = r.each id v here in
    let p : KnowsPuts n g id v = k.puts puts in
    let t : KnowsTakes n g id v = k.takes takes in
    let views : List View = set s.views id (taker_of v) in
    let g' : Story = record g { putter = length views } in
    let on_ : GoesOn g g' = stays_on g g' refl refl refl in
    let left : Knows n g' id (taker_of v) = record {
      noted = k.noted;
      noted_heads = k.noted_heads;
      head = k.head;
      tail = k.tail;
      puts = λ is. absurd (false≢true is);
      takes = λ is. record {
        at = t.at;
        capacity = t.capacity;
        taken = t.taken;
        released = t.released;
        begins = t.begins;
        read = t.read;
        known = t.known;
        out = t.out;
        passing = t.passing;
      };
    } in
    let right : Knows n g' (length views) (putter_of v) = record {
      noted = k.noted;
      noted_heads = k.noted_heads;
      head = k.head;
      tail = k.tail;
      puts = λ is. record {
        at = refl;
        capacity = p.capacity;
        written = p.written;
        pushed = p.pushed;
        heads = p.heads;
        passing = p.passing;
      };
      takes = λ is. absurd (false≢true is);
    } in
    let on : (seat : ℕ) (u : View) → seat ≢ id → Knows n g seat u → Knows n g' seat u = λ seat u apart old.
    knows_on n g g' seat u on_
    (λ q. absurd (apart (q.at ∙ sym p.at)))
    (λ q. record {
      at = q.at;
      capacity = q.capacity;
      taken = q.taken;
      released = q.released;
      begins = q.begins;
      read = q.read;
      known = q.known;
      out = q.out;
      passing = q.passing;
    }) old in
    viewed n s r g' (views ++ putter_of v ∷ []) refl refl refl refl refl refl
    (λ is. absurd (false≢true (sym still ∙ (p.passing ∙ is))))
    (each_end n g' views (putter_of v) (each_set n g g' s.views id (taker_of v) r.each left on) right)

pub meets : (n id other : ℕ) (v w : View) → Joins (Ring n) id v other w (with_note v w) blank_view
meets n id other v w s r here apart there =
    let g : Story = r.story in
    let k : Knows n g id v = r.each id v here in
    let o : Knows n g other w = known_before n g s.views id other (with_note v w) w r.each apart there in
    let mine = k.tail in
    let theirs = o.tail in
    let known : Knows n g id (with_note v w) = record {
      noted = o.noted;
      noted_heads = o.noted_heads;
      head = k.head;
      tail = omega arith;
      puts = λ is. (let p = k.puts is in
          record {
            at = p.at;
            capacity = p.capacity;
            written = p.written;
            pushed = p.pushed;
            heads = p.heads;
            passing = p.passing;
          });
      takes = λ is. (
          let t = k.takes is in
          let bound = t.known in
          let within = begins_length v.taken v.read t.begins in
          record {
            at = t.at;
            capacity = t.capacity;
            taken = t.taken;
            released = t.released;
            begins = begins_itself v.taken;
            read = begins_through v.taken v.read g.pushed t.begins t.read;
            known = omega arith;
            out = t.out;
            passing = t.passing;
          }
          );
    } in
    viewed n s r g (set (set s.views id (with_note v w)) other blank_view) refl refl refl refl refl refl r.one
    (each_join n g g s.views id other (with_note v w) r.each known (λ seat u a b old. old))

pub meets_head : (n id other : ℕ) (v w : View) → Joins (Ring n) id v other w (with_head_note v w) blank_view
meets_head n id other v w s r here apart there =
    let g : Story = r.story in
    let k : Knows n g id v = r.each id v here in
    let o : Knows n g other w = known_before n g s.views id other (with_head_note v w) w r.each apart there in
    let mine = k.head in
    let theirs = o.head in
    let known : Knows n g id (with_head_note v w) = record {
      noted = k.noted;
      noted_heads = k.noted_heads;
      head = omega arith;
      tail = k.tail;
      puts = λ is. (let p = k.puts is in
          record {
            at = p.at;
            capacity = p.capacity;
            written = p.written;
            pushed = p.pushed;
            heads = p.heads;
            passing = p.passing;
          });
      takes = λ is. (let t = k.takes is in
          record {
            at = t.at;
            capacity = t.capacity;
            taken = t.taken;
            released = t.released;
            begins = t.begins;
            read = t.read;
            known = t.known;
            out = t.out;
            passing = t.passing;
          });
    } in
    viewed n s r g (set (set s.views id (with_head_note v w)) other blank_view) refl refl refl refl refl refl r.one
    (each_join n g g s.views id other (with_head_note v w) r.each known (λ seat u a b old. old))

pub ends : (n id other : ℕ) (v w : View)
    → v.takes ≡ true
    → w.puts ≡ true
    → Joins (Ring n) id v other w (with_putter v w) blank_view
ends n id other v w takes puts s r here apart there =
    let g : Story = r.story in
    let k : Knows n g id v = r.each id v here in
    let t : KnowsTakes n g id v = k.takes takes in
    let o : Knows n g other w = known_before n g s.views id other (with_putter v w) w r.each apart there in
    let p : KnowsPuts n g other w = o.puts puts in
    let g' : Story = record g { putter = id } in
    let on_ : GoesOn g g' = record { pushed = begins_itself g.pushed; released = λ hs a. a; taken = omega arith } in
    let mine = k.tail in
    let bound = t.known in
    let within = begins_length v.taken v.read t.begins in
    let pushed_is : length w.pushed ≡ length g.pushed = ap length p.pushed in
    let known : Knows n g' id (with_putter v w) = record {
      noted = k.noted;
      noted_heads = k.noted_heads;
      head = k.head;
      tail = omega arith;
      puts = λ is. record {
        at = refl;
        capacity = p.capacity;
        written = p.written;
        pushed = p.pushed;
        heads = p.heads;
        passing = t.passing;
      };
      takes = λ is. record {
        at = t.at;
        capacity = t.capacity;
        taken = t.taken;
        released = t.released;
        begins = begins_itself v.taken;
        read = begins_through v.taken v.read g.pushed t.begins t.read;
        known = omega arith;
        out = t.out;
        passing = t.passing;
      };
    } in
    let on : (seat : ℕ) (u : View) → seat ≢ id → seat ≢ other → Knows n g seat u → Knows n g' seat u = λ seat u a b old.
    knows_on n g g' seat u on_
    (λ q. absurd (b (q.at ∙ sym p.at)))
    (λ q. record {
      at = q.at;
      capacity = q.capacity;
      taken = q.taken;
      released = q.released;
      begins = q.begins;
      read = q.read;
      known = q.known;
      out = q.out;
      passing = q.passing;
    }) old in
    viewed n s r g' (set (set s.views id (with_putter v w)) other blank_view) refl refl refl refl refl refl (λ _. t.at)
    (each_join n g g' s.views id other (with_putter v w) r.each known on)

-- all that the putter's seat knew knows the new one
pub leaves : (n id : ℕ) (v : View)
    → v.puts ≡ true
    → v.takes ≡ false
    → v.passing ≡ false
    → Splits (Ring n) id v blank_view v
leaves n id v puts alone still s r here =
    let g : Story = r.story in
    let k : Knows n g id v = r.each id v here in
    let p : KnowsPuts n g id v = k.puts puts in
    let views : List View = set s.views id blank_view in
    let g' : Story = record g { putter = length views } in
    let right : Knows n g' (length views) v = record {
      noted = k.noted;
      noted_heads = k.noted_heads;
      head = k.head;
      tail = k.tail;
      puts = λ is. record {
        at = refl;
        capacity = p.capacity;
        written = p.written;
        pushed = p.pushed;
        heads = p.heads;
        passing = p.passing;
      };
      takes = λ is. absurd (false≢true (sym alone ∙ is));
    } in
    let on : (seat : ℕ) (u : View) → seat ≢ id → Knows n g seat u → Knows n g' seat u = λ seat u apart old.
    knows_on n g g' seat u (stays_on g g' refl refl refl)
    (λ q. absurd (apart (q.at ∙ sym p.at)))
    (λ q. record {
      at = q.at;
      capacity = q.capacity;
      taken = q.taken;
      released = q.released;
      begins = q.begins;
      read = q.read;
      known = q.known;
      out = q.out;
      passing = q.passing;
    }) old in
    viewed n s r g' (views ++ v ∷ []) refl refl refl refl refl refl
    (λ is. absurd (false≢true (sym still ∙ (p.passing ∙ is))))
    (each_end n g' views v (each_set n g g' s.views id blank_view r.each (knows_nothing n g' id) on) right)

-- Bytes that are put and handed over in one call.
use Rattle.std.proofs.Common.{◌≡◌, ℕ, ◌+◌, ◌-◌, ◌<◌, ◌≤◌, ◌^◌, max, false, List, [], ◌++◌}
use Rattle.std.proofs.Common.{length, take, drop, refl, sym, ◌∙◌, ap, subst, arith, append_assoc}
use Rattle.std.specs.Prelude.{Option, Some, IfSome}
use Rattle.std.proofs.lemmas.List.{length-append, length-map, length-take-le}
use Rattle.std.proofs.lemmas.List.{map-append, take_all, take-append-drop, take-map}
use Rattle.atomic_table.specs.Seated.{TableId}
use Rattle.tty_base.specs.Characters.{good_character, good_characters}
use Rattle.tty_base.specs.declared.characters.Flag.{Flag}
use Rattle.tty_base.specs.declared.characters.Flag.TheVariants.{Normal}
use Rattle.tty_base.specs.declared.characters.Flagged.{Flagged}
use Rattle.flow_control.specs.Counting.{count_after}
use Rattle.word_ring.specs.Ends.{PutterState, TakerState, Passes}
use Rattle.flip_buffer.specs.Packed.{with_flag}
use Rattle.tty_terminal.specs.Terminals.{Terminal}
use Rattle.tty_terminal.specs.Receiving.{accepts, after_characters, AcceptsAll}
use Rattle.tty_terminal.specs.Kept.{kept}
use Rattle.tty_device.specs.Lines.{PutEnd, HasNoRoom, after_put, PutsAndPushes}
use Rattle.tty_device.specs.Acts.{FlushesLook, IsClear, PassesBytes}
use Rattle.tty_device.specs.Devices.{MOST_FLUSHED, DeviceState, TakesIn, TakesInWhere}

-- ---- what the line puts

-- bytes are put, and then pushed
pub puts_then : (old l m : PutEnd) (flag : Flag) (bytes : List ℕ) (n : ℕ)
    → n ≤ length bytes
    → l ≡ record (after_put flag bytes n old) { known = l.known }
    → old.known ≤ l.known
    → (n < length bytes → HasNoRoom l.sent l.known old.capacity)
    → m ≡ record l { pushed = l.sent }
    → PutsAndPushes old m flag bytes n
puts_then old l m flag bytes n within put known full push =
    let sent : m.sent ≡ l.sent = ap (λ (x : PutEnd). x.sent) push in
    let same : m.known ≡ l.known = ap (λ (x : PutEnd). x.known) push in
    record {
      within = within;
      after =
          push
          ∙ (ap (λ (x : PutEnd). record x { pushed = l.sent }) put
          ∙ (λ i. record (after_put flag bytes n old) { pushed = sym sent i; known = sym same i }));
      known = omega (arith, known, same);
      full = λ less.
          subst (λ (z : List Flagged × ℕ). HasNoRoom z.0 z.1 old.capacity) (λ i. (sym sent i, sym same i)) (full less);
    }

-- more was known before they were put
pub puts_from : (old w m : PutEnd) (flag : Flag) (bytes : List ℕ) (n : ℕ)
    → w ≡ record old { known = w.known }
    → old.known ≤ w.known
    → PutsAndPushes w m flag bytes n
    → PutsAndPushes old m flag bytes n
puts_from old w m flag bytes n is rises puts =
    let known : w.known ≤ m.known = puts.known in
    record {
      within = puts.within;
      after =
          puts.after
          ∙ ap (λ (x : PutEnd). record (after_put flag bytes n x) { pushed = m.sent; known = m.known }) is;
      known = omega (arith, rises, known);
      full = λ less.
          subst (λ (k : ℕ). HasNoRoom m.sent m.known k) (ap (λ (x : PutEnd). x.capacity) is) (puts.full less);
    }

-- a count that has room is no higher after none
none_more : (count : ℕ) → count < 2 ^ 64 → count_after count 0 ≡ count
none_more count small = omega (arith, small)

-- all of them are put, where they are good and there is room
pub puts_all : (w m : PutEnd) (f g : TakerState Flagged) (p q : PutterState Flagged) (flag : Flag) (bytes : List ℕ)
    (n : ℕ)
    → PassesBytes f g p q bytes n
    → flag ≡ Normal
    → w.overruns < 2 ^ 64
    → w
    ≡ record {
      ring = p.ring;
      capacity = p.capacity;
      sent = p.sent;
      pushed = p.pushed;
      overruns = w.overruns;
      known = p.floor;
    }
    → m
    ≡ record {
      ring = q.ring;
      capacity = q.capacity;
      sent = q.sent;
      pushed = q.pushed;
      overruns = w.overruns;
      known = q.floor;
    }
    → PutsAndPushes w m flag bytes (length bytes)
puts_all w m f g p q flag bytes n gives good small was is =
    let all : take (length bytes) bytes ≡ bytes = take_all (length bytes) bytes (omega arith) in
    let none : length bytes - length bytes ≡ 0 = omega arith in
    let same : count_after w.overruns (length bytes - length bytes) ≡ w.overruns =
    ap (count_after w.overruns) none ∙ none_more w.overruns small in
    let sent : m.sent ≡ q.sent = ap (λ (x : PutEnd). x.sent) is in
    let put : q.sent ≡ w.sent ++ with_flag flag (take (length bytes) bytes) =
    gives.sent ∙ (λ i. ap (λ (x : PutEnd). x.sent) (sym was) i ++ with_flag (sym good i) (sym all i)) in
    let before : w.known ≡ p.floor = ap (λ (x : PutEnd). x.known) was in
    let after : m.known ≡ q.floor = ap (λ (x : PutEnd). x.known) is in
    let rises : p.floor ≤ q.floor = gives.known in
    record {
      within = omega arith;
      after = is ∙ (λ i. record {
        ring = (gives.same ∙ ap (λ (x : PutEnd). x.ring) (sym was)) i;
        capacity = (gives.holds ∙ ap (λ (x : PutEnd). x.capacity) (sym was)) i;
        sent = put i;
        pushed = (gives.pushed ∙ sym sent) i;
        overruns = sym same i;
        known = sym after i;
      });
      known = omega (arith, before, after, rises);
      full = λ less. absurd (omega (arith, less));
    }

-- ---- what the flip buffer has

-- what passed, and what of the bytes was kept after it
module _ (f g : TakerState Flagged) (p q : PutterState Flagged) (bytes : List ℕ) (n : ℕ)
    (clear : IsClear f p (length bytes)) (passes : Passes p q f g (good_characters (take n bytes))) where
  abbrev passed : List Flagged
  passed = p.sent ++ good_characters (take n bytes)

  floor_is : g.floor ≡ length passed
  floor_is = ap (λ (x : TakerState Flagged). x.floor) passes.taker

  sent_is : q.sent ≡ passed
  sent_is = ap (λ (x : PutterState Flagged). x.sent) passes.putter

  pub passed_all : length bytes ≤ n → PassesBytes f g p q bytes n
  passed_all whole =
      let known : p.floor ≡ length p.sent = clear.clear.known in
      let loaded : q.floor ≡ length passed = ap (λ (x : PutterState Flagged). x.floor) passes.putter in
      let longer : length passed ≡ length p.sent + length (good_characters (take n bytes)) =
      length-append p.sent (good_characters (take n bytes)) in
      let before : f.floor ≤ length p.sent = passes.floor in
      record {
        ring = ap (λ (x : TakerState Flagged). x.ring) passes.taker;
        moved =
            ap (λ (x : TakerState Flagged). x.taken) passes.taker
            ∙ ap (λ (z : List Flagged). z ++ good_characters (take n bytes)) (sym passes.met);
        looked = omega (arith, before, floor_is, longer);
        shown = floor_is ∙ sym (ap length sent_is);
        same = ap (λ (x : PutterState Flagged). x.ring) passes.putter;
        holds = ap (λ (x : PutterState Flagged). x.capacity) passes.putter;
        sent = sent_is ∙ ap (λ (z : List ℕ). p.sent ++ good_characters z) (take_all n bytes whole);
        pushed = ap (λ (x : PutterState Flagged). x.pushed) passes.putter ∙ sym sent_is;
        known = omega (arith, known, loaded, longer);
      }

  pub passed_some : (h : TakerState Flagged) (r : PutterState Flagged)
      → r
      ≡ record q { sent = q.sent ++ good_characters (drop n bytes); pushed = q.sent ++ good_characters (drop n bytes) }
      → h ≡ record g { peeked = []; floor = max g.floor (length q.sent + length (drop n bytes)) }
      → PassesBytes f h p r bytes n
  passed_some h r put told =
      let rest : List Flagged = good_characters (drop n bytes) in
      let known : p.floor ≡ length p.sent = clear.clear.known in
      let loaded : q.floor ≡ length passed = ap (λ (x : PutterState Flagged). x.floor) passes.putter in
      let longer : length passed ≡ length p.sent + length (good_characters (take n bytes)) =
      length-append p.sent (good_characters (take n bytes)) in
      let before : f.floor ≤ length p.sent = passes.floor in
      let many : length q.sent ≡ length passed = ap length sent_is in
      let more : length r.sent ≡ length q.sent + length rest =
      ap (λ (x : PutterState Flagged). length x.sent) put ∙ length-append q.sent rest in
      let as_many : length rest ≡ length (drop n bytes) = length-map (drop n bytes) good_character in
      let shown : h.floor ≡ max g.floor (length q.sent + length (drop n bytes)) =
      ap (λ (x : TakerState Flagged). x.floor) told in
      let last : r.floor ≡ q.floor = ap (λ (x : PutterState Flagged). x.floor) put in
      let both : good_characters (take n bytes) ++ rest ≡ good_characters bytes =
      sym (map-append good_character (take n bytes) (drop n bytes)) ∙ ap good_characters (take-append-drop n bytes) in
      record {
        ring = ap (λ (x : TakerState Flagged). x.ring) told ∙ ap (λ (x : TakerState Flagged). x.ring) passes.taker;
        moved = ap (λ (x : TakerState Flagged). x.taken) told
            ∙ (ap (λ (x : TakerState Flagged). x.taken) passes.taker
            ∙ ap (λ (z : List Flagged). z ++ good_characters (take n bytes)) (sym passes.met));
        looked = omega (arith, before, floor_is, longer, shown);
        shown = omega (arith, shown, more, as_many, floor_is, many);
        same = ap (λ (x : PutterState Flagged). x.ring) put ∙ ap (λ (x : PutterState Flagged). x.ring) passes.putter;
        holds =
            ap (λ (x : PutterState Flagged). x.capacity) put
            ∙ ap (λ (x : PutterState Flagged). x.capacity) passes.putter;
        sent = ap (λ (x : PutterState Flagged). x.sent) put
            ∙ (ap (λ (z : List Flagged). z ++ rest) sent_is
            ∙ (append_assoc p.sent (good_characters (take n bytes)) rest
            ∙ ap (λ (z : List Flagged). p.sent ++ z) both));
        pushed = ap (λ (x : PutterState Flagged). x.pushed) put ∙ sym (ap (λ (x : PutterState Flagged). x.sent) put);
        known = omega (arith, known, loaded, longer, last);
      }

-- those that the discipline accepted of these were handed over
pub handed_straight : (t u : Terminal) (f g : TakerState Flagged) (p q : PutterState Flagged) (bytes : List ℕ) (n : ℕ)
    (cs : List Flagged)
    → PassesBytes f g p q bytes n
    → IsClear f p (length bytes)
    → length bytes ≤ MOST_FLUSHED
    → n ≤ length bytes
    → cs ≡ take n (good_characters bytes)
    → (accepted : AcceptsAll t cs)
    → u ≡ kept (after_characters t cs)
    → (n < length bytes → accepts u ≡ false)
    → FlushesLook t u f g cs MOST_FLUSHED (length cs)
handed_straight t u f g p q bytes n cs gives clear few within are accepted left stops =
    let taken : length f.taken ≡ length p.sent = clear.clear.taken in
    let all : length q.sent ≡ length p.sent + length (good_characters bytes) =
    ap length gives.sent ∙ length-append p.sent (good_characters bytes) in
    let many : length (good_characters bytes) ≡ length bytes = length-map bytes good_character in
    let shown : g.floor ≡ length q.sent = gives.shown in
    let count : length cs ≡ n =
    ap length are ∙ length-take-le n (good_characters bytes) (omega (arith, within, many)) in
    record {
      counted = refl;
      ring = gives.ring;
      moved = gives.moved ∙ ap (λ (z : List Flagged). f.taken ++ z) (sym (are ∙ take-map good_character n bytes));
      looked = gives.looked;
      few = omega (arith, taken, all, many, shown, count, few, within);
      accepted = accepted;
      left = left;
      all = λ less. stops (omega (arith, less, taken, all, many, shown, count));
    }

-- an end that puts in stays that of the same buffer
pub line_stays : (line : Option PutEnd) (r s : TableId)
    → s ≡ r
    → IfSome line (λ l. l.ring ≡ r)
    → IfSome line (λ l. l.ring ≡ s)
line_stays line r s same h = subst (λ (x : TableId). IfSome line (λ l. l.ring ≡ x)) (sym same) h

-- a device that has an end takes in what it takes in by that end
pub takes_in_where : (o : Option PutEnd) (l : PutEnd) (old new : DeviceState) (flag : Flag) (bytes : List ℕ)
    (n : ℕ)
    → o ≡ Some l
    → TakesIn old new l flag bytes n
    → TakesInWhere o old new flag bytes (Some n)
takes_in_where o l old new flag bytes n is h =
    subst (λ (x : Option PutEnd). TakesInWhere x old new flag bytes (Some n)) (sym is) (n, refl, h)

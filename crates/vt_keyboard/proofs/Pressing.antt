-- What keys do to lines and putters, key by key.
use Rattle.std.proofs.Common.{◌≡◌, ◌≢◌, ◌⊎◌, inl, inr, ℕ, ◌+◌, ◌-◌, ◌<◌, ◌≤◌, ◌==◌, true, false, Bool}
use Rattle.std.proofs.Common.{if◌then◌else◌, List, [], ◌∷◌, ◌++◌, Option, None, Some, length, take, refl, sym, ap}
use Rattle.std.proofs.Common.{subst, ◌∙◌, arith, append-nil, append_assoc, length-append, eq-eqb, ne_eqb, get_or}
use Rattle.std.specs.Prelude.{slice_get, slice_index_or, slice_set}
use Rattle.std.specs.List.{All}
use Rattle.std.proofs.lemmas.List.{map-append, length-set, get_or-set_same, get_or-set_other, take_more, length-take-le}
use Rattle.std.proofs.lemmas.List.Elements.{All-from_get_or, All-from_recursion}
use Rattle.std.proofs.lemmas.Option.{slice_get_within, slice_get-get_or, get_or_from_slice_get}
use Rattle.std.proofs.lemmas.Bool.{cases_order}
use Rattle.tty_base.specs.Sizes.{MOST_SENT}
use Rattle.tty_base.specs.declared.characters.Flagged.{Flagged}
use Rattle.tty_base.specs.declared.lines.Full.{Full}
use Rattle.tty_base.specs.declared.lines.LineStep.{LineStep}
use Rattle.tty_base.specs.declared.lines.LineStep.TheVariants.{Rx, Trigger}
use Rattle.tty_base.specs.declared.lines.Overrun.{Overrun}
use Rattle.word_ring.specs.Ends.{PutterState}
use Rattle.uart_line.specs.GoodSteps.{good_steps}
use Rattle.uart_line.specs.LineState.{LineState, HasDone}
use Rattle.uart_line.specs.Offered.{PutAnswer, appends, refuses, appended_list}
use Rattle.uart_line.specs.Offered.{overrun_list, IsFullAt, AreAmong, Offers, HandsOver}
use Rattle.uart_line.specs.Received.{received_list, waiting_list}
use Rattle.uart_line.proofs.OfferedLemmas.{HandsOver-trans}
use Rattle.uart_line.proofs.Steps.{HandsOver-none, arrival_count-append}
use Rattle.uart_line.proofs.Arrivals.{received_few}
use Rattle.vt_consoles.specs.Keys.{key_character, PutsAndPushes, GoesTo}
use Rattle.vt_account.specs.Keyed.{keys_to}
use Rattle.vt_consoles.specs.declared.entries.VtEvent.{VtEvent}
use Rattle.vt_consoles.specs.declared.entries.VtEvent.TheVariants.{Key}
use Rattle.vt_consoles.specs.Seats.{BoardSeat, MakesNone}
use Rattle.vt_keyboard.specs.Operating.{MakesAll}
use Rattle.vt_keyboard.specs.Phases.{key_events}
use Rattle.vt_keyboard.specs.Keying.{IsReadyForKeys, overruns_of, NotesKey, NotesAt, TakesAt, DoesSteps, IsReadyLine}
use Rattle.vt_keyboard.specs.Keying.{CanTakeKeys, CanBegin, CanTakeAll, TakeKeys, Presses, PressesKeys, PressesFirst}
use Rattle.vt_keyboard.proofs.SeatLemmas.{makes_none, makes_more}
use Rattle.vt_keyboard.proofs.KeySteps.{received_key, ready_key, ready_first}

-- ---- a line that is ready

no_length : {A : Type 0} (xs : List A) → length xs ≡ 0 → xs ≡ []
no_length [] h = refl
no_length (x ∷ xs) h = absurd (omega (arith, h))

pub ready_before : (line : LineState) (before : List LineStep) → IsReadyLine line → HasDone line before
    → IsReadyForKeys before
ready_before line before h d = record {
  unmasked = sym d.stands.masked ∙ h.unmasked;
  trigger = sym d.stands.registers.trigger ∙ h.trigger;
  none_waits = no_length (waiting_list before) (sym d.stands.window ∙ h.none_waits);
}

pub ready_line : (line : LineState) (before : List LineStep) → HasDone line before → IsReadyForKeys before
    → IsReadyLine line
ready_line line before d h = record {
  unmasked = d.stands.masked ∙ h.unmasked;
  trigger = d.stands.registers.trigger ∙ h.trigger;
  none_waits = d.stands.window ∙ ap length h.none_waits;
}

-- a line that has room for a character hands over fewer than it has room for
few_handed : (line : LineState) (before : List LineStep) → HasDone line before → line.handed ≤ line.report.arrived
few_handed line before d = omega (arith, d.handed, d.arrived, received_few before)

-- ---- one key

answer_of : Option Full → (head : ℕ) → List PutAnswer
answer_of None head = appends ∷ []
answer_of (Some f) head = refuses head ∷ []

offers_key : (byte : ℕ) (lost : Option Full) (place : ℕ) (overruns overruns' : List Overrun) (e f : PutterState Flagged)
    → PutsAndPushes (key_character byte) lost e f
    → overruns' ≡ overruns ++ overruns_of place lost
    → Offers e.capacity place (key_character byte ∷ []) e.sent f.sent e.heads f.heads overruns overruns'
unfolding appended_list overrun_list IsFullAt AreAmong
offers_key byte None place overruns overruns' e f p more = record {
  answers = appends ∷ [];
  loaded = f.floor ∷ [];
  one_each = refl;
  appends_rest = ap (λ (s : PutterState Flagged). s.sent) p.puts;
  adds_refused = more;
  is_full = tt;
  loads = ap (λ (s : PutterState Flagged). s.heads) p.puts;
  among_loaded = tt;
}
offers_key byte (Some g) place overruns overruns' e f p more =
    let sent : g.sent ≡ length e.sent = ap (λ (x : Full). x.sent) p.exact.0 in
    let seen : g.seen ≡ f.floor = ap (λ (x : Full). x.seen) p.exact.0 in
    record {
      answers = refuses f.floor ∷ [];
      loaded = f.floor ∷ [];
      one_each = refl;
      appends_rest = ap (λ (s : PutterState Flagged). s.sent) p.puts;
      adds_refused = more
          ∙ ap (λ (n : ℕ). overruns ++ record { at = place; sent = n; seen = g.seen } ∷ []) sent
          ∙ ap (λ (n : ℕ). overruns ++ record { at = place; sent = length e.sent; seen = n } ∷ []) seen;
      is_full = (p.exact.1, tt);
      loads = ap (λ (s : PutterState Flagged). s.heads) p.puts;
      among_loaded = ([], [], refl, tt);
    }

few_accepted : (byte : ℕ) (lost : Option Full) (e f : PutterState Flagged)
    → PutsAndPushes (key_character byte) lost e f
    → length f.sent ≤ length e.sent + 1
few_accepted byte None e f p = omega
    (arith, ap (λ (s : PutterState Flagged). length s.sent) p.puts, length-append e.sent (key_character byte ∷ []))
few_accepted byte (Some g) e f p =
    omega (arith, ap (λ (s : PutterState Flagged). length s.sent) p.puts, length-append e.sent [])

module _ (byte : ℕ) (lost : Option Full) (n : ℕ) (l m : LineState) (e f : PutterState Flagged)
    (can : CanTakeKeys (n + 1) l e) (notes : NotesKey byte lost l m)
    (puts : PutsAndPushes (key_character byte) lost e f) where
  abbrev key : LineStep
  key = Rx (key_character byte)

  abbrev before : List LineStep
  before = can.done.0

  done : HasDone l before
  done = can.done.1

  is_ready : IsReadyForKeys before
  is_ready = ready_before l before can.ready done

  has_done : HasDone m (before ++ key ∷ [])
  has_done = notes.done before done

  received : received_list (before ++ key ∷ []) ≡ received_list before ++ key_character byte ∷ []
  received = received_key before byte is_ready

  room_left : m.most ≤ (MOST_SENT - length f.sent) + m.handed
  room_left = omega (
    arith,
    notes.most,
    can.put,
    done.handed,
    has_done.handed,
    ap length received,
    length-append (received_list before) (key_character byte ∷ []),
    few_accepted byte lost e f puts,
  )

  pub key_does : DoesSteps (good_steps (byte ∷ [])) l m e f
  key_does = record {
    done = notes.done;
    hands_over = λ b d.
        let r = ready_before l b can.ready d in
        record {
          list = key_character byte ∷ [];
          grows = received_key b byte r;
          offers = offers_key byte lost (length (received_list b)) l.report.overruns.items m.report.overruns.items e f
              puts (notes.overruns b d r);
        };
    ring = ap (λ (s : PutterState Flagged). s.ring) puts.puts;
    capacity = ap (λ (s : PutterState Flagged). s.capacity) puts.puts;
    most = notes.most;
    arrived = notes.arrived;
    room = room_left;
    rise = λ h. puts.ordered;
  }

  pub key_can : CanTakeKeys n m f
  key_can = record {
    ready = ready_line m (before ++ key ∷ []) has_done (ready_key before byte is_ready);
    done = (before ++ key ∷ [], has_done);
    room = omega (arith, notes.most, notes.arrived, can.room);
    put = room_left;
  }

-- ---- steps

pub does_none : (line : LineState) (putter : PutterState Flagged)
    → line.most ≤ (MOST_SENT - length putter.sent) + line.handed
    → DoesSteps [] line line putter putter
does_none line putter room = record {
  done = λ before d. subst (HasDone line) (sym (append-nil before)) d;
  hands_over = λ before d. subst (λ (steps : List LineStep). HandsOver putter.capacity (received_list before)
      (received_list steps) putter.sent putter.sent putter.heads putter.heads
      line.report.overruns.items line.report.overruns.items)
      (sym (append-nil before))
      (HandsOver-none putter.capacity (received_list before) putter.sent putter.heads line.report.overruns.items);
  ring = refl;
  capacity = refl;
  most = refl;
  arrived = omega arith;
  room = room;
  rise = λ h. h;
}

pub does_more : (xs ys : List LineStep) (l m k : LineState) (e f g : PutterState Flagged)
    → DoesSteps xs l m e f
    → DoesSteps ys m k f g
    → DoesSteps (xs ++ ys) l k e g
does_more xs ys l m k e f g a b = record {
  done = λ before d. subst (HasDone k) (append_assoc before xs ys) (b.done (before ++ xs) (a.done before d));
  hands_over = λ before d.
      subst (λ (steps : List LineStep). HandsOver e.capacity (received_list before) (received_list steps) e.sent g.sent
      e.heads g.heads l.report.overruns.items k.report.overruns.items)
      (append_assoc before xs ys)
      (HandsOver-trans e.capacity (received_list before) (received_list (before ++ xs))
      (received_list ((before ++ xs) ++ ys)) e.sent f.sent g.sent e.heads f.heads g.heads
      l.report.overruns.items m.report.overruns.items k.report.overruns.items (a.hands_over before d)
      (subst (λ (n : ℕ). HandsOver n (received_list (before ++ xs)) (received_list ((before ++ xs) ++ ys)) f.sent g.sent
      f.heads g.heads m.report.overruns.items k.report.overruns.items) a.capacity
      (b.hands_over (before ++ xs) (a.done before d))));
  ring = b.ring ∙ a.ring;
  capacity = b.capacity ∙ a.capacity;
  most = b.most ∙ a.most;
  arrived = omega (arith, a.arrived, b.arrived, arrival_count-append xs ys);
  room = b.room;
  rise = λ h. b.rise (a.rise h);
}

-- ---- the keys of a console, one more

pub keys_snoc : (p : ℕ) (keys went : List ℕ) (key n : ℕ)
    → length went ≡ length keys
    → keys_to p (keys ++ key ∷ []) (went ++ n ∷ []) ≡ keys_to p keys went ++ (if n == p then key ∷ [] else [])
keys_snoc p [] [] key n h = append-nil (if n == p then key ∷ [] else [])
keys_snoc p [] (w ∷ went) key n h = absurd (omega (arith, h))
keys_snoc p (k ∷ keys) [] key n h = absurd (omega (arith, h))
keys_snoc p (k ∷ keys) (w ∷ went) key n h =
    ap (λ (l : List ℕ). (if w == p then k ∷ [] else []) ++ l) (keys_snoc p keys went key n (omega (arith, h)))
    ∙ sym (append_assoc (if w == p then k ∷ [] else []) (keys_to p keys went) (if n == p then key ∷ [] else []))

-- ---- places in lists

at_same : {A : Type 0} (xs : List A) (i : ℕ) (x y : A) → i < length xs → slice_get (slice_set xs i x) i ≡ Some y → y ≡ x
at_same xs i x y lt h = sym (get_or_from_slice_get (slice_set xs i x) i y x h) ∙ get_or-set_same xs i x x lt

at_other : {A : Type 0} (xs : List A) (i j : ℕ) (x y z : A)
    → j ≢ i
    → slice_get xs j ≡ Some y
    → slice_get (slice_set xs i x) j ≡ Some z
    → z ≡ y
at_other xs i j x y z ne h k =
    sym (get_or_from_slice_get (slice_set xs i x) j z y k)
    ∙ get_or-set_other xs i j x y ne
    ∙ get_or_from_slice_get xs j y y h

was_there : {A : Type 0} (xs : List A) (i : ℕ) (x y : A) → x ≡ slice_index_or xs i x → slice_get xs i ≡ Some y → y ≡ x
was_there xs i x y h k = sym (get_or_from_slice_get xs i y x k) ∙ sym h

-- ---- all consoles, a key more

less_room : (n : ℕ) (l : LineState) (e : PutterState Flagged) → CanTakeKeys (n + 1) l e → CanTakeKeys n l e
less_room n l e h = record { ready = h.ready; done = h.done; room = omega (arith, h.room); put = h.put }

module _ (byte console consoles n : ℕ) (lines noted : List LineState) (ends now : List (PutterState Flagged))
    (can : CanTakeAll consoles (n + 1) lines ends) (takes : TakesAt byte console lines noted ends now) where
  goes : GoesTo byte console takes.lost ends now
  goes = takes.goes

  notes : NotesAt byte console takes.lost lines noted
  notes = takes.notes

  record Moved (p : ℕ) (l m : LineState) (e f : PutterState Flagged) : Type 0 where
    does : DoesSteps (good_steps (if console == p then byte ∷ [] else [])) l m e f
    can_take : CanTakeKeys n m f

  here : (p : ℕ) (l m : LineState) (e f : PutterState Flagged)
      → slice_get lines p ≡ Some l
      → slice_get noted p ≡ Some m
      → slice_get ends p ≡ Some e
      → slice_get now p ≡ Some f
      → p ≡ console
      → Moved p l m e f
  here p l m e f at_l at_m at_e at_f same =
      let il : l ≡ notes.was =
      was_there lines console notes.was l notes.found (subst (λ (k : ℕ). slice_get lines k ≡ Some l) same at_l) in
      let ie : e ≡ goes.was =
      was_there ends console goes.was e goes.found (subst (λ (k : ℕ). slice_get ends k ≡ Some e) same at_e) in
      let im : m ≡ notes.is =
      at_same lines console notes.is m notes.within
      (subst (λ (xs : List LineState). slice_get xs console ≡ Some m) notes.others
      (subst (λ (k : ℕ). slice_get noted k ≡ Some m) same at_m)) in
      let if_ : f ≡ goes.is =
      at_same ends console goes.is f goes.within
      (subst (λ (xs : List (PutterState Flagged)). slice_get xs console ≡ Some f) goes.others
      (subst (λ (k : ℕ). slice_get now k ≡ Some f) same at_f)) in
      let c : CanTakeKeys (n + 1) notes.was goes.was =
      subst (λ (x : LineState). CanTakeKeys (n + 1) x goes.was) il
      (subst (λ (x : PutterState Flagged). CanTakeKeys (n + 1) l x) ie (can.each p l e at_l at_e)) in
      let d : DoesSteps (good_steps (byte ∷ [])) notes.was notes.is goes.was goes.is =
      key_does byte takes.lost n notes.was notes.is goes.was goes.is c notes.notes goes.puts in
      let k : CanTakeKeys n notes.is goes.is =
      key_can byte takes.lost n notes.was notes.is goes.was goes.is c notes.notes goes.puts in
      let t : (console == p) ≡ true = eq-eqb console p (sym same) in
      record {
        does = subst (λ (b : Bool). DoesSteps (good_steps (if b then byte ∷ [] else [])) l m e f) (sym t)
            (subst (λ (x : LineState). DoesSteps (good_steps (byte ∷ [])) x m e f) (sym il)
            (subst (λ (x : LineState). DoesSteps (good_steps (byte ∷ [])) notes.was x e f) (sym im)
            (subst (λ (x : PutterState Flagged). DoesSteps (good_steps (byte ∷ [])) notes.was notes.is x f) (sym ie)
            (subst (λ (x : PutterState Flagged). DoesSteps (good_steps (byte ∷ [])) notes.was notes.is goes.was x)
            (sym if_) d))));
        can_take = subst (λ (x : LineState). CanTakeKeys n x f) (sym im)
            (subst (λ (x : PutterState Flagged). CanTakeKeys n notes.is x) (sym if_) k);
      }

  apart : (p : ℕ) (l m : LineState) (e f : PutterState Flagged)
      → slice_get lines p ≡ Some l
      → slice_get noted p ≡ Some m
      → slice_get ends p ≡ Some e
      → slice_get now p ≡ Some f
      → p ≢ console
      → Moved p l m e f
  apart p l m e f at_l at_m at_e at_f ne =
      let im : m ≡ l =
      at_other lines console p notes.is l m ne at_l
      (subst (λ (xs : List LineState). slice_get xs p ≡ Some m) notes.others at_m) in
      let if_ : f ≡ e =
      at_other ends console p goes.is e f ne at_e
      (subst (λ (xs : List (PutterState Flagged)). slice_get xs p ≡ Some f) goes.others at_f) in
      let c = can.each p l e at_l at_e in
      let t : (console == p) ≡ false = ne_eqb console p (λ s. ne (sym s)) in
      record {
        does = subst (λ (b : Bool). DoesSteps (good_steps (if b then byte ∷ [] else [])) l m e f) (sym t)
            (subst (λ (x : LineState). DoesSteps [] l x e f) (sym im)
            (subst (λ (x : PutterState Flagged). DoesSteps [] l l e x) (sym if_) (does_none l e c.put)));
        can_take = subst (λ (x : LineState). CanTakeKeys n x f) (sym im)
            (subst (λ (x : PutterState Flagged). CanTakeKeys n l x) (sym if_) (less_room n l e c));
      }

  not_same : (p : ℕ) → (p < console) ⊎ (console < p) → p ≢ console
  not_same p (inl lt) e = absurd (omega (arith, lt, e))
  not_same p (inr lt) e = absurd (omega (arith, lt, e))

  moved_by : (p : ℕ) (l m : LineState) (e f : PutterState Flagged)
      → slice_get lines p ≡ Some l
      → slice_get noted p ≡ Some m
      → slice_get ends p ≡ Some e
      → slice_get now p ≡ Some f
      → (p ≡ console) ⊎ ((p < console) ⊎ (console < p))
      → Moved p l m e f
  moved_by p l m e f at_l at_m at_e at_f (inl same) = here p l m e f at_l at_m at_e at_f same
  moved_by p l m e f at_l at_m at_e at_f (inr other) = apart p l m e f at_l at_m at_e at_f (not_same p other)

  moved : (p : ℕ) (l m : LineState) (e f : PutterState Flagged)
      → slice_get lines p ≡ Some l
      → slice_get noted p ≡ Some m
      → slice_get ends p ≡ Some e
      → slice_get now p ≡ Some f
      → Moved p l m e f
  moved p l m e f at_l at_m at_e at_f = moved_by p l m e f at_l at_m at_e at_f (cases_order p console)

  count_lines : length noted ≡ consoles
  count_lines = ap length notes.others ∙ length-set lines console notes.is ∙ can.lines_of

  count_ends : length now ≡ consoles
  count_ends = ap length goes.others ∙ length-set ends console goes.is ∙ can.ends_of

  -- a line where another was, and an end likewise
  old_line : (p : ℕ) (m : LineState) → slice_get noted p ≡ Some m → slice_get lines p ≡ Some (get_or lines p m)
  old_line p m h = slice_get-get_or lines p m (omega (arith, slice_get_within noted p m h, count_lines, can.lines_of))

  old_end : (p : ℕ) (f : PutterState Flagged) → slice_get now p ≡ Some f → slice_get ends p ≡ Some (get_or ends p f)
  old_end p f h = slice_get-get_or ends p f (omega (arith, slice_get_within now p f h, count_ends, can.ends_of))

  pub pressed_can : CanTakeAll consoles n noted now
  pressed_can = record {
    lines_of = count_lines;
    ends_of = count_ends;
    each = λ p m f at_m at_f.
        (moved p (get_or lines p m) m (get_or ends p f) f (old_line p m at_m) at_m (old_end p f at_f) at_f).can_take;
  }

  pub pressed_take : (keys went : List ℕ) (first : List LineState) (fresh : List (PutterState Flagged))
      → length went ≡ length keys
      → TakeKeys keys went first lines fresh ends
      → TakeKeys (keys ++ byte ∷ []) (went ++ console ∷ []) first noted fresh now
  pressed_take keys went first fresh each take p l m e f at_l at_m at_e at_f =
      let l' = get_or lines p m in
      let e' = get_or ends p f in
      let at_l' = old_line p m at_m in
      let at_e' = old_end p f at_f in
      let steps = if console == p then byte ∷ [] else [] in
      let d = does_more (good_steps (keys_to p keys went)) (good_steps steps) l l' m e e' f
      (take p l l' e e' at_l at_l' at_e at_e') (moved p l' m e' f at_l' at_m at_e' at_f).does in
      subst (λ (xs : List LineStep). DoesSteps xs l m e f)
      (sym (ap good_steps (keys_snoc p keys went byte console each) ∙ map-append _ (keys_to p keys went) steps)) d

-- ---- what a key needs

puts_few : (n : ℕ) (l : LineState) (e : PutterState Flagged) → CanTakeKeys (n + 1) l e → length e.sent < MOST_SENT
puts_few n l e h = omega (arith, h.put, h.room, few_handed l h.done.0 h.done.1)

all_from : {X : Type 0} (P : X → Type 0) (xs : List X) → ((i : ℕ) (x : X) → slice_get xs i ≡ Some x → P x) → All P xs
all_from P [] h = All-from_recursion P [] tt
all_from P (x ∷ xs) h =
    All-from_get_or P (x ∷ xs) x (λ i lt. h i (get_or (x ∷ xs) i x) (slice_get-get_or (x ∷ xs) i x lt))

pub can_put : (consoles n : ℕ) (lines : List LineState) (ends : List (PutterState Flagged))
    → CanTakeAll consoles (n + 1) lines ends
    → All (λ (p : PutterState Flagged). length p.sent < MOST_SENT) ends
can_put consoles n [] [] h = all_from _ [] (λ i x at. absurd (omega (arith, slice_get_within [] i x at)))
can_put consoles n [] (e ∷ ends) h = absurd (omega (arith, h.lines_of, h.ends_of))
can_put consoles n (l ∷ lines) ends h =
    all_from _ ends (λ i e at. puts_few n (get_or (l ∷ lines) i l) e (h.each i (get_or (l ∷ lines) i l) e
    (slice_get-get_or (l ∷ lines) i l (omega (arith, slice_get_within ends i e at, h.lines_of, h.ends_of))) at))

pub can_note : (consoles n : ℕ) (lines : List LineState) (ends : List (PutterState Flagged)) (p : ℕ)
    → CanTakeAll consoles (n + 1) lines ends
    → p < length ends
    → (l : LineState)
    → l ≡ slice_index_or lines p l
    → (l.report.arrived < l.most) × (l.most ≤ MOST_SENT + l.handed)
can_note consoles n lines [] p h lt l at = absurd (omega (arith, lt))
can_note consoles n lines (e ∷ ends) p h lt l at =
    let within : p < length lines = omega (arith, lt, h.lines_of, h.ends_of) in
    let here : slice_get lines p ≡ Some l =
    slice_get-get_or lines p l within ∙ ap (λ (x : LineState). Some x) (sym at) in
    let c = h.each p l (get_or (e ∷ ends) p e) here (slice_get-get_or (e ∷ ends) p e lt) in
    (omega (arith, c.room), omega (arith, c.put))

-- ---- the beginning of a phase

pub begin_can : (l m : LineState) (e f : PutterState Flagged) (n : ℕ)
    → CanBegin l e
    → DoesSteps (Trigger 1 ∷ []) l m e f
    → l.report.arrived + n ≤ l.most
    → CanTakeKeys n m f
begin_can l m e f n h d room =
    let before = h.done.0 in
    let begun = h.done.1 in
    let waits : waiting_list before ≡ [] = no_length (waiting_list before) (sym begun.stands.window ∙ h.none_waits) in
    let after = d.done before begun in
    record {
      ready = ready_line m (before ++ Trigger 1 ∷ []) after
          (ready_first before (sym begun.stands.masked ∙ h.unmasked) waits);
      done = (before ++ Trigger 1 ∷ [], after);
      room = omega (arith, d.arrived, d.most, room);
      put = d.room;
    }

-- ---- the keyboard

pub less_all : (consoles k n : ℕ) (lines : List LineState) (ends : List (PutterState Flagged))
    → n ≤ k
    → CanTakeAll consoles k lines ends
    → CanTakeAll consoles n lines ends
less_all consoles k n lines ends le h = record {
  lines_of = h.lines_of;
  ends_of = h.ends_of;
  each = λ p l e at_l at_e.
      let c = h.each p l e at_l at_e in
      record { ready = c.ready; done = c.done; room = omega (arith, c.room, le); put = c.put };
}

same_there : {A : Type 0} (xs : List A) (i : ℕ) (x y : A) → slice_get xs i ≡ Some x → slice_get xs i ≡ Some y → y ≡ x
same_there xs i x y h k = sym (get_or_from_slice_get xs i y x k) ∙ get_or_from_slice_get xs i x x h

pub presses_none : (consoles k n first : ℕ) (seat : BoardSeat) (lines : List LineState)
    (ends : List (PutterState Flagged))
    → CanTakeAll consoles k lines ends
    → PressesKeys n first [] seat seat lines lines ends ends
presses_none consoles k n first seat lines ends can = record {
  went = [];
  each_key = refl;
  makes = makes_none n seat seat refl;
  take = λ p l m e f at_l at_m at_e at_f.
      subst (λ (x : LineState). DoesSteps [] l x e f) (sym (same_there lines p l m at_l at_m))
      (subst (λ (x : PutterState Flagged). DoesSteps [] l l e x) (sym (same_there ends p e f at_e at_f))
      (does_none l e (can.each p l e at_l at_e).put));
}

keys_more : (first : ℕ) (went : List ℕ) (index n : ℕ)
    → index ≡ first + length went
    → key_events first (went ++ n ∷ []) ≡ key_events first went ++ Key index n ∷ []
keys_more first [] index n h = let e : first ≡ index = omega (arith, h) in ap (λ (k : ℕ). Key k n ∷ []) e
keys_more first (w ∷ went) index n h =
    ap (λ (l : List VtEvent). Key first w ∷ l) (keys_more (first + 1) went index n (omega (arith, h)))

pub presses_more : (consoles k n first index i : ℕ) (keys : List ℕ) (byte : ℕ) (old mid new : BoardSeat)
    (lines noted moved : List LineState) (ends now after : List (PutterState Flagged))
    → i < length keys
    → byte ≡ get_or keys i byte
    → index ≡ first + i
    → CanTakeAll consoles (k + 1) noted now
    → PressesKeys n first (take i keys) old mid lines noted ends now
    → Presses n index byte mid new noted moved now after
    → PressesKeys n first (take (i + 1) keys) old new lines moved ends after
presses_more consoles k n first index i keys byte old mid new lines noted moved ends now after lt at number can h one =
    let count : length h.went ≡ i = omega (arith, h.each_key, length-take-le i keys (omega (arith, lt))) in
    let list : take i keys ++ byte ∷ [] ≡ take (i + 1) keys =
    sym (take_more keys i byte lt ∙ ap (λ (b : ℕ). take i keys ++ b ∷ []) (sym at)) in
    let more : key_events first (h.went ++ one.console ∷ []) ≡ key_events first h.went ++ Key index one.console ∷ [] =
    keys_more first h.went index one.console (omega (arith, count, number)) in
    let both = makes_more n (key_events first h.went) (Key index one.console ∷ []) old mid new h.makes one.makes in
    let whole : PressesKeys n first (take i keys ++ byte ∷ []) old new lines moved ends after = record {
      went = h.went ++ one.console ∷ [];
      each_key =
          omega (arith, h.each_key, length-append h.went (one.console ∷ []), length-append (take i keys) (byte ∷ []));
      makes = subst (λ (l : List VtEvent). MakesAll n l old new) (sym more) both;
      take = pressed_take byte one.console consoles k noted moved now after can one.takes (take i keys)
          h.went lines ends h.each_key h.take;
    } in
    subst (λ (l : List ℕ). PressesKeys n first l old new lines moved ends after) list whole

pub presses_first : (n first i : ℕ) (keys : List ℕ) (old mid new : BoardSeat) (lines noted moved : List LineState)
    (ends now after : List (PutterState Flagged))
    → i < length keys
    → MakesNone n mid new
    → moved ≡ noted
    → after ≡ now
    → PressesKeys n first (take i keys) old mid lines noted ends now
    → PressesFirst n first keys old new lines moved ends after
presses_first n first i keys old mid new lines noted moved ends now after lt none same_lines same_ends h = (
  i,
  lt,
  subst (λ (x : List LineState). PressesKeys n first (take i keys) old new lines x ends after) (sym same_lines)
      (subst (λ (x : List (PutterState Flagged)). PressesKeys n first (take i keys) old new lines noted ends x)
      (sym same_ends)
      (record { went = h.went; each_key = h.each_key; makes = none.own ∙ h.makes; take = h.take })),
)

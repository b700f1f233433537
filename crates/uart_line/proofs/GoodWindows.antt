-- Good characters, as bytes, up to a whole window.
use Rattle.std.proofs.Common.{◌≡◌, ℕ, ◌+◌, ◌-◌, ◌<◌, ◌≤◌, Bool, true, false, not, ◌||◌, ◌&&◌, nat_le, nat_lt}
use Rattle.std.proofs.Common.{if◌then◌else◌, List, [], ◌∷◌, ◌++◌, length, map, take, get_or, reverse, refl}
use Rattle.std.proofs.Common.{sym, ◌∙◌, ap, subst, arith, append_assoc, append-nil, length-append, length-take}
use Rattle.std.proofs.lemmas.Bool.Decides.{nat_tests}
use Rattle.std.proofs.lemmas.List.{length-map, map-append, take-map, take_all, take_more}
use Rattle.tty_base.specs.declared.characters.Flag.TheVariants.{Normal}
use Rattle.tty_base.specs.declared.characters.Flagged.{Flagged}
use Rattle.tty_base.specs.declared.lines.LineStep.{LineStep}
use Rattle.tty_base.specs.declared.lines.LineStep.TheVariants.{Rx}
use Rattle.line_steps.specs.Steps.{rx_step}
use Rattle.uart_regs.specs.Registers.{Registers}
use Rattle.uart_line.specs.Received.{is_masked, trigger_of, idle_of, is_cut, window_output, received_list, waiting_list}
use Rattle.uart_line.specs.LineState.{LineState, HasDone, IsUncut}
use Rattle.uart_line.specs.Handler.{after_line_step, IsReadOff, Serves}
use Rattle.uart_line.specs.Offered.{HandsOver}
use Rattle.tty_base.specs.Characters.{good_character, good_characters}
use Rattle.uart_line.specs.GoodSteps.{good_steps}
use Rattle.uart_line.specs.WholeWindow.{TakesWindow, IsHandedOver}
use Rattle.uart_line.proofs.Serving.{Serves-all}
use Rattle.uart_line.proofs.Steps.{cut_after, received_list-step, waiting_list-step}
use Rattle.uart_line.proofs.Steps.{HasDone-uncut, HasDone-cut, HandsOver-cut}

-- one more byte
map-more : {A : Type 0} (f : ℕ → A) (bytes : List ℕ) (k d : ℕ) (x : A) → k < length bytes → x ≡ f (get_or bytes k d)
    → map f (take (k + 1) bytes) ≡ map f (take k bytes) ++ x ∷ []
map-more {A} f bytes k d x lt is =
    ap (map f) (take_more bytes k d lt)
    ∙ map-append f (take k bytes) (get_or bytes k d ∷ [])
    ∙ ap (λ (y : A). map f (take k bytes) ++ y ∷ []) (sym is)

-- ---- cuts

tests_fail : (m : Bool) (n t : ℕ) → n < t → (m && (false || nat_le t n || nat_le 4 0)) ≡ false
tests_fail true n t lt = grind (arith, nat_tests)
tests_fail false n t lt = refl

-- too few to be cut
uncut_good : (past : List LineStep) (c : Flagged) (bytes : List ℕ) → length bytes < trigger_of past
    → is_cut (Rx c ∷ past) (good_characters bytes) ≡ false
unfolding is_cut is_masked trigger_of idle_of
uncut_good past c [] few = refl
uncut_good past c (b ∷ bytes) few =
    tests_fail (not (is_masked past)) (length (good_characters (b ∷ bytes))) (trigger_of past)
    (omega (arith, few, length-map (b ∷ bytes) good_character))

test_holds : (m : Bool) (n t : ℕ) → m ≡ false → n ≡ t → (not m && (false || nat_le t n || nat_le 4 0)) ≡ true
test_holds m n t h e = rw (h, e) (grind (arith, nat_tests))

-- as many as the trigger says
cut_full : (past : List LineStep) (c : Flagged) (bytes : List ℕ)
    → 1 ≤ length bytes
    → is_masked past ≡ false
    → length bytes ≡ trigger_of past
    → is_cut (Rx c ∷ past) (good_characters bytes) ≡ true
unfolding is_cut is_masked trigger_of idle_of
cut_full past c [] some h e = absurd (omega arith)
cut_full past c (b ∷ bytes) some h e =
    test_holds (is_masked past) (length (good_characters (b ∷ bytes))) (trigger_of past) h
    (length-map (b ∷ bytes) good_character ∙ e)

output_whole : (cs : List Flagged) → length cs ≤ 16 → window_output cs ≡ cs
unfolding window_output
output_whole [] h = refl
output_whole (c ∷ cs) h = grind (arith, nat_tests)

-- ---- the line that gathers them

record Gathers (line : LineState) (before : List LineStep) (bytes waiting : List ℕ) : Type 0 where
  uncut : IsUncut line before (good_steps bytes)
  waits : waiting_list (before ++ good_steps bytes) ≡ good_characters waiting
  arrived : uncut.there.report.arrived ≡ line.report.arrived + length bytes
  masked : uncut.there.masked ≡ line.masked
  lost : uncut.there.report.fifo_lost ≡ line.report.fifo_lost
  off : IsReadOff line.registers uncut.there.registers

gathers_none : (line : LineState) (before : List LineStep) (waiting : List ℕ)
    → HasDone line before
    → waiting_list before ≡ good_characters waiting
    → Gathers line before [] waiting
gathers_none line before waiting d w = record {
  uncut = record {
    there = line;
    done = rw append-nil d;
    same = ap received_list (append-nil before);
    handed = refl;
    most = refl;
    arrived = omega arith;
    overruns = refl;
  };
  waits = ap waiting_list (append-nil before) ∙ w;
  arrived = omega arith;
  masked = refl;
  lost = refl;
  off = refl;
}

-- the line after one more
record Next (next : LineState) (before : List LineStep) (b : ℕ) (waiting : List ℕ) : Type 0 where
  done : HasDone next (before ++ Rx (good_character b) ∷ [])
  same : received_list (before ++ Rx (good_character b) ∷ []) ≡ received_list before
  waits : waiting_list (before ++ Rx (good_character b) ∷ []) ≡ good_characters (waiting ++ b ∷ [])

gathers_one : (line : LineState) (before : List LineStep) (b : ℕ) (waiting : List ℕ)
    → HasDone line before
    → waiting_list before ≡ good_characters waiting
    → length waiting + 1 < line.registers.trigger
    → Next (after_line_step line (Rx (good_character b))) before b waiting
gathers_one line before b waiting d w few =
    let c : Flagged = good_character b in
    let more : waiting_list before ++ c ∷ [] ≡ good_characters (waiting ++ b ∷ []) =
    ap (λ (l : List Flagged). l ++ c ∷ []) w ∙ sym (map-append good_character waiting (b ∷ [])) in
    let trigger : line.registers.trigger ≡ trigger_of (reverse before) = d.stands.registers.trigger in
    let none : cut_after before (Rx c) ≡ false =
    ap (is_cut (Rx c ∷ reverse before)) more
    ∙ uncut_good (reverse before) c (waiting ++ b ∷ []) (omega (arith, few, trigger, length-append waiting (b ∷ []))) in
    record {
      done = HasDone-uncut line (Rx c) before none d;
      same = received_list-step before (Rx c) ∙ rw none (append-nil (received_list before));
      waits = waiting_list-step before (Rx c) ∙ rw none more;
    }

read_off_arrival : (line : LineState) (c : Flagged) → IsReadOff line.registers (after_line_step line (Rx c)).registers
read_off_arrival line c = either (nat_lt (length line.registers.fifo) 16)
  where
    either : (b : Bool)
        → IsReadOff line.registers (if b
        then record line.registers { fifo = line.registers.fifo ++ c ∷ []; idle = 0 }
        else record line.registers { overrun = true; idle = 0 })
    either true = refl
    either false = refl

read_off_twice : (r s t : Registers) → IsReadOff r s → IsReadOff s t → IsReadOff r t
read_off_twice r s t a b =
    let put_back : Registers → Registers = λ x. record x { fifo = t.fifo; overrun = t.overrun; idle = t.idle } in
    b ∙ ap put_back a

read_off_back : (r s t : Registers) → IsReadOff r s → t ≡ r → IsReadOff s t
read_off_back r s t a same =
    let put_back : Registers → Registers = λ x. record x { fifo = r.fifo; overrun = r.overrun; idle = r.idle } in
    let back : r ≡ put_back s = sym (ap put_back a) in
    subst (λ (x : Registers). IsReadOff s x) (sym same) back

gathers : (line : LineState) (before : List LineStep) (waiting bytes : List ℕ)
    → HasDone line before
    → waiting_list before ≡ good_characters waiting
    → length waiting + length bytes < line.registers.trigger
    → Gathers line before bytes (waiting ++ bytes)
gathers line before waiting [] d w few =
    subst (Gathers line before []) (sym (append-nil waiting)) (gathers_none line before waiting d w)
gathers line before waiting (b ∷ bytes) d w few =
    let c : Flagged = good_character b in
    let next : LineState = after_line_step line (Rx c) in
    let n : Next next before b waiting = gathers_one line before b waiting d w (omega arith) in
    let off : IsReadOff line.registers next.registers = read_off_arrival line c in
    let same_trigger : next.registers.trigger ≡ line.registers.trigger = ap (λ (r : Registers). r.trigger) off in
    let g : Gathers next (before ++ Rx c ∷ []) bytes ((waiting ++ b ∷ []) ++ bytes) =
    gathers next (before ++ Rx c ∷ []) (waiting ++ b ∷ []) bytes n.done n.waits
    (omega (arith, few, same_trigger, length-append waiting (b ∷ []))) in
    let parts : (before ++ Rx c ∷ []) ++ good_steps bytes ≡ before ++ good_steps (b ∷ bytes) =
    append_assoc before (Rx c ∷ []) (good_steps bytes) in
    record {
      uncut = record {
        there = g.uncut.there;
        done = subst (HasDone g.uncut.there) parts g.uncut.done;
        same = ap received_list (sym parts) ∙ g.uncut.same ∙ n.same;
        handed = g.uncut.handed;
        most = g.uncut.most;
        arrived = omega (arith, g.uncut.arrived);
        overruns = g.uncut.overruns;
      };
      waits = ap waiting_list (sym parts) ∙ g.waits ∙ ap good_characters (append_assoc waiting (b ∷ []) bytes);
      arrived = omega (arith, g.arrived);
      masked = g.masked;
      lost = g.lost;
      off = read_off_twice line.registers next.registers g.uncut.there.registers off g.off;
    }

-- ---- a whole window

empty_of : {A : Type 0} (xs : List A) → length xs ≡ 0 → xs ≡ []
empty_of [] h = refl
empty_of (x ∷ xs) h = absurd (omega arith)

-- the first `n` of these bytes make a window
module _ (line : LineState) (bytes : List ℕ) (n : ℕ) (within : n ≤ length bytes) (opens : TakesWindow line n)
    (before : List LineStep) (d : HasDone line before) where
  none_waits : waiting_list before ≡ []
  none_waits = empty_of (waiting_list before) (sym d.stands.window ∙ opens.none_waits)

  gathers_first : (k : ℕ) → k < n → Gathers line before (take k bytes) (take k bytes)
  gathers_first k lt =
      gathers line before [] (take k bytes) d none_waits (omega (arith, opens.is_trigger, lt, length-take k bytes))

  -- none before the last of them is cut
  pub uncut-window : (k : ℕ) → k < n → IsUncut line before (take k (good_steps bytes))
  uncut-window k lt = subst (IsUncut line before) (sym (take-map (rx_step Normal) k bytes)) (gathers_first k lt).uncut

  module _ (capacity : ℕ) (new : LineState) (s0 s1 : List Flagged) (h0 h1 : List ℕ)
      (serves : Serves capacity
      (record line { report = record line.report { arrived = line.report.arrived + length (take n bytes) } }) new
      (good_characters (take n bytes)) s0 s1 h0 h1) (same : IsHandedOver line new) where
    abbrev k : ℕ
    k = n - 1

    next_is_all : n ≡ k + 1
    next_is_all = omega (arith, opens.some)

    abbrev c : Flagged
    c = good_character (get_or bytes k 0)

    abbrev front : List LineStep
    front = before ++ good_steps (take k bytes)

    abbrev g : Gathers line before (take k bytes) (take k bytes)
    g = gathers_first k (omega (arith, opens.some))

    abbrev there : LineState
    there = g.uncut.there

    many : length (take n bytes) ≡ n
    many = omega (arith, within, length-take n bytes)

    waits : waiting_list front ++ c ∷ [] ≡ good_characters (take n bytes)
    waits =
        ap (λ (l : List Flagged). l ++ c ∷ []) g.waits
        ∙ sym (ap (λ (m : ℕ). good_characters (take m bytes)) next_is_all
        ∙ map-more good_character bytes k 0 c (omega (arith, within, opens.some)) refl)

    cut : cut_after front (Rx c) ≡ true
    cut =
        let trigger : trigger_of (reverse front) ≡ n =
        sym g.uncut.done.stands.registers.trigger ∙ ap (λ (r : Registers). r.trigger) g.off ∙ sym opens.is_trigger in
        ap (is_cut (Rx c ∷ reverse front)) waits
        ∙ cut_full (reverse front) c (take n bytes) (omega (arith, many, opens.some))
        (sym g.uncut.done.stands.masked ∙ g.masked ∙ opens.unmasked) (many ∙ sym trigger)

    all : good_characters (take n bytes) ≡ window_output (waiting_list front ++ c ∷ [])
    all = sym (ap window_output waits
        ∙ output_whole (good_characters (take n bytes))
        (omega (arith, many, opens.few, length-map (take n bytes) good_character)))

    served : Serves capacity (after_line_step there (Rx c)) new (good_characters (take n bytes)) s0 s1 h0 h1
    served = record {
      offers = rw (g.uncut.handed, g.uncut.overruns) serves.offers;
      handed = serves.handed ∙ ap (λ (m : ℕ). m + length (good_characters (take n bytes))) (sym g.uncut.handed);
      read_off = read_off_back line.registers (after_line_step there (Rx c)).registers new.registers
          (read_off_twice line.registers there.registers (after_line_step there (Rx c)).registers g.off
          (read_off_arrival there c)) same.registers;
      masked = serves.masked ∙ sym g.masked;
      most = serves.most ∙ sym g.uncut.most;
      arrived = omega (arith, serves.arrived, g.arrived, many, within, opens.some, length-take k bytes);
    }

    whole : front ++ Rx c ∷ [] ≡ before ++ take n (good_steps bytes)
    whole =
        append_assoc before (good_steps (take k bytes)) (Rx c ∷ [])
        ∙ ap (λ (l : List LineStep). before ++ l) (sym (take-map (rx_step Normal) n bytes
        ∙ ap (λ (m : ℕ). good_steps (take m bytes)) next_is_all
        ∙ map-more (rx_step Normal) bytes k 0 (Rx c) (omega (arith, within, opens.some)) refl))

    pub done-window : new.report.sent + length new.report.overruns.items ≡ new.handed
        → HasDone new (before ++ take n (good_steps bytes))
    done-window counted =
        let fifo : new.registers.fifo ≡ [] =
        ap (λ (r : Registers). r.fifo) same.registers ∙ d.stands.registers.fifo ∙ ap (take 16) none_waits in
        let overrun : new.registers.overrun ≡ false =
        ap (λ (r : Registers). r.overrun) same.registers
        ∙ d.stands.registers.overrun
        ∙ ap (λ (l : List Flagged). nat_lt 16 (length l)) none_waits in
        let few : there.window + 1 ≤ 14 =
        omega (
          arith,
          g.uncut.done.stands.window,
          ap length g.waits,
          length-map (take k bytes) good_character,
          length-take k bytes,
          opens.some,
          opens.few,
        ) in
        subst (HasDone new) whole
        (HasDone-cut capacity there new (Rx c) front (good_characters (take n bytes)) s0 s1 h0 h1 cut all served
        fifo overrun (same.window ∙ opens.none_waits) (omega (arith, same.lost, g.lost, few)) counted g.uncut.done)

    pub hands_over-window : HandsOver capacity (received_list before)
        (received_list (before ++ take n (good_steps bytes))) s0 s1
        h0 h1 line.report.overruns.items new.report.overruns.items
    hands_over-window =
        let h : HandsOver capacity (received_list front) (received_list (front ++ Rx c ∷ [])) s0 s1
        h0 h1 there.report.overruns.items new.report.overruns.items =
        HandsOver-cut capacity there new (Rx c) front (good_characters (take n bytes))
        s0 s1 h0 h1 cut all served g.uncut.done in
        rw (g.uncut.same, whole, g.uncut.overruns) at h

-- ---- a whole window, of which each is accepted

-- the line once so many more have arrived, and each was accepted
abbrev with_appended : LineState → ℕ → LineState
with_appended line n = record line {
  handed = line.handed + n;
  report = record line.report { arrived = line.report.arrived + n; sent = line.report.sent + n };
}

module _ (line new : LineState) (bytes : List ℕ) (opens : TakesWindow line (length bytes))
    (now : new ≡ with_appended line (length bytes)) where
  abbrev n : ℕ
  n = length bytes

  whole_steps : take n (good_steps bytes) ≡ good_steps bytes
  whole_steps = take_all n (good_steps bytes) (omega (arith, length-map bytes (rx_step Normal)))

  same_but : IsHandedOver line new
  same_but = record {
    registers = ap (λ l. l.registers) now;
    window = ap (λ l. l.window) now;
    lost = ap (λ l. l.report.fifo_lost) now;
  }

  serves : (capacity : ℕ) (sent : List Flagged) (heads : List ℕ)
      → Serves capacity
      (record line { report = record line.report { arrived = line.report.arrived + length (take n bytes) } }) new
      (good_characters (take n bytes)) sent (sent ++ good_characters bytes) heads heads
  serves capacity sent heads =
      subst (λ (bs : List ℕ). Serves capacity
      (record line { report = record line.report { arrived = line.report.arrived + length bs } }) new
      (good_characters bs) sent (sent ++ good_characters bytes) heads heads)
      (sym (take_all n bytes (omega arith)))
      (Serves-all capacity (record line { report = record line.report { arrived = line.report.arrived + n } }) new
      (good_characters bytes) n sent (sent ++ good_characters bytes) heads heads
      (length-map bytes good_character) refl refl now)

  pub done-accepted : (before : List LineStep) → HasDone line before → HasDone new (before ++ good_steps bytes)
  done-accepted before d =
      subst (λ (steps : List LineStep). HasDone new (before ++ steps)) whole_steps
      (done-window line bytes n (omega arith) opens before d 0 new [] (good_characters bytes) [] [] (serves 0 [] [])
      same_but
      (omega (
        arith,
        d.sent,
        ap (λ l. l.report.sent) now,
        ap (λ l. length l.report.overruns.items) now,
        ap (λ l. l.handed) now,
      )))

  pub uncut-accepted : (before : List LineStep)
      → HasDone line before
      → (k : ℕ)
      → k < n
      → IsUncut line before (take k (good_steps bytes))
  uncut-accepted = uncut-window line bytes n (omega arith) opens

  pub hands_over-accepted : (before : List LineStep)
      → HasDone line before
      → (capacity : ℕ) (sent : List Flagged) (heads : List ℕ)
      → HandsOver capacity (received_list before) (received_list (before ++ good_steps bytes)) sent
      (sent ++ good_characters bytes) heads heads line.report.overruns.items new.report.overruns.items
  hands_over-accepted before d capacity sent heads =
      subst (λ (steps : List LineStep). HandsOver capacity (received_list before) (received_list (before ++ steps)) sent
      (sent ++ good_characters bytes) heads heads line.report.overruns.items new.report.overruns.items) whole_steps
      (hands_over-window line bytes n (omega arith) opens before d capacity new sent (sent ++ good_characters bytes)
      heads heads (serves capacity sent heads) same_but)

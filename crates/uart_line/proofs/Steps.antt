-- What one step adds to the received list, and that the line adds it.
use Rattle.std.proofs.Common.{◌≡◌, ℕ, ◌+◌, ◌-◌, ◌<◌, ◌≤◌, Bool, true, false, not, ◌&&◌, ◌||◌, nat_le, if◌then◌else◌}
use Rattle.std.proofs.Common.{List, [], ◌∷◌, ◌++◌, length, take, drop, get_or, reverse, refl, sym, ◌∙◌, ap, subst}
use Rattle.std.proofs.Common.{arith, append_assoc, append-nil, length-append, ◌⊎◌, inl, inr, MatchBool}
use Rattle.std.proofs.lemmas.List.{reverse-append, take_more, take-append-drop}
use Rattle.std.proofs.lemmas.Bool.Decides.{nat_tests}
use Rattle.tty_base.specs.declared.characters.Flagged.{Flagged}
use Rattle.tty_base.specs.declared.lines.Overrun.{Overrun}
use Rattle.tty_base.specs.declared.lines.LineStep.{LineStep}
use Rattle.tty_base.specs.declared.lines.LineStep.TheVariants.{Rx, Break, Idle, Mask, Unmask, Trigger}
use Rattle.uart_regs.specs.Registers.{IsReceiver, is_pending}
use Rattle.uart_line.specs.Received.{is_flagged, is_masked, trigger_of, idle_of, is_cut, uncut_window}
use Rattle.uart_line.specs.Received.{window, window_output, received_list, received_list_after}
use Rattle.uart_line.specs.Received.{lost_count, lost_count_after, waiting_list, closed_script}
use Rattle.tty_base.specs.Lines.{arrival, arrival_count}
use Rattle.uart_line.specs.LineState.{LineState, Stands, HasDone}
use Rattle.uart_line.specs.Offered.{HandsOver}
use Rattle.uart_line.specs.Handler.{with_mark, after_line_step, runs_handler, Serves}
use Rattle.uart_line.proofs.OfferedLemmas.{Offers-none}
use Rattle.uart_line.proofs.Windows.{is_pending-is_cut, with_mark-window_output, Stands-after_line_step}

-- whether a cut stands after this step, and the window before it
abbrev pub cut_after : List LineStep → LineStep → Bool
cut_after before step = is_cut (step ∷ reverse before) (waiting_list before ++ arrival step)

pub received_list-step : (before : List LineStep) (step : LineStep)
    → received_list (before ++ step ∷ [])
    ≡ received_list before
    ++ (if cut_after before step then window_output (waiting_list before ++ arrival step) else [])
unfolding received_list received_list_after waiting_list window
received_list-step before step = rw (reverse-append before (step ∷ [])) refl

pub lost_count-step : (before : List LineStep) (step : LineStep)
    → lost_count (before ++ step ∷ [])
    ≡ lost_count before + (if cut_after before step then length (waiting_list before ++ arrival step) - 16 else 0)
unfolding lost_count lost_count_after waiting_list window
lost_count-step before step = rw (reverse-append before (step ∷ [])) refl

pub waiting_list-step : (before : List LineStep) (step : LineStep)
    → waiting_list (before ++ step ∷ []) ≡ (if cut_after before step then [] else waiting_list before ++ arrival step)
unfolding waiting_list window
waiting_list-step before step = rw (reverse-append before (step ∷ [])) refl

pub arrival_count-append : (xs ys : List LineStep) → arrival_count (xs ++ ys) ≡ arrival_count xs + arrival_count ys
arrival_count-append [] ys = omega arith
arrival_count-append (x ∷ xs) ys = omega (arith, arrival_count-append xs ys)

pub arrival_count-step : (before : List LineStep) (step : LineStep)
    → arrival_count (before ++ step ∷ []) ≡ arrival_count before + length (arrival step)
arrival_count-step before step = omega (arith, arrival_count-append before (step ∷ []))

-- what a step leaves
record Keeps (line : LineState) (step : LineStep) : Type 0 where
  handed : (after_line_step line step).handed ≡ line.handed
  most : (after_line_step line step).most ≡ line.most
  lost : (after_line_step line step).report.fifo_lost ≡ line.report.fifo_lost
  sent : (after_line_step line step).report.sent ≡ line.report.sent
  overruns : (after_line_step line step).report.overruns ≡ line.report.overruns
  arrived : (after_line_step line step).report.arrived ≡ line.report.arrived + length (arrival step)

Keeps-after_line_step : (line : LineState) (step : LineStep) → Keeps line step
Keeps-after_line_step line (Rx c) =
    record { handed = refl; most = refl; lost = refl; sent = refl; overruns = refl; arrived = refl }
Keeps-after_line_step line Break =
    record { handed = refl; most = refl; lost = refl; sent = refl; overruns = refl; arrived = refl }
Keeps-after_line_step line (Idle n) =
    record { handed = refl; most = refl; lost = refl; sent = refl; overruns = refl; arrived = omega arith }
Keeps-after_line_step line Mask =
    record { handed = refl; most = refl; lost = refl; sent = refl; overruns = refl; arrived = omega arith }
Keeps-after_line_step line Unmask =
    record { handed = refl; most = refl; lost = refl; sent = refl; overruns = refl; arrived = omega arith }
Keeps-after_line_step line (Trigger t) =
    record { handed = refl; most = refl; lost = refl; sent = refl; overruns = refl; arrived = omega arith }

stands_after : (line : LineState) (step : LineStep) (before : List LineStep) → HasDone line before
    → Stands (after_line_step line step) (step ∷ reverse before) (waiting_list before ++ arrival step)
stands_after line step before d = Stands-after_line_step line step (reverse before) (waiting_list before) d.stands

-- the handler runs exactly where a cut stands
runs_at_cut : (line : LineState) (step : LineStep) (before : List LineStep)
    → IsReceiver (after_line_step line step).registers
    → HasDone line before
    → (not (after_line_step line step).masked
    && is_pending (after_line_step line step).registers) ≡ cut_after before step
runs_at_cut line step before v d =
    let s : Stands (after_line_step line step) (step ∷ reverse before) (waiting_list before ++ arrival step) =
    stands_after line step before d in
    rw s.masked (is_pending-is_cut (after_line_step line step).registers (step ∷ reverse before)
    (waiting_list before ++ arrival step) v s.registers)

reverse-step : (before : List LineStep) (step : LineStep) → reverse (before ++ step ∷ []) ≡ step ∷ reverse before
reverse-step before step = reverse-append before (step ∷ [])

pub HasDone-uncut : (line : LineState) (step : LineStep) (before : List LineStep) → cut_after before step ≡ false
    → HasDone line before → HasDone (after_line_step line step) (before ++ step ∷ [])
HasDone-uncut line step before no_cut d =
    let k : Keeps line step = Keeps-after_line_step line step in
    let same_received : received_list (before ++ step ∷ []) ≡ received_list before =
    received_list-step before step ∙ (rw no_cut (append-nil (received_list before))) in
    let same_waiting : waiting_list (before ++ step ∷ []) ≡ waiting_list before ++ arrival step =
    waiting_list-step before step ∙ rw no_cut in
    let same_lost : lost_count (before ++ step ∷ []) ≡ lost_count before =
    lost_count-step before step ∙ (rw no_cut (omega arith)) in
    record {
      stands = rw (same_waiting, reverse-step before step) (stands_after line step before d);
      arrived = k.arrived ∙ omega (arith, d.arrived, arrival_count-step before step);
      handed = k.handed ∙ d.handed ∙ ap length (sym same_received);
      lost = k.lost ∙ d.lost ∙ sym same_lost;
      sent = omega (arith, k.sent, ap (λ o. length o.items) k.overruns, k.handed, d.sent);
    }

HasDone-quiet : (line : LineState) (step : LineStep) (before : List LineStep)
    → IsReceiver (after_line_step line step).registers
    → (not (after_line_step line step).masked && is_pending (after_line_step line step).registers) ≡ false
    → HasDone line before
    → HasDone (after_line_step line step) (before ++ step ∷ [])
HasDone-quiet line step before v quiet d =
    HasDone-uncut line step before (sym (runs_at_cut line step before v d) ∙ quiet) d

HandsOver-quiet : (capacity : ℕ) (line : LineState) (step : LineStep) (before : List LineStep) (sent : List Flagged)
    (heads : List ℕ)
    → IsReceiver (after_line_step line step).registers
    → (not (after_line_step line step).masked && is_pending (after_line_step line step).registers) ≡ false
    → HasDone line before
    → HandsOver capacity (received_list before) (received_list (before ++ step ∷ [])) sent sent heads heads
    line.report.overruns.items (after_line_step line step).report.overruns.items
HandsOver-quiet capacity line step before sent heads v quiet d =
    let no_cut : cut_after before step ≡ false = sym (runs_at_cut line step before v d) ∙ quiet in
    let k : Keeps line step = Keeps-after_line_step line step in
    record {
      list = [];
      grows =
          received_list-step before step
          ∙ ap (λ b. received_list before ++ (if b then window_output (waiting_list before ++ arrival step) else []))
          no_cut;
      offers = rw k.overruns (Offers-none capacity (length (received_list before)) sent heads heads []
          line.report.overruns.items (sym (append-nil heads)));
    }

-- a cut stands after the step, and the line was served this list, which its window gives
pub HasDone-cut : (capacity : ℕ) (line l2 : LineState) (step : LineStep) (before : List LineStep) (list : List Flagged)
    (s0 s1 : List Flagged) (h0 h1 : List ℕ)
    → cut_after before step ≡ true → list ≡ window_output (waiting_list before ++ arrival step)
    → Serves capacity (after_line_step line step) l2 list s0 s1 h0 h1
    → l2.registers.fifo ≡ [] → l2.registers.overrun ≡ false → l2.window ≡ 0
    → l2.report.fifo_lost ≡ (after_line_step line step).report.fifo_lost + ((after_line_step line step).window - 16)
    → l2.report.sent + length l2.report.overruns.items ≡ l2.handed
    → HasDone line before → HasDone l2 (before ++ step ∷ [])
HasDone-cut capacity line l2 step before list s0 s1 h0 h1 cut all a no_fifo no_overrun no_window more_lost counted d =
    let k : Keeps line step = Keeps-after_line_step line step in
    let s : Stands (after_line_step line step) (step ∷ reverse before) (waiting_list before ++ arrival step) =
    stands_after line step before d in
    let more_received : received_list (before ++ step ∷ [])
    ≡ received_list before ++ window_output (waiting_list before ++ arrival step) =
    received_list-step before step ∙ rw cut in
    let none_waits : waiting_list (before ++ step ∷ []) ≡ [] = waiting_list-step before step ∙ rw cut in
    let later_lost : lost_count (before ++ step ∷ [])
    ≡ lost_count before + (length (waiting_list before ++ arrival step) - 16) = lost_count-step before step ∙ rw cut in
    record {
      stands = rw (none_waits, reverse-step before step) (record {
        registers = record {
          fifo = no_fifo;
          overrun = no_overrun;
          idle = λ some. absurd (omega (arith, some));
          trigger = ap (λ r. r.trigger) a.read_off ∙ s.registers.trigger;
          interrupts = ap (λ r. r.interrupts) a.read_off ∙ s.registers.interrupts;
          line_control = ap (λ r. r.line_control) a.read_off ∙ s.registers.line_control;
        };
        masked = a.masked ∙ s.masked;
        window = no_window;
      });
      arrived = a.arrived ∙ k.arrived ∙ omega (arith, d.arrived, arrival_count-step before step);
      handed = omega (
        arith,
        a.handed,
        k.handed,
        d.handed,
        ap length all,
        ap length more_received,
        length-append (received_list before) (window_output (waiting_list before ++ arrival step)),
      );
      lost = omega (arith, more_lost, k.lost, d.lost, s.window, later_lost);
      sent = counted;
    }

pub HandsOver-cut : (capacity : ℕ) (line l2 : LineState) (step : LineStep) (before : List LineStep)
    (list : List Flagged) (s0 s1 : List Flagged) (h0 h1 : List ℕ)
    → cut_after before step ≡ true
    → list ≡ window_output (waiting_list before ++ arrival step)
    → Serves capacity (after_line_step line step) l2 list s0 s1 h0 h1
    → HasDone line before
    → HandsOver capacity (received_list before) (received_list (before ++ step ∷ [])) s0
    s1 h0 h1 line.report.overruns.items l2.report.overruns.items
HandsOver-cut capacity line l2 step before list s0 s1 h0 h1 cut all a d =
    let k : Keeps line step = Keeps-after_line_step line step in
    let place : (after_line_step line step).handed ≡ length (received_list before) = k.handed ∙ d.handed in
    record {
      list = window_output (waiting_list before ++ arrival step);
      grows =
          received_list-step before step
          ∙ ap (λ b. received_list before ++ (if b then window_output (waiting_list before ++ arrival step) else []))
          cut;
      offers = rw (place, k.overruns, all) at a.offers;
    }

-- what the handler reads off after a step is what the window gives
reads_window : (line : LineState) (step : LineStep) (before : List LineStep)
    → HasDone line before
    → with_mark (after_line_step line step).registers.overrun (after_line_step line step).registers.fifo
    ≡ window_output (waiting_list before ++ arrival step)
reads_window line step before d =
    with_mark-window_output (after_line_step line step).registers (step ∷ reverse before)
    (waiting_list before ++ arrival step) (stands_after line step before d).registers

HasDone-served : (capacity : ℕ) (line l2 : LineState) (step : LineStep) (before : List LineStep) (s0 s1 : List Flagged)
    (h0 h1 : List ℕ)
    → IsReceiver (after_line_step line step).registers
    → (not (after_line_step line step).masked && is_pending (after_line_step line step).registers) ≡ true
    → Serves capacity (after_line_step line step) l2
    (with_mark (after_line_step line step).registers.overrun (after_line_step line step).registers.fifo) s0 s1 h0 h1
    → l2.registers.fifo ≡ []
    → l2.registers.overrun ≡ false
    → l2.window ≡ 0
    → l2.report.fifo_lost ≡ (after_line_step line step).report.fifo_lost + ((after_line_step line step).window - 16)
    → l2.report.sent + length l2.report.overruns.items ≡ l2.handed
    → HasDone line before
    → HasDone l2 (before ++ step ∷ [])
HasDone-served capacity line l2 step before s0 s1 h0 h1 v pending a no_fifo no_overrun no_window more_lost counted d =
    HasDone-cut capacity line l2 step before
    (with_mark (after_line_step line step).registers.overrun (after_line_step line step).registers.fifo) s0 s1 h0 h1
    (sym (runs_at_cut line step before v d) ∙ pending) (reads_window line step before d)
    a no_fifo no_overrun no_window more_lost counted d

HandsOver-served : (capacity : ℕ) (line l2 : LineState) (step : LineStep) (before : List LineStep)
    (s0 s1 : List Flagged) (h0 h1 : List ℕ)
    → IsReceiver (after_line_step line step).registers
    → (not (after_line_step line step).masked && is_pending (after_line_step line step).registers) ≡ true
    → Serves capacity (after_line_step line step) l2
    (with_mark (after_line_step line step).registers.overrun (after_line_step line step).registers.fifo) s0 s1 h0 h1
    → HasDone line before
    → HandsOver capacity (received_list before) (received_list (before ++ step ∷ [])) s0
    s1 h0 h1 line.report.overruns.items l2.report.overruns.items
HandsOver-served capacity line l2 step before s0 s1 h0 h1 v pending a d =
    HandsOver-cut capacity line l2 step before
    (with_mark (after_line_step line step).registers.overrun (after_line_step line step).registers.fifo) s0 s1 h0 h1
    (sym (runs_at_cut line step before v d) ∙ pending) (reads_window line step before d) a d

or_true : (a : Bool) → (a || true) ≡ true
or_true true = refl
or_true false = refl

and_comm : (a b : Bool) → (a && b) ≡ (b && a)
and_comm true true = refl
and_comm true false = refl
and_comm false true = refl
and_comm false false = refl

-- ---- what holds before a step holds of the line `l1` that the step left

module _ (capacity : ℕ) (line l1 : LineState) (step : LineStep) (after : l1 ≡ after_line_step line step) where
  pub done-quiet : IsReceiver l1.registers → runs_handler l1 ≡ false
      → (before : List LineStep) → HasDone line before → HasDone l1 (before ++ step ∷ [])
  done-quiet v quiet before =
      subst
      (λ l. IsReceiver l.registers → runs_handler l ≡ false → HasDone line before → HasDone l (before ++ step ∷ []))
      (sym after) (λ v' quiet'. HasDone-quiet line step before v'
      (and_comm (not (after_line_step line step).masked) (is_pending (after_line_step line step).registers) ∙ quiet'))
      v quiet

  pub hands_over-quiet : IsReceiver l1.registers
      → runs_handler l1 ≡ false
      → (sent : List Flagged) (heads : List ℕ) → (before : List LineStep)
      → HasDone line before
      → HandsOver capacity (received_list before) (received_list (before ++ step ∷ [])) sent sent heads
      heads line.report.overruns.items l1.report.overruns.items
  hands_over-quiet v quiet sent heads before =
      subst (λ l. IsReceiver l.registers → runs_handler l ≡ false → HasDone line before
      → HandsOver capacity (received_list before) (received_list (before ++ step ∷ [])) sent sent heads
      heads line.report.overruns.items l.report.overruns.items)
      (sym after) (λ v' quiet'. HandsOver-quiet capacity line step before sent heads v'
      (and_comm (not (after_line_step line step).masked) (is_pending (after_line_step line step).registers) ∙ quiet'))
      v quiet

  module _ (l2 : LineState) (s0 s1 : List Flagged) (h0 h1 : List ℕ)
      (serves : Serves capacity l1 l2 (with_mark l1.registers.overrun l1.registers.fifo) s0 s1 h0 h1) where
    pub done-served : IsReceiver l1.registers → runs_handler l1 ≡ true
        → l2.registers.fifo ≡ [] → l2.registers.overrun ≡ false → l2.window ≡ 0
        → l2.report.fifo_lost ≡ l1.report.fifo_lost + (l1.window - 16)
        → l2.report.sent + length l2.report.overruns.items ≡ l2.handed
        → (before : List LineStep) → HasDone line before → HasDone l2 (before ++ step ∷ [])
    done-served v runs fifo overrun window lost counted before =
        HasDone-served capacity line l2 step before s0 s1 h0 h1 (rw after at v)
        (rw after at (and_comm (not l1.masked) (is_pending l1.registers) ∙ runs))
        (rw after at serves) fifo overrun window (rw after at lost) counted

    pub hands_over-served : IsReceiver l1.registers
        → runs_handler l1 ≡ true
        → (before : List LineStep)
        → HasDone line before
        → HandsOver capacity (received_list before) (received_list (before ++ step ∷ [])) s0
        s1 h0 h1 line.report.overruns.items l2.report.overruns.items
    hands_over-served v runs before =
        HandsOver-served capacity line l2 step before s0 s1 h0 h1 (rw after at v)
        (rw after at (and_comm (not l1.masked) (is_pending l1.registers) ∙ runs)) (rw after at serves)

-- ---- a script

pub take-step : (before steps : List LineStep) (i : ℕ) (d : LineStep) → i < length steps
    → before ++ take (i + 1) steps ≡ (before ++ take i steps) ++ get_or steps i d ∷ []
take-step before steps i d h =
    ap (λ r. before ++ r) (take_more steps i d h) ∙ sym (append_assoc before (take i steps) (get_or steps i d ∷ []))

pub arrival_count-take : (steps : List LineStep) (i : ℕ) (d : LineStep) → i < length steps
    → arrival_count (take (i + 1) steps) ≡ arrival_count (take i steps) + length (arrival (get_or steps i d))
arrival_count-take steps i d h =
    ap arrival_count (take_more steps i d h) ∙ arrival_count-step (take i steps) (get_or steps i d)

pub arrival_count-take-≤ : (steps : List LineStep) (n : ℕ) → arrival_count (take n steps) ≤ arrival_count steps
arrival_count-take-≤ steps n =
    omega (arith, arrival_count-append (take n steps) (drop n steps), ap arrival_count (take-append-drop n steps))

-- the steps that close a script, one by one
pub closed_script-steps : (before steps : List LineStep)
    → before ++ closed_script steps ≡ ((before ++ steps) ++ Unmask ∷ []) ++ Idle 4 ∷ []
closed_script-steps before steps =
    sym (append_assoc before steps (Unmask ∷ Idle 4 ∷ []))
    ∙ sym (append_assoc (before ++ steps) (Unmask ∷ []) (Idle 4 ∷ []))

-- four idle times cut whatever waits
cut_by_time : (past : List LineStep) (cs : List Flagged)
    → is_masked past ≡ false
    → 4 ≤ idle_of past
    → uncut_window past cs ≡ []
unfolding is_cut
cut_by_time past [] m h = refl
cut_by_time past (c ∷ cs) m h =
    let long : nat_le 4 (idle_of past) ≡ true = grind (arith, nat_tests) in
    rw (m, long, or_true (is_flagged c.flag || nat_le (trigger_of past) (length (c ∷ cs)))) refl

-- nothing waits after a closed script
pub waiting_list-closed_script : (before steps : List LineStep) → waiting_list (before ++ closed_script steps) ≡ []
unfolding waiting_list window is_masked idle_of
waiting_list-closed_script before steps =
    let back : reverse (((before ++ steps) ++ Unmask ∷ []) ++ Idle 4 ∷ [])
    ≡ Idle 4 ∷ Unmask ∷ reverse (before ++ steps) =
    reverse-step ((before ++ steps) ++ Unmask ∷ []) (Idle 4)
    ∙ ap (λ r. Idle 4 ∷ r) (reverse-step (before ++ steps) Unmask) in
    rw (closed_script-steps before steps, back)
    (cut_by_time (Idle 4 ∷ Unmask ∷ reverse (before ++ steps)) _ refl (omega arith))

pub HandsOver-none : (capacity : ℕ) (all : List Flagged) (sent : List Flagged) (heads : List ℕ)
    (overruns : List Overrun)
    → HandsOver capacity all all sent sent heads heads overruns overruns
HandsOver-none capacity all sent heads overruns = record {
  list = [];
  grows = sym (append-nil all);
  offers = Offers-none capacity (length all) sent heads heads [] overruns (sym (append-nil heads));
}

-- at most one character arrives in a step
pub arrival_is_one : (step : LineStep) → length (arrival step) ≤ 1
arrival_is_one (Rx c) = omega arith
arrival_is_one Break = omega arith
arrival_is_one (Idle n) = omega arith
arrival_is_one Mask = omega arith
arrival_is_one Unmask = omega arith
arrival_is_one (Trigger t) = omega arith

-- no more arrive than there are steps
pub few_arrive : (steps : List LineStep) → arrival_count steps ≤ length steps
few_arrive [] = omega arith
few_arrive (step ∷ steps) = omega (arith, arrival_is_one step, few_arrive steps)

-- a step leaves what it is put into as it is, or shows all of it
pub shown_again : {A : Type 0} (V : A → Type 0) (s0 s1 s2 : A) (runs : Bool)
    → (s1 ≡ s0) ⊎ V s1
    → MatchBool runs (V s2) (s2 ≡ s1)
    → (s2 ≡ s0) ⊎ V s2
shown_again V s0 s1 s2 true before now = inr now
shown_again V s0 s1 s2 false (inl same) now = inl (now ∙ same)
shown_again V s0 s1 s2 false (inr shown) now = inr (subst V (sym now) shown)

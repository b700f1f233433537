-- What the registers say of the window that waits in the receiver.
use Rattle.std.proofs.Common.{◌≡◌, ◌≢◌, ℕ, ◌+◌, ◌<◌, ◌≤◌, min, Bool, true, false, not, ◌||◌, ◌&&◌}
use Rattle.std.proofs.Common.{nat_le, nat_lt, ◌==◌, if◌then◌else◌, List, [], ◌∷◌, ◌++◌, length, take}
use Rattle.std.proofs.Common.{suc, refl, sym, ◌∙◌, ap, arith, length-append, length-take, append-nil}
use Rattle.std.proofs.lemmas.Bool.Decides.{nat_tests}
use Rattle.std.proofs.lemmas.List.{take_all, take-append-le}
use Rattle.tty_base.specs.declared.characters.Flag.{Flag}
use Rattle.tty_base.specs.declared.characters.Flag.TheVariants as flag
use Rattle.tty_base.specs.declared.characters.Flagged.{Flagged}
use Rattle.tty_base.specs.declared.lines.LineStep.{LineStep}
use Rattle.tty_base.specs.declared.lines.LineStep.TheVariants.{Rx, Break, Idle, Mask, Unmask, Trigger}
use Rattle.uart_regs.specs.Registers.{Registers, IsReceiver, is_pending, is_set, is_error, front_flag, after_arrival}
use Rattle.uart_line.specs.Received.{is_flagged, is_masked, trigger_of, idle_of, is_cut, window_output, overrun_mark}
use Rattle.tty_base.specs.Lines.{break_character, arrival}
use Rattle.uart_line.specs.LineState.{LineState, IsWaiting, Stands}
use Rattle.uart_line.specs.Handler.{with_mark, after_line_step}

code_pending : (a b c : Bool)
    → not (is_set (192 + (if a then 6 else if b then 4 else if c then 12 else 1)) 0) ≡ (a || b || c)
code_pending true b c = refl
code_pending false true c = refl
code_pending false false true = refl
code_pending false false false = refl

pending_by : (r : Registers)
    → r.interrupts ≡ 5
    → is_pending r
    ≡ ((r.overrun || is_error (front_flag r.fifo))
    || nat_le r.trigger (length r.fifo)
    || (not (length r.fifo == 0) && nat_le 4 r.idle))
pending_by r e = rw e (code_pending _ _ _)

error_flagged : (f : Flag) → f ≢ flag.Overrun → is_error f ≡ is_flagged f
error_flagged flag.Normal n = refl
error_flagged flag.Break n = refl
error_flagged flag.Parity n = refl
error_flagged flag.Frame n = refl
error_flagged flag.Overrun n = absurd (n refl)

or_true : (a b c : Bool) → (a || true || b || c) ≡ true
or_true true b c = refl
or_true false b c = refl

cut_tests : (f : Bool) (n t i : ℕ) → t ≤ 14
    → (nat_lt 16 n || f || nat_le t (min 16 n) || nat_le 4 (min i 4)) ≡ (f || nat_le t n || nat_le 4 i)
cut_tests true n t i h = or_true (nat_lt 16 n) (nat_le t (min 16 n)) (nat_le 4 (min i 4))
cut_tests false n t i h = grind (arith, nat_tests)

pending_cut : (o e f : Bool) (l t i n i' : ℕ) → o ≡ nat_lt 16 n → e ≡ f → l ≡ min 16 n → 0 < n → i ≡ min i' 4 → t ≤ 14
    → (o || e || nat_le t l || (not (l == 0) && nat_le 4 i)) ≡ (f || nat_le t n || nat_le 4 i')
pending_cut o e f l t i n i' ho he hl hn hi ht =
    let some : (l == 0) ≡ false = grind (arith, nat_tests) in
    rw (some, ho, he, hl, hi) (cut_tests f n t i' ht)

no_cut : (m : Bool) (t : ℕ) → 1 ≤ t → (m && (nat_le t 0 || false)) ≡ false
no_cut true t h = grind (arith, nat_tests)
no_cut false t h = refl

-- an interrupt is pending exactly where a window that is not masked is cut
pub is_pending-is_cut : (r : Registers) (past : List LineStep) (cs : List Flagged) → IsReceiver r → IsWaiting r past cs
    → (not (is_masked past) && is_pending r) ≡ is_cut past cs
unfolding is_cut
is_pending-is_cut r past [] v w =
    rw (pending_by r w.interrupts, w.fifo, w.overrun) (no_cut (not (is_masked past)) r.trigger v.some_trigger)
is_pending-is_cut r past (c ∷ cs) v w =
    let n : ℕ = length (c ∷ cs) in
    let len : length r.fifo ≡ min 16 n = ap length w.fifo ∙ length-take 16 (c ∷ cs) in
    let front : is_error (front_flag r.fifo) ≡ is_flagged c.flag =
    rw w.fifo (error_flagged c.flag (first_no_mark r c (take 15 cs) v w.fifo)) in
    let low : trigger_of past ≤ 14 = rw w.trigger at v.low_trigger in
    ap (λ x. not (is_masked past) && x)
    (pending_by r w.interrupts
    ∙ rw w.trigger
    (pending_cut r.overrun (is_error (front_flag r.fifo)) (is_flagged c.flag) (length r.fifo) (trigger_of past) r.idle n
    (idle_of past) w.overrun front len (omega arith) (w.idle (omega arith)) low))
  where
    first_no_mark : (r : Registers) (c : Flagged) (cs : List Flagged)
        → IsReceiver r
        → r.fifo ≡ c ∷ cs
        → c.flag ≢ flag.Overrun
    first_no_mark r c cs v e = (rw e at v.no_mark) 0 c (omega arith)

mark_first : (k : ℕ) (o : Bool) (c : Flagged) (cs : List Flagged) → nat_lt (suc k) (suc (length cs)) ≡ o
    → (c ∷ (if o then overrun_mark ∷ take k cs else take k cs)) ≡ (if o then c ∷ overrun_mark ∷ take k cs else c ∷ cs)
mark_first k true c cs e = refl
mark_first k false c cs e =
    let few : length cs ≤ k = grind (arith, nat_tests) in ap (λ r. c ∷ r) (take_all k cs few)

-- what the handler reads off is what the window gives
pub with_mark-window_output : (r : Registers) (past : List LineStep) (cs : List Flagged) → IsWaiting r past cs
    → with_mark r.overrun r.fifo ≡ window_output cs
unfolding window_output
with_mark-window_output r past [] w = rw w.fifo
with_mark-window_output r past (c ∷ cs) w =
    rw (w.fifo, w.overrun) (mark_first 15 (nat_lt 16 (suc (length cs))) c cs refl)

-- ---- a step

take_full : (k : ℕ) (xs : List Flagged) (c : Flagged) → k ≤ length xs → take k (xs ++ c ∷ []) ≡ take k xs
take_full k xs c h = take-append-le k xs (c ∷ []) h

take_room : (k : ℕ) (xs : List Flagged) (c : Flagged) → length xs < k → take k (xs ++ c ∷ []) ≡ take k xs ++ c ∷ []
take_room k xs c h =
    take_all k (xs ++ c ∷ []) (omega (arith, length-append xs (c ∷ [])))
    ∙ ap (λ r. r ++ c ∷ []) (sym (take_all k xs (omega arith)))

few_wait : (l n : ℕ) → l ≡ min 16 n → nat_lt l 16 ≡ true → n < 16
few_wait l n h e = grind (arith, nat_tests)

many_wait : (l n : ℕ) → l ≡ min 16 n → nat_lt l 16 ≡ false → 16 ≤ n
many_wait l n h e = grind (arith, nat_tests)

none_lost : (n m : ℕ) → n < 16 → m ≡ n + 1 → nat_lt 16 n ≡ nat_lt 16 m
none_lost n m h e = grind (arith, nat_tests)

some_lost : (n m : ℕ) → 16 ≤ n → m ≡ n + 1 → true ≡ nat_lt 16 m
some_lost n m h e = grind (arith, nat_tests)

IsWaiting-after_arrival : (r : Registers) (past later : List LineStep) (cs : List Flagged) (c : Flagged)
    → idle_of later ≡ 0 → trigger_of later ≡ trigger_of past → IsWaiting r past cs
    → IsWaiting (after_arrival r c) later (cs ++ c ∷ [])
IsWaiting-after_arrival r past later cs c hi ht w = go (nat_lt (length r.fifo) 16) refl
  where
    more : length (cs ++ c ∷ []) ≡ length cs + 1
    more = length-append cs (c ∷ [])

    len : length r.fifo ≡ min 16 (length cs)
    len = ap length w.fifo ∙ length-take 16 cs

    idle : 0 ≡ min (idle_of later) 4
    idle = rw hi

    go : (b : Bool)
        → nat_lt (length r.fifo) 16 ≡ b
        → IsWaiting
        (if b then record r { fifo = r.fifo ++ c ∷ []; idle = 0 } else record r { overrun = true; idle = 0 }) later
        (cs ++ c ∷ [])
    go true e =
        let few : length cs < 16 = few_wait (length r.fifo) (length cs) len e in
        record {
          fifo = ap (λ x. x ++ c ∷ []) w.fifo ∙ sym (take_room 16 cs c few);
          overrun = w.overrun ∙ none_lost (length cs) (length (cs ++ c ∷ [])) few more;
          idle = λ _. idle;
          trigger = w.trigger ∙ sym ht;
          interrupts = w.interrupts;
          line_control = w.line_control;
        }
    go false e =
        let many : 16 ≤ length cs = many_wait (length r.fifo) (length cs) len e in
        record {
          fifo = w.fifo ∙ sym (take_full 16 cs c many);
          overrun = some_lost (length cs) (length (cs ++ c ∷ [])) many more;
          idle = λ _. idle;
          trigger = w.trigger ∙ sym ht;
          interrupts = w.interrupts;
          line_control = w.line_control;
        }

-- the steps that bring no character
IsWaiting-later : (r : Registers) (past later : List LineStep) (cs : List Flagged)
    → idle_of later ≡ idle_of past → trigger_of later ≡ trigger_of past → IsWaiting r past cs
    → IsWaiting r later (cs ++ [])
IsWaiting-later r past later cs hi ht w = rw append-nil (record {
  fifo = w.fifo;
  overrun = w.overrun;
  idle = λ some. w.idle some ∙ ap (λ i. min i 4) (sym hi);
  trigger = w.trigger ∙ sym ht;
  interrupts = w.interrupts;
  line_control = w.line_control;
})

pub Stands-after_line_step : (line : LineState) (step : LineStep) (past : List LineStep) (cs : List Flagged)
    → Stands line past cs
    → Stands (after_line_step line step) (step ∷ past) (cs ++ arrival step)
unfolding is_masked trigger_of idle_of
Stands-after_line_step line (Rx c) past cs s = record {
  registers = IsWaiting-after_arrival line.registers past (Rx c ∷ past) cs c refl refl s.registers;
  masked = s.masked;
  window = omega (arith, s.window, length-append cs (c ∷ []));
}
Stands-after_line_step line Break past cs s = record {
  registers = IsWaiting-after_arrival line.registers past (Break ∷ past) cs break_character refl refl s.registers;
  masked = s.masked;
  window = omega (arith, s.window, length-append cs (break_character ∷ []));
}
Stands-after_line_step line (Idle n) past cs s = record {
  registers = rw append-nil (record {
    fifo = s.registers.fifo;
    overrun = s.registers.overrun;
    idle = λ some. omega (arith, s.registers.idle some);
    trigger = s.registers.trigger;
    interrupts = s.registers.interrupts;
    line_control = s.registers.line_control;
  });
  masked = s.masked;
  window = rw append-nil s.window;
}
Stands-after_line_step line Mask past cs s = record {
  registers = IsWaiting-later line.registers past (Mask ∷ past) cs refl refl s.registers;
  masked = refl;
  window = rw append-nil s.window;
}
Stands-after_line_step line Unmask past cs s = record {
  registers = IsWaiting-later line.registers past (Unmask ∷ past) cs refl refl s.registers;
  masked = refl;
  window = rw append-nil s.window;
}
Stands-after_line_step line (Trigger t) past cs s = record {
  registers = rw append-nil (record {
    fifo = s.registers.fifo;
    overrun = s.registers.overrun;
    idle = s.registers.idle;
    trigger = refl;
    interrupts = s.registers.interrupts;
    line_control = s.registers.line_control;
  });
  masked = s.masked;
  window = rw append-nil s.window;
}

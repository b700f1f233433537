-- Some steps of a line after others.
use Rattle.std.proofs.Common.{◌≡◌, ℕ, suc, ◌+◌, ◌≤◌, ◌<◌, List, [], ◌∷◌, ◌++◌, length, map, take}
use Rattle.std.proofs.Common.{drop, get_or, sym, ◌∙◌, ap, subst, arith, append_assoc, append-nil, length-take}
use Rattle.std.proofs.lemmas.List.{take_all, take-append-drop, take-map, drop-map, drop_more}
use Rattle.std.proofs.Math.Seq.{take-add}
use Rattle.std.specs.List.{All}
use Rattle.std.specs.Prelude.{Result, Ok, Err, IfOk}
use Rattle.tty_base.specs.declared.characters.Flag.{Flag}
use Rattle.tty_base.specs.declared.characters.Flag.TheVariants.{Normal}
use Rattle.tty_base.specs.declared.lines.LineStep.{LineStep}
use Rattle.tty_base.specs.Lines.{arrival_count}
use Rattle.line_steps.specs.declared.LinePart.{LinePart}
use Rattle.line_steps.specs.Steps.{rx_step, steps_in, steps_of as steps_of_part}
use Rattle.line_steps.proofs.Parts.{one_part_more, steps_around}
use Rattle.uart_line.specs.GoodSteps.{good_steps}
use Rattle.uart_line.specs.Received.{closed_script}
use Rattle.uart_line.proofs.Steps.{arrival_count-append}
use Rattle.tty_calls.specs.declared.answers.Denied.{Denied}
use Rattle.tty_calls.specs.declared.answers.Denied.TheVariants.{NoMemory}
use Rattle.one_thread.specs.LineInside.{LineAt, LineStart, steps_of, IsLineBetween, PlaysSteps, StopsSteps}
use Rattle.one_thread.specs.LineInside.{DoesSteps, DoesFirstSteps, StandsBefore}
use Rattle.one_thread.specs.declared.line.Passed.{Passed}
use Rattle.play_base.proofs.Refusals.{All_front, All_later}

-- as many arrive as there are bytes
pub arrival_count-run : (flag : Flag) (bytes : List ℕ) → arrival_count (map (rx_step flag) bytes) ≡ length bytes
arrival_count-run flag [] = omega arith
arrival_count-run flag (byte ∷ bytes) = omega (arith, arrival_count-run flag bytes)

-- of the first `n` of these characters, `n` arrive
pub arrival_count-taken : (bytes : List ℕ) (n : ℕ) → n ≤ length bytes → arrival_count (take n (good_steps bytes)) ≡ n
arrival_count-taken bytes n le =
    omega (
      arith,
      ap arrival_count (take-map (rx_step Normal) n bytes),
      arrival_count-run Normal (take n bytes),
      length-take n bytes,
    )

-- the first of these steps are the next ones
pub stands_first : (xs ys : List LineStep) (at : LineAt) (run : ℕ)
    → StandsBefore (xs ++ ys) at run
    → StandsBefore xs at run
stands_first xs ys at run s = record {
  b = s.b;
  done = s.done;
  left = ys ++ s.left;
  script = s.script ∙ ap (λ (l : List LineStep). s.done ++ l) (append_assoc xs ys s.left);
  between = s.between;
  room = omega (arith, s.room, arrival_count-append xs ys);
}

-- where the first of these steps stop the line
pub stops_early : (d : Denied) (xs ys : List LineStep) (old new : LineAt) (run : ℕ)
    → StopsSteps d xs old new run
    → StopsSteps d (xs ++ ys) old new run
stops_early d xs ys old new run h = record {
  each = λ b done left script i.
      h.each b done (ys ++ left) (script ∙ ap (λ (l : List LineStep). done ++ l) (append_assoc xs ys left)) i;
}

-- want of memory tells nothing
pub memory_stops : (d : Denied) (steps : List LineStep) (old new : LineAt) (run : ℕ)
    → d ≡ NoMemory
    → StopsSteps d steps old new run
memory_stops d steps old new run is =
    subst (λ (x : Denied). StopsSteps x steps old new run) (sym is) (record { each = λ b done left script i. tt })

-- no step
pub plays_none : (at : LineAt) (run : ℕ) → PlaysSteps [] at at run run
plays_none at run = record {
  each = λ b done left script i. subst (λ (l : List LineStep). IsLineBetween b at l run) (sym (append-nil done)) i;
}

module _ (xs ys : List LineStep) (old mid : LineAt) (run next : ℕ) (p : PlaysSteps xs old mid run next) where
  module _ (b : LineStart) (done left : List LineStep) (script : steps_of b ≡ done ++ ((xs ++ ys) ++ left)) where
    script_first : steps_of b ≡ done ++ (xs ++ (ys ++ left))
    script_first = script ∙ ap (λ (l : List LineStep). done ++ l) (append_assoc xs ys left)

    script_then : steps_of b ≡ (done ++ xs) ++ (ys ++ left)
    script_then = script_first ∙ sym (append_assoc done xs (ys ++ left))

    then : IsLineBetween b old done run → IsLineBetween b mid (done ++ xs) next
    then i = p.each b done (ys ++ left) script_first i

  pub plays_more : (new : LineAt) (end : ℕ) → PlaysSteps ys mid new next end → PlaysSteps (xs ++ ys) old new run end
  plays_more new end q = record {
    each = λ b done left script i.
        subst (λ (l : List LineStep). IsLineBetween b new l end) (append_assoc done xs ys)
        (q.each b (done ++ xs) left (script_then b done left script) (then b done left script i));
  }

  pub stops_later : (d : Denied) (new : LineAt)
      → StopsSteps d ys mid new next
      → StopsSteps d (xs ++ ys) old new run
  stops_later d new h = record {
    each = λ b done left script i.
        h.each b (done ++ xs) left (script_then b done left script) (then b done left script i);
  }

  pub does_more : (new : LineAt) (result : Result ℕ Denied)
      → DoesSteps ys mid new next result
      → DoesSteps (xs ++ ys) old new run result
  does_more new (Ok end) h = plays_more new end h
  does_more new (Err d) h = stops_later d new h

  pub stands_on : StandsBefore (xs ++ ys) old run → StandsBefore ys mid next
  stands_on s =
      let i = then s.b s.done s.left s.script s.between in
      record {
        b = s.b;
        done = s.done ++ xs;
        left = s.left;
        script = script_then s.b s.done s.left s.script;
        between = i;
        room = omega (
          arith,
          s.room,
          s.between.in_line.arrived,
          s.between.in_line.most,
          i.in_line.arrived,
          i.in_line.most,
          arrival_count-append xs ys,
          arrival_count-append s.done xs,
        );
      }

-- after the first `count` of these steps
module _ (steps : List LineStep) (count : ℕ) (old mid : LineAt) (run next : ℕ)
    (p : PlaysSteps (take count steps) old mid run next) where
  pub plays_from : (n : ℕ) (new : LineAt) (end : ℕ)
      → PlaysSteps (take n (drop count steps)) mid new next end
      → PlaysSteps (take (count + n) steps) old new run end
  plays_from n new end q =
      subst (λ (l : List LineStep). PlaysSteps l old new run end) (sym (take-add count n steps))
      (plays_more (take count steps) (take n (drop count steps)) old mid run next p new end q)

  pub plays_to_end : length steps ≤ count → PlaysSteps steps old mid run next
  plays_to_end over = subst (λ (l : List LineStep). PlaysSteps l old mid run next) (take_all count steps over) p

  pub stops_from : (d : Denied) (new : LineAt)
      → StopsSteps d (drop count steps) mid new next
      → StopsSteps d steps old new run
  stops_from d new h =
      subst (λ (l : List LineStep). StopsSteps d l old new run) (take-append-drop count steps)
      (stops_later (take count steps) (drop count steps) old mid run next p d new h)

  pub stands_from : StandsBefore steps old run → StandsBefore (drop count steps) mid next
  stands_from s =
      stands_on (take count steps) (drop count steps) old mid run next p
      (subst (λ (l : List LineStep). StandsBefore l old run) (sym (take-append-drop count steps)) s)

-- the step at the place `count`
module _ (steps : List LineStep) (count : ℕ) (step : LineStep) (rest : List LineStep)
    (here : drop count steps ≡ step ∷ rest) (old mid : LineAt) (run next : ℕ)
    (p : PlaysSteps (take count steps) old mid run next) where
  pub stands_at : StandsBefore steps old run → StandsBefore (step ∷ []) mid next
  stands_at s =
      stands_first (step ∷ []) rest mid next
      (subst (λ (l : List LineStep). StandsBefore l mid next) here (stands_from steps count old mid run next p s))

  pub plays_next : (new : LineAt) (end : ℕ)
      → PlaysSteps (step ∷ []) mid new next end
      → PlaysSteps (take (count + 1) steps) old new run end
  plays_next new end q =
      plays_from steps count old mid run next p 1 new end
      (subst (λ (l : List LineStep). PlaysSteps (take 1 l) mid new next end) (sym here) q)

  pub stops_next : (d : Denied) (new : LineAt)
      → StopsSteps d (step ∷ []) mid new next
      → StopsSteps d steps old new run
  stops_next d new h =
      stops_from steps count old mid run next p d new
      (subst (λ (l : List LineStep). StopsSteps d l mid new next) (sym here)
      (stops_early d (step ∷ []) rest mid new next h))

-- the step in which the byte at the place `i` arrives, and those behind it
pub run_from : (flag : Flag) (bytes : List ℕ) (i : ℕ) → i < length bytes
    → drop i (map (rx_step flag) bytes) ≡ rx_step flag (get_or bytes i 0) ∷ drop (i + 1) (map (rx_step flag) bytes)
run_from flag bytes i lt =
    drop-map (rx_step flag) i bytes ∙ ap (map (rx_step flag)) (drop_more bytes i 0 lt)
    ∙ ap (λ (l : List LineStep). rx_step flag (get_or bytes i 0) ∷ l) (sym (drop-map (rx_step flag) (i + 1) bytes))

-- a whole window of good characters, and those behind it
pub window_first : (bytes window : List ℕ)
    → take 8 bytes ≡ window
    → good_steps window ++ drop 8 (good_steps bytes) ≡ good_steps bytes
window_first bytes window first =
    ap (λ (l : List LineStep). l ++ drop 8 (good_steps bytes))
    (ap good_steps (sym first) ∙ sym (take-map (rx_step Normal) 8 bytes))
    ∙ take-append-drop 8 (good_steps bytes)

pub does_window : (bytes window : List ℕ) (old new : LineAt) (run : ℕ) (result : Result Passed Denied)
    → take 8 bytes ≡ window
    → IfOk result (λ passed. passed.steps ≡ 8)
    → DoesFirstSteps (good_steps window) old new run result
    → DoesFirstSteps (good_steps bytes) old new run result
does_window bytes window old new run (Ok passed) first eight h =
    let steps : List LineStep = good_steps bytes in
    let is : good_steps window ≡ take 8 steps =
    ap good_steps (sym first) ∙ sym (take-map (rx_step Normal) 8 bytes) in
    let same : take passed.steps (good_steps window) ≡ take passed.steps steps =
    ap (λ (n : ℕ). take n (good_steps window)) eight
    ∙ (ap (take 8) is
    ∙ (take_all 8 (take 8 steps) (omega (arith, length-take 8 steps))
    ∙ ap (λ (n : ℕ). take n steps) (sym eight))) in
    subst (λ (l : List LineStep). PlaysSteps l old new run passed.run) same h
does_window bytes window old new run (Err d) first eight h =
    subst (λ (l : List LineStep). StopsSteps d l old new run) (window_first bytes window first)
    (stops_early d (good_steps window) (drop 8 (good_steps bytes)) old new run h)

-- a part of a line, after the parts before it
module _ (parts : List LinePart) (items : List LineStep) (all : steps_in parts ≡ items) (i : ℕ) (part : LinePart)
    (lt : i < length parts) (is : get_or parts i part ≡ part) where
  abbrev front : List LineStep
  front = steps_in (take i parts)

  abbrev back : List LineStep
  back = steps_in (drop (suc i) parts)

  around : items ≡ front ++ (steps_of_part part ++ back)
  around = sym all ∙ steps_around parts i part lt is

  closed_around : closed_script items ≡ front ++ (steps_of_part part ++ closed_script back)
  closed_around =
      ap closed_script around ∙ append_assoc front (steps_of_part part ++ back) (closed_script [])
      ∙ ap (λ (l : List LineStep). front ++ l) (append_assoc (steps_of_part part) back (closed_script []))

  pub good_part : (P : LineStep → Type 0) → All P items → All P (steps_of_part part)
  good_part P good =
      All_front P (steps_of_part part) back (All_later P front (steps_of_part part ++ back) (subst (All P) around good))

  module _ (old mid : LineAt) (run next : ℕ) (p : PlaysSteps front old mid run next) where
    pub stands_in_part : StandsBefore (closed_script items) old run → StandsBefore (steps_of_part part) mid next
    stands_in_part s =
        stands_first (steps_of_part part) (closed_script back) mid next
        (stands_on front (steps_of_part part ++ closed_script back) old mid run next p
        (subst (λ (l : List LineStep). StandsBefore l old run) closed_around s))

    pub plays_part : (new : LineAt) (end : ℕ)
        → PlaysSteps (steps_of_part part) mid new next end
        → PlaysSteps (steps_in (take (i + 1) parts)) old new run end
    plays_part new end q =
        subst (λ (l : List LineStep). PlaysSteps l old new run end) (sym (one_part_more parts i part lt is))
        (plays_more front (steps_of_part part) old mid run next p new end q)

    pub stops_in_part : (d : Denied) (new : LineAt)
        → StopsSteps d (steps_of_part part) mid new next
        → StopsSteps d (closed_script items) old new run
    stops_in_part d new h =
        subst (λ (l : List LineStep). StopsSteps d l old new run) (sym closed_around)
        (stops_later front (steps_of_part part ++ closed_script back) old mid run next p d new
        (stops_early d (steps_of_part part) (closed_script back) mid new next h))

-- after all parts
pub plays_parts : (parts : List LinePart) (items : List LineStep) (i : ℕ) (old new : LineAt) (run next : ℕ)
    → steps_in parts ≡ items
    → length parts ≤ i
    → PlaysSteps (steps_in (take i parts)) old new run next
    → PlaysSteps items old new run next
plays_parts parts items i old new run next all over p =
    subst (λ (l : List LineStep). PlaysSteps l old new run next) (ap steps_in (take_all i parts over) ∙ all) p

-- How many characters a journal had taken before a phase and before the end of its line, and what an overrun has seen.
use Rattle.std.proofs.Common.{◌≡◌, inl, inr, ℕ, zero, suc, ◌+◌, ◌-◌, ◌<◌, ◌≤◌, ◌==◌, nat_lt, nat_le, Bool, true, false}
use Rattle.std.proofs.Common.{◌&&◌, if◌then◌else◌, List, [], ◌∷◌, ◌++◌, Some, length, get_or, drop, slice_get, map}
use Rattle.std.proofs.Common.{reverse, refl, sym, ◌∙◌, ap, subst, arith, length-append, length-drop, append_assoc}
use Rattle.std.proofs.lemmas.Bool.{false≢true, cases_lt, and_parts, le-leb, leb-true, lt-ltb, ltb-true}
use Rattle.std.proofs.lemmas.Bool.Decides.{nat_tests}
use Rattle.std.proofs.lemmas.Grind.{flat_map-append}
use Rattle.std.proofs.lemmas.List.{reverse-append, take_all}
use Rattle.tty_base.specs.declared.lines.LineStep.{LineStep}
use Rattle.tty_base.specs.declared.lines.Overrun.{Overrun}
use Rattle.tty_calls.specs.Plain.{PlainEvent, answered, parted, waited, flushed, ticked, line_ended}
use Rattle.tty_calls.specs.Plain.{clock_ended, caller_ended, phase_ended, hung_up, PlainEntry, chars_in}
use Rattle.tty_calls.specs.Sessions.{PlainPhase, PlainSession, line_on}
use Rattle.tty_terminal.specs.Runs.{chars_of}
use Rattle.uart_line.specs.Received.{received_list, received_list_after, is_cut}
use Rattle.uart_line.specs.Received.{window, window_output, closed_script, script}
use Rattle.uart_line.specs.Offered.{AreShown}
use Rattle.legal_runs.specs.Legal.{phase_at, script_of_first, script_on, is_phase_end, line_ends, line_ends_in}
use Rattle.legal_runs.specs.Legal.{session_events, session_events_in, before_phase, before_line_end, IsOverrunOfPhase}
use Rattle.legal_runs.specs.Legal.{AreSeen}
use Rattle.legal_runs.specs.Legal.{IsFinishedFrom}
use Rattle.journal_check.specs.Receipts.{received_count}
use Rattle.journal_check.specs.Seen.{phase_starts, line_stops, phase_from, are_between}
use Rattle.journal_check.proofs.AccountLemmas.{shown_cons, next_at}
use Rattle.legal_runs.proofs.LineLemmas.{first_more}
use Rattle.legal_runs.proofs.Truths.{all_four, nothing_first, nothing_rest}
use Rattle.legal_runs.proofs.EventLemmas.{none_before, no_phase_end}

size_cons : (e : PlainEntry) (es : List PlainEntry)
    → length (chars_of (e ∷ es)) ≡ length (chars_in e.event) + length (chars_of es)
size_cons e es = length-append (chars_in e.event) (chars_of es)

-- ---- where phases begin

starts_by : (now : ℕ) (es : List PlainEntry) (b : Bool) (k : ℕ)
    → ((j : ℕ)
    → j < length (phase_starts now es)
    → now + length (chars_of (before_phase (suc j) es)) ≡ get_or (phase_starts now es) j 0)
    → k < length (if b then now ∷ phase_starts now es else phase_starts now es)
    → now + length (chars_of (if b then before_phase k es else before_phase (suc k) es))
    ≡ get_or (if b then now ∷ phase_starts now es else phase_starts now es) k 0
starts_by now es true zero h lt = omega (arith, ap (λ (xs : List PlainEntry). length (chars_of xs)) (none_before es))
starts_by now es true (suc k) h lt = h k (omega arith)
starts_by now es false k h lt = h k lt

starts_are : (n : ℕ) (es : List PlainEntry) (k : ℕ)
    → k < length (phase_starts n es)
    → n + length (chars_of (before_phase (suc k) es)) ≡ get_or (phase_starts n es) k 0
starts_are n [] k lt = absurd (omega arith)
starts_are n (e ∷ es) k lt =
    let now : ℕ = n + length (chars_in e.event) in
    let rest = starts_by (n + length (chars_in e.event)) es (is_phase_end e.event) k
    (λ j less. starts_are (n + length (chars_in e.event)) es j less) lt in
    omega (arith, rest, size_cons e (if is_phase_end e.event then before_phase k es else before_phase (suc k) es))

-- ---- where lines end

none_of : (xs : List ℕ) → (length xs == 0) ≡ true → xs ≡ []
none_of [] is = refl
none_of (x ∷ xs) is = absurd (let none : length (x ∷ xs) ≡ 0 = grind (arith, nat_tests) in omega (arith, none))

one_of : (event : PlainEvent) → (length (line_ends event) == 0) ≡ false → length (line_ends event) ≡ 1
one_of (answered a dropped) is = absurd (false≢true (sym is))
one_of (parted n) is = absurd (false≢true (sym is))
one_of waited is = absurd (false≢true (sym is))
one_of (flushed chars) is = absurd (false≢true (sym is))
one_of ticked is = absurd (false≢true (sym is))
one_of (line_ended n) is = refl
one_of clock_ended is = absurd (false≢true (sym is))
one_of caller_ended is = absurd (false≢true (sym is))
one_of phase_ended is = absurd (false≢true (sym is))
one_of (hung_up dropped) is = absurd (false≢true (sym is))

-- the first end of a line is in the part that has one
stop_first : (n : ℕ) (part more : List PlainEntry)
    → 0 < length (line_ends_in part)
    → n + length (chars_of (before_line_end 0 (part ++ more))) ≡ get_or (line_stops n (part ++ more)) 0 0
stop_first n [] more some = absurd (omega (arith, some))
stop_first n (e ∷ part) more some = either n (part ++ more) e (length (line_ends e.event) == 0)
    (λ none. stop_first (n + length (chars_in e.event)) part more
    (omega
    (arith, some, length-append (line_ends e.event) (line_ends_in part), ap length (none_of (line_ends e.event) none))))
    refl
  where
    either : (n : ℕ) (es : List PlainEntry) (e : PlainEntry) (b : Bool)
        → (b ≡ true
        → (n + length (chars_in e.event)) + length (chars_of (before_line_end 0 es))
        ≡ get_or (line_stops (n + length (chars_in e.event)) es) 0 0)
        → (length (line_ends e.event) == 0) ≡ b
        → n + length (chars_of (if b then e ∷ before_line_end 0 es else []))
        ≡ get_or
        (if b then line_stops (n + length (chars_in e.event)) es else n ∷ line_stops (n + length (chars_in e.event)) es)
        0 0
    either n es e true h is = omega (arith, h refl, size_cons e (before_line_end 0 es))
    either n es e false h is = omega arith

-- the ends of lines after a part
stops_past : (n : ℕ) (part more : List PlainEntry) (j : ℕ)
    → get_or (line_stops n (part ++ more)) (length (line_ends_in part) + j) 0
    ≡ get_or (line_stops (n + length (chars_of part)) more) j 0
stops_past n [] more j = (λ i. get_or (line_stops (far i) more) (near i) 0)
  where
    far : n ≡ n + 0
    far = omega arith

    near : 0 + j ≡ j
    near = omega arith
stops_past n (e ∷ part) more j =
    either (length (line_ends e.event) == 0) refl (stops_past (n + length (chars_in e.event)) part more j)
  where
    both : length (line_ends_in (e ∷ part)) ≡ length (line_ends e.event) + length (line_ends_in part)
    both = length-append (line_ends e.event) (line_ends_in part)

    far : (n + length (chars_in e.event)) + length (chars_of part) ≡ n + length (chars_of (e ∷ part))
    far = omega (arith, size_cons e part)

    either : (b : Bool)
        → (length (line_ends e.event) == 0) ≡ b
        → get_or (line_stops (n + length (chars_in e.event)) (part ++ more)) (length (line_ends_in part) + j) 0
        ≡ get_or (line_stops ((n + length (chars_in e.event)) + length (chars_of part)) more) j 0
        → get_or (line_stops n (e ∷ (part ++ more))) (length (line_ends_in (e ∷ part)) + j) 0
        ≡ get_or (line_stops (n + length (chars_of (e ∷ part))) more) j 0
    either true is h =
        let at : length (line_ends_in (e ∷ part)) + j ≡ length (line_ends_in part) + j =
        omega (arith, both, ap length (none_of (line_ends e.event) is)) in
        (λ i. get_or (if is i
        then line_stops (n + length (chars_in e.event)) (part ++ more)
        else n ∷ line_stops (n + length (chars_in e.event)) (part ++ more))
        (at i) 0)
        ∙ h ∙ ap (λ (m : ℕ). get_or (line_stops m more) j 0) far
    either false is h =
        let at : length (line_ends_in (e ∷ part)) + j ≡ suc (length (line_ends_in part) + j) =
        omega (arith, both, one_of e.event is) in
        (λ i. get_or (if is i
        then line_stops (n + length (chars_in e.event)) (part ++ more)
        else n ∷ line_stops (n + length (chars_in e.event)) (part ++ more))
        (at i) 0)
        ∙ h ∙ ap (λ (m : ℕ). get_or (line_stops m more) j 0) far

-- before the end of a later phase's line stands the whole part of this one
lines_past : (part : List PlainEntry) (last : PlainEntry) (rest : List PlainEntry) (j : ℕ)
    → session_events_in part ≡ []
    → last.event ≡ phase_ended
    → length (chars_of (before_line_end (suc j) (part ++ last ∷ rest)))
    ≡ length (chars_of part) + length (chars_in last.event) + length (chars_of (before_line_end j rest))
lines_past [] last rest j none ends =
    let is : is_phase_end last.event ≡ true = ap is_phase_end ends in
    omega (
      arith,
      size_cons last (if is_phase_end last.event then before_line_end j rest else before_line_end (suc j) rest),
      ap (λ b. length (chars_of (if b then before_line_end j rest else before_line_end (suc j) rest))) is,
    )
lines_past (e ∷ part) last rest j none ends =
    let not : is_phase_end e.event ≡ false =
    no_phase_end e.event (nothing_first (session_events e.event) (session_events_in part) none) in
    omega (
      arith,
      size_cons e (if is_phase_end e.event
          then before_line_end j (part ++ last ∷ rest)
          else before_line_end (suc j) (part ++ last ∷ rest)),
      ap (λ b. length (chars_of
          (if b then before_line_end j (part ++ last ∷ rest) else before_line_end (suc j) (part ++ last ∷ rest)))) not,
      lines_past part last rest j (nothing_rest (session_events e.event) (session_events_in part) none) ends,
      size_cons e part,
    )

-- ---- a finished journal

chars_append : (xs ys : List PlainEntry) → length (chars_of (xs ++ ys)) ≡ length (chars_of xs) + length (chars_of ys)
chars_append [] ys = omega arith
chars_append (x ∷ xs) ys = omega (arith, size_cons x (xs ++ ys), size_cons x xs, chars_append xs ys)

stops_are : (p : ℕ) (session : PlainSession) (overruns : List Overrun) (k : ℕ) (phases : List PlainPhase)
    (es : List PlainEntry) (n j : ℕ)
    → IsFinishedFrom p session overruns k phases es
    → j < length phases
    → n + length (chars_of (before_line_end j es)) ≡ get_or (line_stops n es) j 0
stops_are p session overruns k [] es n j h lt = absurd (omega arith)
stops_are p session overruns k (phase ∷ phases) es n zero h lt =
    subst (λ (xs : List PlainEntry). n + length (chars_of (before_line_end 0 xs)) ≡ get_or (line_stops n xs) 0 0)
    (sym h.parts)
    (stop_first n h.part (h.last ∷ h.rest) (omega (arith, ap length h.is_part.line)))
stops_are p session overruns k (phase ∷ phases) es n (suc j) h lt =
    let whole : es ≡ (h.part ++ h.last ∷ []) ++ h.rest = h.parts ∙ sym (append_assoc h.part (h.last ∷ []) h.rest) in
    let far : ℕ = n + length (chars_of (h.part ++ h.last ∷ [])) in
    let none : line_ends h.last.event ≡ [] = ap line_ends h.ends in
    let one : length (line_ends_in (h.part ++ h.last ∷ [])) ≡ 1 =
    omega (
      arith,
      ap length (flat_map-append (λ (x : PlainEntry). line_ends x.event) h.part (h.last ∷ [])),
      length-append (line_ends_in h.part) (line_ends h.last.event ++ []),
      length-append (line_ends h.last.event) [],
      ap length h.is_part.line,
      ap length none,
    ) in
    let rest = stops_are p session overruns (k + 1) phases h.rest (n + length (chars_of (h.part ++ h.last ∷ []))) j
    h.goes_on (omega arith) in
    let moved = stops_past n (h.part ++ h.last ∷ []) h.rest j in
    let at : length (line_ends_in (h.part ++ h.last ∷ [])) + j ≡ suc j = omega (arith, one) in
    let here : get_or (line_stops n es) (suc j) 0
    ≡ get_or (line_stops n ((h.part ++ h.last ∷ []) ++ h.rest)) (length (line_ends_in (h.part ++ h.last ∷ [])) + j) 0 =
    (λ i. get_or (line_stops n (whole i)) (sym at i) 0) in
    omega (
      arith,
      ap (λ (xs : List PlainEntry). length (chars_of (before_line_end (suc j) xs))) h.parts,
      lines_past h.part h.last h.rest j h.is_part.inside h.ends,
      chars_append h.part (h.last ∷ []),
      size_cons h.last [],
      rest,
      moved,
      here,
    )

many_starts : (n : ℕ) (xs ys : List PlainEntry)
    → length (phase_starts (n + length (chars_of xs)) ys) ≤ length (phase_starts n (xs ++ ys))
many_starts n [] ys = omega (arith, ap (λ (m : ℕ). length (phase_starts m ys)) (let e : n + 0 ≡ n = omega arith in e))
many_starts n (x ∷ xs) ys =
    omega (
      arith,
      many_starts (n + length (chars_in x.event)) xs ys,
      ap (λ (m : ℕ). length (phase_starts m ys)) (let e : (n + length (chars_in x.event)) + length (chars_of xs)
          ≡ n + length (chars_of (x ∷ xs)) = omega (arith, size_cons x xs) in
          e),
      more (is_phase_end x.event) (n + length (chars_in x.event))
          (phase_starts (n + length (chars_in x.event)) (xs ++ ys)),
    )
  where
    more : (b : Bool) (m : ℕ) (zs : List ℕ) → length zs ≤ length (if b then m ∷ zs else zs)
    more true m zs = omega arith
    more false m zs = omega arith

pub starts_enough : (p : ℕ) (session : PlainSession) (overruns : List Overrun) (k : ℕ) (phases : List PlainPhase)
    (es : List PlainEntry) (n : ℕ)
    → IsFinishedFrom p session overruns k phases es
    → length phases ≤ length (phase_starts n es)
starts_enough p session overruns k [] es n h = omega arith
starts_enough p session overruns k (phase ∷ phases) es n h =
    let now : ℕ = n + length (chars_of h.part) in
    let rest = starts_enough p session overruns (k + 1) phases h.rest
    ((n + length (chars_of h.part)) + length (chars_in h.last.event)) h.goes_on in
    let is : is_phase_end h.last.event ≡ true = ap is_phase_end h.ends in
    omega (
      arith,
      rest,
      ap (λ (xs : List PlainEntry). length (phase_starts n xs)) h.parts,
      many_starts n h.part (h.last ∷ h.rest),
      ap (λ b. length (if b
          then ((n + length (chars_of h.part)) + length (chars_in h.last.event))
          ∷ phase_starts ((n + length (chars_of h.part)) + length (chars_in h.last.event)) h.rest
          else phase_starts ((n + length (chars_of h.part)) + length (chars_in h.last.event)) h.rest)) is,
    )

many_stops : (n : ℕ) (xs ys : List PlainEntry)
    → length (line_stops n (xs ++ ys)) ≡ length (line_ends_in xs) + length (line_stops (n + length (chars_of xs)) ys)
many_stops n [] ys =
    ap (λ (m : ℕ). length (line_stops m ys)) (let e : n ≡ n + 0 = omega arith in e)
    ∙ (let e : length (line_stops (n + 0) ys) ≡ 0 + length (line_stops (n + 0) ys) = omega arith in e)
many_stops n (x ∷ xs) ys =
    omega (
      arith,
      many_stops (n + length (chars_in x.event)) xs ys,
      ap (λ (m : ℕ). length (line_stops m ys)) (let e : (n + length (chars_in x.event)) + length (chars_of xs)
          ≡ n + length (chars_of (x ∷ xs)) = omega (arith, size_cons x xs) in
          e),
      length-append (line_ends x.event) (line_ends_in xs),
      more x.event (length (line_ends x.event) == 0) (line_stops (n + length (chars_in x.event)) (xs ++ ys)) refl,
    )
  where
    more : (event : PlainEvent) (b : Bool) (zs : List ℕ)
        → (length (line_ends event) == 0) ≡ b
        → length (if b then zs else n ∷ zs) ≡ length (line_ends event) + length zs
    more event true zs is = omega (arith, ap length (none_of (line_ends event) is))
    more event false zs is = omega (arith, one_of event is)

pub stops_enough : (p : ℕ) (session : PlainSession) (overruns : List Overrun) (k : ℕ) (phases : List PlainPhase)
    (es : List PlainEntry) (n : ℕ)
    → IsFinishedFrom p session overruns k phases es
    → length phases ≤ length (line_stops n es)
stops_enough p session overruns k [] es n h = omega arith
stops_enough p session overruns k (phase ∷ phases) es n h =
    let whole : es ≡ (h.part ++ h.last ∷ []) ++ h.rest = h.parts ∙ sym (append_assoc h.part (h.last ∷ []) h.rest) in
    let rest =
    stops_enough p session overruns (k + 1) phases h.rest (n + length (chars_of (h.part ++ h.last ∷ []))) h.goes_on in
    let one : 1 ≤ length (line_ends_in (h.part ++ h.last ∷ [])) =
    omega (
      arith,
      ap length (flat_map-append (λ (x : PlainEntry). line_ends x.event) h.part (h.last ∷ [])),
      length-append (line_ends_in h.part) (line_ends h.last.event ++ []),
      ap length h.is_part.line,
    ) in
    omega (
      arith,
      rest,
      one,
      many_stops n (h.part ++ h.last ∷ []) h.rest,
      ap (λ (xs : List PlainEntry). length (line_stops n xs)) whole,
    )

-- ---- what overruns have seen

-- more steps let no fewer characters be received
after_more : (xs ys : List LineStep) → length (received_list_after ys) ≤ length (received_list_after (xs ++ ys))
unfolding received_list_after
after_more [] ys = omega arith
after_more (x ∷ xs) ys = omega (
  arith,
  after_more xs ys,
  length-append (received_list_after (xs ++ ys))
      (if is_cut (x ∷ (xs ++ ys)) (window (x ∷ (xs ++ ys))) then window_output (window (x ∷ (xs ++ ys))) else []),
)

received_more : (xs ys : List LineStep) → length (received_list xs) ≤ length (received_list (xs ++ ys))
unfolding received_list
received_more xs ys = omega (
  arith,
  after_more (reverse ys) (reverse xs),
  ap (λ (zs : List LineStep). length (received_list_after zs)) (reverse-append xs ys),
)

rises : (p : ℕ) (session : PlainSession) (k : ℕ)
    → k < length session.phases
    → received_count p session k ≤ received_count p session (k + 1)
rises p session k lt = omega (
  arith,
  received_more (script_of_first p session k) (closed_script (line_on p (phase_at session k))),
  ap (λ (steps : List LineStep). length (received_list steps)) (first_more p session k lt),
)

rises_to : (p : ℕ) (session : PlainSession) (k d : ℕ)
    → k + d ≤ length session.phases
    → received_count p session k ≤ received_count p session (k + d)
rises_to p session k zero h = omega (arith, ap (received_count p session) (let e : k + 0 ≡ k = omega arith in e))
rises_to p session k (suc d) h =
    omega (
      arith,
      rises_to p session k d (omega arith),
      rises p session (k + d) (omega arith),
      ap (received_count p session) (let e : (k + d) + 1 ≡ k + suc d = omega arith in e),
    )

past_count : (p : ℕ) (session : PlainSession) (k : ℕ)
    → length session.phases ≤ k
    → received_count p session k ≡ received_count p session (length session.phases)
past_count p session k past = ap
    (λ (phases : List PlainPhase). length (received_list (script (map (line_on p) phases))))
    (take_all k session.phases past ∙ sym (take_all (length session.phases) session.phases (omega arith)))

mono : (p : ℕ) (session : PlainSession) (k j : ℕ) → k ≤ j → received_count p session k ≤ received_count p session j
mono p session k j le =
    elim (cases_lt (length session.phases) j) [
      | inl past ↦ elim (cases_lt k (length session.phases)) [
        | inl less ↦ omega (
          arith,
          past_count p session j (omega arith),
          rises_to p session k (length session.phases - k) (omega arith),
          ap (received_count p session)
              (let e : k + (length session.phases - k) ≡ length session.phases = omega arith in e),
        )
        | inr more ↦ omega (arith, past_count p session j (omega arith), past_count p session k more)
      ]
      | inr within ↦ omega (
        arith,
        rises_to p session k (j - k) (omega arith),
        ap (received_count p session) (let e : k + (j - k) ≡ j = omega arith in e),
      )
    ]

-- the phase that is found
record IsFound (k : ℕ) (xs : List ℕ) (at : ℕ) : Type 0 where
  steps : ℕ
  is : phase_from k xs at ≡ k + steps
  past : (j : ℕ) → j < steps → get_or xs j 0 ≤ at
  within : steps ≤ length xs
  here : steps < length xs → at < get_or xs steps 0

found : (k : ℕ) (xs : List ℕ) (at : ℕ) → IsFound k xs at
found k [] at = record {
  steps = 0;
  is = omega arith;
  past = λ j lt. absurd (omega (arith, lt));
  within = omega arith;
  here = λ lt. absurd (omega (arith, lt));
}
found k (x ∷ xs) at = either (nat_le x at) refl (found (k + 1) xs at)
  where
    le : nat_le x at ≡ true → x ≤ at
    le h = grind (arith, nat_tests)

    gt : nat_le x at ≡ false → at < x
    gt h = grind (arith, nat_tests)

    below : (f : IsFound (k + 1) xs at) → x ≤ at → (j : ℕ) → j < suc f.steps → get_or (x ∷ xs) j 0 ≤ at
    below f small zero lt = small
    below f small (suc j) lt = f.past j (omega (arith, lt))

    either : (b : Bool) → nat_le x at ≡ b → IsFound (k + 1) xs at → IsFound k (x ∷ xs) at
    either true is f = record {
      steps = suc f.steps;
      is =
          ap (λ b. if b then phase_from (k + 1) xs at else k) is
          ∙ f.is
          ∙ (let e : (k + 1) + f.steps ≡ k + suc f.steps = omega arith in e);
      past = below f (le is);
      within = (let h = f.within in omega arith);
      here = λ lt. f.here (omega (arith, lt));
    }
    either false is f = record {
      steps = 0;
      is = ap (λ b. if b then phase_from (k + 1) xs at else k) is ∙ (let e : k ≡ k + 0 = omega arith in e);
      past = λ j lt. absurd (omega (arith, lt));
      within = omega arith;
      here = λ lt. gt is;
    }

get_past : (xs : List ℕ) (k j : ℕ) → get_or (drop k xs) j 0 ≡ get_or xs (k + j) 0
get_past xs zero j = ap (λ (n : ℕ). get_or xs n 0) (let e : j ≡ zero + j = omega arith in e)
get_past [] (suc k) j = refl
get_past (x ∷ xs) (suc k) j =
    get_past xs k j ∙ ap (λ (n : ℕ). get_or (x ∷ xs) n 0) (let e : suc (k + j) ≡ suc k + j = omega arith in e)

length_past : (xs : List ℕ) (k : ℕ) → length (drop k xs) ≡ length xs - k
length_past xs k = length-drop k xs

pub record KnowsWhen (p : ℕ) (session : PlainSession) (journal : List PlainEntry)
    (ends starts stops : List ℕ) : Type 0 where
  pub many : length ends ≡ length session.phases
  pub ends_are : (k : ℕ) → k < length session.phases → get_or ends k 0 ≡ received_count p session (k + 1)
  pub starts_at : (k : ℕ) → k < length session.phases → get_or starts k 0 ≡ length (chars_of (before_phase k journal))
  pub stops_at : (k : ℕ) → k < length session.phases → get_or stops k 0 ≡ length (chars_of (before_line_end k journal))

record InPhase (p : ℕ) (session : PlainSession) (k r at : ℕ) : Type 0 where
  least : k ≤ r
  begun : received_count p session r ≤ at
  ended : r < length session.phases → at < received_count p session (r + 1)
  within : r ≤ length session.phases

in_phase : (p : ℕ) (session : PlainSession) (journal : List PlainEntry) (ends starts stops : List ℕ) (k at : ℕ)
    → KnowsWhen p session journal ends starts stops
    → k ≤ length session.phases
    → received_count p session k ≤ at
    → InPhase p session k (phase_from k (drop k ends) at) at
in_phase p session journal ends starts stops k at knows le begun =
    let f = found k (drop k ends) at in
    let long : length (drop k ends) ≡ length session.phases - k = omega (arith, length_past ends k, knows.many) in
    subst (λ (r : ℕ). InPhase p session k r at) (sym f.is) (record {
      least = omega arith;
      begun = behind f.steps f.within f.past;
      ended = λ lt. (let h = f.here (omega (arith, lt, long)) in
          omega (arith, h, get_past ends k f.steps, knows.ends_are (k + f.steps) lt));
      within = (let h = f.within in omega (arith, h, long, le));
    })
  where
    behind : (s : ℕ)
        → s ≤ length (drop k ends)
        → ((j : ℕ) → j < s → get_or (drop k ends) j 0 ≤ at)
        → received_count p session (k + s) ≤ at
    behind zero small past = omega (arith, begun, ap (received_count p session) (let e : k + 0 ≡ k = omega arith in e))
    behind (suc s) small past =
        let lt : k + s < length session.phases = omega (arith, small, length_past ends k, knows.many, le) in
        omega (
          arith,
          past s (omega arith),
          get_past ends k s,
          knows.ends_are (k + s) lt,
          ap (received_count p session) (let e : (k + s) + 1 ≡ k + suc s = omega arith in e),
        )

-- the one phase of a place
one_phase : (p : ℕ) (session : PlainSession) (r j : ℕ) (o : Overrun)
    → received_count p session r ≤ o.at
    → o.at < received_count p session (r + 1)
    → IsOverrunOfPhase p session j o
    → j ≡ r
one_phase p session r j o least most of =
    elim (cases_lt j r) [
      | inl less ↦ absurd (omega (arith, mono p session (j + 1) r (omega arith), least, of.1))
      | inr more ↦ elim (cases_lt r j) [
        | inl less ↦ absurd (omega (arith, mono p session (r + 1) j (omega arith), most, of.0))
        | inr same ↦ omega (arith, more, same)
      ]
    ]

script_whole : (p : ℕ) (session : PlainSession)
    → received_count p session (length session.phases) ≡ length (received_list (script_on p session))
script_whole p session = ap (λ (phases : List PlainPhase). length (received_list (script (map (line_on p) phases))))
    (take_all (length session.phases) session.phases (omega arith))

record SeenBy (P : Type 0) (b : Bool) : Type 0 where
  to : b ≡ true → P
  of : P → b ≡ true

-- the overruns are between exactly where they have seen what they must
pub seen_as_between : (p : ℕ) (session : PlainSession) (journal : List PlainEntry) (ends starts stops : List ℕ)
    (capacity i floor k : ℕ) (os : List Overrun)
    → KnowsWhen p session journal ends starts stops
    → AreShown capacity i floor os
    → k ≤ length session.phases
    → received_count p session k ≤ floor
    → (are_between ends starts stops k os ≡ true → AreSeen p session journal os)
    × (AreSeen p session journal os → are_between ends starts stops k os ≡ true)
seen_as_between p session journal ends starts stops capacity i floor k [] knows shown le begun = (λ h. tt, λ h. refl)
seen_as_between p session journal ends starts stops capacity i floor k (o ∷ os) knows shown le begun =
    let parts = shown_cons capacity i floor o os shown in
    let r : ℕ = phase_from k (drop k ends) o.at in
    let at = in_phase p session journal ends starts stops k o.at knows le (omega (arith, begun, parts.0.place)) in
    let rest = seen_as_between p session journal ends starts stops capacity (i + 1) (o.at + 1)
    (phase_from k (drop k ends) o.at) os knows parts.1 at.within (omega (arith, at.begun)) in (
      λ h.
          (let first = and_parts (nat_lt r (length ends))
          (nat_le (get_or starts r 0) o.seen
          && (nat_le o.seen (get_or stops r 0) && are_between ends starts stops r os)) h in
          let second = and_parts (nat_le (get_or starts r 0) o.seen)
          (nat_le o.seen (get_or stops r 0) && are_between ends starts stops r os) first.1 in
          let third = and_parts (nat_le o.seen (get_or stops r 0)) (are_between ends starts stops r os) second.1 in
          let lt : phase_from k (drop k ends) o.at < length session.phases =
          omega (arith, ltb-true r (length ends) first.0, knows.many) in
          let most = at.ended lt in
          let least = leb-true (get_or starts r 0) o.seen second.0 in
          let last = leb-true o.seen (get_or stops r 0) third.0 in
          let starts_at = knows.starts_at r lt in
          let stops_at = knows.stops_at r lt in (
            record {
              at_character = omega (
                arith,
                most,
                mono p session (r + 1) (length session.phases) (omega (arith, lt)),
                script_whole p session,
              );
              from_before = λ j of. subst (λ (x : ℕ). length (chars_of (before_phase x journal)) ≤ o.seen)
                  (sym (one_phase p session r j o at.begun most of)) (omega (arith, least, starts_at));
              by_line_end = λ j of. subst (λ (x : ℕ). o.seen ≤ length (chars_of (before_line_end x journal)))
                  (sym (one_phase p session r j o at.begun most of)) (omega (arith, last, stops_at));
            },
            rest.0 third.1,
          )),
      λ h. elim (cases_lt (phase_from k (drop k ends) o.at) (length session.phases)) [
        | inl lt ↦ (let of : IsOverrunOfPhase p session r o = (at.begun, at.ended lt) in
            all_four (nat_lt r (length ends)) (nat_le (get_or starts r 0) o.seen) (nat_le o.seen (get_or stops r 0))
            (are_between ends starts stops r os)
            (lt-ltb r (length ends) (omega (arith, lt, knows.many)))
            (le-leb (get_or starts r 0) o.seen (omega (arith, h.0.from_before r of, knows.starts_at r lt)))
            (le-leb o.seen (get_or stops r 0) (omega (arith, h.0.by_line_end r of, knows.stops_at r lt)))
            (rest.1 h.1))
        | inr past ↦ absurd (omega
            (arith, h.0.at_character, script_whole p session, at.begun, mono p session (length session.phases) r past))
      ],
    )

-- what the walk over a finished journal knows
pub knows_when : (p : ℕ) (session : PlainSession) (overruns : List Overrun) (journal : List PlainEntry)
    (ends starts stops : List ℕ)
    → IsFinishedFrom p session overruns 0 session.phases journal
    → length ends ≡ length session.phases
    → ((k : ℕ) → k < length session.phases → get_or ends k 0 ≡ received_count p session (k + 1))
    → starts ≡ 0 ∷ phase_starts 0 journal
    → stops ≡ line_stops 0 journal
    → KnowsWhen p session journal ends starts stops
knows_when p session overruns journal ends starts stops finished many are starts_is stops_is = record {
  many = many;
  ends_are = are;
  starts_at = λ k lt. ap (λ (xs : List ℕ). get_or xs k 0) starts_is ∙ first k lt;
  stops_at = λ k lt. (let h = stops_are p session overruns 0 session.phases journal 0 k finished lt in
      omega (arith, ap (λ (xs : List ℕ). get_or xs k 0) stops_is, h));
}
  where
    first : (k : ℕ)
        → k < length session.phases
        → get_or (0 ∷ phase_starts 0 journal) k 0 ≡ length (chars_of (before_phase k journal))
    first zero lt = sym (ap (λ (xs : List PlainEntry). length (chars_of xs)) (none_before journal))
    first (suc k) lt = (let h = starts_are 0 journal k
        (omega (arith, starts_enough p session overruns 0 session.phases journal 0 finished, lt)) in
        omega (arith, h))

-- ---- a walk over the entries

pub size_at : (es : List PlainEntry) (i : ℕ) (e : PlainEntry)
    → slice_get es i ≡ Some e
    → length (chars_of (drop i es)) ≡ length (chars_in e.event) + length (chars_of (drop (i + 1) es))
size_at es i e at =
    ap (λ (xs : List PlainEntry). length (chars_of xs)) (next_at es i e at) ∙ size_cons e (drop (i + 1) es)

pub starts_more : (es : List PlainEntry) (i n m : ℕ) (e : PlainEntry) (starts next all : List ℕ)
    → slice_get es i ≡ Some e
    → m ≡ n + length (chars_in e.event)
    → next ≡ (if is_phase_end e.event then starts ++ m ∷ [] else starts)
    → starts ++ phase_starts n (drop i es) ≡ all
    → next ++ phase_starts m (drop (i + 1) es) ≡ all
starts_more es i n m e starts next all at counted is so =
    ap (λ (xs : List ℕ). xs ++ phase_starts m (drop (i + 1) es)) is
    ∙ either (is_phase_end e.event) m (phase_starts m (drop (i + 1) es))
    ∙ (λ j.
    starts
    ++ (if is_phase_end e.event
    then counted j ∷ phase_starts (counted j) (drop (i + 1) es)
    else phase_starts (counted j) (drop (i + 1) es)))
    ∙ ap (λ (xs : List PlainEntry). starts ++ phase_starts n xs) (sym (next_at es i e at))
    ∙ so
  where
    either : (b : Bool) (k : ℕ) (rest : List ℕ)
        → (if b then starts ++ k ∷ [] else starts) ++ rest ≡ starts ++ (if b then k ∷ rest else rest)
    either true k rest = append_assoc starts (k ∷ []) rest
    either false k rest = refl

pub stops_more : (es : List PlainEntry) (i n m : ℕ) (e : PlainEntry) (stops next all : List ℕ)
    → slice_get es i ≡ Some e
    → m ≡ n + length (chars_in e.event)
    → next ≡ (if length (line_ends e.event) == 0 then stops else stops ++ n ∷ [])
    → stops ++ line_stops n (drop i es) ≡ all
    → next ++ line_stops m (drop (i + 1) es) ≡ all
stops_more es i n m e stops next all at counted is so =
    ap (λ (xs : List ℕ). xs ++ line_stops m (drop (i + 1) es)) is
    ∙ either (length (line_ends e.event) == 0) (line_stops m (drop (i + 1) es))
    ∙ (λ j.
    stops
    ++ (if length (line_ends e.event) == 0
    then line_stops (counted j) (drop (i + 1) es)
    else n ∷ line_stops (counted j) (drop (i + 1) es)))
    ∙ ap (λ (xs : List PlainEntry). stops ++ line_stops n xs) (sym (next_at es i e at))
    ∙ so
  where
    either : (b : Bool) (rest : List ℕ)
        → (if b then stops else stops ++ n ∷ []) ++ rest ≡ stops ++ (if b then rest else n ∷ rest)
    either true rest = refl
    either false rest = append_assoc stops (n ∷ []) rest

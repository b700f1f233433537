-- What is lost in the order of one thread, phase by phase: all that exceeds the buffer.
use Rattle.std.proofs.Common.{◌≡◌, ◌⊎◌, inl, inr, ℕ, zero, suc, ◌+◌, ◌<◌, ◌≤◌, Bool, true, false, ◌||◌}
use Rattle.std.proofs.Common.{◌==◌, if◌then◌else◌, List, [], ◌∷◌, ◌++◌, Option, length, take, refl, sym, ◌∙◌, ap}
use Rattle.std.proofs.Common.{subst, arith, append-nil, append_assoc, length-append, add-zero, zero-add, sum}
use Rattle.std.specs.Prelude.{All}
use Rattle.std.specs.List.{list_any}
use Rattle.std.proofs.lemmas.Bool.{eqb-true, ne_eqb}
use Rattle.std.proofs.lemmas.List.Elements.{All-head, All-nil, All-cons, All-weaker}
use Rattle.tty_base.specs.declared.characters.Flagged.{Flagged}
use Rattle.tty_base.specs.declared.lines.LineStep.{LineStep}
use Rattle.tty_base.specs.declared.lines.Overrun.{Overrun}
use Rattle.tty_calls.specs.declared.journals.PortRun.{PortRun}
use Rattle.tty_calls.specs.Plain.{PlainCall, PlainEvent, answered, parted, waited, flushed, ticked, line_ended}
use Rattle.tty_calls.specs.Plain.{clock_ended, caller_ended, phase_ended, hung_up, PlainEntry, chars_in}
use Rattle.tty_calls.specs.Sessions.{PlainPhase, PlainSession, call_at, counts_on}
use Rattle.uart_line.specs.Received.{received_list}
use Rattle.uart_line.specs.Offered.{kept_list_from, kept_list, AreShown}
use Rattle.tty_terminal.specs.Terminals.{Terminal, opening}
use Rattle.tty_terminal.specs.Steps.{IsAllowed, after}
use Rattle.tty_terminal.specs.Runs.{Leads, chars_of}
use Rattle.tty_terminal.proofs.StepLaws.{step_does}
use Rattle.legal_runs.specs.Legal.{line_ends, line_ends_in, session_events, session_events_in, is_phase_end}
use Rattle.legal_runs.specs.Legal.{before_line_end, received_before, sent_by, script_of_first, script_on, flip_on}
use Rattle.legal_runs.specs.Legal.{AreSeen, IsFinishedFrom, IsLegal}
use Rattle.legal_runs.proofs.LineLemmas.{none_first}
use Rattle.legal_runs.proofs.EventLemmas.{no_phase_end}
use Rattle.legal_runs.proofs.Truths.{nothing_first, nothing_rest}
use Rattle.legal_runs.specs.Order.{AllSeeAll}
use Rattle.play_base.proofs.ReceivedLemmas.{script_whole, kept_later}
use Rattle.order_laws.specs.Lost.{overruns_after, taken_before_line_end, excess, overruns_in, overruns_before}

-- ---- what some overruns leave of a list

abbrev is_at : ℕ → Overrun → Bool
is_at place o = o.at == place

-- an overrun before a list takes nothing of it
past_one : (place : ℕ) (list : List Flagged) (o : Overrun) (overruns : List Overrun)
    → o.at < place
    → kept_list_from place list (o ∷ overruns) ≡ kept_list_from place list overruns
unfolding kept_list_from
past_one place [] o overruns lt = refl
past_one place (c ∷ cs) o overruns lt =
    ap (λ (b : Bool).
    if b || list_any (is_at place) overruns
    then kept_list_from (place + 1) cs (o ∷ overruns)
    else c ∷ kept_list_from (place + 1) cs (o ∷ overruns))
    (ne_eqb o.at place (λ e. absurd (omega (arith, lt, e))))
    ∙ ap (λ (xs : List Flagged). if list_any (is_at place) overruns then xs else c ∷ xs)
    (past_one (place + 1) cs o overruns (omega (arith, lt)))

-- an overrun takes one character at most
lose_one : (place : ℕ) (list : List Flagged) (o : Overrun) (overruns : List Overrun)
    → length (kept_list_from place list overruns) ≤ length (kept_list_from place list (o ∷ overruns)) + 1
unfolding kept_list_from
lose_one place [] o overruns = omega arith
lose_one place (c ∷ cs) o overruns =
    by_place (o.at == place) (list_any (is_at place) overruns) refl (lose_one (place + 1) cs o overruns)
  where
    by_place : (a b : Bool)
        → (o.at == place) ≡ a
        → length (kept_list_from (place + 1) cs overruns) ≤ length (kept_list_from (place + 1) cs (o ∷ overruns)) + 1
        → length (if b then kept_list_from (place + 1) cs overruns else c ∷ kept_list_from (place + 1) cs overruns)
        ≤ length (if a || b
        then kept_list_from (place + 1) cs (o ∷ overruns)
        else c ∷ kept_list_from (place + 1) cs (o ∷ overruns)) + 1
    by_place true true is h = h
    by_place false true is h = h
    by_place false false is h = omega (arith, h)
    by_place true false is h =
        let at : o.at ≡ place = eqb-true o.at place is in
        let same = ap (λ (xs : List Flagged). length xs) (past_one (place + 1) cs o overruns (omega (arith, at))) in
        omega (arith, same)

none_lost : (place : ℕ) (list : List Flagged) → kept_list_from place list [] ≡ list
unfolding kept_list_from
none_lost place [] = refl
none_lost place (c ∷ cs) = ap (λ (xs : List Flagged). c ∷ xs) (none_lost (place + 1) cs)

-- some overruns take no more than they are
pub lose_few : (list : List Flagged) (overruns : List Overrun)
    → length list ≤ length (kept_list list overruns) + length overruns
lose_few list [] = (let all = ap (λ (xs : List Flagged). length xs) (none_lost 0 list) in omega (arith, all))
lose_few list (o ∷ os) = omega (arith, lose_few list os, lose_one 0 list o os)

-- what they leave of a list begins with what they leave of its front
begins_either : (b : Bool) (c : Flagged) (front all : List Flagged)
    → take (length front) all ≡ front
    → take (length (if b then front else c ∷ front)) (if b then all else c ∷ all) ≡ (if b then front else c ∷ front)
begins_either true c front all h = h
begins_either false c front all h = ap (λ (xs : List Flagged). c ∷ xs) h

pub kept_begins : (place : ℕ) (xs ys : List Flagged) (overruns : List Overrun)
    → take (length (kept_list_from place xs overruns)) (kept_list_from place (xs ++ ys) overruns)
    ≡ kept_list_from place xs overruns
unfolding kept_list_from
kept_begins place [] ys overruns = refl
kept_begins place (c ∷ cs) ys overruns = begins_either (list_any (is_at place) overruns) c
    (kept_list_from (place + 1) cs overruns) (kept_list_from (place + 1) (cs ++ ys) overruns)
    (kept_begins (place + 1) cs ys overruns)

-- ---- the overruns of one line

count_after : (capacity taken lost count : ℕ) → length (overruns_after capacity taken lost count) ≡ count
count_after capacity taken lost zero = refl
count_after capacity taken lost (suc count) = omega (arith, count_after capacity taken (lost + 1) count)

-- some overruns begin with those of a line, and the rest stand from its end on
record Front (p : ℕ) (session : PlainSession) (journal : List PlainEntry) (k lost : ℕ)
    (overruns : List Overrun) : Type 0 where
  count : ℕ
  later : List Overrun
  parts : overruns ≡ overruns_after (flip_on p session) (taken_before_line_end k journal) lost count ++ later
  shown : AreShown (flip_on p session) (lost + count) (received_before p session (k + 1)) later
  seen : AllSeeAll p session journal later
  most : 0 < count
      → ((taken_before_line_end k journal + flip_on p session) + lost) + count ≤ received_before p session (k + 1)

pub either_side : (a b : ℕ) → (a < b) ⊎ (b ≤ a)
either_side a b = grind arith

front : (p : ℕ) (session : PlainSession) (journal : List PlainEntry) (k lost floor : ℕ) (overruns : List Overrun)
    → received_before p session k ≤ floor
    → AreShown (flip_on p session) lost floor overruns
    → AllSeeAll p session journal overruns
    → Front p session journal k lost overruns
unfolding AreShown
front p session journal k lost floor [] low shown seen =
    record { count = 0; later = []; parts = refl; shown = tt; seen = tt; most = λ some. absurd (omega (arith, some)) }
front p session journal k lost floor (o ∷ os) low shown seen =
    elim (either_side o.at (received_before p session (k + 1))) [
      | inl below ↦
          let taken = taken_before_line_end k journal in
          let capacity = flip_on p session in
          let floor_is = shown.0 in
          let number = shown.1 in
          let full = shown.2 in
          let sees : o.seen ≡ taken = seen.0 k (omega (arith, low, floor_is)) below in
          let sent : o.sent ≡ taken + capacity = omega (arith, full, sees) in
          let at : o.at ≡ (taken + capacity) + lost = omega (arith, number, sent) in
          let rest = front p session journal k (lost + 1) (o.at + 1) os (omega (arith, low, floor_is)) shown.3 seen.1 in
          let one : o ≡ record { at = (taken + capacity) + lost; sent = taken + capacity; seen = taken } =
          (λ i. record { at = at i; sent = sent i; seen = sees i }) in
          let number_of : (lost + 1) + rest.count ≡ lost + suc rest.count = omega arith in
          record {
            count = suc rest.count;
            later = rest.later;
            parts = λ i. one i ∷ rest.parts i;
            shown =
                subst (λ n. AreShown capacity n (received_before p session (k + 1)) rest.later) number_of rest.shown;
            seen = rest.seen;
            most = λ some. most_more ((taken + capacity) + lost) rest.count (received_before p session (k + 1))
                (omega (arith, at, below)) (λ more. omega (arith, rest.most more));
          }
      | inr above ↦
          record {
            count = 0;
            later = o ∷ os;
            parts = refl;
            shown = subst (λ n. AreShown (flip_on p session) n (received_before p session (k + 1)) (o ∷ os))
                (sym (add-zero lost)) (above, shown.1, shown.2, shown.3);
            seen = seen;
            most = λ some. absurd (omega (arith, some));
          }
    ]
  where
    most_more : (a count r : ℕ) → a < r → (0 < count → (a + 1) + count ≤ r) → a + suc count ≤ r
    most_more a zero r lt more = omega (arith, lt)
    most_more a (suc count) r lt more = omega (arith, more (omega arith))

-- ---- the line's ends

abbrev pub first_or : List ℕ → ℕ
first_or [] = 0
first_or (x ∷ xs) = x

-- what the first line's end says fits in the buffer beside what was taken before
first_fits : (f : ℕ → ℕ → Option PlainCall) (counts : List ℕ) (t : Terminal) (part : List PlainEntry) (more : List ℕ)
    (n : ℕ) (rest : List PlainEntry) (u : Terminal)
    → Leads f counts t (part ++ rest) u
    → line_ends_in part ≡ n ∷ more
    → n ≤ (t.taken + length (chars_of (before_line_end 0 (part ++ rest)))) + t.capacity
first_fits f counts t [] more n rest u leads is =
    (let none : 0 ≡ suc (length more) = ap (λ (xs : List ℕ). length xs) is in absurd (omega (arith, none)))
first_fits f counts t (e ∷ es) more n rest u leads is =
    by_event e.event refl (λ none. first_fits f counts (after f t e) es more n rest u leads.1
    (ap (λ (xs : List ℕ). xs ++ line_ends_in es) (sym none) ∙ is))
  where
    goes_on : line_ends e.event ≡ []
        → n ≤ ((after f t e).taken + length (chars_of (before_line_end 0 (es ++ rest)))) + (after f t e).capacity
        → n ≤ (t.taken + length (chars_of (before_line_end 0 ((e ∷ es) ++ rest)))) + t.capacity
    goes_on none later =
        let does = step_does f counts t e leads.0 in
        let walk : before_line_end 0 ((e ∷ es) ++ rest) ≡ e ∷ before_line_end 0 (es ++ rest) =
        ap (λ (xs : List ℕ). if length xs == 0 then e ∷ before_line_end 0 (es ++ rest) else []) none in
        let chars =
        ap (λ (xs : List PlainEntry). length (chars_of xs)) walk
        ∙ length-append (chars_in e.event) (chars_of (before_line_end 0 (es ++ rest))) in
        omega (arith, later, does.taken, does.capacity, chars)

    by_event : (event : PlainEvent)
        → e.event ≡ event
        → (line_ends e.event ≡ []
        → n ≤ ((after f t e).taken + length (chars_of (before_line_end 0 (es ++ rest)))) + (after f t e).capacity)
        → n ≤ (t.taken + length (chars_of (before_line_end 0 ((e ∷ es) ++ rest)))) + t.capacity
    by_event (answered a dropped) here later = goes_on (ap line_ends here) (later (ap line_ends here))
    by_event (parted taken) here later = goes_on (ap line_ends here) (later (ap line_ends here))
    by_event waited here later = goes_on (ap line_ends here) (later (ap line_ends here))
    by_event (flushed chars) here later = goes_on (ap line_ends here) (later (ap line_ends here))
    by_event ticked here later = goes_on (ap line_ends here) (later (ap line_ends here))
    by_event (line_ended x) here later =
        let Is : PlainEvent → Type 0 = λ event. IsAllowed f counts t e.who e.step e.part event in
        let allowed : IsAllowed f counts t e.who e.step e.part (line_ended x) = subst Is here leads.0.1 in
        let fits = allowed.1.fits in
        let number : x ≡ n =
        ap first_or (ap (λ (event : PlainEvent). line_ends event ++ line_ends_in es) (sym here) ∙ is) in
        omega (arith, fits, number)
    by_event clock_ended here later = goes_on (ap line_ends here) (later (ap line_ends here))
    by_event caller_ended here later = goes_on (ap line_ends here) (later (ap line_ends here))
    by_event phase_ended here later = goes_on (ap line_ends here) (later (ap line_ends here))
    by_event (hung_up dropped) here later = goes_on (ap line_ends here) (later (ap line_ends here))

-- a run of two parts
record Meets (f : ℕ → ℕ → Option PlainCall) (counts : List ℕ) (t : Terminal) (xs ys : List PlainEntry)
    (u : Terminal) : Type 0 where
  middle : Terminal
  goes_on : Leads f counts middle ys u
  taken : middle.taken ≡ t.taken + length (chars_of xs)
  capacity : middle.capacity ≡ t.capacity

meets : (f : ℕ → ℕ → Option PlainCall) (counts : List ℕ) (t : Terminal) (xs ys : List PlainEntry) (u : Terminal)
    → Leads f counts t (xs ++ ys) u
    → Meets f counts t xs ys u
meets f counts t [] ys u leads = record { middle = t; goes_on = leads; taken = sym (add-zero t.taken); capacity = refl }
meets f counts t (x ∷ xs) ys u leads =
    let rest = meets f counts (after f t x) xs ys u leads.1 in
    let does = step_does f counts t x leads.0 in
    record {
      middle = rest.middle;
      goes_on = rest.goes_on;
      taken =
          (let chars = length-append (chars_in x.event) (chars_of xs) in omega (arith, rest.taken, does.taken, chars));
      capacity = rest.capacity ∙ does.capacity;
    }

chars_both : (xs ys : List PlainEntry) → length (chars_of (xs ++ ys)) ≡ length (chars_of xs) + length (chars_of ys)
chars_both [] ys = omega arith
chars_both (x ∷ xs) ys =
    let rest = chars_both xs ys in
    let here = length-append (chars_in x.event) (chars_of (xs ++ ys)) in
    let own = length-append (chars_in x.event) (chars_of xs) in
    omega (arith, rest, here, own)

-- a walk to a later phase passes a part of this one, and its end
pass_part : (part rest : List PlainEntry) (m : ℕ)
    → session_events_in part ≡ []
    → before_line_end (suc m) (part ++ rest) ≡ part ++ before_line_end (suc m) rest
pass_part [] rest m none = refl
pass_part (e ∷ es) rest m none =
    ap (λ (b : Bool). e ∷ (if b then before_line_end m (es ++ rest) else before_line_end (suc m) (es ++ rest)))
    (no_phase_end e.event (nothing_first (session_events e.event) (session_events_in es) none))
    ∙ ap (λ (xs : List PlainEntry). e ∷ xs)
    (pass_part es rest m (nothing_rest (session_events e.event) (session_events_in es) none))

pass_end : (last : PlainEntry) (rest : List PlainEntry) (m : ℕ)
    → last.event ≡ phase_ended
    → before_line_end (suc m) (last ∷ rest) ≡ last ∷ before_line_end m rest
pass_end last rest m ends = ap (λ (event : PlainEvent).
    last ∷ (if is_phase_end event then before_line_end m rest else before_line_end (suc m) rest)) ends

-- what each line's end says fits in the buffer beside what was taken before
pub each_fits : (p : ℕ) (session : PlainSession) (overruns : List Overrun) (k : ℕ) (phases : List PlainPhase)
    (t : Terminal) (es : List PlainEntry) (u : Terminal)
    → IsFinishedFrom p session overruns k phases es
    → Leads (call_at p session) (counts_on p session) t es u
    → (m : ℕ)
    → m < length phases
    → sent_by p session overruns (k + m) ≤ (t.taken + taken_before_line_end m es) + t.capacity
each_fits p session overruns k [] t es u h leads m lt = absurd (omega (arith, lt))
each_fits p session overruns k (phase ∷ phases) t es u h leads zero lt =
    let parts = subst (λ (j : List PlainEntry). Leads (call_at p session) (counts_on p session) t j u) h.parts leads in
    let fits = first_fits (call_at p session) (counts_on p session) t h.part [] (sent_by p session overruns k)
    (h.last ∷ h.rest) u parts h.is_part.line in
    let number = ap (λ (n : ℕ). sent_by p session overruns n) (add-zero k) in
    let chars = ap (λ (j : List PlainEntry). taken_before_line_end 0 j) h.parts in
    omega (arith, fits, number, chars)
each_fits p session overruns k (phase ∷ phases) t es u h leads (suc m) lt =
    let calls = call_at p session in
    let counts = counts_on p session in
    let parts = subst (λ (j : List PlainEntry). Leads calls counts t j u) h.parts leads in
    let middle = meets calls counts t h.part (h.last ∷ h.rest) u parts in
    let does = step_does calls counts middle.middle h.last middle.goes_on.0 in
    let later = each_fits p session overruns (k + 1) phases (after calls middle.middle h.last) h.rest u h.goes_on
    middle.goes_on.1 m (omega (arith, lt)) in
    let number : sent_by p session overruns ((k + 1) + m) ≡ sent_by p session overruns (k + suc m) =
    (let same : (k + 1) + m ≡ k + suc m = omega arith in ap (λ (n : ℕ). sent_by p session overruns n) same) in
    let walk =
    pass_part h.part (h.last ∷ h.rest) m h.is_part.inside
    ∙ ap (λ (xs : List PlainEntry). h.part ++ xs) (pass_end h.last h.rest m h.ends) in
    let chars =
    ap (λ (j : List PlainEntry). taken_before_line_end (suc m) j) h.parts
    ∙ ap (λ (xs : List PlainEntry). length (chars_of xs)) walk in
    let both = chars_both h.part (h.last ∷ before_line_end m h.rest) in
    let own = length-append (chars_in h.last.event) (chars_of (before_line_end m h.rest)) in
    omega (arith, later, number, chars, both, own, middle.taken, middle.capacity, does.taken, does.capacity)

-- ---- all overruns

-- what is known of the overruns of a run in the order
pub record Loses (p : ℕ) (session : PlainSession) (journal : List PlainEntry) (overruns : List Overrun) : Type 0 where
  pub shown : AreShown (flip_on p session) 0 0 overruns
  pub all : AllSeeAll p session journal overruns
  pub account : AreSeen p session journal overruns
  pub fits : (k : ℕ)
      → k < length session.phases
      → sent_by p session overruns k ≤ taken_before_line_end k journal + flip_on p session

pub all_above : (capacity lost floor : ℕ) (overruns : List Overrun)
    → AreShown capacity lost floor overruns
    → All (λ o. floor ≤ o.at) overruns
unfolding AreShown
all_above capacity lost floor [] h = All-nil (λ (o : Overrun). floor ≤ o.at)
all_above capacity lost floor (o ∷ os) h =
    let here = h.0 in
    All-cons (λ (x : Overrun). floor ≤ x.at) o os here
    (All-weaker (λ (x : Overrun). o.at + 1 ≤ x.at) (λ (x : Overrun). floor ≤ x.at)
    (λ x above. omega (arith, above, here)) os (all_above capacity (lost + 1) (o.at + 1) os h.3))

-- the overruns of the first phases, and those after them
pub record LostBefore (p : ℕ) (session : PlainSession) (journal : List PlainEntry) (overruns : List Overrun)
    (k : ℕ) : Type 0 where
  pub later : List Overrun
  pub parts : overruns ≡ overruns_before p session journal k ++ later
  pub shown : AreShown (flip_on p session) (length (overruns_before p session journal k)) (received_before p session k)
      later
  pub seen : AllSeeAll p session journal later

-- so many are lost as exceed what fits
excess_is : (count received taken capacity lost : ℕ)
    → (0 < count → ((taken + capacity) + lost) + count ≤ received)
    → received ≤ ((taken + capacity) + lost) + count
    → count ≡ excess received capacity taken lost
excess_is zero received taken capacity lost most least = omega (arith, least)
excess_is (suc count) received taken capacity lost most least =
    (let up = most (omega arith) in omega (arith, up, least))

pub lost_before : (p : ℕ) (session : PlainSession) (journal : List PlainEntry) (overruns : List Overrun)
    → Loses p session journal overruns
    → (k : ℕ)
    → k ≤ length session.phases
    → LostBefore p session journal overruns k
lost_before p session journal overruns h zero within =
    let none : received_before p session 0 ≡ 0 = ap (λ (cs : List Flagged). length cs) (none_first p session) in
    record {
      later = overruns;
      parts = refl;
      shown = subst (λ n. AreShown (flip_on p session) 0 n overruns) (sym none) h.shown;
      seen = h.all;
    }
lost_before p session journal overruns h (suc k) within =
    let before = lost_before p session journal overruns h k (omega (arith, within)) in
    let capacity = flip_on p session in
    let taken = taken_before_line_end k journal in
    let first = overruns_before p session journal k in
    let lost = length first in
    let received = received_list (script_of_first p session (k + 1)) in
    let here =
    front p session journal k lost (received_before p session k) before.later (omega arith) before.shown before.seen in
    let own = overruns_after capacity taken lost here.count in
    let whole : overruns ≡ (first ++ own) ++ here.later =
    before.parts ∙ (ap (λ (os : List Overrun). first ++ os) here.parts ∙ sym (append_assoc first own here.later)) in
    let kept : kept_list received overruns ≡ kept_list received (first ++ own) =
    ap (λ (os : List Overrun). kept_list received os) whole
    ∙ kept_later received (first ++ own) here.later
    (all_above capacity (lost + here.count) (received_before p session (k + 1)) here.later here.shown) in
    let few = lose_few received (first ++ own) in
    let many = length-append first own in
    let each = count_after capacity taken lost here.count in
    let sent = ap (λ (cs : List Flagged). length cs) kept in
    let fits = h.fits k (omega (arith, within)) in
    let least : received_before p session (k + 1) ≤ ((taken + capacity) + lost) + here.count =
    omega (arith, few, many, each, sent, fits) in
    let number : here.count ≡ excess (received_before p session (k + 1)) capacity taken lost =
    excess_is here.count (received_before p session (k + 1)) taken capacity lost here.most least in
    let all : lost + here.count ≡ length (first ++ overruns_in p session journal k lost) =
    (let size = length-append first (overruns_in p session journal k lost) in
    let each_in = count_after capacity taken lost (excess (received_before p session (k + 1)) capacity taken lost) in
    omega (arith, size, each_in, number)) in
    let next : k + 1 ≡ suc k = omega arith in
    record {
      later = here.later;
      parts = whole ∙ ap (λ (n : ℕ). (first ++ overruns_after capacity taken lost n) ++ here.later) number;
      shown = subst (λ n. AreShown capacity (length (first ++ overruns_in p session journal k lost))
          (received_before p session n) here.later) next
          (subst (λ n. AreShown capacity n (received_before p session (k + 1)) here.later) all here.shown);
      seen = here.seen;
    }

-- those that are seen are at characters
none_later : (p : ℕ) (session : PlainSession) (journal : List PlainEntry) (first later : List Overrun)
    → AreSeen p session journal (first ++ later)
    → All (λ o. length (received_list (script_on p session)) ≤ o.at) later
    → later ≡ []
none_later p session journal [] [] seen above = refl
none_later p session journal [] (o ∷ os) seen above =
    (let at = seen.0.at_character in
    let high = All-head (λ (x : Overrun). length (received_list (script_on p session)) ≤ x.at) o os above in
    absurd (omega (arith, at, high)))
none_later p session journal (x ∷ first) later seen above = none_later p session journal first later seen.1 above

pub all_lost : (p : ℕ) (session : PlainSession) (journal : List PlainEntry) (overruns : List Overrun)
    → Loses p session journal overruns
    → overruns ≡ overruns_before p session journal (length session.phases)
all_lost p session journal overruns h =
    let before = lost_before p session journal overruns h (length session.phases) (omega arith) in
    let all = overruns_before p session journal (length session.phases) in
    let received : received_before p session (length session.phases) ≡ length (received_list (script_on p session)) =
    ap (λ (steps : List LineStep). length (received_list steps)) (script_whole p session) in
    let above = subst (λ n. All (λ o. n ≤ o.at) before.later) received
    (all_above (flip_on p session) (length all) (received_before p session (length session.phases))
    before.later before.shown) in
    let none = none_later p session journal all before.later
    (subst (λ (os : List Overrun). AreSeen p session journal os) before.parts h.account) above in
    before.parts ∙ (ap (λ (os : List Overrun). all ++ os) none ∙ append-nil all)

pub loses_of : (p : ℕ) (session : PlainSession) (run : PortRun) (t : Terminal)
    → IsLegal p session run t
    → AllSeeAll p session run.journal.items run.line.overruns.items
    → Loses p session run.journal.items run.line.overruns.items
loses_of p session run t legal seen =
    record {
      shown = legal.account.shown;
      all = seen;
      account = legal.account.seen;
      fits = λ k lt.
          let each = each_fits p session run.line.overruns.items 0 session.phases
          (opening (sum (counts_on p session)) (flip_on p session)) run.journal.items
          t legal.account.finished legal.on_the_way.steps k lt in
          let number = ap (λ (n : ℕ). sent_by p session run.line.overruns.items n) (zero-add k) in
          omega (arith, each, number);
    }

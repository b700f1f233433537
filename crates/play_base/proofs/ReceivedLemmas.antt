-- What a line hands over, phase by phase, and what its overruns leave of it.
use Rattle.std.proofs.Common.{◌≡◌, ◌⊎◌, inl, inr, ℕ, suc, ◌+◌, ◌<◌, ◌≤◌, Bool, true, false, ◌||◌, ◌==◌}
use Rattle.std.proofs.Common.{if◌then◌else◌, List, [], ◌∷◌, ◌++◌, length, map, take, drop, reverse, refl, sym}
use Rattle.std.proofs.Common.{◌∙◌, ap, subst, arith, append-nil, append_assoc, length-append, zero-add, add-zero}
use Rattle.std.specs.Prelude.{All}
use Rattle.std.specs.List.{list_any}
use Rattle.std.proofs.lemmas.Bool.{ne_eqb}
use Rattle.std.proofs.lemmas.List.{reverse-append, take-append-drop, take_all, take-take, map-append}
use Rattle.std.proofs.lemmas.List.Elements.{All-head, All-tail, All-nil, All-cons, All-weaker}
use Rattle.std.proofs.lemmas.List.Folds.{list_any-append}
use Rattle.std.proofs.lemmas.List.Sums.{sum_by-cons, sum_by_more, sum_by-take-le}
use Rattle.tty_base.specs.declared.characters.Flagged.{Flagged}
use Rattle.tty_base.specs.declared.lines.LineStep.{LineStep}
use Rattle.tty_base.specs.declared.lines.LineStep.TheVariants.{Unmask, Idle}
use Rattle.tty_base.specs.declared.lines.Overrun.{Overrun}
use Rattle.tty_base.specs.Lines.{arrival_count}
use Rattle.uart_line.specs.Received.{is_cut, window, window_output, received_list_after}
use Rattle.uart_line.specs.Received.{received_list, closed_script, script}
use Rattle.uart_line.specs.Offered.{PutAnswer, appends, refuses, appended_list, overrun_list}
use Rattle.uart_line.specs.Offered.{AreAmong, HandsOver, kept_list_from, kept_list}
use Rattle.uart_line.proofs.Steps.{arrival_count-append, few_arrive}
use Rattle.tty_calls.specs.Limits.{character_count}
use Rattle.tty_calls.specs.Sessions.{PlainPhase, PlainSession, line_on}
use Rattle.legal_runs.specs.Legal.{phase_at, script_of_first, script_on, received_before, IsOverrunOfPhase}
use Rattle.legal_runs.proofs.LineLemmas.{first_more}

-- ---- scripts

pub script_both : (xs ys : List (List LineStep)) → script (xs ++ ys) ≡ script xs ++ script ys
unfolding script
script_both [] ys = refl
script_both (x ∷ xs) ys =
    ap (λ (steps : List LineStep). closed_script x ++ steps) (script_both xs ys)
    ∙ sym (append_assoc (closed_script x) (script xs) (script ys))

-- the script of all phases begins with that of the first
pub script_parts : (p : ℕ) (s : PlainSession) (k : ℕ)
    → script_on p s ≡ script_of_first p s k ++ script (map (line_on p) (drop k s.phases))
script_parts p s k =
    ap (λ (x : List PlainPhase). script (map (line_on p) x)) (sym (take-append-drop k s.phases))
    ∙ ap script (map-append (line_on p) (take k s.phases) (drop k s.phases))
    ∙ script_both (map (line_on p) (take k s.phases)) (map (line_on p) (drop k s.phases))

pub script_whole : (p : ℕ) (s : PlainSession) → script_of_first p s (length s.phases) ≡ script_on p s
script_whole p s =
    ap (λ (x : List PlainPhase). script (map (line_on p) x)) (take_all (length s.phases) s.phases (omega arith))

first_parts : (p : ℕ) (s : PlainSession) (j k : ℕ)
    → j ≤ k
    → script_of_first p s k ≡ script_of_first p s j ++ script (map (line_on p) (drop j (take k s.phases)))
first_parts p s j k h =
    let front : take j (take k s.phases) ≡ take j s.phases = take-take j k s.phases h in
    ap (λ (x : List PlainPhase). script (map (line_on p) x)) (sym (take-append-drop j (take k s.phases)))
    ∙ ap script (map-append (line_on p) (take j (take k s.phases)) (drop j (take k s.phases)))
    ∙ script_both (map (line_on p) (take j (take k s.phases))) (map (line_on p) (drop j (take k s.phases)))
    ∙ ap (λ (x : List PlainPhase). script (map (line_on p) x) ++ script (map (line_on p) (drop j (take k s.phases))))
    front

-- ---- the received list grows

pub record Grown (old new : List Flagged) : Type 0 where
  pub more : List Flagged
  pub grows : new ≡ old ++ more

after_grows : (xs past : List LineStep) → Grown (received_list_after past) (received_list_after (xs ++ past))
unfolding received_list_after
after_grows [] past = record { more = []; grows = sym (append-nil (received_list_after past)) }
after_grows (x ∷ xs) past =
    let rest = after_grows xs past in
    let out : List Flagged =
    if is_cut (x ∷ (xs ++ past)) (window (x ∷ (xs ++ past))) then window_output (window (x ∷ (xs ++ past))) else [] in
    record {
      more = rest.more ++ out;
      grows = ap (λ (cs : List Flagged). cs ++ out) rest.grows ∙ append_assoc (received_list_after past) rest.more out;
    }

pub list_grows : (xs ys : List LineStep) → Grown (received_list xs) (received_list (xs ++ ys))
unfolding received_list
list_grows xs ys = subst (λ (past : List LineStep). Grown (received_list_after (reverse xs)) (received_list_after past))
    (sym (reverse-append xs ys)) (after_grows (reverse ys) (reverse xs))

grown_length : (old new : List Flagged) → Grown old new → length old ≤ length new
grown_length old new h =
    let count = ap (λ (cs : List Flagged). length cs) h.grows ∙ length-append old h.more in omega (arith, count)

pub received_rises : (p : ℕ) (s : PlainSession) (j k : ℕ) → j ≤ k → received_before p s j ≤ received_before p s k
received_rises p s j k h =
    subst (λ (steps : List LineStep). received_before p s j ≤ length (received_list steps))
    (sym (first_parts p s j k h))
    (grown_length (received_list (script_of_first p s j))
    (received_list (script_of_first p s j ++ script (map (line_on p) (drop j (take k s.phases)))))
    (list_grows (script_of_first p s j) (script (map (line_on p) (drop j (take k s.phases))))))

pub received_within : (p : ℕ) (s : PlainSession) (k : ℕ)
    → received_before p s k ≤ length (received_list (script_on p s))
received_within p s k =
    subst (λ (steps : List LineStep). received_before p s k ≤ length (received_list steps)) (sym (script_parts p s k))
    (grown_length (received_list (script_of_first p s k))
    (received_list (script_of_first p s k ++ script (map (line_on p) (drop k s.phases))))
    (list_grows (script_of_first p s k) (script (map (line_on p) (drop k s.phases)))))

order_of : (j k : ℕ) → (j < k) ⊎ ((j ≡ k) ⊎ (k < j))
order_of j k = grind arith

-- an overrun is of one phase
pub one_phase_of : (p : ℕ) (s : PlainSession) (j k : ℕ) (o : Overrun) → IsOverrunOfPhase p s k o
    → IsOverrunOfPhase p s j o → j ≡ k
one_phase_of p s j k o here there = elim (order_of j k) [
  | inl below ↦
      let rises = received_rises p s (j + 1) k (omega (arith, below)) in absurd (omega (arith, rises, here.0, there.1))
  | inr rest ↦ elim rest [
    | inl same ↦ same
    | inr above ↦
        let rises = received_rises p s (k + 1) j (omega (arith, above)) in
        absurd (omega (arith, rises, here.1, there.0))
  ]
]

-- ---- what overruns leave

abbrev is_at : ℕ → Overrun → Bool
is_at place o = o.at == place

none_at : (place : ℕ) (overruns : List Overrun)
    → All (λ o. (o.at ≡ place → ⊥)) overruns
    → list_any (is_at place) overruns ≡ false
none_at place [] h = refl
none_at place (o ∷ os) h =
    ap (λ b. b || list_any (is_at place) os) (ne_eqb o.at place (All-head (λ (x : Overrun). x.at ≡ place → ⊥) o os h))
    ∙ none_at place os (All-tail (λ (x : Overrun). x.at ≡ place → ⊥) o os h)

-- after the last overrun all is kept
kept_rest : (place : ℕ) (list : List Flagged) (overruns : List Overrun)
    → All (λ o. o.at < place) overruns
    → kept_list_from place list overruns ≡ list
unfolding kept_list_from
kept_rest place [] overruns h = refl
kept_rest place (c ∷ cs) overruns h =
    ap (λ b. if b then kept_list_from (place + 1) cs overruns else c ∷ kept_list_from (place + 1) cs overruns)
    (none_at place overruns
    (All-weaker (λ o. o.at < place) (λ o. (o.at ≡ place → ⊥)) (λ o below same. absurd (omega (arith, below, same)))
    overruns h))
    ∙ ap (λ (xs : List Flagged). c ∷ xs)
    (kept_rest (place + 1) cs overruns
    (All-weaker (λ o. o.at < place) (λ o. o.at < place + 1) (λ o below. omega (arith, below)) overruns h))

kept_both : (place : ℕ) (xs ys : List Flagged) (overruns : List Overrun)
    → kept_list_from place (xs ++ ys) overruns
    ≡ kept_list_from place xs overruns ++ kept_list_from (place + length xs) ys overruns
unfolding kept_list_from
kept_both place [] ys overruns = ap (λ n. kept_list_from n ys overruns) (sym (add-zero place))
kept_both place (c ∷ cs) ys overruns =
    let rest : kept_list_from (place + 1) (cs ++ ys) overruns
    ≡ kept_list_from (place + 1) cs overruns ++ kept_list_from (place + suc (length cs)) ys overruns =
    kept_both (place + 1) cs ys overruns
    ∙ ap (λ n. kept_list_from (place + 1) cs overruns ++ kept_list_from n ys overruns) (omega arith) in
    kept_one (list_any (is_at place) overruns) c (kept_list_from (place + 1) (cs ++ ys) overruns)
    (kept_list_from (place + 1) cs overruns) (kept_list_from (place + suc (length cs)) ys overruns) rest
  where
    kept_one : (b : Bool) (c : Flagged) (all front back : List Flagged)
        → all ≡ front ++ back
        → (if b then all else c ∷ all) ≡ (if b then front else c ∷ front) ++ back
    kept_one true c all front back h = h
    kept_one false c all front back h = ap (λ (xs : List Flagged). c ∷ xs) h

-- the overruns of a front of the list leave its rest
pub kept_front : (list more : List Flagged) (overruns : List Overrun)
    → All (λ o. o.at < length list) overruns
    → kept_list (list ++ more) overruns ≡ kept_list list overruns ++ more
kept_front list more overruns h =
    kept_both 0 list more overruns
    ∙ ap (λ n. kept_list list overruns ++ kept_list_from n more overruns) (zero-add (length list))
    ∙ ap (λ (xs : List Flagged). kept_list list overruns ++ xs) (kept_rest (length list) more overruns h)

-- those that stand later leave a front as it is
any_later : (place : ℕ) (overruns more : List Overrun)
    → All (λ o. place < o.at) more
    → list_any (is_at place) (overruns ++ more) ≡ list_any (is_at place) overruns
any_later place overruns more h =
    list_any-append (is_at place) overruns more
    ∙ ap (λ b. list_any (is_at place) overruns || b)
    (none_at place more
    (All-weaker (λ o. place < o.at) (λ o. (o.at ≡ place → ⊥)) (λ o above same. absurd (omega (arith, above, same)))
    more h))
    ∙ or_false (list_any (is_at place) overruns)
  where
    or_false : (b : Bool) → (b || false) ≡ b
    or_false true = refl
    or_false false = refl

kept_later_from : (place : ℕ) (list : List Flagged) (overruns more : List Overrun)
    → All (λ o. place + length list ≤ o.at) more
    → kept_list_from place list (overruns ++ more) ≡ kept_list_from place list overruns
unfolding kept_list_from
kept_later_from place [] overruns more h = refl
kept_later_from place (c ∷ cs) overruns more h =
    let rest = kept_later_from (place + 1) cs overruns more
    (All-weaker (λ o. place + suc (length cs) ≤ o.at) (λ o. (place + 1) + length cs ≤ o.at)
    (λ o above. omega (arith, above)) more h) in
    ap (λ b.
    if b
    then kept_list_from (place + 1) cs (overruns ++ more)
    else c ∷ kept_list_from (place + 1) cs (overruns ++ more))
    (any_later place overruns more
    (All-weaker (λ o. place + suc (length cs) ≤ o.at) (λ o. place < o.at) (λ o above. omega (arith, above)) more h))
    ∙ ap (λ (xs : List Flagged). if list_any (is_at place) overruns then xs else c ∷ xs) rest

pub kept_later : (list : List Flagged) (overruns more : List Overrun)
    → All (λ o. length list ≤ o.at) more
    → kept_list list (overruns ++ more) ≡ kept_list list overruns
kept_later list overruns more h = kept_later_from 0 list overruns more
    (All-weaker (λ o. length list ≤ o.at) (λ o. 0 + length list ≤ o.at) (λ o above. omega (arith, above)) more h)

-- ---- what is handed over

places_below : (place sent : ℕ) (answers : List PutAnswer)
    → All (λ o. o.at < place + length answers) (overrun_list place sent answers)
unfolding overrun_list
places_below place sent [] = All-nil (λ (o : Overrun). o.at < place + 0)
places_below place sent (appends ∷ answers) =
    All-weaker (λ o. o.at < (place + 1) + length answers) (λ o. o.at < place + suc (length answers))
    (λ o below. omega (arith, below)) (overrun_list (place + 1) (sent + 1) answers)
    (places_below (place + 1) (sent + 1) answers)
places_below place sent (refuses seen ∷ answers) =
    All-cons (λ o. o.at < place + suc (length answers)) (record { at = place; sent = sent; seen = seen })
    (overrun_list (place + 1) sent answers) (omega arith)
    (All-weaker (λ o. o.at < (place + 1) + length answers) (λ o. o.at < place + suc (length answers))
    (λ o below. omega (arith, below)) (overrun_list (place + 1) sent answers) (places_below (place + 1) sent answers))

-- the overruns stand in what was handed over
pub overruns_within : (capacity : ℕ) (all sent : List Flagged) (heads : List ℕ) (overruns : List Overrun)
    → HandsOver capacity [] all [] sent [] heads [] overruns
    → All (λ o. o.at < length all) overruns
overruns_within capacity all sent heads overruns h =
    let count : 0 + length h.offers.answers ≡ length all =
    omega (arith, h.offers.one_each, ap (λ (cs : List Flagged). length cs) h.grows) in
    subst (λ (os : List Overrun). All (λ o. o.at < length all) os) (sym h.offers.adds_refused)
    (subst (λ n. All (λ o. o.at < n) (overrun_list 0 0 h.offers.answers)) count (places_below 0 0 h.offers.answers))

each_once : (place sent : ℕ) (list : List Flagged) (answers : List PutAnswer)
    → length answers ≡ length list
    → length (appended_list list answers) + length (overrun_list place sent answers) ≡ length list
unfolding appended_list overrun_list
each_once place sent [] [] h = refl
each_once place sent [] (a ∷ answers) h = absurd (omega (arith, h))
each_once place sent (c ∷ cs) [] h = absurd (omega (arith, h))
each_once place sent (c ∷ cs) (appends ∷ answers) h =
    let rest = each_once (place + 1) (sent + 1) cs answers (omega (arith, h)) in omega (arith, rest)
each_once place sent (c ∷ cs) (refuses seen ∷ answers) h =
    let rest = each_once (place + 1) sent cs answers (omega (arith, h)) in omega (arith, rest)

-- each character was accepted or is an overrun
pub all_counted : (capacity : ℕ) (all sent : List Flagged) (heads : List ℕ) (overruns : List Overrun)
    → HandsOver capacity [] all [] sent [] heads [] overruns
    → length sent + length overruns ≡ length all
all_counted capacity all sent heads overruns h =
    let each = each_once 0 0 h.list h.offers.answers h.offers.one_each in
    let accepted = ap (λ (cs : List Flagged). length cs) h.offers.appends_rest in
    let refused = ap (λ (os : List Overrun). length os) h.offers.adds_refused in
    let handed = ap (λ (cs : List Flagged). length cs) h.grows in
    omega (arith, each, accepted, refused, handed)

among_more : (answers : List PutAnswer) (heads more : List ℕ)
    → AreAmong answers heads
    → AreAmong answers (heads ++ more)
unfolding AreAmong
among_more [] heads more h = tt
among_more (appends ∷ answers) heads more h = among_more answers heads more h
among_more (refuses seen ∷ answers) heads more (before, after, parts, later) = (
  before,
  after ++ more,
  ap (λ (xs : List ℕ). xs ++ more) parts ∙ append_assoc before (seen ∷ after) more,
  among_more answers after more later,
)

-- a head that is loaded between two puts
pub hands_over_loaded : (capacity : ℕ) (all sent : List Flagged) (heads more : List ℕ) (overruns : List Overrun)
    → HandsOver capacity [] all [] sent [] heads [] overruns
    → HandsOver capacity [] all [] sent [] (heads ++ more) [] overruns
hands_over_loaded capacity all sent heads more overruns h = record {
  list = h.list;
  grows = h.grows;
  offers = record {
    answers = h.offers.answers;
    loaded = h.offers.loaded ++ more;
    one_each = h.offers.one_each;
    appends_rest = h.offers.appends_rest;
    adds_refused = h.offers.adds_refused;
    is_full = h.offers.is_full;
    loads = ap (λ (xs : List ℕ). xs ++ more) h.offers.loads ∙ append_assoc [] h.offers.loaded more;
    among_loaded = among_more h.offers.answers h.offers.loaded more h.offers.among_loaded;
  };
}

-- ---- how many characters arrive

closed_arrivals : (steps : List LineStep) → arrival_count (closed_script steps) ≡ arrival_count steps
closed_arrivals steps = arrival_count-append steps (Unmask ∷ Idle 4 ∷ []) ∙ add-zero (arrival_count steps)

script_arrivals : (p : ℕ) (phases : List PlainPhase)
    → arrival_count (script (map (line_on p) phases)) ≡ character_count p phases
unfolding script
script_arrivals p [] = refl
script_arrivals p (x ∷ xs) =
    arrival_count-append (closed_script (line_on p x)) (script (map (line_on p) xs))
    ∙ ap (λ n. n + arrival_count (script (map (line_on p) xs))) (closed_arrivals (line_on p x))
    ∙ ap (λ n. arrival_count (line_on p x) + n) (script_arrivals p xs)
    ∙ sym (sum_by-cons (λ (phase : PlainPhase). arrival_count (line_on p phase)) x xs)

-- there is room for the arrivals of phase k beside those before it
pub arrivals_fit : (p : ℕ) (s : PlainSession) (k : ℕ)
    → k < length s.phases
    → arrival_count (script_of_first p s k) + arrival_count (line_on p (phase_at s k)) ≤ character_count p s.phases
arrivals_fit p s k h =
    let next =
    ap arrival_count (first_more p s k h)
    ∙ arrival_count-append (script_of_first p s k) (closed_script (line_on p (phase_at s k))) in
    let closed = closed_arrivals (line_on p (phase_at s k)) in
    let all = script_arrivals p (take (k + 1) s.phases) in
    let most = sum_by-take-le (λ (phase : PlainPhase). arrival_count (line_on p phase)) s.phases (k + 1) in
    omega (arith, next, closed, all, most)

-- the steps of one more phase bring no more characters than they are
pub room_more : (p : ℕ) (s : PlainSession) (k room : ℕ) (steps : List LineStep)
    → k < length s.phases
    → steps ≡ line_on p (phase_at s k)
    → character_count p (take k s.phases) ≤ room
    → character_count p (take (k + 1) s.phases) ≤ room + length steps
room_more p s k room steps lt is le =
    let more = sum_by_more (λ (phase : PlainPhase). arrival_count (line_on p phase)) s.phases k
    (record { lines = []; ticks = []; callers = [] }) lt in
    omega (arith, more, le, few_arrive steps, ap arrival_count is)

-- some phases bring no more than all
pub count_part : (p : ℕ) (phases : List PlainPhase) (k : ℕ)
    → character_count p (take k phases) ≤ character_count p phases
count_part p phases k = sum_by-take-le (λ (phase : PlainPhase). arrival_count (line_on p phase)) phases k

-- In a finished journal each call is answered once.
use Rattle.std.proofs.Common.{◌≡◌, ⊎_elim, ℕ, zero, suc, ◌+◌, ◌<◌, ◌≤◌, Bool, true, false, ◌&&◌, ◌==◌}
use Rattle.std.proofs.Common.{if◌then◌else◌, cond, List, [], ◌∷◌, ◌++◌, Option, None, Some, length, refl}
use Rattle.std.proofs.Common.{sym, ap, ◌∙◌, arith, eqb-true, eq-eqb, length-append, append-nil, append_assoc}
use Rattle.std.specs.Prelude.{option_to_list, flat_map}
use Rattle.std.specs.Str.{bytes_eq}
use Rattle.std.specs.List.{list_any}
use Rattle.std.specs.Option.{option_or}
use Rattle.std.proofs.lemmas.Bool.{cases_lt, or_parts}
use Rattle.std.proofs.lemmas.List.{take_all}
use Rattle.std.proofs.lemmas.Grind.{flat_map-append}
use Rattle.std.proofs.lemmas.Option.{slice_get_within}
use Rattle.tty_calls.specs.declared.journals.PortRun.{PortRun}
use Rattle.tty_calls.specs.Plain.{PlainCall, PlainAnswer, PlainEvent, answered, parted, waited, flushed, ticked}
use Rattle.tty_calls.specs.Plain.{line_ended, clock_ended, caller_ended, phase_ended, hung_up, PlainEntry, is_caller}
use Rattle.tty_calls.specs.Sessions.{PlainScript, PlainPhase, PlainSession, scripts_on, scripts_over, calls_of, call_at}
use Rattle.tty_terminal.specs.Terminals.{Terminal}
use Rattle.session_print.specs.Report.{answer_of_event, answer_by, answer_in}
use Rattle.tty_base.specs.declared.lines.Overrun.{Overrun}
use Rattle.legal_runs.specs.Legal.{phase_at, name_at, has_script, first_step, steps_in, CallerMark, answers}
use Rattle.legal_runs.specs.Legal.{caller_ends, caller_marks, caller_marks_in, answers_from, caller_part}
use Rattle.legal_runs.specs.Legal.{IsFinishedFrom, IsLegal}
use Rattle.tty_one.specs.Outcome.{answers_to, IsAnsweredOnce}
use Rattle.legal_runs.proofs.NameLemmas.{first_next}

-- how often a step is answered
abbrev chosen : Bool → ℕ
chosen b = cond b 1 0

abbrev one_of : ℕ → CallerMark → ℕ
one_of x (answers n) = chosen (n == x)
one_of x caller_ends = 0

abbrev count : ℕ → List CallerMark → ℕ
count x [] = 0
count x (m ∷ ms) = one_of x m + count x ms

count_append : (x : ℕ) (ms ns : List CallerMark) → count x (ms ++ ns) ≡ count x ms + count x ns
count_append x [] ns = omega arith
count_append x (m ∷ ms) ns = let more = count_append x ms ns in omega (arith, more)

-- ---- answers and marks of an entry

abbrev no_answer : Option PlainAnswer
no_answer = None

none_either : (t : Bool) → length (option_to_list (if t then no_answer else None)) ≡ 0
none_either true = refl
none_either false = refl

some_either : (t : Bool) (a : PlainAnswer) → length (option_to_list (if t then Some a else None)) ≡ chosen t + 0
some_either true a = refl
some_either false a = refl

marked : (b : Bool) (event : PlainEvent) (n x : ℕ)
    → length (option_to_list (if b && (n == x) then answer_of_event event else None))
    ≡ count x (if b then caller_marks event n else [])
marked false event n x = refl
marked true (answered a dropped) n x = some_either (n == x) a
marked true (parted taken) n x = none_either (n == x)
marked true waited n x = none_either (n == x)
marked true (flushed chars) n x = none_either (n == x)
marked true ticked n x = none_either (n == x)
marked true (line_ended sent) n x = none_either (n == x)
marked true clock_ended n x = none_either (n == x)
marked true caller_ended n x = none_either (n == x)
marked true phase_ended n x = none_either (n == x)
marked true (hung_up dropped) n x = none_either (n == x)

answers_counted : (c x : ℕ) (es : List PlainEntry) → length (answers_to es c x) ≡ count x (caller_marks_in c es)
answers_counted c x [] = refl
answers_counted c x (e ∷ es) =
    let own : List CallerMark = if is_caller e.who c then caller_marks e.event e.step else [] in
    let here : length (option_to_list (answer_by e c x)) ≡ count x own = marked (is_caller e.who c) e.event e.step x in
    omega (
      arith,
      length-append (option_to_list (answer_by e c x)) (answers_to es c x),
      here,
      answers_counted c x es,
      count_append x own (caller_marks_in c es),
    )

-- ---- how often the marks of a session answer a step

not_same : (a x : ℕ) → (a ≡ x → ⊥) → (a == x) ≡ false
not_same a x apart = by_test (a == x) refl
  where
    by_test : (b : Bool) → (a == x) ≡ b → b ≡ false
    by_test true e = absurd (apart (eqb-true a x e))
    by_test false e = refl

before_all : (a n x : ℕ) → x < a → count x (answers_from a n) ≡ 0
before_all a zero x h = refl
before_all a (suc n) x h =
    let later = before_all (a + 1) n x (omega arith) in
    let here : chosen (a == x) ≡ 0 = ap chosen (not_same a x (λ e. omega (arith, e, h))) in
    omega (arith, here, later)

after_all : (a n x : ℕ) → a + n ≤ x → count x (answers_from a n) ≡ 0
after_all a zero x h = refl
after_all a (suc n) x h =
    let later = after_all (a + 1) n x (omega arith) in
    let here : chosen (a == x) ≡ 0 = ap chosen (not_same a x (λ e. omega (arith, e, h))) in
    omega (arith, here, later)

among_them : (a n x : ℕ) → a ≤ x → x < a + n → count x (answers_from a n) ≡ 1
among_them a zero x low high = absurd (omega (arith, low, high))
among_them a (suc n) x low high =
    ⊎_elim
    (λ (first : x < a + 1).
    let same : a ≡ x = omega arith in
    let here : chosen (a == x) ≡ 1 = ap chosen (eq-eqb a x same) in
    omega (arith, here, before_all (a + 1) n x first))
    (λ (later : a + 1 ≤ x).
    let here : chosen (a == x) ≡ 0 = ap chosen (not_same a x (λ e. omega (arith, e, later))) in
    omega (arith, here, among_them (a + 1) n x later (omega arith)))
    (cases_lt x (a + 1))

-- a caller without a script has no calls
no_script : (scripts : List PlainScript) (name : Option (List ℕ))
    → has_script scripts name ≡ false
    → length (calls_of scripts name) ≡ 0
no_script scripts None h = refl
no_script [] (Some name) h = refl
no_script (s ∷ ss) (Some name) h =
    let parts = or_parts (bytes_eq s.name name) (list_any (λ x. bytes_eq x.name name) ss) h in
    ap (λ b. length ((if b then s.calls else []) ++ calls_of ss (Some name))) parts.0 ∙ no_script ss (Some name) parts.1

part_either : (b : Bool) (x a n : ℕ)
    → (b ≡ false → n ≡ 0)
    → count x (if b then answers_from a n ++ caller_ends ∷ [] else []) ≡ count x (answers_from a n)
part_either true x a n h = count_append x (answers_from a n) (caller_ends ∷ []) ∙ omega arith
part_either false x a n h = ap (λ m. count x (answers_from a m)) (sym (h refl))

-- ---- the marks of a finished journal

-- the parts of a journal, for one kind of entry
split_of : {X : Type 0} (f : PlainEntry → List X) (part : List PlainEntry) (last : PlainEntry) (rest : List PlainEntry)
    (own : List X) (later : List X)
    → flat_map f part ++ f last ≡ own
    → flat_map f rest ≡ later
    → flat_map f (part ++ last ∷ rest) ≡ own ++ later
split_of f part last rest own later here there =
    flat_map-append f part (last ∷ rest)
    ∙ sym (append_assoc (flat_map f part) (f last) (flat_map f rest))
    ∙ ap (λ x. x ++ flat_map f rest) here
    ∙ ap (λ x. own ++ x) there

abbrev marks_from : ℕ → PlainSession → ℕ → ℕ → List PlainPhase → List CallerMark
marks_from p s c k [] = []
marks_from p s c k (phase ∷ phases) = caller_part p s k c ++ marks_from p s c (k + 1) phases

none_marked : (b : Bool) (event : PlainEvent) (step : ℕ)
    → caller_marks event step ≡ []
    → (if b then caller_marks event step else []) ≡ []
none_marked true event step h = h
none_marked false event step h = refl

finished_callers : (p : ℕ) (s : PlainSession) (overruns : List Overrun) (c k : ℕ) (phases : List PlainPhase)
    (journal : List PlainEntry)
    → IsFinishedFrom p s overruns k phases journal
    → caller_marks_in c journal ≡ marks_from p s c k phases
finished_callers p s overruns c k [] journal h =
    ap (caller_marks_in c) h.alone
    ∙ ap (λ x. x ++ []) (none_marked (is_caller h.entry.who c) h.entry.event h.entry.step
    (ap (λ x. caller_marks x h.entry.step) h.is_hangup))
finished_callers p s overruns c k (phase ∷ phases) journal h =
    let own : List CallerMark = caller_part p s k c in
    ap (caller_marks_in c) h.parts
    ∙ split_of (λ e. if is_caller e.who c then caller_marks e.event e.step else []) h.part h.last h.rest own
    (marks_from p s c (k + 1) phases)
    (ap (λ x. x ++ (if is_caller h.last.who c then caller_marks h.last.event h.last.step else [])) (h.is_part.callers c)
    ∙ ap (λ x. own ++ x)
    (none_marked (is_caller h.last.who c) h.last.event h.last.step (ap (λ x. caller_marks x h.last.step) h.ends))
    ∙ append-nil own)
    (finished_callers p s overruns c (k + 1) phases h.rest h.goes_on)

part_counted : (p : ℕ) (s : PlainSession) (k c x : ℕ)
    → count x (caller_part p s k c) ≡ count x (answers_from (first_step p s k c) (steps_in p s k c))
part_counted p s k c x =
    part_either (has_script (scripts_on p (phase_at s k)) (name_at p s c)) x (first_step p s k c) (steps_in p s k c)
    (no_script (scripts_on p (phase_at s k)) (name_at p s c))

-- the phases from phase k on do not answer an earlier p step
earlier : (p : ℕ) (s : PlainSession) (c x k : ℕ) (phases : List PlainPhase)
    → k + length phases ≡ length s.phases
    → x < first_step p s k c
    → count x (marks_from p s c k phases) ≡ 0
earlier p s c x k [] all h = refl
earlier p s c x k (phase ∷ phases) all h =
    let next = first_next p s k c (omega (arith, all)) in
    let later = earlier p s c x (k + 1) phases (omega (arith, all)) (omega (arith, next, h)) in
    omega (
      arith,
      count_append x (caller_part p s k c) (marks_from p s c (k + 1) phases),
      part_counted p s k c x,
      before_all (first_step p s k c) (steps_in p s k c) x h,
      later,
    )

-- and they answer each of their own once
theirs : (p : ℕ) (s : PlainSession) (c x k : ℕ) (phases : List PlainPhase)
    → k + length phases ≡ length s.phases
    → first_step p s k c ≤ x
    → x < first_step p s (length s.phases) c
    → count x (marks_from p s c k phases) ≡ 1
theirs p s c x k [] all low high =
    let here : k ≡ length s.phases = omega (arith, all) in
    absurd (omega (arith, low, high, ap (λ n. first_step p s n c) here))
theirs p s c x k (phase ∷ phases) all low high =
    let first : ℕ = first_step p s k c in
    let steps : ℕ = steps_in p s k c in
    let next : first_step p s (k + 1) c ≡ first + steps = first_next p s k c (omega (arith, all)) in
    let whole = count_append x (caller_part p s k c) (marks_from p s c (k + 1) phases) in
    let part = part_counted p s k c x in
    let rest : k + 1 + length phases ≡ length s.phases = omega (arith, all) in
    ⊎_elim
    (λ (own : x < first + steps). omega (
      arith,
      whole,
      part,
      among_them first steps x low own,
      earlier p s c x (k + 1) phases rest (omega (arith, next, own)),
    ))
    (λ (later : first + steps ≤ x). omega (
      arith,
      whole,
      part,
      after_all first steps x later,
      theirs p s c x (k + 1) phases rest (omega (arith, next, later)) high,
    ))
    (cases_lt x (first + steps))

-- ---- one answer

first_is : (a b : PlainAnswer) (as' bs : List PlainAnswer) → a ∷ as' ≡ b ∷ bs → (a ≡ b) × (as' ≡ bs)
first_is a b as' bs h = (cc, cc)

none_either_in : (o : Option PlainAnswer) (later : Option PlainAnswer) (told : List PlainAnswer)
    → (told ≡ [] → later ≡ None)
    → option_to_list o ++ told ≡ []
    → option_or later o ≡ None
none_either_in None later told more h = ap (λ x. option_or x None) (more h)
none_either_in (Some a) later told more h = cc

no_answer_in : (es : List PlainEntry) (c x : ℕ) → answers_to es c x ≡ [] → answer_in es c x ≡ None
no_answer_in [] c x h = refl
no_answer_in (e ∷ es) c x h =
    none_either_in (answer_by e c x) (answer_in es c x) (answers_to es c x) (no_answer_in es c x) h

or_none : (o : Option PlainAnswer) → option_or o None ≡ o
or_none None = refl
or_none (Some b) = refl

one_either_in : (o : Option PlainAnswer) (later : Option PlainAnswer) (told : List PlainAnswer) (a : PlainAnswer)
    → (told ≡ [] → later ≡ None)
    → (told ≡ a ∷ [] → later ≡ Some a)
    → option_to_list o ++ told ≡ a ∷ []
    → option_or later o ≡ Some a
one_either_in None later told a none more h = or_none later ∙ more h
one_either_in (Some b) later told a none more h =
    let only = first_is b a told [] h in
    ap (λ x. option_or x (Some b)) (none only.1) ∙ ap (λ y. Some y) only.0

one_answer_in : (es : List PlainEntry) (c x : ℕ) (a : PlainAnswer)
    → answers_to es c x ≡ a ∷ []
    → answer_in es c x ≡ Some a
one_answer_in [] c x a h = cc
one_answer_in (e ∷ es) c x a h = one_either_in (answer_by e c x) (answer_in es c x) (answers_to es c x) a
    (no_answer_in es c x) (one_answer_in es c x a) h

once : (es : List PlainEntry) (c x : ℕ) (told : List PlainAnswer)
    → answers_to es c x ≡ told
    → length told ≡ 1
    → IsAnsweredOnce es c x
once es c x [] is one = absurd (omega (arith, one))
once es c x (a ∷ []) is one = record { answer = a; once = is; printed = one_answer_in es c x a is }
once es c x (a ∷ b ∷ more) is one = absurd (omega (arith, one))

pub answered_once : (p : ℕ) (session : PlainSession) (run : PortRun) (t : Terminal)
    → IsLegal p session run t
    → (c step : ℕ) (call : PlainCall)
    → call_at p session c step ≡ Some call
    → IsAnsweredOnce run.journal.items c step
answered_once p session run t h c step call is =
    let es : List PlainEntry = run.journal.items in
    let all : first_step p session (length session.phases) c
    ≡ length (calls_of (scripts_over p session.phases) (name_at p session c)) =
    ap (λ phases. length (calls_of (scripts_over p phases) (name_at p session c)))
    (take_all (length session.phases) session.phases (omega arith))
    in
    let below : step < first_step p session (length session.phases) c =
    omega
    (arith, all, slice_get_within (calls_of (scripts_over p session.phases) (name_at p session c)) step call is) in
    let marks = finished_callers p session run.line.overruns.items c 0 session.phases es h.account.finished in
    let one : length (answers_to es c step) ≡ 1 =
    answers_counted c step es
    ∙ ap (count step) marks
    ∙ theirs p session c step 0 session.phases (omega arith) (omega (arith, none_before p session c)) below
    in
    once es c step (answers_to es c step) refl one
  where
    none_before : (p : ℕ) (s : PlainSession) (c : ℕ) → first_step p s 0 c ≡ 0
    none_before p s c = first_none (name_at p s c)
      where
        first_none : (name : Option (List ℕ)) → length (calls_of [] name) ≡ 0
        first_none None = refl
        first_none (Some name) = refl

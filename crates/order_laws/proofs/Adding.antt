-- A session with one call more grew out of the session.
use Rattle.std.proofs.Common.{◌≡◌, ◌≢◌, ◌≤◌, ◌<◌, ℕ, ◌+◌, List, [], ◌∷◌, ◌++◌, Bool, true, false}
use Rattle.std.proofs.Common.{Option, None, Some, if◌then◌else◌, length, map, take, get_or, refl}
use Rattle.std.proofs.Common.{sym, ◌∙◌, ap, subst, arith, append-nil, append_assoc, length-append}
use Rattle.std.specs.Prelude.{slice_get}
use Rattle.std.specs.Str.{bytes_eq}
use Rattle.std.proofs.lemmas.Grind.{flat_map-append}
use Rattle.std.proofs.lemmas.List.{map-append, take-map, take-append-le, get_or_append_left}
use Rattle.std.proofs.Math.ListN.{get_or-map}
use Rattle.std.proofs.Math.Seq.{get_or-append_seam}
use Rattle.tty_calls.specs.Plain.{PlainCall}
use Rattle.tty_calls.specs.Sessions.{PlainScript, PlainPhase, PlainSession, scripts_on}
use Rattle.tty_calls.specs.Sessions.{scripts_over, names_of, calls_under, calls_of, call_at}
use Rattle.tty_terminal.specs.Runs.{KnowsMore}
use Rattle.legal_runs.proofs.NameLemmas.{get_append}
use Rattle.play_base.proofs.NameLemmas.{eq_name}
use Rattle.legal_runs.specs.Legal.{phase_at, name_at, first_step, steps_in}
use Rattle.order_laws.specs.Growth.{names_in, HasShape, Grew, AddsCall, with_call, joined}
use Rattle.order_laws.proofs.Shapes.{name_of, names_same, name_same}

-- ---- names

names_over : (p : ℕ) (phases : List PlainPhase)
    → map (names_in p) phases ≡ map (map name_of) (map (scripts_on p) phases)
names_over p [] = refl
names_over p (phase ∷ phases) = ap (λ (ns : List (List (List ℕ))). names_in p phase ∷ ns) (names_over p phases)

names_stay : (before : List PlainScript) (script : PlainScript) (call : PlainCall) (after : List PlainScript)
    → map name_of (before ++ with_call script call ∷ after) ≡ map name_of (before ++ script ∷ after)
names_stay before script call after =
    map-append name_of before (with_call script call ∷ after) ∙ sym (map-append name_of before (script ∷ after))

phase_names : (past : List (List PlainScript)) (xs ys : List PlainScript) (future : List (List PlainScript))
    → map name_of xs ≡ map name_of ys
    → map (map name_of) (past ++ xs ∷ future) ≡ map (map name_of) (past ++ ys ∷ future)
phase_names past xs ys future same =
    map-append (map name_of) past (xs ∷ future)
    ∙ (ap (λ (ns : List (List ℕ)). map (map name_of) past ++ ns ∷ map (map name_of) future) same
    ∙ sym (map-append (map name_of) past (ys ∷ future)))

pub shape_stays : (p k : ℕ) (session later : PlainSession) (name : List ℕ)
    → AddsCall p k session later name
    → HasShape p session later
shape_stays p k session later name h =
    record {
      consoles = h.consoles;
      flip = h.flip;
      lines = h.lines;
      names =
          names_over p later.phases
          ∙ (ap (map (map name_of)) h.are
          ∙ (phase_names h.past _ _ h.future (names_stay h.before h.script h.call h.after)
          ∙ (ap (map (map name_of)) (sym h.were) ∙ sym (names_over p session.phases))));
    }

-- ---- calls under a name

abbrev own : List ℕ → PlainScript → List PlainCall
own name s = if bytes_eq s.name name then s.calls else []

under_parts : (name : List ℕ) (before : List PlainScript) (s : PlainScript) (after : List PlainScript)
    → calls_under name (before ++ s ∷ after) ≡ calls_under name before ++ (own name s ++ calls_under name after)
under_parts name before s after = flat_map-append (own name) before (s ∷ after)

-- what a further call adds under a name
abbrev added : List ℕ → PlainScript → PlainCall → List PlainCall
added name s call = if bytes_eq s.name name then call ∷ [] else []

own_more : (b : Bool) (s : PlainScript) (call : PlainCall) (rest : List PlainCall)
    → (b ≡ true → rest ≡ [])
    → (if b then s.calls ++ call ∷ [] else []) ++ rest
    ≡ ((if b then s.calls else []) ++ rest) ++ (if b then call ∷ [] else [])
own_more true s call rest none =
    ap (λ (cs : List PlainCall). (s.calls ++ call ∷ []) ++ cs) (none refl)
    ∙ (append-nil (s.calls ++ call ∷ [])
    ∙ ap (λ (cs : List PlainCall). cs ++ call ∷ [])
    (sym (ap (λ (cs : List PlainCall). s.calls ++ cs) (none refl) ∙ append-nil s.calls)))
own_more false s call rest none = sym (append-nil rest)

under_more : (name : List ℕ) (before : List PlainScript) (s : PlainScript) (call : PlainCall) (after : List PlainScript)
    → (bytes_eq s.name name ≡ true → calls_under name after ≡ [])
    → calls_under name (before ++ with_call s call ∷ after)
    ≡ calls_under name (before ++ s ∷ after) ++ added name s call
under_more name before s call after none =
    let front = calls_under name before in
    under_parts name before (with_call s call) after
    ∙ (ap (λ (cs : List PlainCall). front ++ cs) (own_more (bytes_eq s.name name) s call (calls_under name after) none)
    ∙ (sym (append_assoc front (own name s ++ calls_under name after) (added name s call))
    ∙ ap (λ (cs : List PlainCall). cs ++ added name s call) (sym (under_parts name before s after))))

-- ---- scripts over phases

over_joined : (p : ℕ) (phases : List PlainPhase) → scripts_over p phases ≡ joined (map (scripts_on p) phases)
over_joined p [] = refl
over_joined p (phase ∷ phases) = ap (λ (ss : List PlainScript). scripts_on p phase ++ ss) (over_joined p phases)

joined_parts : (past : List (List PlainScript)) (before : List PlainScript) (s : PlainScript) (after : List PlainScript)
    (future : List (List PlainScript))
    → joined (past ++ (before ++ s ∷ after) ∷ future) ≡ (joined past ++ before) ++ s ∷ (after ++ joined future)
joined_parts past before s after future =
    flat_map-append (λ (ss : List PlainScript). ss) past ((before ++ s ∷ after) ∷ future)
    ∙ (ap (λ (ss : List PlainScript). joined past ++ ss) (append_assoc before (s ∷ after) (joined future))
    ∙ sym (append_assoc (joined past) before (s ∷ (after ++ joined future))))

were_all : (p k : ℕ) (session later : PlainSession) (name : List ℕ) → (h : AddsCall p k session later name)
    → scripts_over p session.phases ≡ (joined h.past ++ h.before) ++ h.script ∷ (h.after ++ joined h.future)
were_all p k session later name h =
    over_joined p session.phases ∙ (ap joined h.were ∙ joined_parts h.past h.before h.script h.after h.future)

are_all : (p k : ℕ) (session later : PlainSession) (name : List ℕ) → (h : AddsCall p k session later name)
    → scripts_over p later.phases
    ≡ (joined h.past ++ h.before) ++ with_call h.script h.call ∷ (h.after ++ joined h.future)
are_all p k session later name h =
    over_joined p later.phases
    ∙ (ap joined h.are ∙ joined_parts h.past h.before (with_call h.script h.call) h.after h.future)

-- ---- each caller's calls

none_behind : (p k : ℕ) (session later : PlainSession) (name : List ℕ) → (h : AddsCall p k session later name)
    → (n : List ℕ)
    → bytes_eq h.script.name n ≡ true
    → calls_under n (h.after ++ joined h.future) ≡ []
none_behind p k session later name h n e =
    subst (λ (m : List ℕ). calls_under m (h.after ++ joined h.future) ≡ []) (sym h.by_name ∙ eq_name h.script.name n e)
    h.last

name_more : (p k : ℕ) (session later : PlainSession) (name : List ℕ) → (h : AddsCall p k session later name)
    → (n : List ℕ)
    → calls_under n (scripts_over p later.phases)
    ≡ calls_under n (scripts_over p session.phases) ++ added n h.script h.call
name_more p k session later name h n =
    ap (calls_under n) (are_all p k session later name h)
    ∙ (under_more n (joined h.past ++ h.before) h.script h.call (h.after ++ joined h.future)
    (none_behind p k session later name h n)
    ∙ ap (λ (ss : List PlainScript). calls_under n ss ++ added n h.script h.call)
    (sym (were_all p k session later name h)))

call_more : (p k : ℕ) (session later : PlainSession) (name : List ℕ) → (h : AddsCall p k session later name)
    → (o : Option (List ℕ)) (step : ℕ) (call : PlainCall)
    → slice_get (calls_of (scripts_over p session.phases) o) step ≡ Some call
    → slice_get (calls_of (scripts_over p later.phases) o) step ≡ Some call
call_more p k session later name h None step call e = e
call_more p k session later name h (Some n) step call e =
    subst (λ (cs : List PlainCall). slice_get cs step ≡ Some call) (sym (name_more p k session later name h n))
    (get_append (calls_under n (scripts_over p session.phases)) _ step call e)

calls_grow : (p k : ℕ) (session later : PlainSession) (name : List ℕ)
    → AddsCall p k session later name
    → KnowsMore (call_at p session) (call_at p later)
calls_grow p k session later name h c step call e =
    let same = names_same p session later (shape_stays p k session later name h) in
    subst
    (λ (names : List (List ℕ)). slice_get (calls_of (scripts_over p later.phases) (slice_get names c)) step ≡ Some call)
    (sym same)
    (call_more p k session later name h (slice_get (names_of (scripts_over p session.phases)) c) step call e)

-- ---- each phase

abbrev length_of : List PlainScript → Option (List ℕ) → ℕ
length_of scripts name = length (calls_of scripts name)

first_over : (p k j : ℕ) (phases : List PlainPhase) (past rest : List (List PlainScript))
    → map (scripts_on p) phases ≡ past ++ rest
    → length past ≡ k
    → j ≤ k
    → scripts_over p (take j phases) ≡ joined (take j past)
first_over p k j phases past rest are at le =
    over_joined p (take j phases)
    ∙ ap joined
    (sym (take-map (scripts_on p) j phases) ∙ (ap (take j) are ∙ take-append-le j past rest (omega (arith, at, le))))

first_stays : (p k : ℕ) (session later : PlainSession) (name : List ℕ)
    → AddsCall p k session later name
    → (j c : ℕ)
    → j ≤ k
    → first_step p later j c ≡ first_step p session j c
first_stays p k session later name h j c le =
    let scripts =
    first_over p k j later.phases h.past _ h.are h.in_phase le
    ∙ sym (first_over p k j session.phases h.past _ h.were h.in_phase le) in
    let o = name_same p session later c (shape_stays p k session later name h) in
    λ i. length (calls_of (scripts i) (o i))

abbrev nothing : PlainPhase
nothing = record { lines = []; ticks = []; callers = [] }

scripts_at : (p j : ℕ) (session : PlainSession)
    → scripts_on p (phase_at session j) ≡ get_or (map (scripts_on p) session.phases) j []
scripts_at p j session = sym (get_or-map (scripts_on p) session.phases j nothing)

past_at : (p k j : ℕ) (session : PlainSession) (past rest : List (List PlainScript))
    → map (scripts_on p) session.phases ≡ past ++ rest
    → length past ≡ k
    → j < k
    → scripts_on p (phase_at session j) ≡ get_or past j []
past_at p k j session past rest are at lt =
    scripts_at p j session
    ∙ (ap (λ (ss : List (List PlainScript)). get_or ss j []) are
    ∙ get_or_append_left past rest [] j (omega (arith, at, lt)))

now_at : (p k : ℕ) (session : PlainSession) (past : List (List PlainScript)) (here : List PlainScript)
    (future : List (List PlainScript))
    → map (scripts_on p) session.phases ≡ past ++ here ∷ future
    → length past ≡ k
    → scripts_on p (phase_at session k) ≡ here
now_at p k session past here future are at =
    scripts_at p k session
    ∙ (ap (λ (ss : List (List PlainScript)). get_or ss k []) are
    ∙ (ap (λ (n : ℕ). get_or (past ++ here ∷ future) n []) (sym at) ∙ get_or-append_seam past here future []))

steps_stay : (p k : ℕ) (session later : PlainSession) (name : List ℕ)
    → AddsCall p k session later name
    → (j c : ℕ)
    → j < k
    → steps_in p later j c ≡ steps_in p session j c
steps_stay p k session later name h j c lt =
    let scripts =
    past_at p k j later h.past _ h.are h.in_phase lt ∙ sym (past_at p k j session h.past _ h.were h.in_phase lt) in
    let o = name_same p session later c (shape_stays p k session later name h) in
    λ i. length (calls_of (scripts i) (o i))

-- in the phase itself
own_length : (b : Bool) (s : PlainScript) (call : PlainCall)
    → length (if b then s.calls ++ call ∷ [] else []) ≡ length (if b then s.calls else []) + (if b then 1 else 0)
own_length true s call = length-append s.calls (call ∷ [])
own_length false s call = refl

here_length : (name : List ℕ) (before : List PlainScript) (s : PlainScript) (call : PlainCall)
    (after : List PlainScript)
    → length (calls_under name (before ++ with_call s call ∷ after))
    ≡ length (calls_under name (before ++ s ∷ after)) + (if bytes_eq s.name name then 1 else 0)
here_length name before s call after =
    let front = calls_under name before in
    let rest = calls_under name after in
    let more = ap (λ (cs : List PlainCall). length cs) (under_parts name before (with_call s call) after) in
    let less = ap (λ (cs : List PlainCall). length cs) (under_parts name before s after) in
    omega (
      arith,
      more,
      less,
      own_length (bytes_eq s.name name) s call,
      length-append front (own name (with_call s call) ++ rest),
      length-append front (own name s ++ rest),
      length-append (own name (with_call s call)) rest,
      length-append (own name s) rest,
    )

now_is : (p k : ℕ) (session later : PlainSession) (name : List ℕ) → (h : AddsCall p k session later name) → (c : ℕ)
    → steps_in p later k c ≡ length_of (h.before ++ with_call h.script h.call ∷ h.after) (name_at p session c)
now_is p k session later name h c =
    let scripts = now_at p k later h.past _ h.future h.are h.in_phase in
    let o = name_same p session later c (shape_stays p k session later name h) in
    λ i. length (calls_of (scripts i) (o i))

was_is : (p k : ℕ) (session later : PlainSession) (name : List ℕ) → (h : AddsCall p k session later name) → (c : ℕ)
    → steps_in p session k c ≡ length_of (h.before ++ h.script ∷ h.after) (name_at p session c)
was_is p k session later name h c =
    let scripts = now_at p k session h.past _ h.future h.were h.in_phase in
    λ i. length (calls_of (scripts i) (name_at p session c))

here_rises : (o : Option (List ℕ)) (before : List PlainScript) (s : PlainScript) (call : PlainCall)
    (after : List PlainScript)
    → length_of (before ++ s ∷ after) o ≤ length_of (before ++ with_call s call ∷ after) o
here_rises None before s call after = omega arith
here_rises (Some n) before s call after = (let is = here_length n before s call after in omega (arith, is))

here_stays : (o : Option (List ℕ)) (name : List ℕ) (before : List PlainScript) (s : PlainScript) (call : PlainCall)
    (after : List PlainScript)
    → s.name ≡ name
    → o ≢ Some name
    → length_of (before ++ with_call s call ∷ after) o ≡ length_of (before ++ s ∷ after) o
here_stays None name before s call after is other = refl
here_stays (Some n) name before s call after is other = by_test (bytes_eq s.name n) refl
  where
    by_test : (b : Bool)
        → bytes_eq s.name n ≡ b
        → length_of (before ++ with_call s call ∷ after) (Some n) ≡ length_of (before ++ s ∷ after) (Some n)
    by_test true e = absurd (other (ap (λ (m : List ℕ). Some m) (sym (eq_name s.name n e) ∙ is)))
    by_test false e = (let none = ap {B = ℕ} (λ (b : Bool). if b then 1 else 0) e in
        omega (arith, here_length n before s call after, none))

pub grew : (p k : ℕ) (session later : PlainSession) (name : List ℕ)
    → AddsCall p k session later name
    → Grew p k session later
grew p k session later name h =
    record {
      shape = shape_stays p k session later name h;
      calls = calls_grow p k session later name h;
      first = first_stays p k session later name h;
      before = steps_stay p k session later name h;
      now = λ c.
          (let was = was_is p k session later name h c in
          let now = now_is p k session later name h c in
          omega (arith, was, now, here_rises (name_at p session c) h.before h.script h.call h.after));
    }

pub others_stay : (p k : ℕ) (session later : PlainSession) (name : List ℕ) (c : ℕ)
    → AddsCall p k session later name
    → name_at p session c ≢ Some name
    → steps_in p later k c ≡ steps_in p session k c
others_stay p k session later name c h other =
    now_is p k session later name h c
    ∙ (here_stays (name_at p session c) name h.before h.script h.call h.after h.by_name other
    ∙ sym (was_is p k session later name h c))

-- The roles of a phase, from the session.
use Rattle.std.proofs.Common.{◌≡◌, ◌≢◌, ◌⊎◌, inl, inr, ℕ, zero, suc, ◌+◌, ◌*◌, ◌^◌, ◌<◌, ◌≤◌, Bool, true, false}
use Rattle.std.proofs.Common.{◌||◌, ◌==◌, cond, if◌then◌else◌, List, [], ◌∷◌, ◌++◌, Option, None, Some, length}
use Rattle.std.proofs.Common.{take, drop, map, refl, sym, ◌∙◌, ap, subst, arith, length-append, add-zero}
use Rattle.std.specs.Prelude.{slice_get, slice_index_or, slice_set, All, AllPairs, Contains}
use Rattle.std.specs.Prelude.{IsSome, filter, flat_map, sum, sum_by, option_to_list}
use Rattle.std.specs.Str.{bytes_eq}
use Rattle.std.proofs.lemmas.Bool.{false≢true, cases_eq, or_cases, or_left, or_right}
use Rattle.std.proofs.lemmas.List.{take-append-drop, length-map, length-set, get_or-set_same, get_or-set_other}
use Rattle.std.proofs.lemmas.List.Concat.{length-flat_map}
use Rattle.std.proofs.lemmas.List.Elements.{All-weaker, All-contains_itself, All-map, All-tail, All-head}
use Rattle.std.proofs.lemmas.List.Elements.{All-contains, All-filter, All-nil, All-cons, Contains-append_right}
use Rattle.std.proofs.lemmas.List.Folds.{list_any-append}
use Rattle.std.proofs.lemmas.List.Kept.{AllPairs-cons}
use Rattle.std.proofs.lemmas.List.Sums.{sum-map, sum_by-cons, sum_by-append, sum_by-le}
use Rattle.std.proofs.lemmas.Grind.{flat_map-append}
use Rattle.tty_base.specs.Sizes.{MOST_CALLERS, MOST_PHASES}
use Rattle.tty_calls.specs.declared.sessions.Script.{Script}
use Rattle.tty_calls.specs.declared.sessions.Session.{Session}
use Rattle.tty_calls.specs.Plain.{PlainCall}
use Rattle.tty_calls.specs.Limits.{IsScriptWithin, IsPhaseWithin, IsWithinLimits, call_count}
use Rattle.tty_calls.specs.Sessions.{PlainScript, PlainPhase, PlainSession, session_of, scripts_on}
use Rattle.tty_calls.specs.Sessions.{scripts_over, number_in, calls_under, calls_of, call_at, counts_on}
use Rattle.tty_terminal.specs.Steps.{callers_in}
use Rattle.legal_runs.specs.Legal.{phase_at, name_at, has_script, first_step, IsCallerOf}
use Rattle.play_base.specs.declared.roles.Role.{Role}
use Rattle.play_base.specs.Roles.{Scene, scene_of, PlainRole, numbers_in, IsRoleOf, AreRolesOf, role_in, names_in}
use Rattle.play_base.specs.Roles.{AreFirstSteps}
use Rattle.play_base.specs.Casting.{number_or, role_for, IsNumbered, own_scripts, cast_of, steps_after, scripts_at}
use Rattle.play_base.proofs.NameLemmas.{get_within, number_at, script_has_number, few_names, has_name, HaveOwnNames}
use Rattle.play_base.proofs.NameLemmas.{own_names, own_calls, has_at, eq_name}
use Rattle.legal_runs.proofs.NameLemmas.{call_of_phase, first_next, over_next, same_name}
use Rattle.legal_runs.proofs.ScriptLemmas.{at_number, first_few, no_calls, phase_within}

-- ---- the scripts of the phases

over_all : (p : ℕ) (s : PlainSession) (k : ℕ)
    → scripts_over p s.phases ≡ scripts_over p (take (k + 1) s.phases) ++ scripts_over p (drop (k + 1) s.phases)
over_all p s k =
    ap (scripts_over p) (sym (take-append-drop (k + 1) s.phases))
    ∙ flat_map-append (scripts_on p) (take (k + 1) s.phases) (drop (k + 1) s.phases)

pub over_parts : (p : ℕ) (s : PlainSession) (k : ℕ)
    → k < length s.phases
    → scripts_over p s.phases
    ≡ (scripts_over p (take k s.phases) ++ scripts_on p (phase_at s k)) ++ scripts_over p (drop (k + 1) s.phases)
over_parts p s k h =
    over_all p s k ∙ ap (λ (x : List PlainScript). x ++ scripts_over p (drop (k + 1) s.phases)) (over_next p s k h)

-- a script of a phase is one of the session
has_later : (xs ys zs : List PlainScript) (name : List ℕ)
    → has_name ys name ≡ true
    → has_name ((xs ++ ys) ++ zs) name ≡ true
has_later xs ys zs name h =
    list_any-append (λ s. bytes_eq s.name name) (xs ++ ys) zs
    ∙ or_left (has_name (xs ++ ys) name) (has_name zs name)
    (list_any-append (λ s. bytes_eq s.name name) xs ys ∙ or_right (has_name xs name) (has_name ys name) h)

pub has_over : (p : ℕ) (s : PlainSession) (k : ℕ) (name : List ℕ)
    → k < length s.phases
    → has_name (scripts_on p (phase_at s k)) name ≡ true
    → has_name (scripts_over p s.phases) name ≡ true
has_over p s k name within h =
    ap (λ (x : List PlainScript). has_name x name) (over_parts p s k within)
    ∙ has_later (scripts_over p (take k s.phases)) (scripts_on p (phase_at s k))
    (scripts_over p (drop (k + 1) s.phases)) name h

-- ---- counts

pub sum_counts : (p : ℕ) (s : PlainSession) → sum (counts_on p s) ≡ length (scripts_over p s.phases)
sum_counts p s = sum-map (λ phase. length (scripts_on p phase)) s.phases ∙ sym (length-flat_map (scripts_on p) s.phases)

count_at : (p : ℕ) (phases : List PlainPhase) (k : ℕ) (d : PlainPhase)
    → k < length phases
    → slice_index_or (map (λ phase. length (scripts_on p phase)) phases) k 0
    ≡ length (scripts_on p (slice_index_or phases k d))
count_at p [] k d h = absurd (omega (arith, h))
count_at p (x ∷ xs) zero d h = refl
count_at p (x ∷ xs) (suc k) d h = count_at p xs k d (omega (arith, h))

pub callers_count : (p : ℕ) (s : PlainSession) (k : ℕ)
    → k < length s.phases
    → callers_in (counts_on p s) k ≡ length (scripts_on p (phase_at s k))
callers_count p s k h = count_at p s.phases k (record { lines = []; ticks = []; callers = [] }) h

-- ---- a role

numbered : (o : Option ℕ) (n : ℕ) → o ≡ Some n → number_or o ≡ n
numbered None n h = absurd (cc)
numbered (Some m) n h = ap number_or h

some_of : (o : Option ℕ) → IsSome o → o ≡ Some (number_or o)
some_of None h = absurd (false≢true h)
some_of (Some n) h = refl

-- the number of a script of a phase
record HasNumber (s : Scene) (k : ℕ) (x : PlainScript) : Type 0 where
  at : number_in (names_in s) x.name ≡ Some (number_or (number_in (names_in s) x.name))
  name : name_at s.port s.session (number_or (number_in (names_in s) x.name)) ≡ Some x.name
  below : number_or (number_in (names_in s) x.name) < length (names_in s)

has_number_of : (s : Scene) (k : ℕ) (x : PlainScript)
    → k < length s.session.phases
    → has_name (scripts_on s.port (phase_at s.session k)) x.name ≡ true
    → HasNumber s k x
has_number_of s k x within there =
    let found =
    script_has_number (scripts_over s.port s.session.phases) x.name (has_over s.port s.session k x.name within there) in
    let at : number_in (names_in s) x.name ≡ Some (number_or (number_in (names_in s) x.name)) =
    found.1 ∙ ap (λ (n : ℕ). Some n) (sym (numbered (number_in (names_in s) x.name) found.0 found.1)) in
    let place = at_number (names_in s) x.name (number_or (number_in (names_in s) x.name)) at in
    record {
      at = at;
      name = place;
      below = get_within (names_in s) (number_or (number_in (names_in s) x.name)) x.name place;
    }

-- what is asked of the phase of a scene
pub record IsCastIn (s : Scene) (k : ℕ) (steps : List ℕ) : Type 0 where
  pub within : k < length s.session.phases
  pub limits : IsWithinLimits s.session
  pub first : AreFirstSteps s k steps

role_is : (s : Scene) (k : ℕ) (steps : List ℕ) (x : PlainScript)
    → IsCastIn s k steps
    → Contains (scripts_on s.port (phase_at s.session k)) x
    → IsRoleOf s k (role_for (names_in s) steps x)
role_is s k steps x cast there =
    let scripts : List PlainScript = scripts_on s.port (phase_at s.session k) in
    let phase = phase_within s.session k cast.limits cast.within in
    let has : has_name scripts x.name ≡ true = has_at scripts there.0 x there.1 there.2 in
    let n : ℕ = number_or (number_in (names_in s) x.name) in
    let named = has_number_of s k x cast.within has in
    let own : calls_under x.name scripts ≡ x.calls =
    own_calls scripts there.0 x (own_names scripts (phase.own_names s.port)) there.1 there.2 in
    let calls : calls_of scripts (name_at s.port s.session n) ≡ x.calls =
    ap (λ (o : Option (List ℕ)). calls_of scripts o) named.name ∙ own in
    record {
      known = omega (arith, named.below, few_names (scripts_over s.port s.session.phases), sum_counts s.port s.session);
      caller = ap (λ (o : Option (List ℕ)). has_script scripts o) named.name ∙ has;
      first = cast.first.each n;
      count = ap (λ (cs : List PlainCall). length cs) (sym calls);
      calls = λ i call h.
          ap (λ (m : ℕ). call_at s.port s.session n (m + i)) (cast.first.each n)
          ∙ call_of_phase s.port s.session k n i call cast.within
          (ap (λ (cs : List PlainCall). slice_get cs i) calls ∙ h);
      within = (All-contains (IsScriptWithin s.session.ports) scripts x
          (All-filter (λ y. y.port == s.port) (IsScriptWithin s.session.ports)
          (phase_at s.session k).callers phase.scripts) there).calls;
    }

-- ---- all roles of a phase

listed : (o : Option ℕ) → IsSome o → option_to_list o ≡ number_or o ∷ []
listed None h = absurd (false≢true h)
listed (Some n) h = refl

numbers_are : (names : List (List ℕ)) (steps : List ℕ) (scripts : List PlainScript)
    → All (IsNumbered names) scripts
    → numbers_in (map (role_for names steps) scripts) ≡ flat_map (λ s. option_to_list (number_in names s.name)) scripts
numbers_are names steps [] h = refl
numbers_are names steps (x ∷ xs) h =
    ap (λ (ns : List ℕ). number_or (number_in names x.name) ∷ ns)
    (numbers_are names steps xs (All-tail (IsNumbered names) x xs h))
    ∙ ap (λ (ns : List ℕ). ns ++ flat_map (λ s. option_to_list (number_in names s.name)) xs)
    (sym (listed (number_in names x.name) (All-head (IsNumbered names) x xs h)))

is_some_at : (o : Option ℕ) (n : ℕ) → o ≡ Some n → IsSome o
is_some_at None n h = absurd (cc)
is_some_at (Some m) n h = refl

pub phase_numbered : (s : Scene) (k : ℕ)
    → k < length s.session.phases
    → All (IsNumbered (names_in s)) (scripts_on s.port (phase_at s.session k))
phase_numbered s k within =
    let scripts : List PlainScript = scripts_on s.port (phase_at s.session k) in
    All-weaker (Contains scripts) (IsNumbered (names_in s))
    (λ x there.
    let named = has_number_of s k x within (has_at scripts there.0 x there.1 there.2) in
    is_some_at (number_in (names_in s) x.name) (number_or (number_in (names_in s) x.name)) named.at)
    scripts (All-contains_itself scripts)

abbrev name_or : Option (List ℕ) → List ℕ
name_or None = []
name_or (Some z) = z

some_same : (a b : List ℕ) → Some a ≡ Some b → a ≡ b
some_same a b h = ap name_or h

-- two scripts of one number have one name
same_number : (names : List (List ℕ)) (x y : PlainScript)
    → IsNumbered names x
    → IsNumbered names y
    → number_or (number_in names x.name) ≡ number_or (number_in names y.name)
    → x.name ≡ y.name
same_number names x y hx hy e =
    some_same x.name y.name
    (sym (at_number names x.name (number_or (number_in names x.name)) (some_of (number_in names x.name) hx))
    ∙ ap (λ (n : ℕ). slice_get names n) e
    ∙ at_number names y.name (number_or (number_in names y.name)) (some_of (number_in names y.name) hy))

own_first : (names : List (List ℕ)) (x : PlainScript) (xs : List PlainScript)
    → IsNumbered names x
    → All (IsNumbered names) xs
    → has_name xs x.name ≡ false
    → All (λ n. number_or (number_in names x.name) ≢ n) (map (λ s. number_or (number_in names s.name)) xs)
own_first names x [] hx hxs none = All-nil (λ n. number_or (number_in names x.name) ≢ n)
own_first names x (y ∷ ys) hx hxs none =
    All-cons (λ n. number_or (number_in names x.name) ≢ n) (number_or (number_in names y.name))
    (map (λ s. number_or (number_in names s.name)) ys)
    (λ e. false≢true (sym none ∙ or_left (bytes_eq y.name x.name) (has_name ys x.name)
    (ap (λ (z : List ℕ). bytes_eq y.name z) (same_number names x y hx (All-head (IsNumbered names) y ys hxs) e)
    ∙ same_name y.name)))
    (own_first names x ys hx (All-tail (IsNumbered names) y ys hxs)
    (neither (bytes_eq y.name x.name) (has_name ys x.name) none))
  where
    neither : (a b : Bool) → (a || b) ≡ false → b ≡ false
    neither true b h = absurd (false≢true (sym h))
    neither false b h = h

pub own_all : (names : List (List ℕ)) (scripts : List PlainScript)
    → All (IsNumbered names) scripts
    → HaveOwnNames scripts
    → AllPairs (λ c d. c ≢ d) (map (λ s. number_or (number_in names s.name)) scripts)
own_all names [] h own = λ i j d below within. absurd (omega (arith, within))
own_all names (x ∷ xs) h own =
    AllPairs-cons (λ c d. c ≢ d) (number_or (number_in names x.name)) (map (λ s. number_or (number_in names s.name)) xs)
    (own_first names x xs (All-head (IsNumbered names) x xs h) (All-tail (IsNumbered names) x xs h) own.0)
    (own_all names xs (All-tail (IsNumbered names) x xs h) own.1)

map_numbers : (names : List (List ℕ)) (steps : List ℕ) (scripts : List PlainScript)
    → map (λ s. number_or (number_in names s.name)) scripts ≡ numbers_in (map (role_for names steps) scripts)
map_numbers names steps [] = refl
map_numbers names steps (x ∷ xs) =
    ap (λ (ns : List ℕ). number_or (number_in names x.name) ∷ ns) (map_numbers names steps xs)

-- a caller of the phase is among them
here_or : (n : ℕ) (ns : List ℕ) (c : ℕ) → n ≡ c → Contains (n ∷ ns) c
here_or n ns c e = (0, omega arith, e)

later_or : (n : ℕ) (ns : List ℕ) (c : ℕ) → Contains ns c → Contains (n ∷ ns) c
later_or n ns c h = Contains-append_right (n ∷ []) ns c h

caller_among : (names : List (List ℕ)) (scripts : List PlainScript) (name : List ℕ) (c : ℕ)
    → number_in names name ≡ Some c
    → has_name scripts name ≡ true
    → Contains (map (λ s. number_or (number_in names s.name)) scripts) c
caller_among names [] name c at h = absurd (false≢true h)
caller_among names (x ∷ xs) name c at h = elim (or_cases (bytes_eq x.name name) (has_name xs name) h) [
  | inl here ↦ here_or (number_or (number_in names x.name)) (map (λ s. number_or (number_in names s.name)) xs) c
      (ap (λ (y : List ℕ). number_or (number_in names y)) (eq_name x.name name here)
      ∙ numbered (number_in names name) c at)
  | inr later ↦ later_or (number_or (number_in names x.name)) (map (λ s. number_or (number_in names s.name)) xs) c
      (caller_among names xs name c at later)
]

by_name : (scripts : List PlainScript) (o : Option (List ℕ))
    → has_script scripts o ≡ true
    → (name : List ℕ) × (o ≡ Some name) × (has_name scripts name ≡ true)
by_name scripts None h = absurd (false≢true h)
by_name scripts (Some name) h = (name, refl, h)

pub roles_are : (s : Scene) (k : ℕ) (steps : List ℕ) (roles : List PlainRole)
    → IsCastIn s k steps
    → roles ≡ map (role_for (names_in s) steps) (scripts_on s.port (phase_at s.session k))
    → AreRolesOf s k roles
roles_are s k steps roles cast is =
    let scripts : List PlainScript = scripts_on s.port (phase_at s.session k) in
    let phase = phase_within s.session k cast.limits cast.within in
    let numbered_all = phase_numbered s k cast.within in
    subst (AreRolesOf s k) (sym is) (record {
      numbers = numbers_are (names_in s) steps scripts numbered_all;
      each = All-map (IsRoleOf s k) (role_for (names_in s) steps) scripts
          (All-weaker (Contains scripts) (λ x. IsRoleOf s k (role_for (names_in s) steps x))
          (λ x there. role_is s k steps x cast there) scripts (All-contains_itself scripts));
      own_numbers = subst (AllPairs (λ c d. c ≢ d)) (map_numbers (names_in s) steps scripts)
          (own_all (names_in s) scripts numbered_all (own_names scripts (phase.own_names s.port)));
      count = length-map scripts (role_for (names_in s) steps) ∙ sym (callers_count s.port s.session k cast.within);
      all = λ c h. let named = by_name scripts (name_at s.port s.session c) h in
          subst (λ (ns : List ℕ). Contains ns c) (map_numbers (names_in s) steps scripts)
          (caller_among (names_in s) scripts named.0 c
          (number_at (scripts_over s.port s.session.phases) named.0 c named.1) named.2);
    })

-- ---- how many callers and calls there are

pub few_scripts : (p : ℕ) (s : PlainSession) → IsWithinLimits s
    → length (scripts_over p s.phases) ≤ MOST_CALLERS * MOST_PHASES
few_scripts p s limits =
    let each : All (λ phase. length (scripts_on p phase) ≤ MOST_CALLERS) s.phases =
    All-weaker (IsPhaseWithin s.ports) (λ phase. length (scripts_on p phase) ≤ MOST_CALLERS)
    (λ phase h. h.few_callers p)
    s.phases limits.phases in
    let all = sum_by-le (λ phase. length (scripts_on p phase)) MOST_CALLERS s.phases each in
    let few = limits.few_phases in
    omega (arith, all, few, length-flat_map (scripts_on p) s.phases)

pub few_names_in : (s : Scene) → IsWithinLimits s.session → length (names_in s) ≤ MOST_CALLERS * MOST_PHASES
few_names_in s limits =
    omega (arith, few_names (scripts_over s.port s.session.phases), few_scripts s.port s.session limits)

abbrev own_call_count : List PlainScript → ℕ
own_call_count scripts = sum_by (λ script. length script.calls) scripts

named_calls : (b : Bool) (xs : List PlainCall) → length (if b then xs else []) ≤ length xs
named_calls true xs = omega arith
named_calls false xs = omega arith

calls_under_few : (name : List ℕ) (scripts : List PlainScript)
    → length (calls_under name scripts) ≤ own_call_count scripts
calls_under_few name [] = omega arith
calls_under_few name (x ∷ xs) =
    omega (
      arith,
      length-append (if bytes_eq x.name name then x.calls else []) (calls_under name xs),
      named_calls (bytes_eq x.name name) x.calls,
      calls_under_few name xs,
      sum_by-cons (λ (script : PlainScript). length script.calls) x xs,
    )

calls_few : (scripts : List PlainScript) (o : Option (List ℕ)) → length (calls_of scripts o) ≤ own_call_count scripts
calls_few scripts None = omega arith
calls_few scripts (Some name) = calls_under_few name scripts

filtered_calls : (b : Bool) (x : PlainScript) (xs : List PlainScript)
    → own_call_count (cond b (x ∷ xs) xs) ≤ length x.calls + own_call_count xs
filtered_calls true x xs = omega (arith, sum_by-cons (λ (script : PlainScript). length script.calls) x xs)
filtered_calls false x xs = omega arith

port_calls : (p : ℕ) (scripts : List PlainScript)
    → own_call_count (filter (λ s. s.port == p) scripts) ≤ own_call_count scripts
port_calls p [] = omega arith
port_calls p (x ∷ xs) = omega (
  arith,
  filtered_calls (x.port == p) x (filter (λ s. s.port == p) xs),
  port_calls p xs,
  sum_by-cons (λ (script : PlainScript). length script.calls) x xs,
)

calls_over : (p : ℕ) (phases : List PlainPhase) → own_call_count (scripts_over p phases) ≤ call_count phases
calls_over p [] = omega arith
calls_over p (x ∷ xs) =
    omega (
      arith,
      sum_by-append (λ (script : PlainScript). length script.calls) (scripts_on p x) (scripts_over p xs),
      port_calls p x.callers,
      calls_over p xs,
      sum_by-cons (λ (phase : PlainPhase). sum_by (λ script. length script.calls) phase.callers) x xs,
    )

-- ---- the roles of a phase of a session

pub roles_found : (s : Scene) (k : ℕ) (steps : List ℕ) (names : List (List ℕ)) (scripts : List PlainScript)
    (roles : List PlainRole)
    → IsWithinLimits s.session
    → k < length s.session.phases
    → AreFirstSteps s k steps
    → names ≡ names_in s
    → own_scripts s.port scripts ≡ scripts_on s.port (phase_at s.session k)
    → roles ≡ cast_of names steps s.port scripts
    → AreRolesOf s k roles
roles_found s k steps names scripts roles limits within first named own is =
    roles_are s k steps roles (record { within = within; limits = limits; first = first })
    (is
    ∙ ap (λ (ns : List (List ℕ)). cast_of ns steps s.port scripts) named
    ∙ ap (λ (xs : List PlainScript). map (role_for (names_in s) steps) xs) own)

-- ---- the next steps, once these callers have made their calls

abbrev step_of : List ℕ → ℕ → ℕ
step_of steps c = slice_index_or steps c 0

-- a role whose step after its calls is that of the next phase
record MovesOn (s : Scene) (k : ℕ) (count : ℕ) (r : PlainRole) : Type 0 where
  below : r.number < count
  moves : r.first + length r.calls ≡ first_step s.port s.session (k + 1) r.number

stays_moved : (s : Scene) (k c : ℕ) (r : PlainRole) (steps : List ℕ)
    → MovesOn s k (length steps) r
    → step_of steps c ≡ first_step s.port s.session (k + 1) c
    → step_of (slice_set steps r.number (r.first + length r.calls)) c ≡ first_step s.port s.session (k + 1) c
stays_moved s k c r steps moves there = elim (cases_eq r.number c) [
  | inl same ↦
      ap (step_of (slice_set steps r.number (r.first + length r.calls))) (sym same)
      ∙ get_or-set_same steps r.number (r.first + length r.calls) 0 moves.below
      ∙ moves.moves
      ∙ ap (first_step s.port s.session (k + 1)) same
  | inr other ↦ get_or-set_other steps r.number c (r.first + length r.calls) 0 (λ e. other (sym e)) ∙ there
]

same_count : (s : Scene) (k : ℕ) (steps : List ℕ) (n m : ℕ) (rs : List PlainRole)
    → All (MovesOn s k (length steps)) rs
    → All (MovesOn s k (length (slice_set steps n m))) rs
same_count s k steps n m rs h = subst (λ j. All (MovesOn s k j) rs) (sym (length-set steps n m)) h

all_moved : (s : Scene) (k c : ℕ) (rs : List PlainRole) (steps : List ℕ)
    → All (MovesOn s k (length steps)) rs
    → step_of steps c ≡ first_step s.port s.session (k + 1) c
    → step_of (steps_after rs steps) c ≡ first_step s.port s.session (k + 1) c
all_moved s k c [] steps h there = there
all_moved s k c (r ∷ rs) steps h there =
    all_moved s k c rs (slice_set steps r.number (r.first + length r.calls))
    (same_count s k steps r.number (r.first + length r.calls) rs (All-tail (MovesOn s k (length steps)) r rs h))
    (stays_moved s k c r steps (All-head (MovesOn s k (length steps)) r rs h) there)

is_first_or : (r : PlainRole) (rs : List PlainRole) (c : ℕ)
    → Contains (numbers_in (r ∷ rs)) c
    → (r.number ≡ c) ⊎ Contains (numbers_in rs) c
is_first_or r rs c (zero, within, is) = inl is
is_first_or r rs c (suc i, within, is) = inr (i, omega (arith, within), is)

one_moved : (s : Scene) (k c : ℕ) (rs : List PlainRole) (steps : List ℕ)
    → All (MovesOn s k (length steps)) rs
    → Contains (numbers_in rs) c
    → step_of (steps_after rs steps) c ≡ first_step s.port s.session (k + 1) c
one_moved s k c [] steps h there = absurd (omega (arith, there.1))
one_moved s k c (r ∷ rs) steps h there =
    let first = All-head (MovesOn s k (length steps)) r rs h in
    let rest =
    same_count s k steps r.number (r.first + length r.calls) rs (All-tail (MovesOn s k (length steps)) r rs h) in
    elim (is_first_or r rs c there) [
      | inl same ↦ all_moved s k c rs (slice_set steps r.number (r.first + length r.calls)) rest
          (ap (step_of (slice_set steps r.number (r.first + length r.calls))) (sym same)
          ∙ get_or-set_same steps r.number (r.first + length r.calls) 0 first.below
          ∙ first.moves
          ∙ ap (first_step s.port s.session (k + 1)) same)
      | inr later ↦ one_moved s k c rs (slice_set steps r.number (r.first + length r.calls)) rest later
    ]

length_after : (rs : List PlainRole) (steps : List ℕ) → length (steps_after rs steps) ≡ length steps
length_after [] steps = refl
length_after (r ∷ rs) steps =
    length_after rs (slice_set steps r.number (r.first + length r.calls))
    ∙ length-set steps r.number (r.first + length r.calls)

-- what `move_on` asks for
pub roles_within : (s : Scene) (k : ℕ) (steps : List ℕ) (roles : List PlainRole)
    → IsCastIn s k steps
    → AreRolesOf s k roles
    → All (λ r. r.number < length steps) roles
roles_within s k steps roles cast are = All-weaker (IsRoleOf s k) (λ r. r.number < length steps)
    (λ r h. caller_known s k r.number steps cast h.caller) roles are.each
  where
    named_below : (scripts : List PlainScript) (ns : List (List ℕ)) (c : ℕ)
        → has_script scripts (slice_get ns c) ≡ true
        → c < length ns
    named_below scripts ns c h = let named = by_name scripts (slice_get ns c) h in get_within ns c named.0 named.1

    caller_known : (s : Scene) (k c : ℕ) (steps : List ℕ)
        → IsCastIn s k steps
        → IsCallerOf s.port s.session k c
        → c < length steps
    caller_known s k c steps cast h =
        let below = named_below (scripts_on s.port (phase_at s.session k)) (names_in s) c h in
        omega (arith, below, cast.first.count)

role_moves : (s : Scene) (k : ℕ) (r : PlainRole)
    → k < length s.session.phases
    → IsRoleOf s k r
    → r.first + length r.calls ≡ first_step s.port s.session (k + 1) r.number
role_moves s k r within h =
    let next = first_next s.port s.session k r.number within in omega (arith, h.first, h.count, next)

pub roles_few : (s : Scene) (k : ℕ) (steps : List ℕ) (roles : List PlainRole)
    → IsCastIn s k steps
    → AreRolesOf s k roles
    → All (λ r. r.first + length r.calls < 2 ^ 32) roles
roles_few s k steps roles cast are =
    All-weaker (IsRoleOf s k) (λ r. r.first + length r.calls < 2 ^ 32)
    (λ r h.
    let few = first_few s.port s.session (k + 1) r.number cast.limits in
    omega (arith, role_moves s k r cast.within h, few)) roles are.each

-- and what it comes to
pub moved_on : (s : Scene) (k : ℕ) (steps : List ℕ) (roles : List PlainRole)
    → IsCastIn s k steps
    → AreRolesOf s k roles
    → AreFirstSteps s (k + 1) (steps_after roles steps)
moved_on s k steps roles cast are =
    let within = roles_within s k steps roles cast are in
    let all : All (MovesOn s k (length steps)) roles = moves_all s k steps roles cast within are.each in
    record {
      count = length_after roles steps ∙ cast.first.count;
      each = λ c. each_moved s k c steps roles cast are all
          (has_script (scripts_on s.port (phase_at s.session k)) (name_at s.port s.session c)) refl;
    }
  where
    moves_all : (s : Scene) (k : ℕ) (steps : List ℕ) (roles : List PlainRole)
        → IsCastIn s k steps
        → All (λ r. r.number < length steps) roles
        → All (IsRoleOf s k) roles
        → All (MovesOn s k (length steps)) roles
    moves_all s k steps [] cast within h = All-nil (MovesOn s k (length steps))
    moves_all s k steps (r ∷ rs) cast within h =
        All-cons (MovesOn s k (length steps)) r rs
        (record {
          below = All-head (λ r. r.number < length steps) r rs within;
          moves = role_moves s k r cast.within (All-head (IsRoleOf s k) r rs h);
        })
        (moves_all s k steps rs cast (All-tail (λ r. r.number < length steps) r rs within)
        (All-tail (IsRoleOf s k) r rs h))

    each_moved : (s : Scene) (k c : ℕ) (steps : List ℕ) (roles : List PlainRole)
        → IsCastIn s k steps
        → AreRolesOf s k roles
        → All (MovesOn s k (length steps)) roles
        → (b : Bool)
        → has_script (scripts_on s.port (phase_at s.session k)) (name_at s.port s.session c) ≡ b
        → step_of (steps_after roles steps) c ≡ first_step s.port s.session (k + 1) c
    each_moved s k c steps roles cast are all true is = one_moved s k c roles steps all (are.all c is)
    each_moved s k c steps roles cast are all false is =
        let none = ap (λ (xs : List PlainCall). length xs)
        (no_calls (scripts_on s.port (phase_at s.session k)) (name_at s.port s.session c) is) in
        all_moved s k c roles steps all
        (cast.first.each c
        ∙ sym (first_next s.port s.session k c cast.within
        ∙ ap (λ n. first_step s.port s.session k c + n) none
        ∙ add-zero (first_step s.port s.session k c)))

pub roles_same : (s : Scene) (k : ℕ) (scripts scripts' : List Script) (rs rs' : List Role)
    → scripts ≡ scripts'
    → rs ≡ rs'
    → AreRolesOf s k (map (role_in scripts') rs')
    → AreRolesOf s k (map (role_in scripts) rs)
roles_same s k scripts scripts' rs rs' same equal h =
    subst (λ (xs : List Script). AreRolesOf s k (map (role_in xs) rs)) (sym same)
    (subst (λ (xs : List Role). AreRolesOf s k (map (role_in scripts') xs)) (sym equal) h)

pub cast_in : (s : Scene) (p k : ℕ) (session : Session) (steps : List ℕ)
    → s ≡ scene_of p session
    → IsWithinLimits (session_of session)
    → k < length (session_of session).phases
    → AreFirstSteps s k steps
    → IsCastIn s k steps
cast_in s p k session steps is limits within first = record {
  within = subst (λ (x : Scene). k < length x.session.phases) (sym is) within;
  limits = subst (λ (x : Scene). IsWithinLimits x.session) (sym is) limits;
  first = first;
}

pub roles_in_scene : (s : Scene) (p k : ℕ) (session : Session) (scripts : List Script) (rs rs' : List Role)
    → s ≡ scene_of p session
    → scripts ≡ scripts_at session k
    → rs ≡ rs'
    → AreRolesOf (scene_of p session) k (map (role_in (scripts_at session k)) rs')
    → AreRolesOf s k (map (role_in scripts) rs)
roles_in_scene s p k session scripts rs rs' is same equal h =
    roles_same s k scripts (scripts_at session k) rs rs' same equal
    (subst (λ (x : Scene). AreRolesOf x k (map (role_in (scripts_at session k)) rs')) (sym is) h)

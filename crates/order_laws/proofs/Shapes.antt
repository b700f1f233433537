-- What two sessions of one shape have in common: names, numbers, counts and lines.
use Rattle.std.proofs.Common.{◌≡◌, ℕ, List, [], ◌∷◌, ◌++◌, Bool, false, ◌||◌, Option, None}
use Rattle.std.proofs.Common.{Some, length, map, take, get_or, reverse, refl, sym, ◌∙◌, ap}
use Rattle.std.specs.Prelude.{fold, flat_map, slice_get, option_to_list}
use Rattle.std.specs.Str.{bytes_eq}
use Rattle.std.specs.List.{list_any}
use Rattle.std.proofs.lemmas.List.{length-map, map-append, take-map}
use Rattle.std.proofs.Math.ListN.{get_or-map}
use Rattle.tty_base.specs.declared.lines.LineStep.{LineStep}
use Rattle.tty_calls.specs.Sessions.{PlainScript, PlainPhase, PlainSession, line_on, scripts_on}
use Rattle.tty_calls.specs.Sessions.{scripts_over, with_name, names_of, number_in, counts_on}
use Rattle.uart_line.specs.Received.{script, closed_script}
use Rattle.legal_runs.specs.Legal.{phase_at, name_at, has_script, script_of_first}
use Rattle.legal_runs.specs.Order.{cuts_after, cuts_in, callers_of}
use Rattle.order_laws.specs.Growth.{names_in, HasShape}

abbrev pub name_of : PlainScript → List ℕ
name_of s = s.name

-- ---- names and numbers

abbrev joined : List (List (List ℕ)) → List (List ℕ)
joined [] = []
joined (x ∷ xs) = x ++ joined xs

names_over : (p : ℕ) (phases : List PlainPhase) → map name_of (scripts_over p phases) ≡ joined (map (names_in p) phases)
names_over p [] = refl
names_over p (phase ∷ phases) =
    map-append name_of (scripts_on p phase) (scripts_over p phases)
    ∙ ap (λ (ns : List (List ℕ)). map name_of (scripts_on p phase) ++ ns) (names_over p phases)

fold_names : (names : List (List ℕ)) (scripts : List PlainScript)
    → fold (λ ns s. with_name ns s.name) names scripts ≡ fold with_name names (map name_of scripts)
fold_names names [] = refl
fold_names names (s ∷ ss) = fold_names (with_name names s.name) ss

pub names_same : (p : ℕ) (session later : PlainSession)
    → HasShape p session later
    → names_of (scripts_over p later.phases) ≡ names_of (scripts_over p session.phases)
names_same p session later shape =
    fold_names [] (scripts_over p later.phases)
    ∙ (ap (λ (ns : List (List ℕ)). fold with_name [] ns)
    (names_over p later.phases ∙ (ap joined shape.names ∙ sym (names_over p session.phases)))
    ∙ sym (fold_names [] (scripts_over p session.phases)))

pub name_same : (p : ℕ) (session later : PlainSession) (c : ℕ)
    → HasShape p session later
    → name_at p later c ≡ name_at p session c
name_same p session later c shape = ap (λ (names : List (List ℕ)). slice_get names c) (names_same p session later shape)

-- ---- counts

counts_over : (p : ℕ) (phases : List PlainPhase)
    → map (λ phase. length (scripts_on p phase)) phases
    ≡ map (λ (ns : List (List ℕ)). length ns) (map (names_in p) phases)
counts_over p [] = refl
counts_over p (phase ∷ phases) = λ i. sym (length-map (scripts_on p phase) name_of) i ∷ counts_over p phases i

pub counts_same : (p : ℕ) (session later : PlainSession)
    → HasShape p session later
    → counts_on p later ≡ counts_on p session
counts_same p session later shape =
    counts_over p later.phases
    ∙ (ap (map (λ (ns : List (List ℕ)). length ns)) shape.names ∙ sym (counts_over p session.phases))

pub phases_same : (p : ℕ) (session later : PlainSession)
    → HasShape p session later
    → length later.phases ≡ length session.phases
phases_same p session later shape =
    sym (length-map later.phases (line_on p))
    ∙ (ap (λ (ls : List (List LineStep)). length ls) shape.lines ∙ length-map session.phases (line_on p))

-- ---- a phase

-- a phase in which nothing happens
abbrev nothing : PlainPhase
nothing = record { lines = []; ticks = []; callers = [] }

pub at_phase : {X : Type 0} (f : PlainPhase → X) (session later : PlainSession) (k : ℕ)
    → map f later.phases ≡ map f session.phases
    → f (phase_at later k) ≡ f (phase_at session k)
at_phase f session later k same =
    sym (get_or-map f later.phases k nothing)
    ∙ (ap (λ xs. get_or xs k (f nothing)) same ∙ get_or-map f session.phases k nothing)

pub names_here : (p : ℕ) (session later : PlainSession) (k : ℕ)
    → HasShape p session later
    → names_in p (phase_at later k) ≡ names_in p (phase_at session k)
names_here p session later k shape = at_phase (names_in p) session later k shape.names

pub first_lines_same : (p : ℕ) (session later : PlainSession) (k : ℕ)
    → HasShape p session later
    → script_of_first p later k ≡ script_of_first p session k
first_lines_same p session later k shape =
    ap script (sym (take-map (line_on p) k later.phases)
    ∙ (ap (λ (ls : List (List LineStep)). take k ls) shape.lines ∙ take-map (line_on p) k session.phases))

pub cuts_same : (p : ℕ) (session later : PlainSession) (k : ℕ)
    → HasShape p session later
    → cuts_in p later k ≡ cuts_in p session k
cuts_same p session later k shape =
    let first = first_lines_same p session later k shape in
    let line = at_phase (line_on p) session later k shape.lines in
    λ i. cuts_after (reverse (first i)) (closed_script (line i))

numbers_by_names : (names : List (List ℕ)) (scripts : List PlainScript)
    → flat_map (λ s. option_to_list (number_in names s.name)) scripts
    ≡ flat_map (λ n. option_to_list (number_in names n)) (map name_of scripts)
numbers_by_names names [] = refl
numbers_by_names names (s ∷ ss) =
    ap (λ (ns : List ℕ). option_to_list (number_in names s.name) ++ ns) (numbers_by_names names ss)

pub callers_same : (p : ℕ) (session later : PlainSession) (k : ℕ)
    → HasShape p session later
    → callers_of p later k ≡ callers_of p session k
callers_same p session later k shape =
    let all = names_same p session later shape in
    let here = names_here p session later k shape in
    numbers_by_names (names_of (scripts_over p later.phases)) (scripts_on p (phase_at later k))
    ∙ ((λ i. flat_map (λ n. option_to_list (number_in (all i) n)) (here i))
    ∙ sym (numbers_by_names (names_of (scripts_over p session.phases)) (scripts_on p (phase_at session k))))

abbrev has_name : List (List ℕ) → Option (List ℕ) → Bool
has_name names None = false
has_name names (Some name) = list_any (λ n. bytes_eq n name) names

script_by_names : (scripts : List PlainScript) (name : List ℕ)
    → list_any (λ s. bytes_eq s.name name) scripts ≡ list_any (λ n. bytes_eq n name) (map name_of scripts)
script_by_names [] name = refl
script_by_names (s ∷ ss) name = ap (λ (b : Bool). bytes_eq s.name name || b) (script_by_names ss name)

by_option : (scripts : List PlainScript) (name : Option (List ℕ))
    → has_script scripts name ≡ has_name (map name_of scripts) name
by_option scripts None = refl
by_option scripts (Some name) = script_by_names scripts name

pub caller_same : (p : ℕ) (session later : PlainSession) (k c : ℕ)
    → HasShape p session later
    → has_script (scripts_on p (phase_at later k)) (name_at p later c)
    ≡ has_script (scripts_on p (phase_at session k)) (name_at p session c)
caller_same p session later k c shape =
    let name = name_same p session later c shape in
    let here = names_here p session later k shape in
    by_option (scripts_on p (phase_at later k)) (name_at p later c)
    ∙ ((λ i. has_name (here i) (name i)) ∙ sym (by_option (scripts_on p (phase_at session k)) (name_at p session c)))

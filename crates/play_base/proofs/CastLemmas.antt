-- One more script of a phase.
use Rattle.std.proofs.Common.{◌≡◌, ◌≢◌, ℕ, zero, suc, ◌+◌, ◌<◌, ◌≤◌, Bool, true, false, ◌==◌, cond, List, [], ◌∷◌, ◌++◌}
use Rattle.std.proofs.Common.{Some, length, take, drop, map, refl, sym, ◌∙◌, ap, subst, arith, length-append, get_or}
use Rattle.std.specs.Prelude.{slice_get, slice_index_or, All}
use Rattle.std.proofs.lemmas.Bool.{eq-eqb, ne_eqb}
use Rattle.std.proofs.lemmas.Option.{same_Some}
use Rattle.std.proofs.Math.ListN.{get_or-map}
use Rattle.std.proofs.lemmas.List.{take_more, take_all, take-append-drop, map-append, append-nil, length-map}
use Rattle.std.proofs.lemmas.List.Elements.{All-head, All-tail, filter-append}
use Rattle.tty_calls.specs.declared.sessions.Script.{Script}
use Rattle.tty_calls.specs.declared.sessions.Phase.{Phase}
use Rattle.tty_calls.specs.declared.sessions.Session.{Session}
use Rattle.tty_calls.specs.Limits.{IsPhaseWithin, IsWithinLimits}
use Rattle.tty_calls.specs.Sessions.{PlainScript, PlainPhase, script_of, phase_of, session_of, scripts_on, number_in}
use Rattle.play_base.specs.declared.roles.Role.{Role}
use Rattle.play_base.specs.Roles.{PlainRole, role_in, calls_in}
use Rattle.play_base.specs.Casting.{caller_in, HaveSameCallers, number_or, role_for, own_scripts, cast_of, scripts_in}
use Rattle.play_base.specs.Casting.{scripts_at}
use Rattle.play_base.proofs.NameLemmas.{get_at}

is_equal : (a b : ℕ) → a ≡ b → (a == b) ≡ true
is_equal a b h = eq-eqb a b h

is_other : (a b : ℕ) → a ≢ b → (a == b) ≡ false
is_other a b h = ne_eqb a b h

pub own_more : (port : ℕ) (scripts : List Script) (i : ℕ) (s : Script)
    → i < length scripts
    → s ≡ slice_index_or scripts i s
    → own_scripts port (map script_of (take (i + 1) scripts))
    ≡ own_scripts port (map script_of (take i scripts)) ++ cond (s.port == port) (script_of s ∷ []) []
own_more port scripts i s within is =
    ap (λ (xs : List Script). own_scripts port (map script_of xs))
    (take_more scripts i s within ∙ ap (λ (x : Script). take i scripts ++ x ∷ []) (sym is))
    ∙ ap (own_scripts port) (map-append script_of (take i scripts) (s ∷ []))
    ∙ filter-append (λ x. x.port == port) (map script_of (take i scripts)) (script_of s ∷ [])

pub own_few : (port : ℕ) (scripts : List Script) (n : ℕ)
    → length (own_scripts port (map script_of (take n scripts))) ≤ length (own_scripts port (map script_of scripts))
own_few port scripts n =
    let all : own_scripts port (map script_of scripts)
    ≡ own_scripts port (map script_of (take n scripts)) ++ own_scripts port (map script_of (drop n scripts)) =
    ap (λ (xs : List Script). own_scripts port (map script_of xs)) (sym (take-append-drop n scripts))
    ∙ ap (own_scripts port) (map-append script_of (take n scripts) (drop n scripts))
    ∙ filter-append (λ x. x.port == port) (map script_of (take n scripts)) (map script_of (drop n scripts)) in
    let count =
    ap (λ (xs : List PlainScript). length xs) all
    ∙ length-append (own_scripts port (map script_of (take n scripts)))
    (own_scripts port (map script_of (drop n scripts))) in
    omega (arith, count)

-- a count of those so far, where one more is of the port
pub count_yes : (port : ℕ) (scripts : List Script) (i : ℕ) (s : Script)
    → i < length scripts
    → s ≡ slice_index_or scripts i s
    → s.port ≡ port
    → length (own_scripts port (map script_of (take (i + 1) scripts)))
    ≡ length (own_scripts port (map script_of (take i scripts))) + 1
count_yes port scripts i s within is own =
    ap (λ (xs : List PlainScript). length xs) (own_more port scripts i s within is)
    ∙ ap (λ b. length (own_scripts port (map script_of (take i scripts)) ++ cond b (script_of s ∷ []) []))
    (is_equal s.port port own)
    ∙ length-append (own_scripts port (map script_of (take i scripts))) (script_of s ∷ []) ∙ refl

pub own_no : (port : ℕ) (scripts : List Script) (i : ℕ) (s : Script)
    → i < length scripts
    → s ≡ slice_index_or scripts i s
    → s.port ≢ port
    → own_scripts port (map script_of (take (i + 1) scripts)) ≡ own_scripts port (map script_of (take i scripts))
own_no port scripts i s within is other =
    own_more port scripts i s within is
    ∙ ap (λ b. own_scripts port (map script_of (take i scripts)) ++ cond b (script_of s ∷ []) [])
    (is_other s.port port other)
    ∙ append-nil (own_scripts port (map script_of (take i scripts)))

pub own_yes : (port : ℕ) (scripts : List Script) (i : ℕ) (s : Script)
    → i < length scripts
    → s ≡ slice_index_or scripts i s
    → s.port ≡ port
    → own_scripts port (map script_of (take (i + 1) scripts))
    ≡ own_scripts port (map script_of (take i scripts)) ++ script_of s ∷ []
own_yes port scripts i s within is own =
    own_more port scripts i s within is
    ∙ ap (λ b. own_scripts port (map script_of (take i scripts)) ++ cond b (script_of s ∷ []) [])
    (is_equal s.port port own)

own_head : (P : PlainScript → Type 0) (port : ℕ) (x : Script) (ys : List PlainScript) (s : Script)
    → s ≡ x
    → s.port ≡ port
    → All P (cond (x.port == port) (script_of x ∷ ys) ys)
    → P (script_of s)
own_head P port x ys s is own h =
    let first : All P (script_of s ∷ ys) =
    subst (λ b. All P (cond b (script_of s ∷ ys) ys)) (is_equal s.port port own)
    (subst (λ (y : Script). All P (cond (y.port == port) (script_of y ∷ ys) ys)) (sym is) h) in
    All-head P (script_of s) ys first

-- a script of the port is one of the port's
pub own_at : (P : PlainScript → Type 0) (port : ℕ) (scripts : List Script) (i : ℕ) (s : Script)
    → i < length scripts
    → s ≡ slice_index_or scripts i s
    → s.port ≡ port
    → All P (own_scripts port (map script_of scripts))
    → P (script_of s)
own_at P port [] i s within is own h = absurd (omega (arith, within))
own_at P port (x ∷ xs) zero s within is own h = own_head P port x (own_scripts port (map script_of xs)) s is own h
own_at P port (x ∷ xs) (suc i) s within is own h = own_at P port xs i s (omega (arith, within)) is own
    (own_rest (x.port == port) P (script_of x) (own_scripts port (map script_of xs)) h)
  where
    own_rest : (b : Bool) (P : PlainScript → Type 0) (y : PlainScript) (ys : List PlainScript)
        → All P (cond b (y ∷ ys) ys)
        → All P ys
    own_rest true P y ys h = All-tail P y ys h
    own_rest false P y ys h = h

-- ---- the role of a script

pub role_is_for : (names : List (List ℕ)) (steps : List ℕ) (scripts : List Script) (i : ℕ) (s : Script) (r : Role)
    → i < length scripts
    → s ≡ slice_index_or scripts i s
    → number_in names s.name.bytes ≡ Some r.number
    → r.first ≡ slice_index_or steps r.number 0
    → r.place ≡ i
    → role_in scripts r ≡ role_for names steps (script_of s)
role_is_for names steps scripts i s r within is number first place =
    let n : number_or (number_in names s.name.bytes) ≡ r.number = ap number_or number in
    let found : slice_get scripts r.place ≡ Some s =
    ap (λ (m : ℕ). slice_get scripts m) place ∙ get_at scripts i s within ∙ ap (λ (x : Script). Some x) (sym is) in
    let firsts : r.first ≡ slice_index_or steps (number_or (number_in names s.name.bytes)) 0 =
    first ∙ ap (λ (m : ℕ). slice_index_or steps m 0) (sym n) in
    λ j. record { number = sym n j; first = firsts j; calls = calls_in (found j) }

pub cast_yes : (names : List (List ℕ)) (steps : List ℕ) (port : ℕ) (scripts : List Script) (i : ℕ) (s : Script)
    (roles : List Role) (r : Role)
    → i < length scripts
    → s ≡ slice_index_or scripts i s
    → s.port ≡ port
    → number_in names s.name.bytes ≡ Some r.number
    → r.first ≡ slice_index_or steps r.number 0
    → r.place ≡ i
    → map (role_in scripts) roles ≡ cast_of names steps port (map script_of (take i scripts))
    → map (role_in scripts) (roles ++ r ∷ []) ≡ cast_of names steps port (map script_of (take (i + 1) scripts))
cast_yes names steps port scripts i s roles r within is own number first place so_far =
    map-append (role_in scripts) roles (r ∷ [])
    ∙ ap (λ (xs : List PlainRole). xs ++ role_in scripts r ∷ []) so_far
    ∙ ap (λ (x : PlainRole). cast_of names steps port (map script_of (take i scripts)) ++ x ∷ [])
    (role_is_for names steps scripts i s r within is number first place)
    ∙ sym (map-append (role_for names steps) (own_scripts port (map script_of (take i scripts))) (script_of s ∷ []))
    ∙ ap (map (role_for names steps)) (sym (own_yes port scripts i s within is own))

pub cast_no : (names : List (List ℕ)) (steps : List ℕ) (port : ℕ) (scripts : List Script) (i : ℕ) (s : Script)
    (roles : List Role)
    → i < length scripts
    → s ≡ slice_index_or scripts i s
    → s.port ≢ port
    → map (role_in scripts) roles ≡ cast_of names steps port (map script_of (take i scripts))
    → map (role_in scripts) roles ≡ cast_of names steps port (map script_of (take (i + 1) scripts))
cast_no names steps port scripts i s roles within is other so_far =
    so_far ∙ ap (map (role_for names steps)) (sym (own_no port scripts i s within is other))

-- ---- counts of callers

pub counts_more : (port : ℕ) (phases : List Phase) (i : ℕ) (phase : Phase) (counts : List ℕ) (n : ℕ)
    → i < length phases
    → phase ≡ slice_index_or phases i phase
    → n ≡ length (scripts_on port (phase_of phase))
    → counts ≡ map (λ x. length (scripts_on port x)) (map phase_of (take i phases))
    → counts ++ n ∷ [] ≡ map (λ x. length (scripts_on port x)) (map phase_of (take (i + 1) phases))
counts_more port phases i phase counts n within is count so_far =
    ap (λ (xs : List ℕ). xs ++ n ∷ []) so_far
    ∙ ap (λ (m : ℕ). map (λ x. length (scripts_on port x)) (map phase_of (take i phases)) ++ m ∷ []) count
    ∙ sym (map-append (λ x. length (scripts_on port x)) (map phase_of (take i phases)) (phase_of phase ∷ []))
    ∙ ap (map (λ x. length (scripts_on port x))) (sym (map-append phase_of (take i phases) (phase ∷ [])))
    ∙ ap (λ (xs : List Phase). map (λ x. length (scripts_on port x)) (map phase_of xs))
    (sym (take_more phases i phase within ∙ ap (λ (x : Phase). take i phases ++ x ∷ []) (sym is)))

pub phase_at_index : (P : PlainPhase → Type 0) (phases : List Phase) (i : ℕ) (phase : Phase)
    → i < length phases
    → phase ≡ slice_index_or phases i phase
    → All P (map phase_of phases)
    → P (phase_of phase)
phase_at_index P [] i phase within is h = absurd (omega (arith, within))
phase_at_index P (x ∷ xs) zero phase within is h =
    subst (λ (y : Phase). P (phase_of y)) (sym is) (All-head P (phase_of x) (map phase_of xs) h)
phase_at_index P (x ∷ xs) (suc i) phase within is h =
    phase_at_index P xs i phase (omega (arith, within)) is (All-tail P (phase_of x) (map phase_of xs) h)

-- ---- the scripts of a phase

pub scripts_found : (phases : List Phase) (k : ℕ) (d : Phase)
    → k < length phases
    → scripts_in (slice_get phases k) ≡ (slice_index_or phases k d).callers.items
scripts_found phases k d h = ap scripts_in (get_at phases k d h)

pub own_scripts_at : (port : ℕ) (phases : List Phase) (k : ℕ) (d : PlainPhase)
    → k < length (map phase_of phases)
    → own_scripts port (map script_of (scripts_in (slice_get phases k)))
    ≡ scripts_on port (slice_index_or (map phase_of phases) k d)
own_scripts_at port [] k d h = absurd (omega (arith, h))
own_scripts_at port (x ∷ xs) zero d h = refl
own_scripts_at port (x ∷ xs) (suc k) d h = own_scripts_at port xs k d (omega (arith, h))

pub scripts_are : (session : Session) (k : ℕ) (phases : List Phase) (scripts : List Script) (d : Phase)
    → k < length (map phase_of session.phases.items)
    → phases ≡ session.phases.items
    → scripts ≡ (slice_index_or phases k d).callers.items
    → scripts ≡ scripts_at session k
scripts_are session k phases scripts d within same is =
    let count = ap (λ (xs : List Phase). length xs) same in
    let below : k < length phases = omega (arith, within, length-map session.phases.items phase_of, count) in
    is ∙ sym (scripts_found phases k d below) ∙ ap (λ (xs : List Phase). scripts_in (slice_get xs k)) same

pub all_at_index : {X Y : Type 0} (P : Y → Type 0) (f : X → Y) (xs : List X) (i : ℕ) (d : X)
    → i < length xs
    → All P (map f xs)
    → P (f (slice_index_or xs i d))
all_at_index P f [] i d within h = absurd (omega (arith, within))
all_at_index P f (x ∷ xs) zero d within h = All-head P (f x) (map f xs) h
all_at_index P f (x ∷ xs) (suc i) d within h =
    all_at_index P f xs i d (omega (arith, within)) (All-tail P (f x) (map f xs) h)

-- ---- a phase of a session that keeps the limits

pub phase_in : (session : Session) (k : ℕ) (phases : List Phase) (d : Phase)
    → IsWithinLimits (session_of session)
    → k < length (map phase_of session.phases.items)
    → phases ≡ session.phases.items
    → IsPhaseWithin session.ports (phase_of (slice_index_or phases k d))
phase_in session k phases d limits within same =
    let count = ap (λ (xs : List Phase). length xs) same in
    let below : k < length phases = omega (arith, within, length-map session.phases.items phase_of, count) in
    all_at_index (IsPhaseWithin session.ports) phase_of phases k d below
    (subst (λ (xs : List Phase). All (IsPhaseWithin session.ports) (map phase_of xs)) (sym same) limits.phases)

pub line_count : (ports : ℕ) (phase : Phase) → IsPhaseWithin ports (phase_of phase) → length phase.lines.items ≡ ports
line_count ports phase h = sym (length-map phase.lines.items (λ steps. steps.items)) ∙ h.lines

-- ---- other scripts of the same callers

pub same_count : (others scripts : List Script) → HaveSameCallers others scripts → length others ≡ length scripts
same_count others scripts same =
    sym (length-map others caller_in) ∙ (ap (λ (xs : List PlainScript). length xs) same ∙ length-map scripts caller_in)

caller_at_place : (others scripts : List Script) (i : ℕ) (s : Script)
    → HaveSameCallers others scripts
    → i < length scripts
    → s ≡ slice_index_or scripts i s
    → caller_in (slice_index_or others i s) ≡ caller_in s
caller_at_place others scripts i s same within is =
    sym (get_or-map caller_in others i s)
    ∙ (ap (λ (xs : List PlainScript). get_or xs i (caller_in s)) same ∙ get_or-map caller_in scripts i s)
    ∙ ap caller_in (sym is)

there : (others : List Script) (i : ℕ) (s : Script)
    → i < length others
    → slice_index_or others i s ≡ slice_index_or others i (slice_index_or others i s)
there others i s within = same_Some (slice_index_or others i s) (slice_index_or others i (slice_index_or others i s))
    (sym (get_at others i s within) ∙ get_at others i (slice_index_or others i s) within)

pub others_yes : (names : List (List ℕ)) (steps : List ℕ) (port : ℕ) (others scripts : List Script) (i : ℕ) (s : Script)
    (roles : List Role) (r : Role)
    → HaveSameCallers others scripts
    → i < length scripts
    → s ≡ slice_index_or scripts i s
    → s.port ≡ port
    → number_in names s.name.bytes ≡ Some r.number
    → r.first ≡ slice_index_or steps r.number 0
    → r.place ≡ i
    → map (role_in others) roles ≡ cast_of names steps port (map script_of (take i others))
    → map (role_in others) (roles ++ r ∷ []) ≡ cast_of names steps port (map script_of (take (i + 1) others))
others_yes names steps port others scripts i s roles r same within is own number first place so_far =
    let t : Script = slice_index_or others i s in
    let caller = caller_at_place others scripts i s same within is in
    let inside : i < length others = omega (arith, same_count others scripts same, within) in
    cast_yes names steps port others i t roles r inside (there others i s inside)
    (ap (λ (x : PlainScript). x.port) caller ∙ own) (ap (λ (x : PlainScript). number_in names x.name) caller ∙ number)
    first place so_far

pub others_no : (names : List (List ℕ)) (steps : List ℕ) (port : ℕ) (others scripts : List Script) (i : ℕ) (s : Script)
    (roles : List Role)
    → HaveSameCallers others scripts
    → i < length scripts
    → s ≡ slice_index_or scripts i s
    → s.port ≢ port
    → map (role_in others) roles ≡ cast_of names steps port (map script_of (take i others))
    → map (role_in others) roles ≡ cast_of names steps port (map script_of (take (i + 1) others))
others_no names steps port others scripts i s roles same within is other so_far =
    let t : Script = slice_index_or others i s in
    let caller = caller_at_place others scripts i s same within is in
    let inside : i < length others = omega (arith, same_count others scripts same, within) in
    cast_no names steps port others i t roles inside (there others i s inside)
    (λ e. other (sym (ap (λ (x : PlainScript). x.port) caller) ∙ e)) so_far

pub others_all : (names : List (List ℕ)) (steps : List ℕ) (port : ℕ) (others scripts : List Script) (i : ℕ)
    (roles : List Role)
    → HaveSameCallers others scripts
    → length scripts ≤ i
    → map (role_in others) roles ≡ cast_of names steps port (map script_of (take i others))
    → map (role_in others) roles ≡ cast_of names steps port (map script_of others)
others_all names steps port others scripts i roles same all so_far =
    so_far
    ∙ ap (λ (xs : List Script). cast_of names steps port (map script_of xs))
    (take_all i others (omega (arith, same_count others scripts same, all)))

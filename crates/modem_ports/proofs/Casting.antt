-- What a phase is played of: the roles of its callers, `carrier` the last of them, and what they have to call.
use Rattle.std.proofs.Common.{◌≡◌, ◌≤◌, ◌<◌, ℕ, zero, suc, ◌||◌, Bool, true, false}
use Rattle.std.proofs.Common.{List, [], ◌∷◌, ◌++◌, Option, None, Some, length, map, sum, refl, sym, ap, ◌∙◌, subst}
use Rattle.std.proofs.Common.{arith}
use Rattle.std.specs.Prelude.{All, IsSome, slice_get, slice_index_or, unwrap_or}
use Rattle.std.specs.Str.{bytes_eq}
use Rattle.std.proofs.lemmas.Bool.{false≢true}
use Rattle.std.proofs.lemmas.List.{length-map}
use Rattle.std.proofs.lemmas.List.Elements.{All-head, All-tail, All-nil, All-cons}
use Rattle.tty_calls.specs.declared.sessions.Script.{Script}
use Rattle.tty_calls.specs.Sessions.{PlainScript, PlainSession, script_of, scripts_on, scripts_over as plain_over}
use Rattle.tty_calls.specs.Sessions.{number_in}
use Rattle.legal_runs.specs.Legal.{phase_at}
use Rattle.legal_runs.proofs.NameLemmas.{same_name}
use Rattle.legal_runs.proofs.ScriptLemmas.{at_number}
use Rattle.play_base.specs.Casting.{IsNumbered, number_or, own_scripts, role_for, cast_of}
use Rattle.play_base.specs.Roles.{PlainRole, Scene, names_in, role_in}
use Rattle.one_thread.specs.Turns.{role_numbers}
use Rattle.play_base.specs.declared.roles.Role.{Role}
use Rattle.play_base.proofs.NameLemmas.{eq_name, has_name, HaveOwnNames, number_at, few_names}
use Rattle.play_base.proofs.RoleLemmas.{phase_numbered, sum_counts}
use Rattle.order_laws.specs.Growth.{names_in as names_in_phase}
use Rattle.order_laws.proofs.Shapes.{counts_same}
use Rattle.passed_calls.specs.Blocks.{Block, bare, blocks_on, names_on, number_on}
use Rattle.passed_calls.specs.Derived.{Passed, BlockPhase}
use Rattle.passed_calls.specs.Scripts.{CallerScript, block_of, numbered_call}
use Rattle.passed_calls.specs.Within.{IsBlockPhaseWithin}
use Rattle.passed_calls.proofs.Names.{names_stay}
use Rattle.order_laws.specs.Passed.{IsPassedBy, IsOfBlocks, begin_of}
use Rattle.order_laws.proofs.Blocks.{of_blocks}
use Rattle.order_laws.proofs.Shares.{on_port, over, map_append, none_named, Own}
use Rattle.passed_ports.specs.Ports.{IsSceneOf}
use Rattle.passed_ports.proofs.Leaving.{HasShares, AreSharesLeft, shares_left, get_map, some_at, some_is}
use Rattle.passed_ports.proofs.Leaving.{names_one, names_plain, own_blocks, at_of}
use Rattle.modem_text.specs.Sessions.{ModemCall, ModemPhase, ModemSession, carrier_name, carrier_block, blocks_in}
use Rattle.modem_text.specs.Sessions.{pins_on}
use Rattle.modem_text.specs.Within.{block_phase_of, IsModemSessionWithin}
use Rattle.modem_steps.specs.Derived.{block_phases, carrier_on, modem_call_at}
use Rattle.modem_one.specs.Left.{AreCallsLeft, AreItemsLeft}
use Rattle.modem_one.proofs.Shares.{blocks_there, callers_counted, callers_of, carrier_counts, names_same, over_are}
use Rattle.modem_one.proofs.Shares.{NoneIsCarrier}
use Rattle.modem_one.specs.Played.{by_blocks}
use Rattle.modem_ports.specs.declared.phases.ModemStation.{ModemStation}
use Rattle.modem_derived.specs.Blocks.{nothing_passed}
use Rattle.modem_ports.specs.Between.{IsBetween, numbers_in}
use Rattle.modem_ports.proofs.Pins.{items_left}

abbrev One : Type 0
One = CallerScript ModemCall

-- ---- names of their own

or_parts : (a b : Bool) → (a || b) ≡ false → (a ≡ false) × (b ≡ false)
or_parts true b h = absurd (false≢true (sym h))
or_parts false b h = (refl, h)

or_false : (a b : Bool) → a ≡ false → b ≡ false → (a || b) ≡ false
or_false true b h g = absurd (false≢true (sym h))
or_false false b h g = g

other_name : (a b : List ℕ) → (a ≡ b → ⊥) → bytes_eq a b ≡ false
other_name a b differ = by_cases (bytes_eq a b) refl
  where
    by_cases : (t : Bool) → bytes_eq a b ≡ t → t ≡ false
    by_cases true is = absurd (differ (eq_name a b is))
    by_cases false is = refl

differ_from : (a b : List ℕ) → bytes_eq a b ≡ false → a ≡ b → ⊥
differ_from a b none same =
    false≢true (sym none ∙ (ap (λ (x : List ℕ). bytes_eq x b) same ∙ same_name b))

has_front : (xs : List PlainScript) (y : PlainScript) (name : List ℕ)
    → has_name (xs ++ y ∷ []) name ≡ false
    → (has_name xs name ≡ false) × (bytes_eq y.name name ≡ false)
has_front [] y name h = (refl, (or_parts (bytes_eq y.name name) false h).0)
has_front (x ∷ xs) y name h =
    let both = or_parts (bytes_eq x.name name) (has_name (xs ++ y ∷ []) name) h in
    let rest = has_front xs y name both.1 in
    (or_false (bytes_eq x.name name) (has_name xs name) both.0 rest.0, rest.1)

own_front : (xs : List PlainScript) (y : PlainScript) → HaveOwnNames (xs ++ y ∷ []) → HaveOwnNames xs
own_front [] y h = tt
own_front (x ∷ xs) y h = ((has_front xs y x.name h.0).0, own_front xs y h.1)

apart_from_last : (xs : List PlainScript) (y : PlainScript) (i : ℕ) (x : PlainScript)
    → HaveOwnNames (xs ++ y ∷ [])
    → slice_get xs i ≡ Some x
    → y.name ≡ x.name
    → ⊥
apart_from_last [] y i x h is same = absurd (cc)
apart_from_last (z ∷ xs) y zero x h is same =
    differ_from y.name z.name (has_front xs y z.name h.0).1
    (same ∙ (let is_it : x ≡ z = cc in ap (λ (s : PlainScript). s.name) is_it))
apart_from_last (z ∷ xs) y (suc i) x h is same = apart_from_last xs y i x h.1 is same

none_has : (xs : List PlainScript) (name : List ℕ)
    → ((i : ℕ) (x : PlainScript) → slice_get xs i ≡ Some x → name ≡ x.name → ⊥)
    → has_name xs name ≡ false
none_has [] name differ = refl
none_has (x ∷ xs) name differ =
    or_false (bytes_eq x.name name) (has_name xs name) (other_name x.name name (λ e. differ 0 x refl (sym e)))
    (none_has xs name (λ i y is. differ (suc i) y is))

bare_own : (ss : List One) → map bare (map block_of ss) ≡ map (λ (s : One). bare (block_of s)) ss
bare_own [] = refl
bare_own (s ∷ ss) = λ i. bare (block_of s) ∷ bare_own ss i

-- ---- the port of a session, in which nothing was passed

abbrev none_passed : Passed
none_passed q = []

abbrev scene_in : ℕ → PlainSession → Scene
scene_in p base = record { port = p; session = base }

pub nothing_by : (p : ℕ) (session : ModemSession) → IsPassedBy p (block_phases session) (λ c. [])
    (nothing_passed session)
nothing_by p session = record { passed = none_passed; are = refl; by = λ c. refl }

pub scene_of_session : (p : ℕ) (session : ModemSession)
    → IsSceneOf (scene_in p (nothing_passed session)) (by_blocks session)
scene_of_session p session = record {
  version = refl;
  ports = refl;
  flips = refl;
  of_blocks = of_blocks p (block_phases session) (λ c. []) (nothing_passed session) (nothing_by p session);
}

pub names_are : (p : ℕ) (session : ModemSession)
    → names_in (scene_in p (nothing_passed session)) ≡ names_on p (blocks_in session)
names_are p session = names_stay none_passed (block_phases session) p ∙ sym (names_same p session)

-- ---- a phase

at_index : {X Y : Type 0} (f : X → Y) (xs : List X) (k : ℕ) (d : X)
    → k < length xs
    → slice_get (map f xs) k ≡ Some (f (slice_index_or xs k d))
at_index f [] k d lt = absurd (omega (arith, lt))
at_index f (x ∷ xs) zero d lt = refl
at_index f (x ∷ xs) (suc k) d lt = at_index f xs k d (omega (arith, lt))

phase_names : (p k : ℕ) (phases : List BlockPhase) (session : PlainSession) (phase : BlockPhase)
    → IsOfBlocks p phases session
    → k < length session.phases
    → slice_get phases k ≡ Some phase
    → names_plain (scripts_on p (phase_at session k)) ≡ map (λ (b : Block). b.name) (blocks_on p phase.blocks)
phase_names p k phases session phase of lt at =
    some_is (names_plain (scripts_on p (phase_at session k))) (map (λ (b : Block). b.name) (blocks_on p phase.blocks))
    (sym (at_index (names_in_phase p) session.phases k (record { lines = []; ticks = []; callers = [] }) lt)
    ∙ (ap (λ (ns : List (List (List ℕ))). slice_get ns k) of.names
    ∙ get_map (λ (x : BlockPhase). map (λ (b : Block). b.name) (blocks_on p x.blocks)) phases k phase at))

block_names : (ss : List One) (b : Block)
    → map (λ (x : Block). x.name) (map block_of ss ++ b ∷ []) ≡ names_one ss ++ b.name ∷ []
block_names [] b = refl
block_names (s ∷ ss) b = λ i. s.name ∷ block_names ss b i

-- what is known of phase k on a port
pub record IsPhaseAt (p k : ℕ) (session : ModemSession) (phase : ModemPhase) : Type 0 where
  pub port : p < session.ports
  pub limits : IsModemSessionWithin session
  pub at : slice_get session.phases k ≡ Some phase

own_with_carrier : (p k : ℕ) (session : ModemSession) (phase : ModemPhase)
    → IsPhaseAt p k session phase
    → HaveOwnNames
    (map bare (map block_of (on_port p phase.callers)) ++ bare (carrier_block (length (pins_on p phase)) p) ∷ [])
own_with_carrier p k session phase h =
    let within : IsBlockPhaseWithin session.ports (block_phase_of session.ports phase) =
    at_of (IsBlockPhaseWithin session.ports) (block_phases session) k (block_phase_of session.ports phase)
    h.limits.blocks.each (get_map (block_phase_of session.ports) session.phases k phase h.at) in
    subst HaveOwnNames
    (ap (map bare) (blocks_there (λ (q : ℕ). length (pins_on q phase)) session.ports p phase h.port)
    ∙ map_append bare (map block_of (on_port p phase.callers)) (carrier_block (length (pins_on p phase)) p ∷ []))
    (own_blocks session.ports p (block_phase_of session.ports phase) within)

own_names_in : (p k : ℕ) (session : ModemSession) (phase : ModemPhase)
    → IsPhaseAt p k session phase
    → Own (on_port p phase.callers)
own_names_in p k session phase h =
    subst HaveOwnNames (bare_own (on_port p phase.callers))
    (own_front (map bare (map block_of (on_port p phase.callers)))
    (bare (carrier_block (length (pins_on p phase)) p)) (own_with_carrier p k session phase h))

-- no caller is called like `carrier`
not_carrier : (p k i : ℕ) (session : ModemSession) (phase : ModemPhase) (s : One)
    → IsPhaseAt p k session phase
    → slice_get (on_port p phase.callers) i ≡ Some s
    → carrier_name ≡ s.name
    → ⊥
not_carrier p k i session phase s h is same =
    apart_from_last (map bare (map block_of (on_port p phase.callers)))
    (bare (carrier_block (length (pins_on p phase)) p)) i (bare (block_of s)) (own_with_carrier p k session phase h)
    (get_map bare (map block_of (on_port p phase.callers)) i (block_of s)
    (get_map block_of (on_port p phase.callers) i s is))
    same

some_script : (ss : List One) (i : ℕ) (x : PlainScript)
    → slice_get (map (λ (s : One). bare (block_of s)) ss) i ≡ Some x
    → (s : One) × (slice_get ss i ≡ Some s) × (s.name ≡ x.name)
some_script [] i x is = absurd (cc)
some_script (s ∷ ss) zero x is =
    (s, refl, (let same : bare (block_of s) ≡ x = cc in ap (λ (y : PlainScript). y.name) same))
some_script (s ∷ ss) (suc i) x is = some_script ss i x is

pub none_is_carrier : (p : ℕ) (session : ModemSession)
    → p < session.ports
    → IsModemSessionWithin session
    → NoneIsCarrier p session.phases
none_is_carrier p session port limits k phase at =
    let h : IsPhaseAt p k session phase = record { port = port; limits = limits; at = at } in
    none_named (on_port p phase.callers) carrier_name
    (none_has (map (λ (s : One). bare (block_of s)) (on_port p phase.callers)) carrier_name
    (λ i x is same.
    let s = some_script (on_port p phase.callers) i x is in
    not_carrier p k i session phase s.0 h s.1 (same ∙ sym s.2)))

-- ---- the names of its callers

names_of_phase : (p k : ℕ) (session : ModemSession) (phase : ModemPhase)
    → IsPhaseAt p k session phase
    → k < length (nothing_passed session).phases
    → names_plain (scripts_on p (phase_at (nothing_passed session) k))
    ≡ names_one (on_port p phase.callers) ++ carrier_name ∷ []
names_of_phase p k session phase h lt =
    phase_names p k (block_phases session) (nothing_passed session) (block_phase_of session.ports phase)
    (scene_of_session p session).of_blocks lt
    (get_map (block_phase_of session.ports) session.phases k phase h.at)
    ∙ (ap (map (λ (b : Block). b.name))
    (blocks_there (λ (q : ℕ). length (pins_on q phase)) session.ports p phase h.port)
    ∙ block_names (on_port p phase.callers) (carrier_block (length (pins_on p phase)) p))

-- the name of each script has a number
abbrev HasNumber : List (List ℕ) → List ℕ → Type 0
HasNumber names name = IsSome (number_in names name)

named_all : (names : List (List ℕ)) (ss : List PlainScript)
    → All (IsNumbered names) ss
    → All (HasNumber names) (names_plain ss)
named_all names [] h = All-nil (HasNumber names)
named_all names (s ∷ ss) h =
    All-cons (HasNumber names) s.name (names_plain ss) (All-head (IsNumbered names) s ss h)
    (named_all names ss (All-tail (IsNumbered names) s ss h))

pub numbered_names : (p k : ℕ) (session : ModemSession) (phase : ModemPhase)
    → IsPhaseAt p k session phase
    → k < length (nothing_passed session).phases
    → All (HasNumber (names_on p (blocks_in session))) (names_one (on_port p phase.callers) ++ carrier_name ∷ [])
numbered_names p k session phase h lt =
    let first = scene_in p (nothing_passed session) in
    subst (λ (ns : List (List ℕ)). All (HasNumber (names_on p (blocks_in session))) ns)
    (names_of_phase p k session phase h lt)
    (subst (λ (names : List (List ℕ)).
    All (HasNumber names) (names_plain (scripts_on p (phase_at (nothing_passed session) k)))) (names_are p session)
    (named_all (names_in first) (scripts_on p (phase_at (nothing_passed session) k)) (phase_numbered first k lt)))

all_last : (P : List ℕ → Type 0) (xs : List (List ℕ)) (y : List ℕ) → All P (xs ++ y ∷ []) → P y
all_last P [] y h = All-head P y [] h
all_last P (x ∷ xs) y h = all_last P xs y (All-tail P x (xs ++ y ∷ []) h)

all_at : (P : List ℕ → Type 0) (xs ys : List (List ℕ)) (i : ℕ) (x : List ℕ)
    → All P (xs ++ ys)
    → slice_get xs i ≡ Some x
    → P x
all_at P [] ys i x h is = absurd (cc)
all_at P (z ∷ xs) ys zero x h is = subst P (some_is z x is) (All-head P z (xs ++ ys) h)
all_at P (z ∷ xs) ys (suc i) x h is = all_at P xs ys i x (All-tail P z (xs ++ ys) h) is

number_if : (o : Option ℕ) (n : ℕ) → IsSome o → o ≡ Some (unwrap_or o n)
number_if None n some = absurd (false≢true some)
number_if (Some m) n some = refl

number_same : (o : Option ℕ) (n : ℕ) → IsSome o → number_or o ≡ unwrap_or o n
number_same None n some = absurd (false≢true some)
number_same (Some m) n some = refl

-- a caller that has a number has the name there
name_there : (p : ℕ) (session : ModemSession) (name : List ℕ)
    → HasNumber (names_on p (blocks_in session)) name
    → slice_get (names_on p (blocks_in session)) (number_on p (blocks_in session) name) ≡ Some name
name_there p session name some =
    let names = names_on p (blocks_in session) in
    at_number names name (number_on p (blocks_in session) name) (number_if (number_in names name) (length names) some)

pub carrier_there : (p k : ℕ) (session : ModemSession) (phase : ModemPhase)
    → IsPhaseAt p k session phase
    → k < length (nothing_passed session).phases
    → slice_get (names_on p (blocks_in session)) (carrier_on p session) ≡ Some carrier_name
carrier_there p k session phase h lt =
    name_there p session carrier_name
    (all_last (HasNumber (names_on p (blocks_in session))) (names_one (on_port p phase.callers)) carrier_name
    (numbered_names p k session phase h lt))

-- ---- the numbers of the roles

numbers_same : (names : List (List ℕ)) (n : ℕ) (xs : List (List ℕ))
    → All (HasNumber names) xs
    → map (λ (name : List ℕ). number_or (number_in names name)) xs
    ≡ map (λ (name : List ℕ). unwrap_or (number_in names name) n) xs
numbers_same names n [] h = refl
numbers_same names n (x ∷ xs) h = λ i.
    number_same (number_in names x) n (All-head (HasNumber names) x xs h) i
    ∷ numbers_same names n xs (All-tail (HasNumber names) x xs h) i

numbers_of_roles : (scripts : List Script) (roles : List Role)
    → role_numbers roles ≡ map (λ (r : PlainRole). r.number) (map (role_in scripts) roles)
numbers_of_roles scripts [] = refl
numbers_of_roles scripts (r ∷ rs) = λ i. r.number ∷ numbers_of_roles scripts rs i

numbers_for : (names : List (List ℕ)) (steps : List ℕ) (ss : List PlainScript)
    → map (λ (r : PlainRole). r.number) (map (role_for names steps) ss)
    ≡ map (λ (name : List ℕ). number_or (number_in names name)) (names_plain ss)
numbers_for names steps [] = refl
numbers_for names steps (s ∷ ss) = λ i. number_or (number_in names s.name) ∷ numbers_for names steps ss i

numbers_by_name : (p : ℕ) (session : ModemSession) (ss : List One)
    → map (λ (name : List ℕ). number_on p (blocks_in session) name) (names_one ss)
    ≡ map (λ (s : One). number_on p (blocks_in session) s.name) ss
numbers_by_name p session [] = refl
numbers_by_name p session (s ∷ ss) = λ i. number_on p (blocks_in session) s.name ∷ numbers_by_name p session ss i

callers_at : (phases : List ModemPhase) (k : ℕ) (phase : ModemPhase)
    → slice_get phases k ≡ Some phase
    → slice_index_or (map (λ (x : ModemPhase). x.callers) phases) k [] ≡ phase.callers
callers_at [] k phase at = absurd (cc)
callers_at (x ∷ phases) zero phase at =
    (let same : x ≡ phase = cc in ap (λ (y : ModemPhase). y.callers) same)
callers_at (x ∷ phases) (suc k) phase at = callers_at phases k phase at

pub role_numbers_are : (p k : ℕ) (session : ModemSession) (phase : ModemPhase) (scripts : List Script)
    (steps : List ℕ) (roles : List Role)
    → IsPhaseAt p k session phase
    → k < length (nothing_passed session).phases
    → map script_of scripts ≡ (phase_at (nothing_passed session) k).callers
    → map (role_in scripts) roles
    ≡ cast_of (names_on p (blocks_in session)) steps p (map script_of scripts)
    → role_numbers roles ≡ numbers_in p session k ++ carrier_on p session ∷ []
role_numbers_are p k session phase scripts steps roles h lt callers cast =
    let names = names_on p (blocks_in session) in
    let own = on_port p phase.callers in
    let f : List ℕ → ℕ = λ name. number_or (number_in names name) in
    let g : List ℕ → ℕ = λ name. number_on p (blocks_in session) name in
    numbers_of_roles scripts roles
    ∙ (ap (map (λ (r : PlainRole). r.number)) cast
    ∙ (numbers_for names steps (own_scripts p (map script_of scripts))
    ∙ (ap (λ (ss : List PlainScript). map f (names_plain (own_scripts p ss))) callers
    ∙ (ap (map f) (names_of_phase p k session phase h lt)
    ∙ (numbers_same names (length names) (names_one own ++ carrier_name ∷ []) (numbered_names p k session phase h lt)
    ∙ (map_append g (names_one own) (carrier_name ∷ [])
    ∙ ap (λ (ns : List ℕ). ns ++ carrier_on p session ∷ [])
    (numbers_by_name p session own
    ∙ sym (ap (λ (ss : List One). map (λ (s : One). number_on p (blocks_in session) s.name) (on_port p ss))
    (callers_at session.phases k phase h.at)))))))))

-- ---- what is left to them

shares_of : (p k : ℕ) (session : ModemSession) (phase : ModemPhase) (scripts : List Script) (run : ℕ)
    (at : ModemStation)
    → IsPhaseAt p k session phase
    → k < length (nothing_passed session).phases
    → map script_of scripts ≡ (phase_at (nothing_passed session) k).callers
    → IsBetween (scene_in p (nothing_passed session)) session k run at
    → HasShares p k (block_phases session) (callers_of session.phases) (map script_of scripts)
    (names_in (scene_in p (nothing_passed session))) (carrier_name ∷ []) phase.callers at.desk.next
shares_of p k session phase scripts run at h lt callers b =
    let base = nothing_passed session in
    let first = scene_in p base in
    let phases = block_phases session in
    let names = names_in first in
    record {
      few_calls = h.limits.blocks.few_calls;
      at_phase = get_map (λ (x : ModemPhase). x.callers) session.phases k phase h.at;
      own_names = own_names_in p k session phase h;
      apart = λ i o is j there. not_carrier p k i session phase o h is (one_name j o.name there);
      counted = λ name none. callers_counted p session name (other_name carrier_name name
          (λ same. none 0 (ap (λ (x : List ℕ). Some x) same)));
      same_names =
          ap (λ (ss : List PlainScript). names_plain (own_scripts p ss)) callers
          ∙ names_of_phase p k session phase h lt;
      numbered = subst (λ (ss : List PlainScript). All (IsNumbered names) (own_scripts p ss)) (sym callers)
          (phase_numbered first k lt);
      names_are = names_stay none_passed phases p;
      own_places = λ c name is. number_at (plain_over p base.phases) name c is;
      next_many = b.before.next_of_all ∙ sym (ap (λ (ns : List (List ℕ)). length ns) (names_are p session));
      next_are = λ c nobody. subst (λ (j : ℕ). slice_index_or at.desk.next c 0 ≡ begin_of p phases j c) b.phase
          (b.before.steps c (λ is. nobody carrier_name
          (ap (λ (ns : List (List ℕ)). slice_get ns c) (names_are p session)
          ∙ (ap (λ (n : ℕ). slice_get (names_on p (blocks_in session)) n) is ∙ carrier_there p k session phase h lt))
          0 refl));
    }
  where
    one_name : (j : ℕ) (name : List ℕ) → slice_get (carrier_name ∷ []) j ≡ Some name → carrier_name ≡ name
    one_name zero name is = some_is carrier_name name is
    one_name (suc j) name is = absurd (cc)

number_at_role : (roles : List Role) (i : ℕ) (r : Role)
    → slice_get roles i ≡ Some r
    → slice_get (role_numbers roles) i ≡ Some r.number
number_at_role roles i r is = get_map (λ (x : Role). x.number) roles i r is

in_first : (xs ys : List ℕ) (i : ℕ) (x : ℕ) → slice_get xs i ≡ Some x → slice_get (xs ++ ys) i ≡ Some x
in_first [] ys i x is = absurd (cc)
in_first (z ∷ xs) ys zero x is = is
in_first (z ∷ xs) ys (suc i) x is = in_first xs ys i x is

pub calls_left : (p k : ℕ) (session : ModemSession) (phase : ModemPhase) (scripts : List Script) (steps : List ℕ)
    (roles : List Role) (run : ℕ) (at : ModemStation)
    → IsPhaseAt p k session phase
    → k < length (nothing_passed session).phases
    → map script_of scripts ≡ (phase_at (nothing_passed session) k).callers
    → IsBetween (scene_in p (nothing_passed session)) session k run at
    → map (role_in scripts) roles
    ≡ cast_of (names_in (scene_in p (nothing_passed session))) steps p (map script_of scripts)
    → AreCallsLeft p k session roles at.desk.next (map (λ (s : One). s.calls) (on_port p phase.callers))
calls_left p k session phase scripts steps roles run at h lt callers b cast =
    let base = nothing_passed session in
    let first = scene_in p base in
    let phases = block_phases session in
    let names = names_in first in
    let blocks = names_on p (blocks_in session) in
    let own = on_port p phase.callers in
    let left = map (λ (s : One). s.calls) own in
    let shares : AreSharesLeft p k phases (numbered_call names (over p (callers_of session.phases))) roles at.desk.next
    left 1 =
    shares_left p k phases (callers_of session.phases) scripts names (carrier_name ∷ []) steps phase.callers
    at.desk.next
    roles (shares_of p k session phase scripts run at h lt callers b) cast in
    let its : AreSharesLeft p k phases (modem_call_at p session) roles at.desk.next left 1 =
    subst (λ (f : ℕ → ℕ → Option ModemCall). AreSharesLeft p k phases f roles at.desk.next left 1)
    (λ i. numbered_call (names_are p session i) (over_are p session.phases i)) shares in
    let numbers : role_numbers roles ≡ numbers_in p session k ++ carrier_on p session ∷ [] =
    role_numbers_are p k session phase scripts steps roles h lt callers
    (cast ∙ ap (λ (ns : List (List ℕ)). cast_of ns steps p (map script_of scripts)) (names_are p session)) in
    record {
      many = its.many;
      each = its.each;
      callers = λ i r is lt_left is_carrier.
          (let o = some_at own i (omega (arith, lt_left, length-map own (λ (s : One). s.calls))) in
          let there : slice_get (numbers_in p session k) i ≡ Some (number_on p (blocks_in session) (o.0).name) =
          ap (λ (ss : List One). slice_get (map (λ (s : One). number_on p (blocks_in session) s.name) (on_port p ss)) i)
          (callers_at session.phases k phase h.at)
          ∙ get_map (λ (s : One). number_on p (blocks_in session) s.name) own i o.0 o.1 in
          let number : number_on p (blocks_in session) (o.0).name ≡ r.number =
          same_number (number_on p (blocks_in session) (o.0).name) r.number
          (sym (in_first (numbers_in p session k) (carrier_on p session ∷ []) i
          (number_on p (blocks_in session) (o.0).name) there)
          ∙ (ap (λ (ns : List ℕ). slice_get ns i) (sym numbers) ∙ number_at_role roles i r is)) in
          let name : slice_get blocks (number_on p (blocks_in session) (o.0).name) ≡ Some (o.0).name =
          name_there p session (o.0).name
          (all_at (HasNumber blocks) (names_one own) (carrier_name ∷ []) i (o.0).name
          (numbered_names p k session phase h lt) (get_map (λ (s : One). s.name) own i o.0 o.1)) in
          not_carrier p k i session phase o.0 h o.1
          (some_is carrier_name (o.0).name
          (sym (carrier_there p k session phase h lt)
          ∙ (ap (λ (n : ℕ). slice_get blocks n) (sym is_carrier ∙ sym number) ∙ name))));
      others = its.absent;
    }
  where
    same_number : (a b : ℕ) → Some a ≡ Some b → a ≡ b
    same_number a b e = cc

pub pins_left : (p k : ℕ) (session : ModemSession) (phase : ModemPhase) (run : ℕ) (at : ModemStation)
    → IsPhaseAt p k session phase
    → k < length (nothing_passed session).phases
    → IsBetween (scene_in p (nothing_passed session)) session k run at
    → AreItemsLeft p k session at.desk.items (pins_on p phase)
pins_left p k session phase run at h lt b =
    items_left p k session phase at.desk.items h.at
    (λ n. carrier_counts p session n h.port (none_is_carrier p session h.port h.limits)
    (carrier_there p k session phase h lt))
    (b.before.items ∙ ap (λ (j : ℕ). begin_of p (block_phases session) j (carrier_on p session)) b.phase)
    h.limits.blocks.few_calls

-- ---- the next steps of callers

pub callers_known : (p k run : ℕ) (base : PlainSession) (session : ModemSession) (at : ModemStation)
    → IsBetween (scene_in p base) session k run at
    → length at.names ≤ sum at.station.port.counts
callers_known p k run base session at h =
    let has = h.before.has in
    let there = (h.before.each.each (record { port = p; session = has.session }) has.like has.agrees).0 in
    let counts = there.of_scene.counts ∙ counts_same p base has.session has.like.shape in
    let many = few_names (plain_over p base.phases) in
    let all = sum_counts p base in
    let same = ap (λ (xs : List ℕ). sum xs) counts in
    let names = ap (λ (ns : List (List ℕ)). length ns) h.names in
    omega (arith, many, all, same, names)

-- What items do to the callers and the calls of a session of ports as far as it was read.
use Rattle.std.proofs.Common.{◌≡◌, ℕ, ◌+◌, ◌≤◌, Bool, true, false, if◌then◌else◌, Ok, Option}
use Rattle.std.proofs.Common.{None, Some, List, [], ◌∷◌, ◌++◌, length, map, refl, sym, ◌∙◌}
use Rattle.std.proofs.Common.{ap, subst, arith, length-append, append-nil, option_to_list}
use Rattle.std.specs.Prelude.{sum_by, option_map}
use Rattle.std.specs.List.{AllByRecursion}
use Rattle.std.proofs.lemmas.Bool.{both_ways}
use Rattle.std.proofs.lemmas.List.{map_push, map-append}
use Rattle.std.proofs.lemmas.List.Sums.{sum_by-cons, sum_by_push}
use Rattle.tty_calls.specs.Limits.{call_count}
use Rattle.tty_calls.specs.Plain.{PlainCall}
use Rattle.tty_calls.specs.Sessions.{PlainScript, PlainPhase, PlainSession}
use Rattle.text_lines.specs.Values.{number_at, word_at}
use Rattle.session_text.specs.declared.faults.Reason.TheVariants as reason
use Rattle.session_text.specs.declared.stands.ItemPlace.{ItemPlace}
use Rattle.session_text.specs.declared.stands.ItemPlace.TheVariants as place
use Rattle.session_text.specs.declared.verbs.Verb.{Verb}
use Rattle.session_text.specs.declared.verbs.Verb.TheVariants as verb
use Rattle.session_text.specs.Drafts.{PlainDraft, all_phases, session_with}
use Rattle.session_text.specs.Drafts.{with_call, with_open, phase_after, draft_after}
use Rattle.session_text.specs.Grammar.{caller_key}
use Rattle.session_text.specs.Meaning.{empty_phase, call_in}
use Rattle.session_text.specs.Stands.{PlainKey, PlainStand, in_phase, is_ended}
use Rattle.session_text.specs.Stands.{is_head, is_start, may_stand, stand_after}
use Rattle.session_text.specs.Reading.{PlainReading, session_at_end}
use Rattle.session_text.proofs.PhaseCounts.{ended_no_phase}
use Rattle.further_text.specs.declared.sorts.Sort.{Sort}
use Rattle.further_text.specs.declared.sorts.Sort.TheVariants as sort
use Rattle.further_text.specs.Faults.{bad}
use Rattle.further_text.proofs.Items.{Took, sort_by}

-- ---- how many calls there are

abbrev pub calls_in : PlainPhase → ℕ
calls_in phase = sum_by (λ (script : PlainScript). length script.calls) phase.callers

abbrev pub open_calls : Option PlainPhase → ℕ
open_calls None = 0
open_calls (Some phase) = calls_in phase

abbrev pub draft_calls : PlainDraft → ℕ
draft_calls d = call_count d.phases + open_calls d.open_phase

calls_by : (phases : List PlainPhase) (o : Option PlainPhase)
    → call_count (phases ++ option_to_list o) ≡ call_count phases + open_calls o
calls_by phases None = let same = ap call_count (append-nil phases) in omega (arith, same)
calls_by phases (Some phase) = sum_by_push calls_in phases phase

pub all_calls : (d : PlainDraft) → call_count (all_phases d) ≡ draft_calls d
all_calls d = calls_by d.phases d.open_phase

with_call_more : (call : PlainCall) (scripts : List PlainScript)
    → sum_by (λ (script : PlainScript). length script.calls) (with_call call scripts)
    ≤ sum_by (λ (script : PlainScript). length script.calls) scripts + 1
with_call_more call [] = omega arith
with_call_more call (script ∷ []) =
    let more : PlainScript = record script { calls = script.calls ++ call ∷ [] } in
    omega (
      arith,
      length-append script.calls (call ∷ []),
      sum_by-cons (λ (s : PlainScript). length s.calls) more [],
      sum_by-cons (λ (s : PlainScript). length s.calls) script [],
    )
with_call_more call (script ∷ other ∷ scripts) =
    omega (
      arith,
      with_call_more call (other ∷ scripts),
      sum_by-cons (λ (s : PlainScript). length s.calls) script (with_call call (other ∷ scripts)),
      sum_by-cons (λ (s : PlainScript). length s.calls) script (other ∷ scripts),
    )

-- how many steps a line of this sort is
abbrev pub steps_of : Sort → ℕ
steps_of sort.Inside = 1
steps_of other = 0

opened : (o : Option PlainPhase) (change : PlainPhase → PlainPhase) (n : ℕ)
    → ((phase : PlainPhase) → calls_in (change phase) ≤ calls_in phase + n)
    → open_calls (option_map change o) ≤ open_calls o + n
opened None change n h = omega arith
opened (Some phase) change n h = h phase

same_calls : (d : PlainDraft) (n : ℕ) → draft_calls d ≤ draft_calls d + n
same_calls d n = omega arith

open_more : (d : PlainDraft) (change : PlainPhase → PlainPhase) (n : ℕ)
    → ((phase : PlainPhase) → calls_in (change phase) ≤ calls_in phase + n)
    → draft_calls (with_open d change) ≤ draft_calls d + n
open_more d change n h = omega (arith, opened d.open_phase change n h)

more_than_same : (n k : ℕ) → n ≤ n + k
more_than_same n k = omega arith

script_added : (phase : PlainPhase) (script : PlainScript)
    → length script.calls ≡ 0
    → sum_by (λ (s : PlainScript). length s.calls) (phase.callers ++ script ∷ []) ≤ calls_in phase + 0
script_added phase script none =
    omega (arith, none, sum_by_push (λ (s : PlainScript). length s.calls) phase.callers script)

phase_begun : (s : PlainStand) (d : PlainDraft) (arguments : List (List ℕ))
    → draft_calls (draft_after s d verb.Phase arguments) ≤ draft_calls d + 0
phase_begun s d arguments =
    let none : calls_in (empty_phase s.ports) ≡ 0 = refl in
    omega (arith, none, all_calls d)

pub calls_after : (s : PlainStand) (d : PlainDraft) (v : Verb) (arguments : List (List ℕ))
    → draft_calls (draft_after s d v arguments) ≤ draft_calls d + steps_of (sort_by v)
calls_after s d verb.Session arguments = same_calls d 0
calls_after s d verb.Ports arguments = same_calls d 0
calls_after s d verb.Flip arguments = same_calls d 0
calls_after s d verb.Phase arguments = phase_begun s d arguments
calls_after s d verb.Line arguments = same_calls d 0
calls_after s d verb.Clock arguments = same_calls d 0
calls_after s d verb.Caller arguments = open_more d (phase_after s verb.Caller arguments) 0
    (λ phase. script_added phase (record { port = number_at arguments 1; name = word_at arguments 0; calls = [] }) refl)
calls_after s d verb.Tick arguments =
    open_more d (phase_after s verb.Tick arguments) 1 (λ phase. more_than_same (calls_in phase) 1)
calls_after s d verb.End arguments = same_calls d 0
calls_after s d (verb.Step l) arguments =
    open_more d (phase_after s (verb.Step l) arguments) 1 (λ phase. more_than_same (calls_in phase) 1)
calls_after s d (verb.Call c) arguments =
    open_more d (phase_after s (verb.Call c) arguments) 1 (λ phase. with_call_more (call_in c arguments) phase.callers)

-- ---- which callers there are

-- the port and the name of each
abbrev pub keys_in : PlainPhase → List PlainKey
keys_in phase = map
    (λ (script : PlainScript). let key : PlainKey = record { name = script.name; port = script.port } in key)
    phase.callers

keys_called : (call : PlainCall) (scripts : List PlainScript)
    → map (λ (script : PlainScript). let key : PlainKey = record { name = script.name; port = script.port } in key)
    (with_call call scripts)
    ≡ map (λ (script : PlainScript). let key : PlainKey = record { name = script.name; port = script.port } in key)
    scripts
keys_called call [] = refl
keys_called call (script ∷ []) = refl
keys_called call (script ∷ other ∷ scripts) = ap
    (λ (keys : List PlainKey). record { name = script.name; port = script.port } ∷ keys)
    (keys_called call (other ∷ scripts))

-- an item adds a caller, or none
pub keys_after : (s : PlainStand) (v : Verb) (arguments : List (List ℕ)) (phase : PlainPhase)
    → keys_in (phase_after s v arguments phase) ≡ keys_in phase ++ caller_key v arguments
keys_after s verb.Session arguments phase = sym (append-nil (keys_in phase))
keys_after s verb.Ports arguments phase = sym (append-nil (keys_in phase))
keys_after s verb.Flip arguments phase = sym (append-nil (keys_in phase))
keys_after s verb.Phase arguments phase = sym (append-nil (keys_in phase))
keys_after s verb.Line arguments phase = sym (append-nil (keys_in phase))
keys_after s verb.Clock arguments phase = sym (append-nil (keys_in phase))
keys_after s verb.Caller arguments phase = map_push
    (λ (script : PlainScript). let key : PlainKey = record { name = script.name; port = script.port } in key)
    phase.callers (record { port = number_at arguments 1; name = word_at arguments 0; calls = [] })
keys_after s verb.Tick arguments phase = sym (append-nil (keys_in phase))
keys_after s verb.End arguments phase = sym (append-nil (keys_in phase))
keys_after s (verb.Step l) arguments phase = sym (append-nil (keys_in phase))
keys_after s (verb.Call c) arguments phase =
    keys_called (call_in c arguments) phase.callers ∙ sym (append-nil (keys_in phase))

-- ---- what holds of the callers of each phase

abbrev pub OnOpen : (List PlainKey → Type 0) → Option PlainPhase → Type 0
OnOpen P None = Unit {0}
OnOpen P (Some phase) = P (keys_in phase)

pub record EachPhase (P : List PlainKey → Type 0) (d : PlainDraft) : Type 0 where
  pub closed : AllByRecursion (λ (phase : PlainPhase). P (keys_in phase)) d.phases
  pub here : OnOpen P d.open_phase

all_by : (P : List PlainKey → Type 0) (phases : List PlainPhase) (o : Option PlainPhase)
    → AllByRecursion (λ (phase : PlainPhase). P (keys_in phase)) phases
    → OnOpen P o
    → AllByRecursion (λ (phase : PlainPhase). P (keys_in phase)) (phases ++ option_to_list o)
all_by P [] None h k = tt
all_by P [] (Some phase) h k = (k, tt)
all_by P (phase ∷ phases) o h k = (h.0, all_by P phases o h.1 k)

pub each_phase : (P : List PlainKey → Type 0) (d : PlainDraft)
    → EachPhase P d
    → AllByRecursion (λ (phase : PlainPhase). P (keys_in phase)) (all_phases d)
each_phase P d h = all_by P d.phases d.open_phase h.closed h.here

open_after : (P : List PlainKey → Type 0) (s : PlainStand) (v : Verb) (arguments : List (List ℕ))
    (o : Option PlainPhase)
    → ((phase : PlainPhase) → o ≡ Some phase → P (keys_in phase) → P (keys_in phase ++ caller_key v arguments))
    → OnOpen P o
    → OnOpen P (option_map (phase_after s v arguments) o)
open_after P s v arguments None more h = tt
open_after P s v arguments (Some phase) more h = subst P (sym (keys_after s v arguments phase)) (more phase refl h)

stays : (P : List PlainKey → Type 0) (s : PlainStand) (d : PlainDraft) (v : Verb) (arguments : List (List ℕ))
    → ((phase : PlainPhase)
    → d.open_phase ≡ Some phase
    → P (keys_in phase)
    → P (keys_in phase ++ caller_key v arguments))
    → EachPhase P d
    → EachPhase P (with_open d (phase_after s v arguments))
stays P s d v arguments more h =
    record { closed = h.closed; here = open_after P s v arguments d.open_phase more h.here }

-- an item keeps it: a phase begins with no callers, and a caller more is one of whom it holds
pub each_after : (P : List PlainKey → Type 0) (s : PlainStand) (d : PlainDraft) (v : Verb) (arguments : List (List ℕ))
    → P []
    → ((phase : PlainPhase)
    → d.open_phase ≡ Some phase
    → P (keys_in phase)
    → P (keys_in phase ++ caller_key v arguments))
    → EachPhase P d
    → EachPhase P (draft_after s d v arguments)
each_after P s d verb.Session arguments none more h = record { closed = h.closed; here = h.here }
each_after P s d verb.Ports arguments none more h = record { closed = h.closed; here = h.here }
each_after P s d verb.Flip arguments none more h = record { closed = h.closed; here = h.here }
each_after P s d verb.Phase arguments none more h = record { closed = each_phase P d h; here = none }
each_after P s d verb.Line arguments none more h = record { closed = h.closed; here = h.here }
each_after P s d verb.Clock arguments none more h = record { closed = h.closed; here = h.here }
each_after P s d verb.Caller arguments none more h = stays P s d verb.Caller arguments more h
each_after P s d verb.Tick arguments none more h = stays P s d verb.Tick arguments more h
each_after P s d verb.End arguments none more h = record { closed = h.closed; here = h.here }
each_after P s d (verb.Step l) arguments none more h = stays P s d (verb.Step l) arguments more h
each_after P s d (verb.Call c) arguments none more h = stays P s d (verb.Call c) arguments more h

-- .. where the item is no caller's
pub same_keys : (P : List PlainKey → Type 0) (v : Verb) (arguments : List (List ℕ)) (keys : List PlainKey)
    → caller_key v arguments ≡ []
    → P keys
    → P (keys ++ caller_key v arguments)
same_keys P v arguments keys none h =
    subst P (sym (append-nil keys) ∙ ap (λ (more : List PlainKey). keys ++ more) (sym none)) h

-- ---- the callers of the open phase

-- there is an open phase, and its callers are on these ports
abbrev pub HasOpen : List ℕ → Option PlainPhase → Type 0
HasOpen ports None = ⊥
HasOpen ports (Some phase) = map (λ (key : PlainKey). key.port) (keys_in phase) ≡ ports

with_ports : (ports : List ℕ) (s : PlainStand) (v : Verb) (arguments : List (List ℕ)) (o : Option PlainPhase)
    → HasOpen ports o
    → HasOpen (ports ++ map (λ (key : PlainKey). key.port) (caller_key v arguments))
    (option_map (phase_after s v arguments) o)
with_ports ports s v arguments None h = absurd h
with_ports ports s v arguments (Some phase) h =
    ap (map (λ (key : PlainKey). key.port)) (keys_after s v arguments phase)
    ∙ map-append (λ (key : PlainKey). key.port) (keys_in phase) (caller_key v arguments)
    ∙ ap (λ (ps : List ℕ). ps ++ map (λ (key : PlainKey). key.port) (caller_key v arguments)) h

without_ports : (ports : List ℕ) (o : Option PlainPhase) → HasOpen ports o → HasOpen (ports ++ []) o
without_ports ports o h = subst (λ (ps : List ℕ). HasOpen ps o) (sym (append-nil ports)) h

pub ports_after : (ports : List ℕ) (s : PlainStand) (d : PlainDraft) (v : Verb) (arguments : List (List ℕ))
    → (sort_by v ≡ sort.Border → ⊥)
    → HasOpen ports d.open_phase
    → HasOpen (ports ++ map (λ (key : PlainKey). key.port) (caller_key v arguments))
    (draft_after s d v arguments).open_phase
ports_after ports s d verb.Session arguments inner h = without_ports ports d.open_phase h
ports_after ports s d verb.Ports arguments inner h = without_ports ports d.open_phase h
ports_after ports s d verb.Flip arguments inner h = without_ports ports d.open_phase h
ports_after ports s d verb.Phase arguments inner h = absurd (inner refl)
ports_after ports s d verb.Line arguments inner h = without_ports ports d.open_phase h
ports_after ports s d verb.Clock arguments inner h = without_ports ports d.open_phase h
ports_after ports s d verb.Caller arguments inner h = with_ports ports s verb.Caller arguments d.open_phase h
ports_after ports s d verb.Tick arguments inner h = with_ports ports s verb.Tick arguments d.open_phase h
ports_after ports s d verb.End arguments inner h = absurd (inner refl)
ports_after ports s d (verb.Step l) arguments inner h = with_ports ports s (verb.Step l) arguments d.open_phase h
ports_after ports s d (verb.Call c) arguments inner h = with_ports ports s (verb.Call c) arguments d.open_phase h

-- an item that is no border does not begin a phase
pub phase_before : (s : PlainStand) (v : Verb) (arguments : List (List ℕ))
    → may_stand v s.place ≡ true
    → (sort_by v ≡ sort.Border → ⊥)
    → in_phase (stand_after s v arguments).place ≡ true
    → in_phase s.place ≡ true
phase_before s verb.Session arguments stands inner h = absurd (cc)
phase_before s verb.Ports arguments stands inner h = absurd (cc)
phase_before s verb.Flip arguments stands inner h = h
phase_before s verb.Phase arguments stands inner h = absurd (inner refl)
phase_before s verb.Line arguments stands inner h = stands
phase_before s verb.Clock arguments stands inner h = stands
phase_before s verb.Caller arguments stands inner h = stands
phase_before s verb.Tick arguments stands inner h = h
phase_before s verb.End arguments stands inner h = absurd (inner refl)
phase_before s (verb.Step l) arguments stands inner h = h
phase_before s (verb.Call c) arguments stands inner h = h

-- a border that begins a phase begins it with no callers
pub phase_opened : (s : PlainStand) (d : PlainDraft) (v : Verb) (arguments : List (List ℕ))
    → sort_by v ≡ sort.Border
    → in_phase (stand_after s v arguments).place ≡ true
    → HasOpen [] (draft_after s d v arguments).open_phase
phase_opened s d verb.Session arguments border h = absurd (cc)
phase_opened s d verb.Ports arguments border h = absurd (cc)
phase_opened s d verb.Flip arguments border h = absurd (cc)
phase_opened s d verb.Phase arguments border h = refl
phase_opened s d verb.Line arguments border h = absurd (cc)
phase_opened s d verb.Clock arguments border h = absurd (cc)
phase_opened s d verb.Caller arguments border h = absurd (cc)
phase_opened s d verb.Tick arguments border h = absurd (cc)
phase_opened s d verb.End arguments border h = absurd (cc)
phase_opened s d (verb.Step l) arguments border h = absurd (cc)
phase_opened s d (verb.Call c) arguments border h = absurd (cc)

-- only a caller's item adds a caller
pub no_key : (v : Verb) (arguments : List (List ℕ)) → (sort_by v ≡ sort.Caller → ⊥) → caller_key v arguments ≡ []
no_key verb.Session arguments other = refl
no_key verb.Ports arguments other = refl
no_key verb.Flip arguments other = refl
no_key verb.Phase arguments other = refl
no_key verb.Line arguments other = refl
no_key verb.Clock arguments other = refl
no_key verb.Caller arguments other = absurd (other refl)
no_key verb.Tick arguments other = refl
no_key verb.End arguments other = refl
no_key (verb.Step l) arguments other = refl
no_key (verb.Call c) arguments other = refl

pub is_caller : (v : Verb) → sort_by v ≡ sort.Caller → v ≡ verb.Caller
is_caller verb.Session e = absurd (cc)
is_caller verb.Ports e = absurd (cc)
is_caller verb.Flip e = absurd (cc)
is_caller verb.Phase e = absurd (cc)
is_caller verb.Line e = absurd (cc)
is_caller verb.Clock e = absurd (cc)
is_caller verb.Caller e = refl
is_caller verb.Tick e = absurd (cc)
is_caller verb.End e = absurd (cc)
is_caller (verb.Step l) e = absurd (cc)
is_caller (verb.Call c) e = absurd (cc)

-- ---- in a phase, and outside of phases

head_outside : (at : ItemPlace) → is_head at ≡ true → in_phase at ≡ false
head_outside place.Head h = refl
head_outside place.Start h = absurd (cc)
head_outside place.Ended h = absurd (cc)
head_outside place.Before h = absurd (cc)
head_outside place.Phase h = absurd (cc)
head_outside place.Line h = absurd (cc)
head_outside place.Clock h = absurd (cc)
head_outside place.Caller h = absurd (cc)

pub start_outside : (at : ItemPlace) → is_start at ≡ true → in_phase at ≡ false
start_outside place.Start h = refl
start_outside place.Head h = absurd (cc)
start_outside place.Ended h = absurd (cc)
start_outside place.Before h = absurd (cc)
start_outside place.Phase h = absurd (cc)
start_outside place.Line h = absurd (cc)
start_outside place.Clock h = absurd (cc)
start_outside place.Caller h = absurd (cc)

-- an item that is no border leaves an open phase open
pub phase_kept : (s : PlainStand) (v : Verb) (arguments : List (List ℕ))
    → may_stand v s.place ≡ true
    → (sort_by v ≡ sort.Border → ⊥)
    → in_phase s.place ≡ true
    → in_phase (stand_after s v arguments).place ≡ true
phase_kept s verb.Session arguments stands inner h = absurd (cc)
phase_kept s verb.Ports arguments stands inner h = absurd (both_ways (in_phase s.place) (head_outside s.place stands) h)
phase_kept s verb.Flip arguments stands inner h = h
phase_kept s verb.Phase arguments stands inner h = absurd (inner refl)
phase_kept s verb.Line arguments stands inner h = refl
phase_kept s verb.Clock arguments stands inner h = refl
phase_kept s verb.Caller arguments stands inner h = refl
phase_kept s verb.Tick arguments stands inner h = h
phase_kept s verb.End arguments stands inner h = absurd (inner refl)
phase_kept s (verb.Step l) arguments stands inner h = h
phase_kept s (verb.Call c) arguments stands inner h = h

-- a caller stands in a phase
pub opens_phase : (r next : PlainReading) (word : List ℕ) (arguments : List (List ℕ))
    (took : Took r word arguments next)
    → took.what ≡ verb.Caller
    → in_phase next.stand.place ≡ true
opens_phase r next word arguments took is =
    ap (λ (s : PlainReading). in_phase s.stand.place) took.is
    ∙ ap (λ (v : Verb). in_phase (stand_after r.stand v arguments).place) is

-- a text ends outside of phases
ended_by : (b : Bool) (n : ℕ) (here x : PlainSession) → (if b then Ok here else bad n reason.Order) ≡ Ok x → b ≡ true
ended_by true n here x e = refl
ended_by false n here x e = absurd (cc)

pub ended_outside : (r : PlainReading) (n : ℕ) (x : PlainSession)
    → session_at_end r n ≡ Ok x
    → in_phase r.stand.place ≡ false
ended_outside r n x h =
    ended_no_phase r.stand.place (ended_by (is_ended r.stand.place) n (session_with r.stand r.draft) x h)

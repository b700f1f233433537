-- The scripts of a phase, one for each caller, and where each caller's calls stand.
use Rattle.std.proofs.Common.{◌≡◌, inl, inr, ℕ, zero, suc, ◌+◌, ◌-◌, ◌<◌, ◌≤◌, ◌==◌, Bool, true, false, ◌&&◌, ◌||◌}
use Rattle.std.proofs.Common.{cond, MatchBool, if◌then◌else◌, IsTrue, List, [], ◌∷◌, ◌++◌, Option, None, Some}
use Rattle.std.proofs.Common.{length, take, drop, map, set, get_or, refl, sym, ◌∙◌, ap, subst, arith, append-nil}
use Rattle.std.proofs.Common.{length-append, get_or-set_same, get_or-set_other, length-set, ne_eqb}
use Rattle.std.specs.Prelude.{All, slice_get, option_map}
use Rattle.std.specs.Str.{bytes_eq}
use Rattle.std.proofs.lemmas.Bool.{false≢true, eqb-true, eq-eqb, cases_lt, false_from_ne_true, or_left}
use Rattle.std.proofs.lemmas.List.{get_or_past, take_all, take-append-drop, drop_all}
use Rattle.std.proofs.lemmas.List.Elements.{filter-append, filter_more, All-nil, All-head}
use Rattle.std.proofs.lemmas.List.Elements.{All-tail, All-append, All-filter, All-get_or}
use Rattle.std.proofs.lemmas.Option.{slice_get_within, slice_get-get_or, slice_get_read}
use Rattle.std.proofs.lemmas.Option.{slice_get_past, get_or_from_slice_get, slice_get-map}
use Rattle.std.proofs.lemmas.Slice.Eq.{bytes_eq-Decides}
use Rattle.tty_base.specs.Sizes.{MOST_HANDLES}
use Rattle.tty_calls.specs.declared.sessions.Script.{Script}
use Rattle.tty_calls.specs.declared.journals.Who.{Who}
use Rattle.tty_calls.specs.declared.journals.Who.TheVariants.{Caller}
use Rattle.tty_calls.specs.Plain.{PlainCall, closes, PlainEvent, handle_of}
use Rattle.tty_calls.specs.Sessions.{PlainScript, PlainPhase, PlainSession, script_of, scripts_on}
use Rattle.tty_calls.specs.Sessions.{scripts_over, names_of, number_in, calls_of, call_at}
use Rattle.journal_check.specs.declared.turns.Turn.{Turn}
use Rattle.tty_terminal.specs.Runs.{is_of_call}
use Rattle.journal_check.specs.WellFormed.{IsOfTable, AreOfTable, IsPhaseWellFormed, IsWellFormed}
use Rattle.legal_runs.specs.Legal.{phase_at, name_at, has_script, first_step, is_caller_end, IsInPhase}
use Rattle.journal_check.specs.Scripts.{no_turn, turn_then, turns_with_next, IsTurnOfPhase, IsIdle, scripts_for}
use Rattle.journal_check.specs.Scripts.{IsTurnBy, AreTurnsAmong, AreTurns, AreIdle, calls_from}
use Rattle.legal_runs.proofs.NameLemmas.{get_append, get_past, same_name, all_distinct, calls_append, first_next}
use Rattle.legal_runs.proofs.NameLemmas.{call_of_phase}
use Rattle.legal_runs.proofs.Truths.{when_true, if_true, if_false}
use Rattle.legal_runs.proofs.ScriptLemmas.{is_of, has_append, no_calls, nowhere, at_number, first_stays}

-- ---- turns

-- after the phase of a turn its caller goes on with the step behind it
pub open_next : (p : ℕ) (session : PlainSession) (k c : ℕ) (t : Turn)
    → k < length session.phases
    → IsTurnOfPhase p session k (scripts_on p (phase_at session k)) c t
    → t.first + t.steps ≡ first_step p session (k + 1) c
open_next p session k c t lt o = omega (arith, o.first, o.steps, first_next p session k c lt)

-- a script of another port is no caller's
pub skips : (p : ℕ) (session : PlainSession) (k i : ℕ) (turns : List Turn) (s : PlainScript)
    → slice_get (phase_at session k).callers i ≡ Some s
    → is_of p s ≡ false
    → AreTurnsAmong p session k (take i (phase_at session k).callers) turns
    → AreTurnsAmong p session k (take (i + 1) (phase_at session k).callers) turns
skips p session k i turns s at other among =
    let ss = (phase_at session k).callers in
    let more : scripts_for p (take (i + 1) ss) ≡ scripts_for p (take i ss) =
    filter_more (is_of p) ss i s (slice_get_within ss i s at)
    ∙ ap (λ (x : PlainScript). scripts_for p (take i ss) ++ cond (is_of p x) (x ∷ []) [])
    (get_or_from_slice_get ss i s s at)
    ∙ ap (λ b. scripts_for p (take i ss) ++ cond b (s ∷ []) []) other
    ∙ append-nil (scripts_for p (take i ss)) in
    record {
      many = among.many;
      each = λ c within. subst (λ (xs : List PlainScript). IsTurnBy p session k xs c (get_or turns c no_turn))
          (sym more) (among.each c within);
    }

or_false : (a b : Bool) → b ≡ false → (a || b) ≡ a
or_false true b h = refl
or_false false b h = h

-- a script that is not under a name changes nothing for it
other_name : (xs : List PlainScript) (s : PlainScript) (name : Option (List ℕ))
    → (name ≡ Some s.name → ⊥)
    → has_script (xs ++ s ∷ []) name ≡ has_script xs name
other_name xs s None other = refl
other_name xs s (Some name) other =
    has_append xs (s ∷ []) (Some name)
    ∙ or_false (has_script xs (Some name)) (has_script (s ∷ []) (Some name))
    (or_false (bytes_eq s.name name) false refl
    ∙ false_from_ne_true (bytes_eq s.name name)
    (λ is. other (ap (λ n. Some n) (sym ((bytes_eq-Decides s.name name).0 is)))))

own_name : (xs : List PlainScript) (s : PlainScript) → has_script (xs ++ s ∷ []) (Some s.name) ≡ true
own_name xs s = has_append xs (s ∷ []) (Some s.name) ∙ either (has_script xs (Some s.name))
  where
    either : (b : Bool) → (b || has_script (s ∷ []) (Some s.name)) ≡ true
    either true = refl
    either false = or_left (bytes_eq s.name s.name) false (same_name s.name)

-- nor has it calls for it
other_calls : (xs : List PlainScript) (s : PlainScript) (name : Option (List ℕ))
    → (name ≡ Some s.name → ⊥)
    → calls_of (xs ++ s ∷ []) name ≡ calls_of xs name
other_calls xs s None other = refl
other_calls xs s (Some name) other =
    calls_append xs (s ∷ []) (Some name)
    ∙ ap (λ b. calls_of xs (Some name) ++ ((if b then s.calls else []) ++ []))
    (false_from_ne_true (bytes_eq s.name name)
    (λ is. other (ap (λ n. Some n) (sym ((bytes_eq-Decides s.name name).0 is)))))
    ∙ append-nil (calls_of xs (Some name))

-- a script has its calls after those that its caller has
own_calls : (xs : List PlainScript) (s : PlainScript)
    → calls_of (xs ++ s ∷ []) (Some s.name) ≡ calls_of xs (Some s.name) ++ s.calls
own_calls xs s =
    calls_append xs (s ∷ []) (Some s.name)
    ∙ ap (λ b. calls_of xs (Some s.name) ++ ((if b then s.calls else []) ++ [])) (same_name s.name)
    ∙ ap (λ (cs : List PlainCall). calls_of xs (Some s.name) ++ cs) (append-nil s.calls)

same_turn : (a b : Bool) (P Q : Type 0) → a ≡ b → MatchBool b P Q → MatchBool a P Q
same_turn a b P Q is m = subst (λ (x : Bool). MatchBool x P Q) (sym is) m

-- the turn of a caller that a script is not of
others_turn : (p : ℕ) (session : PlainSession) (k : ℕ) (xs : List PlainScript) (s : PlainScript) (c : ℕ) (t : Turn)
    → (name_at p session c ≡ Some s.name → ⊥)
    → IsTurnBy p session k xs c t
    → IsTurnBy p session k (xs ++ s ∷ []) c t
others_turn p session k xs s c t other h =
    same_turn (has_script (xs ++ s ∷ []) (name_at p session c)) (has_script xs (name_at p session c)) _ _
    (other_name xs s (name_at p session c) other)
    (further (has_script xs (name_at p session c)) h)
  where
    further : (b : Bool)
        → MatchBool b (IsTurnOfPhase p session k xs c t) (IsIdle p session k c t)
        → MatchBool b (IsTurnOfPhase p session k (xs ++ s ∷ []) c t) (IsIdle p session k c t)
    further true o = record {
      begun = o.begun;
      first = o.first;
      steps = o.steps ∙ sym (ap (λ (cs : List PlainCall). length cs) (other_calls xs s (name_at p session c) other));
      none = o.none;
    }
    further false idle = idle

-- and of the caller that it is of
own_turn : (p : ℕ) (session : PlainSession) (k i : ℕ) (s : PlainScript) (c : ℕ) (t : Turn) (b : Bool)
    → has_script (scripts_for p (take i (phase_at session k).callers)) (name_at p session c) ≡ b
    → name_at p session c ≡ Some s.name
    → MatchBool b (IsTurnOfPhase p session k (scripts_for p (take i (phase_at session k).callers)) c t)
    (IsIdle p session k c t)
    → IsTurnOfPhase p session k (scripts_for p (take i (phase_at session k).callers) ++ s ∷ []) c
    (turn_then t k (length s.calls) i)
own_turn p session k i s c t b is named h = either b is h
  where
    xs : List PlainScript
    xs = scripts_for p (take i (phase_at session k).callers)

    many : length (calls_of (xs ++ s ∷ []) (name_at p session c))
        ≡ length (calls_of xs (name_at p session c)) + length s.calls
    many =
        ap (λ name. length (calls_of (xs ++ s ∷ []) name)) named
        ∙ ap (λ (cs : List PlainCall). length cs) (own_calls xs s)
        ∙ length-append (calls_of xs (Some s.name)) s.calls
        ∙ ap (λ name. length (calls_of xs name) + length s.calls) (sym named)

    either : (b : Bool)
        → has_script xs (name_at p session c) ≡ b
        → MatchBool b (IsTurnOfPhase p session k xs c t) (IsIdle p session k c t)
        → IsTurnOfPhase p session k (xs ++ s ∷ []) c (turn_then t k (length s.calls) i)
    either true is o =
        let there : turn_then t k (length s.calls) i
        ≡ record { begun = t.begun; first = t.first; steps = t.steps + length s.calls; script = t.script } =
        if_true (t.begun == k + 1) _ _ (eq-eqb t.begun (k + 1) o.begun) in
        subst (IsTurnOfPhase p session k (xs ++ s ∷ []) c) (sym there) (record {
          begun = o.begun;
          first = o.first;
          steps = omega (arith, o.steps, many);
          none = o.none;
        })
    either false is o =
        let there : turn_then t k (length s.calls) i
        ≡ record { begun = k + 1; first = t.first + t.steps; steps = length s.calls; script = i } =
        if_false (t.begun == k + 1) _ _ (ne_eqb t.begun (k + 1) (λ e. omega (arith, o.begun, e))) in
        let nothing : calls_of xs (name_at p session c) ≡ [] = no_calls xs (name_at p session c) is in
        subst (IsTurnOfPhase p session k (xs ++ s ∷ []) c) (sym there) (record {
          begun = refl;
          first = o.first;
          steps = omega (arith, many, ap (λ (cs : List PlainCall). length cs) nothing);
          none = nothing;
        })

opens_by : (p : ℕ) (session : PlainSession) (k i : ℕ) (turns : List Turn) (s : PlainScript) (o : Option ℕ)
    → scripts_for p (take (i + 1) (phase_at session k).callers)
    ≡ scripts_for p (take i (phase_at session k).callers) ++ s ∷ []
    → number_in (names_of (scripts_over p session.phases)) s.name ≡ o
    → AreTurnsAmong p session k (take i (phase_at session k).callers) turns
    → AreTurnsAmong p session k (take (i + 1) (phase_at session k).callers)
    (turns_with_next turns o k (length s.calls) i)
opens_by p session k i turns s None more is among = record {
  many = among.many;
  each = λ c within. subst (λ (xs : List PlainScript). IsTurnBy p session k xs c (get_or turns c no_turn)) (sym more)
      (others_turn p session k (scripts_for p (take i (phase_at session k).callers)) s c (get_or turns c no_turn)
      (λ named. nowhere (names_of (scripts_over p session.phases)) s.name c is named) (among.each c within));
}
opens_by p session k i turns s (Some d) more is among =
    let names = names_of (scripts_over p session.phases) in
    let before = scripts_for p (take i (phase_at session k).callers) in
    let named : slice_get names d ≡ Some s.name = at_number names s.name d is in
    let there : d < length turns = omega (arith, slice_get_within names d s.name named, among.many) in
    let old = get_or turns d no_turn in
    let new : Turn = turn_then old k (length s.calls) i in
    let own : IsTurnBy p session k (before ++ s ∷ []) d new =
    when_true (has_script (before ++ s ∷ []) (name_at p session d)) _ _
    (ap (λ name. has_script (before ++ s ∷ []) name) named ∙ own_name before s)
    (own_turn p session k i s d old (has_script before (name_at p session d)) refl named (among.each d there)) in
    record {
      many = omega (arith, among.many, length-set turns d new);
      each = λ c within.
          subst (λ (xs : List PlainScript). IsTurnBy p session k xs c (get_or (set turns d new) c no_turn)) (sym more)
          (either p session k i turns s d named among there new own c (omega (arith, within, length-set turns d new))
          (c == d) refl);
    }
  where
    either : (p : ℕ) (session : PlainSession) (k i : ℕ) (turns : List Turn) (s : PlainScript) (d : ℕ)
        → slice_get (names_of (scripts_over p session.phases)) d ≡ Some s.name
        → AreTurnsAmong p session k (take i (phase_at session k).callers) turns
        → d < length turns
        → (new : Turn)
        → IsTurnBy p session k (scripts_for p (take i (phase_at session k).callers) ++ s ∷ []) d new
        → (c : ℕ)
        → c < length turns
        → (b : Bool)
        → (c == d) ≡ b
        → IsTurnBy p session k (scripts_for p (take i (phase_at session k).callers) ++ s ∷ []) c
        (get_or (set turns d new) c no_turn)
    either p session k i turns s d named among there new own c within true same =
        let is : c ≡ d = eqb-true c d same in
        subst (λ (x : ℕ). IsTurnBy p session k (scripts_for p (take i (phase_at session k).callers) ++ s ∷ []) x
        (get_or (set turns d new) x no_turn))
        (sym is)
        (subst (IsTurnBy p session k (scripts_for p (take i (phase_at session k).callers) ++ s ∷ []) d)
        (sym (get_or-set_same turns d new no_turn there)) own)
    either p session k i turns s d named among there new own c within false other =
        let differs : c ≡ d → ⊥ = λ e. false≢true (sym other ∙ eq-eqb c d e) in
        let before = scripts_for p (take i (phase_at session k).callers) in
        subst (IsTurnBy p session k (before ++ s ∷ []) c) (sym (get_or-set_other turns d c new no_turn differs))
        (others_turn p session k before s c (get_or turns c no_turn)
        (λ at. differs ((all_distinct (scripts_over p session.phases)).one_place c d s.name at named))
        (among.each c within))

pub opens_turn : (p : ℕ) (session : PlainSession) (k i : ℕ) (turns : List Turn) (s : PlainScript)
    → slice_get (phase_at session k).callers i ≡ Some s
    → is_of p s ≡ true
    → AreTurnsAmong p session k (take i (phase_at session k).callers) turns
    → AreTurnsAmong p session k (take (i + 1) (phase_at session k).callers)
    (turns_with_next turns (number_in (names_of (scripts_over p session.phases)) s.name) k (length s.calls) i)
opens_turn p session k i turns s at of among =
    let ss = (phase_at session k).callers in
    let before = scripts_for p (take i ss) in
    let more : scripts_for p (take (i + 1) ss) ≡ before ++ s ∷ [] =
    filter_more (is_of p) ss i s (slice_get_within ss i s at)
    ∙ ap (λ (x : PlainScript). before ++ cond (is_of p x) (x ∷ []) []) (get_or_from_slice_get ss i s s at)
    ∙ ap (λ b. before ++ cond b (s ∷ []) []) of in
    opens_by p session k i turns s _ more refl among

-- ---- from phase to phase

past_none : (session : PlainSession) (k : ℕ) → length session.phases ≤ k → (phase_at session k).callers ≡ []
past_none session k past = ap (λ (phase : PlainPhase). phase.callers)
    (get_or_past session.phases k (record { lines = []; ticks = []; callers = [] }) past)

pub first_past : (p : ℕ) (session : PlainSession) (k c : ℕ)
    → length session.phases ≤ k
    → first_step p session (k + 1) c ≡ first_step p session k c
first_past p session k c past =
    ap (λ (phases : List PlainPhase). length (calls_of (scripts_over p phases) (name_at p session c)))
    (take_all (k + 1) session.phases (omega arith) ∙ sym (take_all k session.phases past))

nobody : (name : Option (List ℕ)) → has_script [] name ≡ false
nobody None = refl
nobody (Some name) = refl

nobody_past : (p : ℕ) (session : PlainSession) (k c : ℕ)
    → length session.phases ≤ k
    → has_script (scripts_on p (phase_at session k)) (name_at p session c) ≡ false
nobody_past p session k c past =
    ap (λ (ss : List PlainScript). has_script (scripts_for p ss) (name_at p session c)) (past_none session k past)
    ∙ nobody (name_at p session c)

idle_after : (p : ℕ) (session : PlainSession) (k c : ℕ) (t : Turn) (b : Bool)
    → has_script (scripts_on p (phase_at session k)) (name_at p session c) ≡ b
    → MatchBool b (IsTurnOfPhase p session k (scripts_on p (phase_at session k)) c t) (IsIdle p session k c t)
    → IsIdle p session (k + 1) c t
idle_after p session k c t true is o =
    elim (cases_lt k (length session.phases)) [
      | inl lt ↦ record { begun = omega (arith, o.begun); first = open_next p session k c t lt o }
      | inr past ↦ absurd (false≢true (sym (nobody_past p session k c past) ∙ is))
    ]
idle_after p session k c t false is o =
    elim (cases_lt k (length session.phases)) [
      | inl lt ↦ record { begun = omega (arith, o.begun); first = o.first ∙ sym (first_stays p session k c lt is) }
      | inr past ↦ record { begun = omega (arith, o.begun); first = o.first ∙ sym (first_past p session k c past) }
    ]

pub turns_idle : (p : ℕ) (session : PlainSession) (k : ℕ) (turns : List Turn)
    → AreTurns p session k turns
    → AreIdle p session (k + 1) turns
turns_idle p session k turns are = record {
  many = are.many;
  each = λ c within. idle_after p session k c (get_or turns c no_turn)
      (has_script (scripts_on p (phase_at session k)) (name_at p session c)) refl (are.each c within);
}

-- ---- what the code reads

pub record IsTurnOf (p : ℕ) (session : PlainSession) (k c : ℕ) (t : Turn) : Type 0 where
  pub has : has_script (scripts_on p (phase_at session k)) (name_at p session c) ≡ true
  pub opened_here : IsTurnOfPhase p session k (scripts_on p (phase_at session k)) c t
  pub within : k < length session.phases

begun_turn : (p : ℕ) (session : PlainSession) (k c : ℕ) (t : Turn) (b : Bool)
    → has_script (scripts_on p (phase_at session k)) (name_at p session c) ≡ b
    → MatchBool b (IsTurnOfPhase p session k (scripts_on p (phase_at session k)) c t) (IsIdle p session k c t)
    → t.begun ≡ k + 1
    → IsTurnOf p session k c t
begun_turn p session k c t true is o begun =
    elim (cases_lt k (length session.phases)) [
      | inl lt ↦ record { has = is; opened_here = o; within = lt }
      | inr past ↦ absurd (false≢true (sym (nobody_past p session k c past) ∙ is))
    ]
begun_turn p session k c t false is o begun = absurd (omega (arith, o.begun, begun))

-- the turn of a caller, where it is of this phase
pub turn_of : (p : ℕ) (session : PlainSession) (k c : ℕ) (turns : List Turn) (t : Turn)
    → AreTurns p session k turns
    → slice_get turns c ≡ Some t
    → t.begun ≡ k + 1
    → IsTurnOf p session k c t
turn_of p session k c turns t are at begun =
    let within : c < length turns = slice_get_within turns c t at in
    begun_turn p session k c t (has_script (scripts_on p (phase_at session k)) (name_at p session c)) refl
    (subst (IsTurnBy p session k (scripts_on p (phase_at session k)) c) (get_or_from_slice_get turns c t no_turn at)
    (are.each c within)) begun

not_begun : (p : ℕ) (session : PlainSession) (k c : ℕ) (t : Turn) (b : Bool)
    → MatchBool b (IsTurnOfPhase p session k (scripts_on p (phase_at session k)) c t) (IsIdle p session k c t)
    → (t.begun ≡ k + 1 → ⊥)
    → b ≡ false
not_begun p session k c t true o differs = absurd (differs o.begun)
not_begun p session k c t false o differs = refl

-- who is no caller of the port has none either
pub no_caller : (p : ℕ) (session : PlainSession) (k c : ℕ) (turns : List Turn)
    → AreTurns p session k turns
    → length turns ≤ c
    → has_script (scripts_on p (phase_at session k)) (name_at p session c) ≡ false
no_caller p session k c turns are past =
    ap (λ name. has_script (scripts_on p (phase_at session k)) name)
    (slice_get_past (names_of (scripts_over p session.phases)) c (omega (arith, are.many)))

abbrev Decided : Bool → Type 0 → Type 0
Decided r P = (IsTrue r → P) × (P → IsTrue r)

pub in_phase_by_turn : (p : ℕ) (session : PlainSession) (k c : ℕ) (turns : List Turn) (t : Turn) (who : Who) (step : ℕ)
    (event : PlainEvent) (r : Bool)
    → AreTurns p session k turns
    → who ≡ Caller c
    → slice_get turns c ≡ Some t
    → t.begun ≡ k + 1
    → (IsTrue r → IsTrue (is_of_call event) → (t.first ≤ step) × (step < t.first + t.steps))
    → (IsTrue r → IsTrue (is_caller_end event) → t.first + t.steps ≤ step)
    → ((IsTrue (is_of_call event) → (t.first ≤ step) × (step < t.first + t.steps))
    → (IsTrue (is_caller_end event) → t.first + t.steps ≤ step)
    → IsTrue r)
    → Decided r (IsInPhase p session k who step event)
in_phase_by_turn p session k c turns t who step event r are by at begun calls end may =
    let own = turn_of p session k c turns t are at begun in
    let first = own.opened_here.first in
    let steps = own.opened_here.steps in
    subst (λ (w : Who). Decided r (IsInPhase p session k w step event)) (sym by) (
      λ is. (
        own.has,
        λ of. (omega (arith, (calls is of).0, first), omega (arith, (calls is of).1, first, steps)),
        λ of. omega (arith, end is of, first, steps),
      ),
      λ h. may (λ of. (let both = h.1 of in (omega (arith, both.0, first), omega (arith, both.1, first, steps))))
          (λ of. (let past = h.2 of in omega (arith, past, first, steps))),
    )

-- ---- the calls of a turn, as they stand in the session

for_parts : (p : ℕ) (ss : List PlainScript) (i : ℕ)
    → scripts_for p ss ≡ scripts_for p (take i ss) ++ scripts_for p (drop i ss)
for_parts p ss i = ap (scripts_for p) (sym (take-append-drop i ss)) ∙ filter-append (is_of p) (take i ss) (drop i ss)

-- from the turn's place on stand all of them
all_from : (p : ℕ) (session : PlainSession) (k c : ℕ) (t : Turn) (name : List ℕ)
    → IsTurnOfPhase p session k (scripts_on p (phase_at session k)) c t
    → name_at p session c ≡ Some name
    → calls_of (scripts_on p (phase_at session k)) (name_at p session c)
    ≡ calls_from p (phase_at session k).callers t.script name
all_from p session k c t name o named =
    let ss = (phase_at session k).callers in
    ap (λ (xs : List PlainScript). calls_of xs (name_at p session c)) (for_parts p ss t.script)
    ∙ calls_append (scripts_for p (take t.script ss)) (scripts_for p (drop t.script ss)) (name_at p session c)
    ∙ ap (λ (cs : List PlainCall). cs ++ calls_of (scripts_for p (drop t.script ss)) (name_at p session c)) o.none
    ∙ ap (λ known. calls_of (scripts_for p (drop t.script ss)) known) named

-- there is one for each step of the turn
pub step_there : (p : ℕ) (session : PlainSession) (k c : ℕ) (t : Turn) (step : ℕ) (name : List ℕ)
    (scripts : List PlainScript)
    → IsTurnOfPhase p session k (scripts_on p (phase_at session k)) c t
    → name_at p session c ≡ Some name
    → scripts ≡ (phase_at session k).callers
    → t.first ≤ step
    → step < t.first + t.steps
    → step - t.first < length (calls_from p scripts t.script name)
step_there p session k c t step name scripts o named are first within =
    omega (
      arith,
      o.steps,
      ap (λ (cs : List PlainCall). length cs) (all_from p session k c t name o named),
      ap (λ (ss : List PlainScript). length (calls_from p ss t.script name)) are,
    )

-- and it is the call of that step
pub call_there : (p : ℕ) (session : PlainSession) (k c : ℕ) (t : Turn) (step : ℕ) (name : List ℕ)
    (scripts : List PlainScript) (call : PlainCall)
    → k < length session.phases
    → IsTurnOfPhase p session k (scripts_on p (phase_at session k)) c t
    → name_at p session c ≡ Some name
    → scripts ≡ (phase_at session k).callers
    → slice_get (calls_from p scripts t.script name) (step - t.first) ≡ Some call
    → t.first ≤ step
    → call_at p session c step ≡ Some call
call_there p session k c t step name scripts call lt o named are read first =
    let i : ℕ = step - t.first in
    let at : first_step p session k c + i ≡ step = omega (arith, o.first) in
    ap (λ n. call_at p session c n) (sym at)
    ∙ call_of_phase p session k c i call lt (
    ap (λ (cs : List PlainCall). slice_get cs i)
    (all_from p session k c t name o named ∙ ap (λ (ss : List PlainScript). calls_from p ss t.script name) (sym are))
    ∙ read)

-- ---- a walk over the scripts of a phase

next_script : (ss : List PlainScript) (i : ℕ) (s : PlainScript)
    → slice_get ss i ≡ Some s
    → drop i ss ≡ s ∷ drop (i + 1) ss
next_script ss i s at = sym (drop_at ss i s at)
  where
    drop_at : (ss : List PlainScript) (i : ℕ) (s : PlainScript)
        → slice_get ss i ≡ Some s
        → s ∷ drop (i + 1) ss ≡ drop i ss
    drop_at [] i s at = absurd (cc)
    drop_at (x ∷ xs) zero s at = (let same : s ≡ x = cc in ap (λ (y : PlainScript). y ∷ xs) same)
    drop_at (x ∷ xs) (suc i) s at =
        ap (λ (n : ℕ). s ∷ drop n (x ∷ xs)) (let far : suc i + 1 ≡ suc (i + 1) = omega arith in far) ∙ drop_at xs i s at

-- a script that is not of the port and under the name has none of the calls
pub passes_script : (p : ℕ) (ss : List PlainScript) (i : ℕ) (s : PlainScript) (name : List ℕ)
    → slice_get ss i ≡ Some s
    → (is_of p s && bytes_eq s.name name) ≡ false
    → calls_from p ss i name ≡ calls_from p ss (i + 1) name
passes_script p ss i s name at not =
    ap (λ (xs : List PlainScript). calls_of (scripts_for p xs) (Some name)) (next_script ss i s at)
    ∙ either (is_of p s) (bytes_eq s.name name) refl not
  where
    either : (b d : Bool)
        → bytes_eq s.name name ≡ d
        → (b && d) ≡ false
        → calls_of (cond b (s ∷ scripts_for p (drop (i + 1) ss)) (scripts_for p (drop (i + 1) ss))) (Some name)
        ≡ calls_from p ss (i + 1) name
    either true true is none = absurd (false≢true (sym none))
    either true false is none = ap (λ b. (if b then s.calls else []) ++ calls_from p ss (i + 1) name) is
    either false d is none = refl

-- one that is has the next of them
pub enters_script : (p : ℕ) (ss : List PlainScript) (i : ℕ) (s : PlainScript) (name : List ℕ)
    → slice_get ss i ≡ Some s
    → (is_of p s && bytes_eq s.name name) ≡ true
    → calls_from p ss i name ≡ s.calls ++ calls_from p ss (i + 1) name
enters_script p ss i s name at own =
    ap (λ (xs : List PlainScript). calls_of (scripts_for p xs) (Some name)) (next_script ss i s at)
    ∙ either (is_of p s) (bytes_eq s.name name) refl own
  where
    either : (b d : Bool)
        → bytes_eq s.name name ≡ d
        → (b && d) ≡ true
        → calls_of (cond b (s ∷ scripts_for p (drop (i + 1) ss)) (scripts_for p (drop (i + 1) ss))) (Some name)
        ≡ s.calls ++ calls_from p ss (i + 1) name
    either true true is both = ap (λ b. (if b then s.calls else []) ++ calls_from p ss (i + 1) name) is
    either true false is both = absurd (false≢true both)
    either false d is both = absurd (false≢true both)

-- past the last script there are none
pub none_past : (p : ℕ) (ss : List PlainScript) (i : ℕ) (name : List ℕ) → length ss ≤ i → calls_from p ss i name ≡ []
none_past p ss i name past =
    ap (λ (xs : List PlainScript). calls_of (scripts_for p xs) (Some name)) (drop_all i ss past)

script_at : (scripts : List Script) (i : ℕ) (script : Script)
    → i < length scripts
    → script ≡ get_or scripts i script
    → slice_get (map script_of scripts) i ≡ Some (script_of script)
script_at scripts i script lt is =
    slice_get-map script_of scripts i
    ∙ ap (option_map script_of) (slice_get_read scripts (length scripts) i script refl lt is)

pub walks_into : (p : ℕ) (scripts : List Script) (i : ℕ) (script : Script) (name : List ℕ) (left : ℕ) (call : PlainCall)
    (wanted : Option PlainCall)
    → i < length scripts
    → script ≡ get_or scripts i script
    → ((script.port == p) && bytes_eq script.name.bytes name) ≡ true
    → slice_get script.calls.items left ≡ Some call
    → slice_get (calls_from p (map script_of scripts) i name) left ≡ wanted
    → wanted ≡ Some call
walks_into p scripts i script name left call wanted lt is own read so_far =
    sym so_far
    ∙ ap (λ (cs : List PlainCall). slice_get cs left)
    (enters_script p (map script_of scripts) i (script_of script) name (script_at scripts i script lt is) own)
    ∙ get_append script.calls.items (calls_from p (map script_of scripts) (i + 1) name) left call read

pub walks_past : (p : ℕ) (scripts : List Script) (i : ℕ) (script : Script) (name : List ℕ) (left left' : ℕ)
    (wanted : Option PlainCall)
    → i < length scripts
    → script ≡ get_or scripts i script
    → ((script.port == p) && bytes_eq script.name.bytes name) ≡ true
    → left ≡ length script.calls.items + left'
    → slice_get (calls_from p (map script_of scripts) i name) left ≡ wanted
    → slice_get (calls_from p (map script_of scripts) (i + 1) name) left' ≡ wanted
walks_past p scripts i script name left left' wanted lt is own far so_far =
    sym (get_past script.calls.items (calls_from p (map script_of scripts) (i + 1) name) left left' far)
    ∙ ap (λ (cs : List PlainCall). slice_get cs left)
    (sym (enters_script p (map script_of scripts) i (script_of script) name (script_at scripts i script lt is) own))
    ∙ so_far

pub walks_by : (p : ℕ) (scripts : List Script) (i : ℕ) (script : Script) (name : List ℕ) (left : ℕ)
    (wanted : Option PlainCall)
    → i < length scripts
    → script ≡ get_or scripts i script
    → ((script.port == p) && bytes_eq script.name.bytes name) ≡ false
    → slice_get (calls_from p (map script_of scripts) i name) left ≡ wanted
    → slice_get (calls_from p (map script_of scripts) (i + 1) name) left ≡ wanted
walks_by p scripts i script name left wanted lt is other so_far =
    ap (λ (cs : List PlainCall). slice_get cs left)
    (sym (passes_script p (map script_of scripts) i (script_of script) name (script_at scripts i script lt is) other))
    ∙ so_far

pub walks_out : (p : ℕ) (ss : List PlainScript) (i from : ℕ) (name : List ℕ) (left place : ℕ)
    → length ss ≤ i
    → place < length (calls_from p ss from name)
    → slice_get (calls_from p ss i name) left ≡ slice_get (calls_from p ss from name) place
    → ⊥
walks_out p ss i from name left place past lt so_far =
    let found : slice_get (calls_from p ss from name) place
    ≡ Some (get_or (calls_from p ss from name) place (closes 0)) =
    slice_get-get_or (calls_from p ss from name) place (closes 0) lt in
    let nothing : slice_get (calls_from p ss i name) left ≡ None =
    ap (λ (cs : List PlainCall). slice_get cs left) (none_past p ss i name past) in
    let both : None ≡ Some (get_or (calls_from p ss from name) place (closes 0)) = sym nothing ∙ so_far ∙ found in
    cc

pub opened_turns : (p : ℕ) (session : PlainSession) (k i : ℕ) (turns after : List Turn) (names : List (List ℕ))
    (scripts : List Script) (script : Script)
    → map script_of scripts ≡ (phase_at session k).callers
    → script ≡ get_or scripts i script
    → i < length scripts
    → script.port ≡ p
    → names ≡ names_of (scripts_over p session.phases)
    → after ≡ turns_with_next turns (number_in names script.name.bytes) k (length script.calls.items) i
    → AreTurnsAmong p session k (take i (phase_at session k).callers) turns
    → AreTurnsAmong p session k (take (i + 1) (phase_at session k).callers) after
opened_turns p session k i turns after names scripts script are script_is place on_port named after_is among =
    let at : slice_get (phase_at session k).callers i ≡ Some (script_of script) =
    ap (λ (ss : List PlainScript). slice_get ss i) (sym are)
    ∙ (slice_get-map script_of scripts i
    ∙ ap (option_map script_of) (slice_get_read scripts (length scripts) i script refl place script_is)) in
    subst (AreTurnsAmong p session k (take (i + 1) (phase_at session k).callers))
    (sym (after_is
    ∙ ap (λ (known : List (List ℕ)).
    turns_with_next turns (number_in known script.name.bytes) k (length script.calls.items) i) named))
    (opens_turn p session k i turns (script_of script) at (eq-eqb script.port p on_port) among)

pub skipped_turns : (p : ℕ) (session : PlainSession) (k i : ℕ) (turns after : List Turn) (scripts : List Script)
    (script : Script)
    → map script_of scripts ≡ (phase_at session k).callers
    → script ≡ get_or scripts i script
    → i < length scripts
    → (script.port ≡ p → ⊥)
    → after ≡ turns
    → AreTurnsAmong p session k (take i (phase_at session k).callers) turns
    → AreTurnsAmong p session k (take (i + 1) (phase_at session k).callers) after
skipped_turns p session k i turns after scripts script are script_is place other after_is among =
    let at : slice_get (phase_at session k).callers i ≡ Some (script_of script) =
    ap (λ (ss : List PlainScript). slice_get ss i) (sym are)
    ∙ (slice_get-map script_of scripts i
    ∙ ap (option_map script_of) (slice_get_read scripts (length scripts) i script refl place script_is)) in
    subst (AreTurnsAmong p session k (take (i + 1) (phase_at session k).callers)) (sym after_is)
    (skips p session k i turns (script_of script) at
    (false_from_ne_true (script.port == p) (λ is. other (eqb-true script.port p is))) among)

-- ---- a caller in its phase

turn_by : (p : ℕ) (session : PlainSession) (k c : ℕ) (t : Turn) (b : Bool)
    → has_script (scripts_on p (phase_at session k)) (name_at p session c) ≡ b
    → MatchBool b (IsTurnOfPhase p session k (scripts_on p (phase_at session k)) c t) (IsIdle p session k c t)
    → b ≡ true
    → IsTurnOf p session k c t
turn_by p session k c t true is o there = begun_turn p session k c t true is o o.begun
turn_by p session k c t false is o there = absurd (false≢true there)

-- a caller that is of its phase has its turn there
pub phase_turn : (p : ℕ) (session : PlainSession) (k c : ℕ) (turns : List Turn) (who : Who) (step : ℕ)
    (event : PlainEvent)
    → AreTurns p session k turns
    → who ≡ Caller c
    → IsInPhase p session k who step event
    → c < length turns
    → IsTurnOf p session k c (get_or turns c no_turn)
phase_turn p session k c turns who step event are by h within =
    let there = subst (λ (w : Who). IsInPhase p session k w step event) by h in
    turn_by p session k c (get_or turns c no_turn)
    (has_script (scripts_on p (phase_at session k)) (name_at p session c)) refl (are.each c within) there.0

-- and its step is one of its turn
pub step_within : (p : ℕ) (session : PlainSession) (k c : ℕ) (t : Turn) (who : Who) (step : ℕ) (event : PlainEvent)
    → IsTurnOf p session k c t
    → who ≡ Caller c
    → IsInPhase p session k who step event
    → is_of_call event ≡ true
    → (t.first ≤ step) × (step < t.first + t.steps)
step_within p session k c t who step event own by h of =
    let there = subst (λ (w : Who). IsInPhase p session k w step event) by h in
    let both = there.1 of in
    (omega (arith, both.0, own.opened_here.first), omega (arith, both.1, own.opened_here.first, own.opened_here.steps))

-- ---- the handles of calls

calls_good : (scripts : List PlainScript) (name : Option (List ℕ))
    → All AreOfTable scripts
    → All IsOfTable (calls_of scripts name)
calls_good scripts None h = All-nil IsOfTable
calls_good [] (Some name) h = All-nil IsOfTable
calls_good (s ∷ ss) (Some name) h =
    All-append IsOfTable (if bytes_eq s.name name then s.calls else []) (calls_of ss (Some name))
    (either (bytes_eq s.name name)) (calls_good ss (Some name) (All-tail AreOfTable s ss h))
  where
    either : (b : Bool) → All IsOfTable (if b then s.calls else [])
    either true = All-head AreOfTable s ss h
    either false = All-nil IsOfTable

over_good : (p : ℕ) (phases : List PlainPhase) → All IsPhaseWellFormed phases → All AreOfTable (scripts_over p phases)
over_good p [] h = All-nil AreOfTable
over_good p (x ∷ xs) h =
    All-append AreOfTable (scripts_on p x) (scripts_over p xs)
    (All-filter (is_of p) AreOfTable x.callers (All-head IsPhaseWellFormed x xs h).calls)
    (over_good p xs (All-tail IsPhaseWellFormed x xs h))

-- the calls of a well-formed session name handles by numbers of the table
pub table_call : (p : ℕ) (session : PlainSession) (c step : ℕ) (call : PlainCall)
    → IsWellFormed session
    → call_at p session c step ≡ Some call
    → handle_of call < MOST_HANDLES
table_call p session c step call formed at =
    let calls = calls_of (scripts_over p session.phases) (name_at p session c) in
    subst IsOfTable (get_or_from_slice_get calls step call call at)
    (All-get_or IsOfTable calls step call (slice_get_within calls step call at)
    (calls_good (scripts_over p session.phases) (name_at p session c) (over_good p session.phases formed.phases)))

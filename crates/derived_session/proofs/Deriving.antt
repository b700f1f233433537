-- Scripts that are made one after the other are those of the session that was played.
use Rattle.std.proofs.Common.{◌≡◌, ◌≤◌, ◌<◌, ◌⊎◌, inl, inr, ℕ, ◌+◌, Bool, true, false}
use Rattle.std.proofs.Common.{List, [], ◌∷◌, ◌++◌, Option, Some, length, map, if◌then◌else◌, refl, sym, ap, ◌∙◌}
use Rattle.std.proofs.Common.{subst, arith, append_assoc, append-nil}
use Rattle.std.specs.Prelude.{All, slice_get, slice_index_or, slice_set, unwrap_or}
use Rattle.std.specs.Str.{bytes_eq}
use Rattle.std.proofs.lemmas.Bool.{cases_eq, false≢true}
use Rattle.std.proofs.lemmas.List.{get_or-set_same, get_or-set_other, get_or_past, length-set, map-append}
use Rattle.std.proofs.lemmas.List.Elements.{All-head, All-tail}
use Rattle.std.proofs.lemmas.List.Sums.{sum_by-cons}
use Rattle.std.proofs.lemmas.Slice.Eq.{bytes_eq-Decides}
use Rattle.tty_calls.specs.Plain.{PlainCall}
use Rattle.tty_calls.specs.Sessions.{PlainScript, PlainPhase, with_name}
use Rattle.passed_calls.specs.Blocks.{Block, names_on, number_on, steps_under}
use Rattle.passed_calls.specs.Derived.{Passed, blocks_of, by_caller, calls_at, calls_for}
use Rattle.passed_calls.specs.Derived.{passed_script, passed_scripts, passed_phases_after, passed_phases}
use Rattle.passed_calls.specs.Scripts.{CallerScript, block_of, numbered_call}
use Rattle.derived_session.specs.declared.passed.PassedDown.{PassedDown}
use Rattle.derived_session.specs.declared.slots.StepSlot.{StepSlot}
use Rattle.derived_session.specs.Steps.{CallerStep, StepsPhase, block_phase_of, passings_of, scripts_in, step_at}
use Rattle.derived_session.specs.Steps.{own_call}
use Rattle.derived_session.specs.Slots.{no_slot, slot_after, slot_at, calls_from, hangup_list}
use Rattle.derived_session.specs.Making.{PortState, caller_of, next_of, script_made, script_after}
use Rattle.derived_session.specs.Making.{no_port, port_at, ports_then, ports_after, scripts_made}
use Rattle.derived_session.specs.Making.{phases_made, IsFirstPort, AreFirstPorts}
use Rattle.derived_session.proofs.Places.{place_of, eq_name, place_learned, place_then, name_at, number_is, all_names}
use Rattle.derived_session.proofs.Places.{reached_same, later_long, own_next, other_next}
use Rattle.derived_session.proofs.Passing.{calls_passed_are, slot_calls_are}
use Rattle.derived_session.proofs.Stands.{own_blocks, own_scripts, block_here, block_elsewhere, block_names}
use Rattle.derived_session.proofs.Stands.{call_of_script, names_more, steps_more}

abbrev Script : Type 0
Script = CallerScript CallerStep

caller_is : (t : PortState) (name : List ℕ) → caller_of t name ≡ place_of name t.names
caller_is t name =
    let at = place_learned t.names name in
    ap (λ (o : Option ℕ). unwrap_or o 0)
    (number_is (with_name t.names name) name (subst (λ (n : ℕ). n < length (with_name t.names name)) (sym at.0) at.1))
    ∙ at.0

module _ (all : List Script) (passed : List (List PassedDown))
    (single : (p c step : ℕ) → length (calls_at (by_caller c (passings_of all passed p)) step) ≤ 1) where
  abbrev passings : Passed
  passings = passings_of all passed

  -- a port behind these scripts
  record Follows (before : List Script) (p : ℕ) (t : PortState) : Type 0 where
    names : t.names ≡ names_on p (map block_of before)
    next : (name : List ℕ)
        → slice_index_or t.next (place_of name t.names) 0 ≡ steps_under name (own_blocks p before)
    many : length t.next ≡ length t.names
    slots : (c step : ℕ) → slot_at t.slots c step ≡ slot_after no_slot (slice_index_or passed p []) c step

  -- ---- one script

  names_then : (before : List Script) (s : Script) (t : PortState)
      → Follows before s.port t
      → with_name t.names s.name ≡ names_on s.port (map block_of (before ++ s ∷ []))
  names_then before s t h =
      ap (λ (ns : List (List ℕ)). with_name ns s.name) h.names
      ∙ (ap (λ (bs : List Block). all_names (names_on s.port (map block_of before)) (block_names bs))
      (sym (block_here s))
      ∙ sym (names_more s.port before (s ∷ [])))

  -- its caller among all
  caller_stands : (before behind : List Script) (s : Script) (t : PortState)
      → Follows before s.port t
      → all ≡ before ++ s ∷ behind
      → (place_of s.name (names_on s.port (map block_of all)) ≡ place_of s.name t.names)
      × (place_of s.name t.names < length (names_on s.port (map block_of all)))
  caller_stands before behind s t h e =
      let p = s.port in
      let at = place_learned t.names s.name in
      let more : names_on p (map block_of all)
      ≡ all_names (with_name t.names s.name) (block_names (own_blocks p behind)) =
      ap (λ (ss : List Script). names_on p (map block_of ss)) (e ∙ sym (append_assoc before (s ∷ []) behind))
      ∙ (names_more p (before ++ s ∷ []) behind
      ∙ ap (λ (ns : List (List ℕ)). all_names ns (block_names (own_blocks p behind)))
      (sym (names_then before s t h))) in
      let later = place_then (with_name t.names s.name) (block_names (own_blocks p behind)) s.name
      (subst (λ (n : ℕ). n < length (with_name t.names s.name)) (sym at.0) at.1) in (
        ap (place_of s.name) more ∙ (later.0 ∙ at.0),
        subst (λ (ns : List (List ℕ)). place_of s.name t.names < length ns) (sym more)
            (subst (λ (n : ℕ). n < length (all_names (with_name t.names s.name) (block_names (own_blocks p behind))))
            at.0 later.1),
      )

  calls_are : (before behind : List Script) (s : Script) (t : PortState)
      → Follows before s.port t
      → all ≡ before ++ s ∷ behind
      → calls_from (slice_index_or t.slots (place_of s.name t.names) [])
      (steps_under s.name (own_blocks s.port before)) s.calls
      ≡ calls_for (by_caller (place_of s.name t.names) (passings s.port))
      (steps_under s.name (own_blocks s.port before)) (length s.calls)
  calls_are before behind s t h e =
      let p = s.port in
      let c = place_of s.name t.names in
      let n = steps_under s.name (own_blocks p before) in
      let names = names_on p (map block_of all) in
      let stands = caller_stands before behind s t h e in
      let named : slice_get names c ≡ Some s.name =
      ap (slice_get names) (sym stands.0)
      ∙ name_at s.name names (subst (λ (m : ℕ). m < length names) (sym stands.0) stands.1) in
      calls_passed_are (step_at all p) c (by_caller c (passings p)) (slice_index_or t.slots c []) n s.calls
      (λ step.
      ap
      (λ (slot : StepSlot). (if slot.own then own_call (step_at all p c step) else []) ++ hangup_list slot.hangup)
      (h.slots c step)
      ∙ slot_calls_are (step_at all p) c step no_slot (slice_index_or passed p []) (single p c step))
      (λ i lt.
      ap (λ (ss : List Script). numbered_call names (own_scripts p ss) c (n + i)) e
      ∙ call_of_script names before behind s c i named lt)

  script_is : (before behind : List Script) (s : Script) (t : PortState)
      → Follows before s.port t
      → all ≡ before ++ s ∷ behind
      → script_made t s ≡ passed_script passings (map block_of all) (map block_of before) (block_of s)
  script_is before behind s t h e =
      let p = s.port in
      let c = place_of s.name t.names in
      let names = names_on p (map block_of all) in
      let stands = caller_stands before behind s t h e in
      let next : slice_index_or (next_of t s.name) c 0 ≡ steps_under s.name (own_blocks p before) =
      reached_same (with_name t.names s.name) t.next c ∙ h.next s.name in
      let number : number_on p (map block_of all) s.name ≡ c =
      ap (λ (o : Option ℕ). unwrap_or o (length names))
      (number_is names s.name (subst (λ (m : ℕ). m < length names) (sym stands.0) stands.1))
      ∙ stands.0 in
      let calls : calls_from (slice_index_or t.slots (caller_of t s.name) [])
      (slice_index_or (next_of t s.name) (caller_of t s.name) 0) s.calls
      ≡ calls_for (by_caller (number_on p (map block_of all) s.name) (passings p))
      (steps_under s.name (own_blocks p before)) (length s.calls) =
      ap
      (λ (m : ℕ). calls_from (slice_index_or t.slots m []) (slice_index_or (next_of t s.name) m 0) s.calls)
      (caller_is t s.name)
      ∙ (ap (λ (m : ℕ). calls_from (slice_index_or t.slots c []) m s.calls) next
      ∙ (calls_are before behind s t h e
      ∙ ap
      (λ (m : ℕ).
      calls_for (by_caller m (passings p)) (steps_under s.name (own_blocks p before)) (length s.calls))
      (sym number))) in
      ap (λ (cs : List PlainCall). record { port = p; name = s.name; calls = cs }) calls

  -- ---- the port behind it

  either : (b : Bool) → (b ≡ true) ⊎ (b ≡ false)
  either true = inl refl
  either false = inr refl

  follows_then : (before : List Script) (s : Script) (t : PortState)
      → Follows before s.port t
      → Follows (before ++ s ∷ []) s.port (script_after t s)
  follows_then before s t h =
      let p = s.port in
      let c = place_of s.name t.names in
      let n = slice_index_or (next_of t s.name) c 0 + length s.calls in
      let set_is : (script_after t s).next ≡ slice_set (next_of t s.name) c n =
      ap
      (λ (m : ℕ).
      slice_set (next_of t s.name) m (slice_index_or (next_of t s.name) m 0 + length s.calls))
      (caller_is t s.name) in
      let names : List (List ℕ) = with_name t.names s.name in
      record {
        names = names_then before s t h;
        next = λ name.
            ap (λ (ns : List ℕ). slice_index_or ns (place_of name names) 0) set_is
            ∙ elim (either (bytes_eq name s.name)) [
              | inl is ↦
                  subst
                  (λ (x : List ℕ).
                  slice_index_or (slice_set (next_of t s.name) c n) (place_of x names) 0
                  ≡ steps_under x (own_blocks p (before ++ s ∷ [])))
                  (sym (eq_name name s.name is))
                  (own_next t.names t.next s.name h.many n
                  ∙ (let old = reached_same names t.next c ∙ h.next s.name in
                  let more = steps_more s.name p before (s ∷ []) in
                  let one = one_under s.name s (ap (λ (x : List ℕ). bytes_eq x s.name) refl ∙ same s.name) in
                  omega (arith, old, more, one)))
              | inr other ↦
                  other_next t.names t.next s.name h.many n name other
                  ∙ (h.next name
                  ∙ (let more = steps_more name p before (s ∷ []) in
                  let none = none_under name s (apart name s.name other) in
                  omega (arith, more, none)))
            ];
        many = ap (λ (ns : List ℕ). length ns) set_is ∙ later_long t.names t.next s.name h.many n;
        slots = h.slots;
      }
    where
      same : (name : List ℕ) → bytes_eq name name ≡ true
      same name = (bytes_eq-Decides name name).1 refl

      apart : (x y : List ℕ) → bytes_eq x y ≡ false → bytes_eq y x ≡ false
      apart x y ne = elim (either (bytes_eq y x)) [
        | inl is ↦
            absurd (false≢true (sym ne ∙ (ap (λ (z : List ℕ). bytes_eq x z) (eq_name y x is) ∙ same x)))
        | inr other ↦ other
      ]

      one_under : (name : List ℕ) (s : Script)
          → bytes_eq s.name name ≡ true
          → steps_under name (own_blocks s.port (s ∷ [])) ≡ length s.calls
      one_under name s is =
          ap (steps_under name) (block_here s)
          ∙ (sum_by-cons (λ (b : Block). if bytes_eq b.name name then b.steps else 0) (block_of s) []
          ∙ (ap (λ (b : Bool). (if b then length s.calls else 0) + 0) is ∙ omega arith))

      none_under : (name : List ℕ) (s : Script)
          → bytes_eq s.name name ≡ false
          → steps_under name (own_blocks s.port (s ∷ [])) ≡ 0
      none_under name s is =
          ap (steps_under name) (block_here s)
          ∙ (sum_by-cons (λ (b : Block). if bytes_eq b.name name then b.steps else 0) (block_of s) []
          ∙ ap (λ (b : Bool). (if b then length s.calls else 0) + 0) is)

  follows_still : (before : List Script) (s : Script) (q : ℕ) (t : PortState)
      → (s.port ≡ q → ⊥)
      → Follows before q t
      → Follows (before ++ s ∷ []) q t
  follows_still before s q t other h = record {
    names =
        h.names
        ∙ (ap (λ (bs : List Block). all_names (names_on q (map block_of before)) (block_names bs))
        (sym (block_elsewhere q s other))
        ∙ sym (names_more q before (s ∷ [])));
    next = λ name.
        h.next name
        ∙ (let more = steps_more name q before (s ∷ []) in
        let none = ap (steps_under name) (block_elsewhere q s other) in
        omega (arith, more, none));
    many = h.many;
    slots = h.slots;
  }

  -- ---- all ports

  record Following (before : List Script) (ports : List PortState) : Type 0 where
    each : (p : ℕ) → p < length ports → Follows before p (port_at ports p)

  following_then : (before : List Script) (s : Script) (ports : List PortState)
      → s.port < length ports
      → Following before ports
      → Following (before ++ s ∷ []) (ports_then ports s)
  following_then before s ports within h =
      let own = script_after (port_at ports s.port) s in
      record {
        each = λ p lt.
            let known : p < length ports = omega (arith, lt, length-set ports s.port own) in
            elim (cases_eq p s.port) [
              | inl same ↦
                  subst (λ (q : ℕ). Follows (before ++ s ∷ []) q (port_at (ports_then ports s) q)) (sym same)
                  (subst (λ (t : PortState). Follows (before ++ s ∷ []) s.port t)
                  (sym (get_or-set_same ports s.port own no_port within))
                  (follows_then before s (port_at ports s.port) (h.each s.port within)))
              | inr other ↦
                  subst (λ (t : PortState). Follows (before ++ s ∷ []) p t)
                  (sym (get_or-set_other ports s.port p own no_port other))
                  (follows_still before s p (port_at ports p) (λ e. other (sym e)) (h.each p known))
            ];
      }

  scripts_are : (before ss behind : List Script) (ports : List PortState)
      → All (λ (s : Script). s.port < length ports) ss
      → all ≡ before ++ (ss ++ behind)
      → Following before ports
      → (scripts_made ports ss
      ≡ passed_scripts passings (map block_of all) (map block_of before) (map block_of ss))
      × Following (before ++ ss) (ports_after ports ss)
  scripts_are before [] behind ports good e h =
      (refl, subst (λ (ss : List Script). Following ss ports) (sym (append-nil before)) h)
  scripts_are before (s ∷ ss) behind ports good e h =
      let within = All-head (λ (x : Script). x.port < length ports) s ss good in
      let long : length (ports_then ports s) ≡ length ports =
      length-set ports s.port (script_after (port_at ports s.port) s) in
      let here = script_is before (ss ++ behind) s (port_at ports s.port) (h.each s.port within) e in
      let rest = scripts_are (before ++ s ∷ []) ss behind (ports_then ports s)
      (subst (λ (n : ℕ). All (λ (x : Script). x.port < n) ss) (sym long)
      (All-tail (λ (x : Script). x.port < length ports) s ss good))
      (e ∙ sym (append_assoc before (s ∷ []) (ss ++ behind)))
      (following_then before s ports within h) in (
        ap (λ (x : PlainScript). x ∷ scripts_made (ports_then ports s) ss) here
            ∙ ap
            (λ (xs : List PlainScript).
            passed_script passings (map block_of all) (map block_of before) (block_of s) ∷ xs)
            (rest.0
            ∙ ap (λ (bs : List Block). passed_scripts passings (map block_of all) bs (map block_of ss))
            (map-append block_of before (s ∷ []))),
        subst (λ (xs : List Script). Following xs (ports_after (ports_then ports s) ss))
            (append_assoc before (s ∷ []) ss) rest.1,
      )

  -- ---- phases

  after_long : (ports : List PortState) (ss : List Script) → length (ports_after ports ss) ≡ length ports
  after_long ports [] = refl
  after_long ports (s ∷ ss) =
      after_long (ports_then ports s) ss ∙ length-set ports s.port (script_after (port_at ports s.port) s)

  phases_are : (before : List Script) (phases : List StepsPhase) (ports : List PortState)
      → All (λ (phase : StepsPhase). All (λ (s : Script). s.port < length ports) phase.callers) phases
      → all ≡ before ++ scripts_in phases
      → Following before ports
      → phases_made ports phases
      ≡ passed_phases_after passings (map block_of all) (map block_of before) (map block_phase_of phases)
  phases_are before [] ports good e h = refl
  phases_are before (phase ∷ phases) ports good e h =
      let own = phase.callers in
      let first = scripts_are before own (scripts_in phases) ports
      (All-head (λ (x : StepsPhase). All (λ (s : Script). s.port < length ports) x.callers) phase phases good) e h in
      let rest = phases_are (before ++ own) phases (ports_after ports own)
      (subst (λ (n : ℕ). All (λ (x : StepsPhase). All (λ (s : Script). s.port < n) x.callers) phases)
      (sym (after_long ports own))
      (All-tail (λ (x : StepsPhase). All (λ (s : Script). s.port < length ports) x.callers) phase phases good))
      (e ∙ sym (append_assoc before own (scripts_in phases))) first.1 in
      ap
      (λ (ss : List PlainScript).
      record { lines = phase.lines; ticks = phase.ticks; callers = ss } ∷ phases_made (ports_after ports own) phases)
      first.0
      ∙ ap
      (λ (ps : List PlainPhase).
      record {
        lines = phase.lines;
        ticks = phase.ticks;
        callers = passed_scripts passings (map block_of all) (map block_of before) (map block_of own);
      } ∷ ps)
      (rest
      ∙ ap
      (λ (bs : List Block). passed_phases_after passings (map block_of all) bs (map block_phase_of phases))
      (map-append block_of before own))

  first_follows : (p : ℕ) (t : PortState) → IsFirstPort (slice_index_or passed p []) t → Follows [] p t
  first_follows p t h = record {
    names = h.names;
    next = λ name.
        ap (λ (ns : List ℕ). slice_index_or ns (place_of name t.names) 0) h.next
        ∙ get_or_past [] (place_of name t.names) 0 (omega arith);
    many = ap (λ (ns : List ℕ). length ns) h.next ∙ sym (ap (λ (ns : List (List ℕ)). length ns) h.names);
    slots = h.slots;
  }

  first_following : (count : ℕ) (ports : List PortState) → AreFirstPorts count passed ports → Following [] ports
  first_following count ports h =
      record { each = λ p lt. first_follows p (port_at ports p) (h.each p (omega (arith, lt, h.many))) }

blocks_are : (phases : List StepsPhase) → blocks_of (map block_phase_of phases) ≡ map block_of (scripts_in phases)
blocks_are [] = refl
blocks_are (phase ∷ phases) =
    ap (λ (bs : List Block). map block_of phase.callers ++ bs) (blocks_are phases)
    ∙ sym (map-append block_of phase.callers (scripts_in phases))

pub derived_phases : (phases : List StepsPhase) (passed : List (List PassedDown)) (count : ℕ) (ports : List PortState)
    → ((p c step : ℕ) → length (calls_at (by_caller c (passings_of (scripts_in phases) passed p)) step) ≤ 1)
    → All (λ (phase : StepsPhase). All (λ (s : Script). s.port < count) phase.callers) phases
    → AreFirstPorts count passed ports
    → phases_made ports phases ≡ passed_phases (passings_of (scripts_in phases) passed) (map block_phase_of phases)
derived_phases phases passed count ports single good first =
    let all = scripts_in phases in
    phases_are all passed single [] phases ports
    (subst (λ (n : ℕ). All (λ (x : StepsPhase). All (λ (s : Script). s.port < n) x.callers) phases) (sym first.many)
    good)
    refl (first_following all passed single count ports first)
    ∙ ap
    (λ (bs : List Block). passed_phases_after (passings_of all passed) bs [] (map block_phase_of phases))
    (sym (blocks_are phases))

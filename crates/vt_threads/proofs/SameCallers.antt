-- What sessions have in common that differ in their lines alone.
use Rattle.std.proofs.Common.{◌≡◌, ◌==◌, ℕ, zero, suc, ◌+◌, ◌<◌, List, [], ◌∷◌, ◌++◌, Option}
use Rattle.std.proofs.Common.{Bool, IsTrue, length, map, filter, take, refl, sym, subst, ap, ◌∙◌, arith}
use Rattle.std.specs.Prelude.{All, flat_map, option_to_list, slice_get, slice_index_or, sum}
use Rattle.std.proofs.lemmas.List.{length-map}
use Rattle.std.proofs.lemmas.List.Elements.{All-head, All-tail, All-nil, All-cons}
use Rattle.tty_calls.specs.Sessions.{PlainPhase, PlainScript, PlainSession, call_at, calls_of}
use Rattle.tty_calls.specs.Sessions.{counts_on, names_of, number_in, scripts_on, scripts_over, ticks_on}
use Rattle.tty_terminal.specs.Steps.{callers_in}
use Rattle.legal_runs.specs.Legal.{first_step, has_script, name_at, phase_at, steps_in}
use Rattle.legal_runs.specs.Order.{callers_of}
use Rattle.play_base.specs.Roles.{PlainRole, AreFirstSteps, AreRolesOf, IsRoleOf, names_in}
use Rattle.vt_consoles.specs.declared.entries.VtEntry.{VtEntry}
use Rattle.vt_text.specs.Sessions.{PlainVtPhase, PlainVtSession}
use Rattle.vt_account.specs.Keyed.{HasAllPhases, consoles_in, keyed, keyed_phases}
use Rattle.vt_threads.specs.Openings.{DifferInLines}

-- ---- lists of phases by their callers

abbrev callers_at : PlainPhase → List PlainScript
callers_at phase = phase.callers

abbrev ticks_at : PlainPhase → List ℕ
ticks_at phase = phase.ticks

abbrev on_port : ℕ → List PlainScript → List PlainScript
on_port p scripts = filter (λ s. s.port == p) scripts

map_take : {A B : Type 0} (f : A → B) (k : ℕ) (xs : List A) → map f (take k xs) ≡ take k (map f xs)
map_take f zero xs = refl
map_take f (suc k) [] = refl
map_take f (suc k) (x ∷ xs) = ap (λ l. f x ∷ l) (map_take f k xs)

map_at : {A B : Type 0} (f : A → B) (xs : List A) (k : ℕ) (d : A)
    → f (slice_index_or xs k d) ≡ slice_index_or (map f xs) k (f d)
map_at f [] k d = refl
map_at f (x ∷ xs) zero d = refl
map_at f (x ∷ xs) (suc k) d = map_at f xs k d

over_callers : (p : ℕ) (phases : List PlainPhase) → scripts_over p phases ≡ flat_map (on_port p) (map callers_at phases)
over_callers p [] = refl
over_callers p (x ∷ phases) = ap (λ (l : List PlainScript). scripts_on p x ++ l) (over_callers p phases)

count_callers : (p : ℕ) (phases : List PlainPhase)
    → map (λ (phase : PlainPhase). length (scripts_on p phase)) phases
    ≡ map (λ (scripts : List PlainScript). length (on_port p scripts)) (map callers_at phases)
count_callers p [] = refl
count_callers p (x ∷ phases) = ap (λ (l : List ℕ). length (scripts_on p x) ∷ l) (count_callers p phases)

-- ---- two sessions

-- either differs from the other in this way
pub differs_back : (x y : PlainSession) → DifferInLines x y → DifferInLines y x
differs_back x y h = record { flips = sym h.flips; callers = sym h.callers; ticks = sym h.ticks }

pub same_length : (x y : PlainSession) → DifferInLines x y → length x.phases ≡ length y.phases
same_length x y h =
    sym (length-map x.phases callers_at)
    ∙ (ap (λ (l : List (List PlainScript)). length l) h.callers ∙ length-map y.phases callers_at)

module _ (x y : PlainSession) (h : DifferInLines x y) (p : ℕ) where
  over_all : scripts_over p x.phases ≡ scripts_over p y.phases
  over_all =
      over_callers p x.phases
      ∙ (ap (λ (l : List (List PlainScript)). flat_map (on_port p) l) h.callers ∙ sym (over_callers p y.phases))

  over_first : (k : ℕ) → scripts_over p (take k x.phases) ≡ scripts_over p (take k y.phases)
  over_first k =
      over_callers p (take k x.phases)
      ∙ (ap (λ (l : List (List PlainScript)). flat_map (on_port p) l) (map_take callers_at k x.phases
      ∙ (ap (λ (l : List (List PlainScript)). take k l) h.callers ∙ sym (map_take callers_at k y.phases)))
      ∙ sym (over_callers p (take k y.phases)))

  in_phase : (k : ℕ) → scripts_on p (phase_at x k) ≡ scripts_on p (phase_at y k)
  in_phase k =
      let none : PlainPhase = record { lines = []; ticks = []; callers = [] } in
      ap (on_port p) (map_at callers_at x.phases k none
      ∙ (ap (λ (l : List (List PlainScript)). slice_index_or l k []) h.callers
      ∙ sym (map_at callers_at y.phases k none)))

  pub same_ticks : (k : ℕ) → ticks_on p (phase_at x k) ≡ ticks_on p (phase_at y k)
  same_ticks k =
      let none : PlainPhase = record { lines = []; ticks = []; callers = [] } in
      ap (λ (l : List ℕ). slice_index_or l p 0) (map_at ticks_at x.phases k none
      ∙ (ap (λ (l : List (List ℕ)). slice_index_or l k []) h.ticks ∙ sym (map_at ticks_at y.phases k none)))

  pub same_counts : counts_on p x ≡ counts_on p y
  same_counts =
      count_callers p x.phases
      ∙ (ap (λ (l : List (List PlainScript)). map (λ (scripts : List PlainScript). length (on_port p scripts)) l)
      h.callers
      ∙ sym (count_callers p y.phases))

  pub same_names : names_in (record { port = p; session = x }) ≡ names_in (record { port = p; session = y })
  same_names = ap names_of over_all

  named : (c : ℕ) → name_at p x c ≡ name_at p y c
  named c = ap (λ (ns : List (List ℕ)). slice_get ns c) same_names

  pub same_first : (k c : ℕ) → first_step p x k c ≡ first_step p y k c
  same_first k c =
      ap (λ (l : List PlainScript). length (calls_of l (name_at p x c))) (over_first k)
      ∙ ap (λ (n : Option (List ℕ)). length (calls_of (scripts_over p (take k y.phases)) n)) (named c)

  same_steps : (k c : ℕ) → steps_in p x k c ≡ steps_in p y k c
  same_steps k c =
      ap (λ (l : List PlainScript). length (calls_of l (name_at p x c))) (in_phase k)
      ∙ ap (λ (n : Option (List ℕ)). length (calls_of (scripts_on p (phase_at y k)) n)) (named c)

  pub same_calls : (c step : ℕ) → call_at p x c step ≡ call_at p y c step
  same_calls c step = ap (λ (l : List PlainScript). slice_get (calls_of l (slice_get (names_of l) c)) step) over_all

  same_caller : (k c : ℕ)
      → has_script (scripts_on p (phase_at x k)) (name_at p x c)
      ≡ has_script (scripts_on p (phase_at y k)) (name_at p y c)
  same_caller k c =
      ap (λ (l : List PlainScript). has_script l (name_at p x c)) (in_phase k)
      ∙ ap (λ (n : Option (List ℕ)). has_script (scripts_on p (phase_at y k)) n) (named c)

  same_callers : (k : ℕ) → callers_of p x k ≡ callers_of p y k
  same_callers k =
      ap (λ (l : List PlainScript).
      flat_map (λ s. option_to_list (number_in (names_of l) s.name)) (scripts_on p (phase_at x k))) over_all
      ∙ ap
      (λ (l : List PlainScript).
      flat_map (λ s. option_to_list (number_in (names_of (scripts_over p y.phases)) s.name)) l)
      (in_phase k)

  -- ---- the callers' roles and first steps

  same_role : (k : ℕ) (r : PlainRole)
      → IsRoleOf (record { port = p; session = y }) k r
      → IsRoleOf (record { port = p; session = x }) k r
  same_role k r role = record {
    known = subst (λ (cs : List ℕ). r.number < sum cs) (sym same_counts) role.known;
    caller = subst (λ (b : Bool). IsTrue b) (sym (same_caller k r.number)) role.caller;
    first = role.first ∙ sym (same_first k r.number);
    count = role.count ∙ sym (same_steps k r.number);
    calls = λ i call at. same_calls r.number (r.first + i) ∙ role.calls i call at;
    within = role.within;
  }

  each_role : (k : ℕ) (rs : List PlainRole)
      → All (IsRoleOf (record { port = p; session = y }) k) rs
      → All (IsRoleOf (record { port = p; session = x }) k) rs
  each_role k [] all = All-nil (IsRoleOf (record { port = p; session = x }) k)
  each_role k (r ∷ rs) all =
      All-cons (IsRoleOf (record { port = p; session = x }) k) r rs
      (same_role k r (All-head (IsRoleOf (record { port = p; session = y }) k) r rs all))
      (each_role k rs (All-tail (IsRoleOf (record { port = p; session = y }) k) r rs all))

  pub same_roles : (k : ℕ) (rs : List PlainRole)
      → AreRolesOf (record { port = p; session = y }) k rs
      → AreRolesOf (record { port = p; session = x }) k rs
  same_roles k rs are = record {
    numbers = are.numbers ∙ sym (same_callers k);
    each = each_role k rs are.each;
    own_numbers = are.own_numbers;
    count = are.count ∙ ap (λ (cs : List ℕ). callers_in cs k) (sym same_counts);
    all = λ c is. are.all c (subst (λ (b : Bool). IsTrue b) (same_caller k c) is);
  }

  pub same_first_steps : (k : ℕ) (steps : List ℕ)
      → AreFirstSteps (record { port = p; session = y }) k steps
      → AreFirstSteps (record { port = p; session = x }) k steps
  same_first_steps k steps are = record {
    count = are.count ∙ ap (λ (ns : List (List ℕ)). length ns) (sym same_names);
    each = λ c. are.each c ∙ sym (same_first k c);
  }

-- ---- the session that the consoles play

keyed_callers : (ports : ℕ) (consoles : List ℕ) (keyboards : List PlainVtPhase) (phases : List PlainPhase)
    → length phases ≡ length keyboards
    → map callers_at (keyed_phases ports consoles keyboards phases) ≡ map callers_at phases
keyed_callers ports consoles [] phases e = refl
keyed_callers ports consoles (keyboard ∷ keyboards) [] e = refl
keyed_callers ports consoles (keyboard ∷ keyboards) (phase ∷ phases) e =
    ap (λ (l : List (List PlainScript)). phase.callers ∷ l) (keyed_callers ports _ keyboards phases (omega (arith, e)))

keyed_ticks : (ports : ℕ) (consoles : List ℕ) (keyboards : List PlainVtPhase) (phases : List PlainPhase)
    → length phases ≡ length keyboards
    → map ticks_at (keyed_phases ports consoles keyboards phases) ≡ map ticks_at phases
keyed_ticks ports consoles [] phases e = refl
keyed_ticks ports consoles (keyboard ∷ keyboards) [] e = refl
keyed_ticks ports consoles (keyboard ∷ keyboards) (phase ∷ phases) e =
    ap (λ (l : List (List ℕ)). phase.ticks ∷ l) (keyed_ticks ports _ keyboards phases (omega (arith, e)))

pub keyed_differs : (session : PlainVtSession) (entries : List VtEntry)
    → HasAllPhases session
    → DifferInLines (keyed session entries) session.calls
keyed_differs session entries whole = record {
  flips = refl;
  callers = keyed_callers session.calls.ports (consoles_in entries) session.phases session.calls.phases whole;
  ticks = keyed_ticks session.calls.ports (consoles_in entries) session.phases session.calls.phases whole;
}

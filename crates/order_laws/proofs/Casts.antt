-- The callers of a phase are cast once for each session of the same callers.
use Rattle.std.proofs.Common.{◌≡◌, ◌≤◌, ◌<◌, ◌⊎◌, inl, inr, ℕ, zero, suc, ◌+◌, ◌==◌, Bool, true, false, List, [], ◌∷◌}
use Rattle.std.proofs.Common.{◌++◌, Option, None, length, map, take, if◌then◌else◌, refl, sym, ap, ◌∙◌, subst, arith}
use Rattle.std.specs.Prelude.{slice_get, slice_index_or, filter, All}
use Rattle.std.proofs.lemmas.Bool.{eqb-true}
use Rattle.std.proofs.lemmas.List.Elements.{All-nil, All-cons, All-head, All-tail}
use Rattle.tty_base.specs.declared.lines.LineStep.{LineStep}
use Rattle.tty_base.specs.declared.characters.Flagged.{Flagged}
use Rattle.uart_line.specs.LineState.{LineState}
use Rattle.word_ring.specs.Ends.{PutterState}
use Rattle.tty_calls.specs.declared.sessions.Script.{Script}
use Rattle.tty_calls.specs.Plain.{PlainCall, PlainEntry}
use Rattle.tty_calls.specs.Sessions.{PlainScript, PlainSession, script_of, scripts_on, scripts_over, calls_of}
use Rattle.tty_terminal.specs.Terminals.{Terminal}
use Rattle.legal_runs.specs.Legal.{phase_at, name_at, first_step}
use Rattle.port_core.specs.Ports.{PortValue}
use Rattle.play_base.specs.Roles.{Scene, names_in, role_in, AreFirstSteps, AreRolesOf}
use Rattle.play_base.specs.Casting.{caller_in, HaveSameCallers, own_scripts, cast_of}
use Rattle.play_base.specs.Scenes.{AreAtFirst}
use Rattle.one_thread.specs.Acts.{BeginsLine, PlaysItsLine}
use Rattle.play_base.specs.declared.roles.Role.{Role}
use Rattle.play_base.proofs.RoleLemmas.{roles_found}
use Rattle.order_laws.specs.Agreed.{IsBeforeEachIn, AreRolesOfEach}
use Rattle.order_laws.proofs.InEach.{same_calls}
use Rattle.order_laws.proofs.Agreeing.{before_all}
use Rattle.order_laws.proofs.Shapes.{names_same, names_here, phases_same}
use Rattle.order_laws.specs.Filled.{with_calls, first_calls, later_scripts, filled, scripts_in, AreNextSteps}

-- ---- scripts of the same callers

same_one : (b : Bool) (c : Script) (calls : List PlainCall)
    → caller_in (if b then with_calls c calls else c) ≡ caller_in c
same_one true c calls = refl
same_one false c calls = refl

pub same_callers : (p : ℕ) (callers : List Script) (scripts : List PlainScript)
    → HaveSameCallers (filled p callers scripts) callers
same_callers p [] scripts = refl
same_callers p (c ∷ cs) scripts =
    let here = same_one (c.port == p) c (first_calls scripts) in
    let rest = same_callers p cs (if c.port == p then later_scripts scripts else scripts) in
    λ i. here i ∷ rest i

abbrev name_of : PlainScript → List ℕ
name_of s = s.name

abbrev kept_if : Bool → PlainScript → List PlainScript → List PlainScript
kept_if b s ss = if b then s ∷ ss else ss

abbrev head_or : List (List ℕ) → List ℕ
head_or [] = []
head_or (x ∷ xs) = x

abbrev tail_of : List (List ℕ) → List (List ℕ)
tail_of [] = []
tail_of (x ∷ xs) = xs

first_name : (a b : List ℕ) (xs ys : List (List ℕ)) → a ∷ xs ≡ b ∷ ys → a ≡ b
first_name a b xs ys e = ap head_or e

rest_names : (a b : List ℕ) (xs ys : List (List ℕ)) → a ∷ xs ≡ b ∷ ys → xs ≡ ys
rest_names a b xs ys e = ap tail_of e

own_by : (p : ℕ) (b : Bool) (c : Script) (cs : List Script) (scripts : List PlainScript)
    → (c.port == p) ≡ b
    → ((ss : List PlainScript)
    → All (λ s. s.port ≡ p) ss
    → map name_of ss ≡ map name_of (own_scripts p (map script_of cs))
    → own_scripts p (map script_of (filled p cs ss)) ≡ ss)
    → All (λ s. s.port ≡ p) scripts
    → map name_of scripts ≡ map name_of (kept_if b (script_of c) (own_scripts p (map script_of cs)))
    → kept_if b (script_of (if b then with_calls c (first_calls scripts) else c))
    (own_scripts p (map script_of (filled p cs (if b then later_scripts scripts else scripts)))) ≡ scripts
own_by p true c cs [] is more ports names = absurd (cc)
own_by p true c cs (s ∷ ss) is more ports names =
    let port : c.port ≡ s.port = eqb-true c.port p is ∙ sym (All-head (λ (x : PlainScript). x.port ≡ p) s ss ports) in
    let name : c.name.bytes ≡ s.name =
    sym (first_name s.name c.name.bytes (map name_of ss) (map name_of (own_scripts p (map script_of cs))) names) in
    let rest = more ss (All-tail (λ (x : PlainScript). x.port ≡ p) s ss ports)
    (rest_names s.name c.name.bytes (map name_of ss) (map name_of (own_scripts p (map script_of cs))) names) in
    λ i. record { port = port i; name = name i; calls = s.calls } ∷ rest i
own_by p false c cs scripts is more ports names = more scripts ports names

port_kept : (p : ℕ) (b : Bool) (c : Script) (calls : List PlainCall)
    → (script_of (if b then with_calls c calls else c)).port ≡ c.port
port_kept p true c calls = refl
port_kept p false c calls = refl

pub own_filled : (p : ℕ) (callers : List Script) (scripts : List PlainScript)
    → All (λ s. s.port ≡ p) scripts
    → map name_of scripts ≡ map name_of (own_scripts p (map script_of callers))
    → own_scripts p (map script_of (filled p callers scripts)) ≡ scripts
own_filled p [] [] ports names = refl
own_filled p [] (s ∷ ss) ports names = absurd (cc)
own_filled p (c ∷ cs) scripts ports names =
    let b = c.port == p in
    let head = script_of (if b then with_calls c (first_calls scripts) else c) in
    ap (λ (n : ℕ).
    kept_if (n == p) head (own_scripts p (map script_of (filled p cs (if b then later_scripts scripts else scripts)))))
    (port_kept p b c (first_calls scripts))
    ∙ own_by p b c cs scripts refl (own_filled p cs) ports names

one_port : (p : ℕ) (b : Bool) (x : PlainScript) (xs : List PlainScript)
    → (x.port == p) ≡ b
    → All (λ s. s.port ≡ p) xs
    → All (λ s. s.port ≡ p) (kept_if b x xs)
one_port p true x xs is h = All-cons (λ (s : PlainScript). s.port ≡ p) x xs (eqb-true x.port p is) h
one_port p false x xs is h = h

on_port : (p : ℕ) (xs : List PlainScript) → All (λ s. s.port ≡ p) (filter (λ s. s.port == p) xs)
on_port p [] = All-nil (λ (s : PlainScript). s.port ≡ p)
on_port p (x ∷ xs) = one_port p (x.port == p) x (filter (λ s. s.port == p) xs) refl (on_port p xs)

-- ---- first steps

none_at : {X : Type 0} (xs : List X) (i : ℕ) → length xs ≤ i → slice_get xs i ≡ None
none_at [] i le = refl
none_at (x ∷ xs) zero le = absurd (omega (arith, le))
none_at (x ∷ xs) (suc i) le = none_at xs i (omega (arith, le))

zero_past : (xs : List ℕ) (i : ℕ) → length xs ≤ i → slice_index_or xs i 0 ≡ 0
zero_past [] i le = refl
zero_past (x ∷ xs) zero le = absurd (omega (arith, le))
zero_past (x ∷ xs) (suc i) le = zero_past xs i (omega (arith, le))

below_or : (a b : ℕ) → (a < b) ⊎ (b ≤ a)
below_or a zero = inr (omega arith)
below_or zero (suc b) = inl (omega arith)
below_or (suc a) (suc b) = elim (below_or a b) [
  | inl lt ↦ inl (omega (arith, lt))
  | inr le ↦ inr (omega (arith, le))
]

nobody : (p k : ℕ) (session : PlainSession) (c : ℕ) → name_at p session c ≡ None → first_step p session k c ≡ 0
nobody p k session c none =
    ap (λ (o : Option (List ℕ)). length (calls_of (scripts_over p (take k session.phases)) o)) none

pub steps_are_first : (s : Scene) (k : ℕ) (t : Terminal) (steps : List ℕ)
    → AreNextSteps t (length (names_in s)) steps
    → AreAtFirst s k t
    → AreFirstSteps s k steps
steps_are_first s k t steps h first =
    record {
      count = h.many;
      each = λ c. elim (below_or c (length (names_in s))) [
        | inl lt ↦ h.each c lt ∙ ap (λ x. x.next) (first c)
        | inr le ↦
            zero_past steps c (omega (arith, h.many, le))
            ∙ sym (nobody s.port k s.session c (none_at (names_in s) c le))
      ];
    }

-- ---- the roles of each

pub roles_each : {HasOrder : Scene → List PlainEntry → Type 0} (first : Scene) (callers : List Script)
    (names : List (List ℕ)) (steps : List ℕ) (roles : List Role)
    (lines : List LineStep) (old mid : PortValue) (putter now : PutterState Flagged) (line played : LineState)
    (run later : ℕ)
    → IsBeforeEachIn HasOrder first old putter line run
    → BeginsLine lines old putter line run
    → PlaysItsLine lines old mid putter now line played run later
    → old.terminal.phase < length first.session.phases
    → own_scripts first.port (map script_of callers) ≡ scripts_on first.port (phase_at first.session old.terminal.phase)
    → names ≡ names_in first
    → AreNextSteps old.terminal (length names) steps
    → ((others : List Script)
    → HaveSameCallers others callers
    → map (role_in others) roles ≡ cast_of names steps first.port (map script_of others))
    → AreRolesOfEach first (scripts_in first.port callers old.terminal.phase) roles old.terminal.phase mid
roles_each first callers names steps roles lines old mid putter now
    line played run later h b plays within own named next cast =
    let k = old.terminal.phase in
    let p = first.port in
    let some = plays.each b in
    record {
      each = λ s like agrees.
          let session = s.session in
          let z : Scene = record { port = p; session = session } in
          let same : s ≡ z = λ i. record { port = like.port i; session = session } in
          let agreed =
          before_all s old mid (some.flushes ++ some.last ∷ []) some.added (same_calls old mid some.kept) agrees in
          let at = (h.each s like agreed).0 in
          let first_at : AreAtFirst z k old.terminal =
          subst (λ (x : Scene). AreAtFirst x k old.terminal) same at.callers in
          let names_are : names ≡ names_in z = named ∙ sym (names_same p first.session session like.shape) in
          let next_in : AreNextSteps old.terminal (length (names_in z)) steps =
          subst (λ (ns : List (List ℕ)). AreNextSteps old.terminal (length ns) steps) names_are next in
          let scripts = scripts_on p (phase_at session k) in
          let names_of_phase : map name_of scripts ≡ map name_of (own_scripts p (map script_of callers)) =
          names_here p first.session session k like.shape ∙ sym (ap (map name_of) own) in
          let others = filled p callers scripts in
          let mine : own_scripts p (map script_of others) ≡ scripts =
          own_filled p callers scripts (on_port p (phase_at session k).callers) names_of_phase in
          let inside : k < length session.phases =
          omega (arith, within, phases_same p first.session session like.shape) in
          subst (λ (x : Scene). AreRolesOf x k (map (role_in others) roles)) (sym same)
          (roles_found z k steps names (map script_of others) (map (role_in others) roles) like.limits inside
          (steps_are_first z k old.terminal steps next_in first_at)
          names_are mine (cast others (same_callers p callers scripts)));
    }

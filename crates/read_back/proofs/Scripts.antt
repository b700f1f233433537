-- What the scripts of a session have, found there: the scripts of a port, the calls of a caller, and the names.
use Rattle.std.proofs.Common.{ℕ, Bool, ◌==◌, if◌then◌else◌, Option, None, Some, List, [], ◌∷◌, ◌++◌, fold}
use Rattle.std.specs.Prelude.{filter}
use Rattle.std.specs.List.{AllByRecursion, list_any}
use Rattle.std.specs.Str.{bytes_eq}
use Rattle.std.proofs.lemmas.Bool.{cond_both}
use Rattle.tty_calls.specs.Plain.{PlainCall}
use Rattle.tty_calls.specs.Sessions.{PlainScript, PlainPhase, scripts_on, scripts_over, with_name, calls_of}
use Rattle.read_back.proofs.Lists.{each_of_both, each_flat, each_weaker}

each_filtered : {A : Type 0} (P : A → Type 0) (test : A → Bool) (xs : List A)
    → AllByRecursion P xs
    → AllByRecursion P (filter test xs)
each_filtered P test [] h = tt
each_filtered P test (x ∷ xs) h = cond_both (test x) (x ∷ filter test xs) (filter test xs) (AllByRecursion P)
    (λ _. (h.0, each_filtered P test xs h.1)) (λ _. each_filtered P test xs h.1)

-- the scripts of a port
pub scripts_each : (P : PlainScript → Type 0) (p : ℕ) (phases : List PlainPhase)
    → AllByRecursion (λ phase. AllByRecursion P phase.callers) phases
    → AllByRecursion P (scripts_over p phases)
scripts_each P p phases h =
    each_flat P (scripts_on p) phases
    (each_weaker (λ phase. AllByRecursion P phase.callers) (λ phase. AllByRecursion P (scripts_on p phase))
    (λ phase k. each_filtered P (λ s. s.port == p) phase.callers k) phases h)

-- the calls of a caller
pub calls_each : (P : PlainCall → Type 0) (scripts : List PlainScript) (name : Option (List ℕ))
    → AllByRecursion (λ s. AllByRecursion P s.calls) scripts
    → AllByRecursion P (calls_of scripts name)
calls_each P scripts None h = tt
calls_each P scripts (Some name) h =
    each_flat P (λ s. if bytes_eq s.name name then s.calls else []) scripts
    (each_weaker (λ s. AllByRecursion P s.calls) (λ s. AllByRecursion P (if bytes_eq s.name name then s.calls else []))
    (λ s k. cond_both (bytes_eq s.name name) s.calls [] (AllByRecursion P) (λ _. k) (λ _. tt)) scripts h)

-- the names of callers
pub names_each : (P : List ℕ → Type 0) (scripts : List PlainScript) (names : List (List ℕ))
    → AllByRecursion P names
    → AllByRecursion (λ s. P s.name) scripts
    → AllByRecursion P (fold (λ names s. with_name names s.name) names scripts)
names_each P [] names h k = h
names_each P (s ∷ scripts) names h k =
    names_each P scripts (with_name names s.name)
    (cond_both (list_any (bytes_eq s.name) names) names (names ++ s.name ∷ []) (AllByRecursion P) (λ _. h)
    (λ _. each_of_both P names (s.name ∷ []) h (k.0, tt))) k.1

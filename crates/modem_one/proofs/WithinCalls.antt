-- The calls of a session keep the limits of calls.
use Rattle.std.proofs.Common.{◌≡◌, ℕ, ◌==◌, Bool, true, false, List, [], ◌∷◌, Option, None, Some, filter, subst}
use Rattle.std.specs.Prelude.{All, flat_map, if◌then◌else◌, slice_get}
use Rattle.std.specs.Str.{bytes_eq}
use Rattle.std.proofs.lemmas.List.Elements.{All-append, All-cons, All-head, All-nil, All-tail}
use Rattle.std.proofs.lemmas.Option.{get_or_from_slice_get, slice_get_within}
use Rattle.passed_calls.specs.Blocks.{names_on}
use Rattle.passed_calls.specs.Scripts.{CallerScript, calls_named}
use Rattle.passed_calls.specs.Within.{IsAnyCallWithin, AreCallsWithin}
use Rattle.modem_text.specs.Sessions.{ModemCall, ModemPhase, ModemSession, blocks_in}
use Rattle.modem_steps.specs.Derived.{scripts_over, modem_call_at}

all_got : {X : Type 0} (P : X → Type 0) (xs : List X) (i : ℕ) (x : X) → All P xs → slice_get xs i ≡ Some x → P x
all_got P xs i x all is = subst P (get_or_from_slice_get xs i x x is) (all i x (slice_get_within xs i x is))

if_all : (b : Bool) (calls : List ModemCall) → All IsAnyCallWithin calls → All IsAnyCallWithin (if b then calls else [])
if_all true calls h = h
if_all false calls h = All-nil (λ (x : ModemCall). IsAnyCallWithin x)

abbrev IsScriptWithin : CallerScript ModemCall → Type 0
IsScriptWithin s = All IsAnyCallWithin s.calls

all_named : (name : List ℕ) (scripts : List (CallerScript ModemCall))
    → All IsScriptWithin scripts
    → All IsAnyCallWithin (flat_map (λ s. if bytes_eq s.name name then s.calls else []) scripts)
all_named name [] h = All-nil (λ (x : ModemCall). IsAnyCallWithin x)
all_named name (s ∷ ss) h =
    All-append (λ (x : ModemCall). IsAnyCallWithin x) (if bytes_eq s.name name then s.calls else [])
    (flat_map (λ s. if bytes_eq s.name name then s.calls else []) ss)
    (if_all (bytes_eq s.name name) s.calls (All-head IsScriptWithin s ss h))
    (all_named name ss (All-tail IsScriptWithin s ss h))

all_numbered : (name : Option (List ℕ)) (scripts : List (CallerScript ModemCall))
    → All IsScriptWithin scripts
    → All IsAnyCallWithin (calls_named name scripts)
all_numbered None scripts h = All-nil (λ (x : ModemCall). IsAnyCallWithin x)
all_numbered (Some name) scripts h = all_named name scripts h

kept_or : (b : Bool) (s : CallerScript ModemCall) (ss : List (CallerScript ModemCall))
    → IsScriptWithin s
    → All IsScriptWithin ss
    → All IsScriptWithin (if b then s ∷ ss else ss)
kept_or true s ss h k = All-cons IsScriptWithin s ss h k
kept_or false s ss h k = k

all_filtered : (p : ℕ) (scripts : List (CallerScript ModemCall))
    → All IsScriptWithin scripts
    → All IsScriptWithin (filter (λ s. s.port == p) scripts)
all_filtered p [] h = All-nil IsScriptWithin
all_filtered p (s ∷ ss) h =
    kept_or (s.port == p) s (filter (λ s. s.port == p) ss) (All-head IsScriptWithin s ss h)
    (all_filtered p ss (All-tail IsScriptWithin s ss h))

all_over : (p : ℕ) (phases : List ModemPhase)
    → All (λ phase. AreCallsWithin phase.callers) phases
    → All IsScriptWithin (scripts_over p phases)
all_over p [] h = All-nil IsScriptWithin
all_over p (phase ∷ phases) h =
    All-append IsScriptWithin (filter (λ s. s.port == p) phase.callers) (scripts_over p phases)
    (all_filtered p phase.callers (All-head (λ (x : ModemPhase). AreCallsWithin x.callers) phase phases h))
    (all_over p phases (All-tail (λ (x : ModemPhase). AreCallsWithin x.callers) phase phases h))

pub call_within : (p : ℕ) (session : ModemSession) (c step : ℕ) (call : ModemCall)
    → All (λ phase. AreCallsWithin phase.callers) session.phases
    → modem_call_at p session c step ≡ Some call
    → IsAnyCallWithin call
call_within p session c step call within is =
    all_got (λ (x : ModemCall). IsAnyCallWithin x)
    (calls_named (slice_get (names_on p (blocks_in session)) c) (scripts_over p session.phases)) step call
    (all_numbered (slice_get (names_on p (blocks_in session)) c) (scripts_over p session.phases)
    (all_over p session.phases within)) is

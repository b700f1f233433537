-- The next call of a caller is the one that it passes down last.
use Rattle.std.proofs.Common.{◌≡◌, ◌≤◌, ◌<◌, ℕ, zero, suc, ◌+◌, ◌-◌, Bool, true, false, List, [], ◌∷◌, ◌++◌, None}
use Rattle.std.proofs.Common.{Some, length, get_or, if◌then◌else◌, refl, sym, ap, ◌∙◌, arith, length-append}
use Rattle.std.specs.Prelude.{slice_get}
use Rattle.std.proofs.lemmas.Bool.{false≢true}
use Rattle.std.proofs.lemmas.Option.{slice_get-get_or}
use Rattle.tty_calls.specs.declared.sessions.Script.{Script}
use Rattle.tty_calls.specs.Plain.{PlainCall, PlainEntry}
use Rattle.tty_calls.specs.Sessions.{PlainSession, call_at}
use Rattle.passed_calls.specs.Derived.{Passing, BlockPhase, all_calls}
use Rattle.legal_runs.proofs.NameLemmas.{get_past, first_next}
use Rattle.port_core.specs.Ports.{PortValue, call_in}
use Rattle.play_base.specs.Roles.{Scene, calls_in}
use Rattle.one_thread.specs.Turns.{PlaysIn, IsNextCall, standing_at}
use Rattle.one_thread.specs.Acts.{HasNoCall}
use Rattle.play_base.specs.declared.roles.Role.{Role}
use Rattle.one_thread.specs.declared.after_line.Stand.{Stand}
use Rattle.one_thread.proofs.Calling.{role_of}
use Rattle.order_laws.specs.Passed.{IsPassedBy, AreUpTo, AreMade, GrowsBy}
use Rattle.order_laws.proofs.PassedGrowing.{calls_all, first_all}
use Rattle.order_laws.proofs.Passings.{all_more}

-- ---- a call of the session at a caller's next step

some_at : (calls : List PlainCall) (i : ℕ) (call x : PlainCall)
    → slice_get calls i ≡ Some x
    → Some x ≡ Some call
    → slice_get calls i ≡ Some call
some_at calls i call x at same = at ∙ same

pub next_of_call : {HasOrder : Scene → List PlainEntry → Type 0} (s : Scene) (scripts : List Script)
    (roles : List Role) (v : PortValue) (stand : Stand) (place : ℕ)
    (r : Role) (call : PlainCall)
    → PlaysIn HasOrder s scripts roles v stand
    → slice_get roles place ≡ Some r
    → call_at s.port s.session r.number (standing_at v r.number).next ≡ Some call
    → (standing_at v r.number).next < r.first + length (calls_in (slice_get scripts r.place))
    → IsNextCall scripts roles v place call
next_of_call s scripts roles v stand place r call plays is known high =
    let p = s.port in
    let session = s.session in
    let c = r.number in
    let next = (standing_at v c).next in
    let calls = calls_in (slice_get scripts r.place) in
    let role = role_of s v.terminal.phase scripts roles place r plays.callers.are_roles is in
    let low = (plays.callers.in_roles place r is).low in
    let below : next - r.first < length calls = omega arith in
    let x = get_or calls (next - r.first) call in
    let at : slice_get calls (next - r.first) ≡ Some x = slice_get-get_or calls (next - r.first) call below in
    let whole : r.first + (next - r.first) ≡ next = omega arith in
    let there : call_at p session c next ≡ Some x =
    ap (λ (n : ℕ). call_at p session c n) (sym whole) ∙ role.calls (next - r.first) x at in
    record { role = r; at_place = is; next = some_at calls (next - r.first) call x at (sym there ∙ known) }

-- it has begun this call
pub next_begun : {HasOrder : Scene → List PlainEntry → Type 0} (s : Scene) (scripts : List Script) (roles : List Role)
    (v : PortValue) (stand : Stand) (place : ℕ)
    (r : Role) (call : PlainCall)
    → PlaysIn HasOrder s scripts roles v stand
    → slice_get roles place ≡ Some r
    → (standing_at v r.number).begun ≡ true
    → call_in v.kept r.number (standing_at v r.number).next ≡ Some call
    → IsNextCall scripts roles v place call
next_begun s scripts roles v stand place r call plays is begun kept =
    next_of_call s scripts roles v stand place r call plays is
    (plays.of_scene.known r.number (standing_at v r.number).next call kept)
    ((plays.callers.in_roles place r is).calling begun)

-- ---- how many calls it has in the phase

made_between : (b : Bool) (n : ℕ) → b ≡ false → (if b then n + 1 else n) ≡ n
made_between true n e = absurd (false≢true (sym e))
made_between false n e = refl

-- its calls up to the phase are all that it has passed down
count_in : {HasOrder : Scene → List PlainEntry → Type 0} (p : ℕ) (phases : List BlockPhase) (mine : ℕ → List Passing)
    (session : PlainSession) (scripts : List Script)
    (roles : List Role) (v : PortValue) (stand : Stand) (place : ℕ) (r : Role)
    → PlaysIn HasOrder (record { port = p; session = session }) scripts roles v stand
    → slice_get roles place ≡ Some r
    → IsPassedBy p phases mine session
    → AreUpTo p phases v.terminal.phase mine
    → r.first + length (calls_in (slice_get scripts r.place)) ≡ length (all_calls (mine r.number))
count_in p phases mine session scripts roles v stand place r plays is by upto =
    let k = v.terminal.phase in
    let s : Scene = record { port = p; session = session } in
    let role = role_of s k scripts roles place r plays.callers.are_roles is in
    let first = role.first in
    let count = role.count in
    let next = first_next p session k r.number plays.within in
    let all = first_all p k phases mine session r.number by upto in
    omega arith

pub next_passed : {HasOrder : Scene → List PlainEntry → Type 0} (p : ℕ) (phases : List BlockPhase) (m : Passing)
    (mine more : ℕ → List Passing)
    (session later : PlainSession) (scripts : List Script) (roles : List Role) (v : PortValue) (stand : Stand)
    (place : ℕ) (r : Role) (call : PlainCall)
    → PlaysIn HasOrder (record { port = p; session = later }) scripts roles v stand
    → slice_get roles place ≡ Some r
    → GrowsBy p v.terminal.phase phases r.number m mine more session later
    → m.calls ≡ call ∷ []
    → AreMade mine v
    → (standing_at v r.number).begun ≡ false
    → IsNextCall scripts roles v place call
next_passed p phases m mine more session later scripts roles v stand place r call plays is h one made rest =
    let k = v.terminal.phase in
    let c = r.number in
    let next = (standing_at v c).next in
    let s : Scene = record { port = p; session = later } in
    let were : length (all_calls (mine c)) ≡ next = made c ∙ made_between (standing_at v c).begun next rest in
    let are : all_calls (more c) ≡ all_calls (mine c) ++ call ∷ [] =
    ap all_calls h.passes.own ∙ (all_more (mine c) m ∙ ap (λ (cs : List PlainCall). all_calls (mine c) ++ cs) one) in
    let behind : next ≡ length (all_calls (mine c)) + 0 = omega (arith, were) in
    let known : call_at p later c next ≡ Some call =
    calls_all p k phases more later c next h.then_by h.then_up_to
    ∙ (ap (λ (cs : List PlainCall). slice_get cs next) are ∙ get_past (all_calls (mine c)) (call ∷ []) next 0 behind) in
    let count = count_in p phases more later scripts roles v stand place r plays is h.then_by h.then_up_to in
    let longer : length (all_calls (more c)) ≡ length (all_calls (mine c)) + 1 =
    ap (λ (cs : List PlainCall). length cs) are ∙ length-append (all_calls (mine c)) (call ∷ []) in
    let high : next < r.first + length (calls_in (slice_get scripts r.place)) = omega (arith, count, longer, were) in
    next_of_call s scripts roles v stand place r call plays is known high

-- ---- no call left

none_past : (calls : List PlainCall) (i : ℕ) → length calls ≤ i → slice_get calls i ≡ None
none_past [] i le = refl
none_past (x ∷ calls) zero le = absurd (omega arith)
none_past (x ∷ calls) (suc i) le = none_past calls i (omega arith)

pub none_left : {HasOrder : Scene → List PlainEntry → Type 0} (p : ℕ) (phases : List BlockPhase)
    (mine : ℕ → List Passing) (session : PlainSession)
    (scripts : List Script) (roles : List Role) (v : PortValue) (stand : Stand) (place : ℕ) (r : Role)
    → PlaysIn HasOrder (record { port = p; session = session }) scripts roles v stand
    → slice_get roles place ≡ Some r
    → IsPassedBy p phases mine session
    → AreUpTo p phases v.terminal.phase mine
    → AreMade mine v
    → (standing_at v r.number).begun ≡ false
    → HasNoCall scripts roles v place
none_left p phases mine session scripts roles v stand place r plays is by upto made rest =
    let c = r.number in
    let next = (standing_at v c).next in
    let were : length (all_calls (mine c)) ≡ next = made c ∙ made_between (standing_at v c).begun next rest in
    let count = count_in p phases mine session scripts roles v stand place r plays is by upto in
    record {
      role = r;
      at_place = is;
      none = none_past (calls_in (slice_get scripts r.place)) (next - r.first) (omega (arith, count, were));
    }

-- The entries that the threads of a phase made are of the session, each of its phase.
use Rattle.std.specs.Prelude.{IsTrue, slice_get}
use Rattle.std.proofs.Common.{◌≡◌, ◌≢◌, inl, inr, ℕ, ◌+◌, ◌<◌, ◌≤◌, List, [], ◌∷◌, ◌++◌, Bool, true, false, cond, ◌==◌}
use Rattle.std.proofs.Common.{Option, Some, None, length, refl, sym, ◌∙◌, ap, subst, arith, append-nil, eq-eqb, get_or}
use Rattle.std.proofs.lemmas.Bool.{false≢true}
use Rattle.std.proofs.lemmas.List.{append_cancel_left}
use Rattle.std.proofs.lemmas.Option.{slice_get_within, slice_get-get_or}
use Rattle.tty_calls.specs.declared.journals.Who.{Who}
use Rattle.tty_calls.specs.declared.journals.Who.TheVariants.{Session}
use Rattle.tty_calls.specs.Plain.{PlainCall, PlainEvent, answered, parted, waited, flushed, ticked}
use Rattle.tty_calls.specs.Plain.{line_ended, clock_ended, caller_ended, phase_ended, hung_up}
use Rattle.tty_calls.specs.Sessions.{call_at}
use Rattle.tty_terminal.specs.Makers.{IsByItsMaker}
use Rattle.tty_terminal.specs.Runs.{is_of_call, phase_after}
use Rattle.legal_runs.specs.Legal.{IsCallerOf, first_step, steps_in, is_caller_end, session_events, session_events_in}
use Rattle.legal_runs.specs.Legal.{IsInPhase, AreInPhases}
use Rattle.port_cell.specs.declared.kept.Stamped.{Stamped}
use Rattle.port_cell.specs.Entries as histories
use Rattle.port_cell.specs.Entries.{entries_by}
use Rattle.port_cell.specs.Knowledge.{list_seen}
use Rattle.port_cell.proofs.OwnEntries.{entries_by-append}
use Rattle.play_base.specs.Roles.{Scene, PlainRole, IsRoleOf}
use Rattle.tty_port.specs.Inside.{EntryWithCall}
use Rattle.tty_port.specs.Histories.{seat_of, call_by}
use Rattle.tty_port.specs.Seen.{entries_in}
use Rattle.tty_port.specs.Placed.{ArePlaced, HasCall, HaveCalls}
use Rattle.tty_port.specs.Calls.{PortSeat}
use Rattle.tty_port.specs.Shared.{IsHere, HasAllOf, opening_history}
use Rattle.tty_port.specs.declared.shared.SharedPort.{SharedPort}
use Rattle.tty_port.proofs.Keeping.{by_another}
use Rattle.many_threads.specs.Parts as parts
use Rattle.many_threads.specs.Parts.{IsOfRole}
use Rattle.many_threads.specs.Callers.{MadeAs}
use Rattle.many_threads.specs.PhaseStarts.{IsCast}

-- ---- what a seat made

each_at : (P : Stamped EntryWithCall → Type 0) (n : ℕ) (x : Stamped EntryWithCall) (xs : List (Stamped EntryWithCall))
    (b : Bool)
    → (x.seat == n) ≡ b
    → parts.Each P (cond b (x ∷ xs) xs)
    → (x.seat ≡ n → P x) × parts.Each P xs
each_at P n x xs true e h = (λ s. h.0, h.1)
each_at P n x xs false e h = (λ s. absurd (false≢true (sym e ∙ eq-eqb x.seat n s)), h)

pub each_of_seat : (P : Stamped EntryWithCall → Type 0) (n : ℕ) (xs : List (Stamped EntryWithCall))
    → parts.Each P (entries_by n xs)
    → parts.Each (λ (x : Stamped EntryWithCall). x.seat ≡ n → P x) xs
each_of_seat P n [] h = tt
each_of_seat P n (x ∷ xs) h =
    let both = each_at P n x (entries_by n xs) (x.seat == n) refl h in
    (both.0, each_of_seat P n xs both.1)

pub made_in : (n : ℕ) (xs rest made : List (Stamped EntryWithCall))
    → entries_by n (xs ++ rest) ≡ entries_by n xs ++ made
    → entries_by n rest ≡ made
made_in n xs rest made h =
    append_cancel_left (entries_by n xs) (entries_by n rest) made (sym (entries_by-append n xs rest) ∙ h)

-- an entry of the role that a caller has
abbrev pub IsIn : Option PlainRole → ℕ → Stamped EntryWithCall → Type 0
IsIn None n x = ⊥
IsIn (Some r) n x = IsOfRole n r.first r.calls x

pub made_of_role : (p : SharedPort) (n : ℕ) (r : Option PlainRole) (s : PortSeat)
    (ys rest : List (Stamped EntryWithCall))
    → IsHere p n s
    → MadeAs p n r s
    → HasAllOf ys s
    → ys ≡ opening_history p ++ rest
    → parts.Each (λ (x : Stamped EntryWithCall). x.seat ≡ n → IsIn r n x) rest
made_of_role p n None s ys rest here made all whole =
    let xs = opening_history p in
    let own : entries_by n (xs ++ rest) ≡ entries_by n xs ++ [] =
    ap (entries_by n) (sym whole)
    ∙ ap (λ (k : ℕ). entries_by k ys) (sym here.number)
    ∙ all.own
    ∙ ap (λ (k : ℕ). entries_by k (list_seen s)) here.number
    ∙ ap (entries_by n) made
    ∙ sym (append-nil (entries_by n xs)) in
    each_of_seat (IsIn None n) n rest (subst (parts.Each (IsIn None n)) (sym (made_in n xs rest [] own)) tt)
made_of_role p n (Some r) s ys rest here made all whole =
    let xs = opening_history p in
    let own : entries_by n (xs ++ rest) ≡ entries_by n xs ++ made.made =
    ap (entries_by n) (sym whole) ∙ ap (λ (k : ℕ). entries_by k ys) (sym here.number) ∙ all.own ∙ made.adds in
    each_of_seat (IsIn (Some r) n) n rest
    (subst (parts.Each (IsIn (Some r) n)) (sym (made_in n xs rest made.made own)) made.of_role)

-- ---- an entry of a role is of the session, in the phase

not_end : (event : PlainEvent) → is_of_call event ≡ true → IsTrue (is_caller_end event) → ⊥
not_end (answered a dropped) h e = false≢true e
not_end (parted n) h e = false≢true e
not_end waited h e = false≢true e
not_end (flushed chars) h e = false≢true h
not_end ticked h e = false≢true h
not_end (line_ended n) h e = false≢true h
not_end clock_ended h e = false≢true h
not_end caller_ended h e = false≢true h
not_end phase_ended h e = false≢true h
not_end (hung_up dropped) h e = false≢true h

-- the entry is of the session, in phase k
pub record IsOfPhase (s : Scene) (k : ℕ) (x : Stamped EntryWithCall) : Type 0 where
  pub has_call : HasCall (call_at s.port s.session) x
  pub in_phase : IsInPhase s.port s.session k x.what.entry.who x.what.entry.step x.what.entry.event

in_role : (s : Scene) (k c : ℕ) (r : PlainRole) (x : Stamped EntryWithCall)
    → IsRoleOf s k r
    → r.number ≡ c
    → IsOfRole c r.first r.calls x
    → IsOfPhase s k x
in_role s k c r x role number (inl h) =
    let e = x.what.entry in
    let within = slice_get_within r.calls h.place h.call h.called in
    let called : call_at s.port s.session c (r.first + h.place) ≡ Some h.call =
    subst (λ (n : ℕ). call_at s.port s.session n (r.first + h.place) ≡ Some h.call) number
    (role.calls h.place h.call h.called) in
    let caller = subst (IsCallerOf s.port s.session k) number role.caller in
    let first : r.first ≡ first_step s.port s.session k c =
    subst (λ (n : ℕ). r.first ≡ first_step s.port s.session k n) number role.first in
    let count : length r.calls ≡ steps_in s.port s.session k c =
    subst (λ (n : ℕ). length r.calls ≡ steps_in s.port s.session k n) number role.count in
    let at = h.is.at_step in
    let low : first_step s.port s.session k c ≤ e.step = omega arith in
    let high : e.step < first_step s.port s.session k c + steps_in s.port s.session k c = omega arith in
    let P : Who → Type 0 = λ who. IsInPhase s.port s.session k who e.step e.event in
    record {
      has_call = λ of.
          ap (λ (w : Who). call_by (call_at s.port s.session) w e.step) h.is.who
          ∙ ap (λ (n : ℕ). call_at s.port s.session c n) at
          ∙ called
          ∙ sym h.is.keeps;
      in_phase =
          subst P (sym h.is.who) (caller, (λ of. (low, high)), (λ ends. absurd (not_end e.event h.is.of_call ends)));
    }
in_role s k c r x role number (inr h) =
    let e = x.what.entry in
    let caller = subst (IsCallerOf s.port s.session k) number role.caller in
    let first : r.first ≡ first_step s.port s.session k c =
    subst (λ (n : ℕ). r.first ≡ first_step s.port s.session k n) number role.first in
    let count : length r.calls ≡ steps_in s.port s.session k c =
    subst (λ (n : ℕ). length r.calls ≡ steps_in s.port s.session k n) number role.count in
    let at = h.at_step in
    let high : first_step s.port s.session k c + steps_in s.port s.session k c ≤ e.step = omega arith in
    let P : Who → Type 0 = λ who. IsInPhase s.port s.session k who e.step e.event in
    let none : is_of_call e.event ≡ false = ap is_of_call h.happened in
    record {
      has_call = λ of. absurd (false≢true (sym none ∙ of));
      in_phase = subst P (sym h.who) (caller, (λ of. absurd (false≢true (sym none ∙ of))), (λ ends. high));
    }

-- an entry of no caller
by_no_caller : (s : Scene) (k : ℕ) (x : Stamped EntryWithCall)
    → is_of_call x.what.entry.event ≡ false
    → IsInPhase s.port s.session k x.what.entry.who x.what.entry.step x.what.entry.event
    → IsOfPhase s k x
by_no_caller s k x none phase = record { has_call = λ of. absurd (false≢true (sym none ∙ of)); in_phase = phase }

-- what is known of the entries that were made: each of a caller's seat is of its role
abbrev pub AllInRoles : List (Option PlainRole) → List (Stamped EntryWithCall) → Type 0
AllInRoles rs rest =
    (c : ℕ) (r : Option PlainRole)
    → slice_get rs c ≡ Some r
    → parts.Each (λ (x : Stamped EntryWithCall). x.seat ≡ c → IsIn r c x) rest

role_there : (rs : List (Option PlainRole)) (c : ℕ) → c < length rs → (r : Option PlainRole) × (slice_get rs c ≡ Some r)
role_there rs c lt = (get_or rs c None, slice_get-get_or rs c None lt)

by_caller : (s : Scene) (k m : ℕ) (rs : List (Option PlainRole)) (c : ℕ) (x : Stamped EntryWithCall)
    → IsCast s k m rs
    → c < m
    → x.seat ≡ c
    → ((r : Option PlainRole) → slice_get rs c ≡ Some r → x.seat ≡ c → IsIn r c x)
    → IsOfPhase s k x
by_caller s k m rs c x cast known seat story =
    let found = role_there rs c (omega (arith, cast.count)) in
    of_found found.0 found.1 (story found.0 found.1 seat)
  where
    of_found : (r : Option PlainRole) → slice_get rs c ≡ Some r → IsIn r c x → IsOfPhase s k x
    of_found None at h = absurd h
    of_found (Some r) at h = let role = cast.roles c r at in in_role s k c r x role.0 role.1 h

-- an entry by its maker
of_maker : (s : Scene) (k m : ℕ) (rs : List (Option PlainRole)) (x : Stamped EntryWithCall) (event : PlainEvent)
    → IsCast s k m rs
    → x.seat ≡ seat_of m x.what.entry.who
    → ((c : ℕ) (r : Option PlainRole) → slice_get rs c ≡ Some r → x.seat ≡ c → IsIn r c x)
    → x.what.entry.event ≡ event
    → IsByItsMaker (λ (c step : ℕ). x.what.call) m x.what.entry.who x.what.entry.step event
    → IsOfPhase s k x
of_maker s k m rs x (answered a dropped) cast seat story is by =
    by_caller s k m rs by.caller x cast by.known (seat ∙ ap (seat_of m) by.by_caller) (story by.caller)
of_maker s k m rs x (parted n) cast seat story is by =
    by_caller s k m rs by.caller x cast by.known (seat ∙ ap (seat_of m) by.by_caller) (story by.caller)
of_maker s k m rs x waited cast seat story is by =
    by_caller s k m rs by.caller x cast by.known (seat ∙ ap (seat_of m) by.by_caller) (story by.caller)
of_maker s k m rs x (flushed chars) cast seat story is by =
    by_no_caller s k x (ap is_of_call is)
    (subst (λ (w : Who). IsInPhase s.port s.session k w x.what.entry.step x.what.entry.event) (sym by) tt)
of_maker s k m rs x ticked cast seat story is by = by_no_caller s k x (ap is_of_call is)
    (subst (λ (w : Who). IsInPhase s.port s.session k w x.what.entry.step x.what.entry.event) (sym by) tt)
of_maker s k m rs x (line_ended n) cast seat story is by =
    by_no_caller s k x (ap is_of_call is)
    (subst (λ (w : Who). IsInPhase s.port s.session k w x.what.entry.step x.what.entry.event) (sym by) tt)
of_maker s k m rs x clock_ended cast seat story is by =
    by_no_caller s k x (ap is_of_call is)
    (subst (λ (w : Who). IsInPhase s.port s.session k w x.what.entry.step x.what.entry.event) (sym by) tt)
of_maker s k m rs x caller_ended cast seat story is by =
    by_caller s k m rs by.caller x cast by.known (seat ∙ ap (seat_of m) by.by_caller) (story by.caller)
of_maker s k m rs x phase_ended cast seat story is by =
    by_no_caller s k x (ap is_of_call is)
    (subst (λ (w : Who). IsInPhase s.port s.session k w x.what.entry.step x.what.entry.event) (sym by) tt)
of_maker s k m rs x (hung_up dropped) cast seat story is by =
    by_no_caller s k x (ap is_of_call is)
    (subst (λ (w : Who). IsInPhase s.port s.session k w x.what.entry.step x.what.entry.event) (sym by) tt)

pub all_of_phase : (s : Scene) (k m : ℕ) (rs : List (Option PlainRole)) (rest : List (Stamped EntryWithCall))
    → IsCast s k m rs
    → ArePlaced m m rest
    → AllInRoles rs rest
    → parts.Each (IsOfPhase s k) rest
all_of_phase s k m rs [] cast placed story = tt
all_of_phase s k m rs (x ∷ rest) cast placed story = (
  of_maker s k m rs x x.what.entry.event cast placed.0.seat (λ c r at. (story c r at).0) refl placed.0.maker,
  all_of_phase s k m rs rest cast placed.1 (λ c r at. (story c r at).1),
)

pub calls_of_phase : (s : Scene) (k : ℕ) (rest : List (Stamped EntryWithCall))
    → parts.Each (IsOfPhase s k) rest
    → HaveCalls (call_at s.port s.session) rest
calls_of_phase s k [] h = tt
calls_of_phase s k (x ∷ rest) h = (h.0.has_call, calls_of_phase s k rest h.1)

-- ---- no entry is the session's

session_made : (m n : ℕ) (f : ℕ → ℕ → Option PlainCall) (who : Who) (step : ℕ) (event : PlainEvent)
    → IsByItsMaker f n who step event
    → seat_of m who ≢ m + 3
    → (session_events event ≡ []) × ((k : ℕ) → phase_after event k ≡ k)
session_made m n f who step (answered a dropped) by other = (refl, λ k. refl)
session_made m n f who step (parted i) by other = (refl, λ k. refl)
session_made m n f who step waited by other = (refl, λ k. refl)
session_made m n f who step (flushed chars) by other = (refl, λ k. refl)
session_made m n f who step ticked by other = (refl, λ k. refl)
session_made m n f who step (line_ended i) by other = (refl, λ k. refl)
session_made m n f who step clock_ended by other = (refl, λ k. refl)
session_made m n f who step caller_ended by other = (refl, λ k. refl)
session_made m n f who step phase_ended by other = absurd (by_another m (m + 3) who Session refl by other)
session_made m n f who step (hung_up dropped) by other = absurd (by_another m (m + 3) who Session refl by other)

pub none_of_session : (m n : ℕ) (rest : List (Stamped EntryWithCall))
    → ArePlaced m n rest
    → histories.Each (λ i. i ≢ m + 3) rest
    → session_events_in (entries_in rest) ≡ []
none_of_session m n [] placed others = refl
none_of_session m n (x ∷ rest) placed others =
    let e = x.what.entry in
    let one = session_made m n (λ (c step : ℕ). x.what.call) e.who e.step e.event placed.0.maker
    (λ i. others.0 (placed.0.seat ∙ i)) in
    ap (λ (es : List PlainEvent). es ++ session_events_in (entries_in rest)) one.0
    ∙ none_of_session m n rest placed.1 others.1

pub phases_of_phase : (s : Scene) (k m n : ℕ) (rest : List (Stamped EntryWithCall))
    → ArePlaced m n rest
    → histories.Each (λ i. i ≢ m + 3) rest
    → parts.Each (IsOfPhase s k) rest
    → AreInPhases s.port s.session k (entries_in rest)
phases_of_phase s k m n [] placed others h = tt
phases_of_phase s k m n (x ∷ rest) placed others h =
    let e = x.what.entry in
    let one = session_made m n (λ (c step : ℕ). x.what.call) e.who e.step e.event placed.0.maker
    (λ i. others.0 (placed.0.seat ∙ i)) in (
      h.0.in_phase,
      subst (λ (j : ℕ). AreInPhases s.port s.session j (entries_in rest)) (sym (one.1 k))
          (phases_of_phase s k m n rest placed.1 others.1 h.1),
    )

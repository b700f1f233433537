-- What comes of callers, one after the other.
use Rattle.std.specs.Prelude.{MatchBool, OnOk, OnErr, IfOk, IfErr, All, sum, slice_get, ◌^◌}
use Rattle.std.proofs.Common.{◌≡◌, inl, inr, ℕ, ◌+◌, ◌<◌, List, [], ◌∷◌, ◌++◌, suc, Bool}
use Rattle.std.proofs.Common.{true, false, ◌||◌, Option, Some, None, Result, Ok, Err, length}
use Rattle.std.proofs.Common.{refl, sym, ◌∙◌, ap, subst, arith, zero-add, length-append}
use Rattle.tty_calls.specs.declared.answers.Denied.{Denied}
use Rattle.tty_calls.specs.declared.answers.Denied.TheVariants.{NoMemory, Full}
use Rattle.tty_calls.specs.declared.sessions.Script.{Script}
use Rattle.tty_calls.specs.Plain.{PlainCall}
use Rattle.tty_calls.specs.Limits.{IsCallWithin}
use Rattle.play_base.specs.Roles.{PlainRole, role_in, calls_in}
use Rattle.port_cell.specs.Knowledge.{list_seen}
use Rattle.tty_port.specs.Inside.{Name}
use Rattle.tty_port.specs.Seen.{IsBetweenCalls}
use Rattle.tty_port.specs.Adding.{IsFull}
use Rattle.tty_port.specs.Calls.{PortSeat}
use Rattle.tty_port.specs.Shared.{IsHere, AreHere, name_of_port, opening_history}
use Rattle.tty_port.specs.declared.shared.SharedPort.{SharedPort}
use Rattle.tty_port.proofs.Seating.{here_front}
use Rattle.many_threads.specs.Needs.{CanPlayCaller}
use Rattle.many_threads.specs.Parts.{MakesInRole, PlaysCaller}
use Rattle.many_threads.specs.Comings.{CallerComes}
use Rattle.many_threads.specs.Callers.{plain_role, plain_cast, CanPlay, CanPlayAll, IsPlayable}
use Rattle.many_threads.specs.Callers.{IsBack, PlayedAs, EachCaller, SomeSawFull, CallersCome, TellsFull}
use Rattle.many_threads.specs.declared.thread_bodies.SeatBack.{SeatBack}
use Rattle.play_base.specs.declared.roles.Role.{Role}
use Rattle.many_threads.specs.declared.caller_threads.CallersBack.{CallersBack}

-- ---- lists

pub cast_last : (scripts : List Script) (before : List (Option Role)) (last : Option Role)
    → plain_cast scripts (before ++ last ∷ []) ≡ plain_cast scripts before ++ plain_role scripts last ∷ []
cast_last scripts [] last = refl
cast_last scripts (x ∷ before) last = ap (λ rs. plain_role scripts x ∷ rs) (cast_last scripts before last)

pub cast_length : (scripts : List Script) (cast : List (Option Role)) → length (plain_cast scripts cast) ≡ length cast
cast_length scripts [] = refl
cast_length scripts (x ∷ cast) = ap (λ n. suc n) (cast_length scripts cast)

pub can_play_front : (p : SharedPort) (n : ℕ) (rs : List (Option PlainRole)) (r : Option PlainRole)
    → CanPlayAll p n (rs ++ r ∷ [])
    → CanPlayAll p n rs × CanPlay p (n + length rs) r
can_play_front p n [] r h = (tt, subst (λ (k : ℕ). CanPlay p k r) (let e : n ≡ n + 0 = omega arith in e) h.0)
can_play_front p n (q ∷ rs) r h =
    let rest = can_play_front p (n + 1) rs r h.1 in (
      (h.0, rest.0),
      subst (λ (k : ℕ). CanPlay p k r) (let e : n + 1 + length rs ≡ n + suc (length rs) = omega arith in e) rest.1,
    )

each_snoc : (P : ℕ → Option PlainRole → PortSeat → Type 0) (n : ℕ) (rs : List (Option PlainRole)) (ss : List PortSeat)
    (r : Option PlainRole) (s : PortSeat)
    → EachCaller P n rs ss
    → P (n + length rs) r s
    → EachCaller P n (rs ++ r ∷ []) (ss ++ s ∷ [])
each_snoc P n [] [] r s h k = (subst (λ (j : ℕ). P j r s) (let e : n + 0 ≡ n = omega arith in e) k, tt)
each_snoc P n [] (t ∷ ss) r s h k = absurd h
each_snoc P n (q ∷ rs) [] r s h k = absurd h
each_snoc P n (q ∷ rs) (t ∷ ss) r s h k = (
  h.0,
  each_snoc P (n + 1) rs ss r s h.1
      (subst (λ (j : ℕ). P j r s) (let e : n + suc (length rs) ≡ n + 1 + length rs = omega arith in e) k),
)

pub each_last : (P : ℕ → Option PlainRole → PortSeat → Type 0) (rs : List (Option PlainRole)) (ss : List PortSeat)
    (r : Option PlainRole) (s : PortSeat)
    → EachCaller P 0 rs ss
    → P (length rs) r s
    → EachCaller P 0 (rs ++ r ∷ []) (ss ++ s ∷ [])
each_last P rs ss r s h k =
    each_snoc P 0 rs ss r s h (subst (λ (j : ℕ). P j r s) (let e : length rs ≡ 0 + length rs = omega arith in e) k)

saw_front : (name : Name) (ss : List PortSeat) (s : PortSeat) → SomeSawFull name ss → SomeSawFull name (ss ++ s ∷ [])
saw_front name [] s h = absurd h
saw_front name (t ∷ ss) s (inl h) = inl h
saw_front name (t ∷ ss) s (inr h) = inr (saw_front name ss s h)

saw_last : (name : Name) (ss : List PortSeat) (s : PortSeat)
    → length (list_seen s) ≡ name.limit
    → SomeSawFull name (ss ++ s ∷ [])
saw_last name [] s h = inl h
saw_last name (t ∷ ss) s h = inr (saw_last name ss s h)

-- ---- what is told

told_none : (b full : Bool) (A B A' B' : Type 0)
    → full ≡ (b || false)
    → (A → A') → (B → B')
    → MatchBool b A B
    → MatchBool full A' B'
told_none true full A B A' B' e f g h = subst (λ (x : Bool). MatchBool x A' B') (sym e) (f h)
told_none false full A B A' B' e f g h = subst (λ (x : Bool). MatchBool x A' B') (sym e) (g h)

told_more : (b k full : Bool) (A B A' B' F P : Type 0)
    → full ≡ (b || k)
    → (A → A') → (F → A') → (B → P → B')
    → MatchBool b A B
    → MatchBool k F P
    → MatchBool full A' B'
told_more true k full A B A' B' F P e f g h was one = subst (λ (x : Bool). MatchBool x A' B') (sym e) (f was)
told_more false true full A B A' B' F P e f g h was one = subst (λ (x : Bool). MatchBool x A' B') (sym e) (g one)
told_more false false full A B A' B' F P e f g h was one = subst (λ (x : Bool). MatchBool x A' B') (sym e) (h was one)

pub either_told : (result : Result (Unit {0}) Denied) (k : Bool) (P W : Type 0) (F : Denied → Type 0)
    → TellsFull result k
    → OnOk result P
    → OnErr result W
    → IfErr result F
    → MatchBool k (F Full × W) P
either_told (Ok v) true P W F told ok err full = absurd told
either_told (Ok v) false P W F told ok err full = ok
either_told (Err Full) true P W F told ok err full = (full, err)
either_told (Err Full) false P W F told ok err full = absurd told
either_told (Err NoMemory) k P W F told ok err full = absurd told

-- ---- a caller more

either_in_role : (k : Bool) (F W P Q : Type 0) → (W → Q) → (P → Q) → MatchBool k (F × W) P → Q
either_in_role true F W P Q f g h = f h.1
either_in_role false F W P Q f g h = g h

pub no_callers : (p : SharedPort) (seats : List PortSeat)
    → length seats ≡ 0
    → EachCaller (IsBack p) 0 [] seats × EachCaller (PlayedAs p) 0 [] seats
no_callers p [] h = (tt, tt)
no_callers p (s ∷ ss) h = absurd (omega arith)

pub callers_none : (p : SharedPort) (roles : List (Option PlainRole)) (back now : CallersBack) (s : PortSeat)
    → CallersCome p roles back
    → now.seats.items ≡ back.seats.items ++ s ∷ []
    → now.full ≡ (back.full || false)
    → IsHere p (length roles) s
    → list_seen s ≡ opening_history p
    → CallersCome p (roles ++ None ∷ []) now
callers_none p roles back now s h seats full here seen =
    let name = name_of_port p in
    record {
      back_all = subst (EachCaller (IsBack p) 0 (roles ++ None ∷ [])) (sym seats)
          (each_last (IsBack p) roles back.seats.items None s h.back_all (record { here = here; made = seen }));
      told =
          told_none back.full now.full _ _ _ _ full
          (λ saw. subst (SomeSawFull name) (sym seats) (saw_front name back.seats.items s saw))
          (λ played. subst (EachCaller (PlayedAs p) 0 (roles ++ None ∷ [])) (sym seats)
          (each_last (PlayedAs p) roles back.seats.items None s played seen))
          h.told;
    }

pub callers_more : (p : SharedPort) (roles : List (Option PlainRole)) (r : PlainRole) (back now : CallersBack)
    (one : SeatBack) (k : Bool)
    → CallersCome p roles back
    → now.seats.items ≡ back.seats.items ++ one.seat ∷ []
    → now.full ≡ (back.full || k)
    → TellsFull one.result k
    → CallerComes p (length roles) r.first r.calls (opening_history p) one
    → CallersCome p (roles ++ Some r ∷ []) now
callers_more p roles r back now one k h seats full told comes =
    let n = length roles in
    let start = opening_history p in
    let name = name_of_port p in
    let either = either_told one.result k (PlaysCaller n r.first r.calls start one.seat)
    (MakesInRole n r.first r.calls start one.seat) (λ d. IsFull name d (list_seen one.seat))
    told comes.ok comes.err comes.full in
    let made = either_in_role k (length (list_seen one.seat) ≡ name.limit)
    (MakesInRole n r.first r.calls start one.seat) (PlaysCaller n r.first r.calls start one.seat)
    (MakesInRole n r.first r.calls start one.seat) (λ w. w) (λ plays. plays.in_role) either in
    record {
      back_all = subst (EachCaller (IsBack p) 0 (roles ++ Some r ∷ [])) (sym seats)
          (each_last (IsBack p) roles back.seats.items (Some r) one.seat h.back_all
          (record { here = comes.here; made = made }));
      told =
          told_more back.full k now.full _ _ _ _ _ _ full
          (λ saw. subst (SomeSawFull name) (sym seats) (saw_front name back.seats.items one.seat saw))
          (λ saw. subst (SomeSawFull name) (sym seats) (saw_last name back.seats.items one.seat saw.0))
          (λ played plays. subst (EachCaller (PlayedAs p) 0 (roles ++ Some r ∷ [])) (sym seats)
          (each_last (PlayedAs p) roles back.seats.items (Some r) one.seat played plays))
          h.told either;
    }

-- ---- the last caller, and those before it

pub record Splits (p : SharedPort) (scripts : List Script) (cast before : List (Option Role)) (last : Option Role)
    (ss : List PortSeat) (seat : PortSeat) : Type 0 where
  pub roles : plain_cast scripts cast ≡ plain_cast scripts before ++ plain_role scripts last ∷ []
  pub others : AreHere p (opening_history p) 0 ss
  pub here : IsHere p (length (plain_cast scripts before)) seat
  pub seen : list_seen seat ≡ opening_history p
  pub count : length ss ≡ length before
  pub can_others : CanPlayAll p 0 (plain_cast scripts before)
  pub can : CanPlay p (length (plain_cast scripts before)) (plain_role scripts last)

pub splits : (p : SharedPort) (scripts : List Script) (cast before : List (Option Role)) (last : Option Role)
    (seats ss : List PortSeat) (seat : PortSeat)
    → cast ≡ before ++ last ∷ []
    → seats ≡ ss ++ seat ∷ []
    → AreHere p (opening_history p) 0 seats
    → length seats ≡ length cast
    → CanPlayAll p 0 (plain_cast scripts cast)
    → Splits p scripts cast before last ss seat
splits p scripts cast before last seats ss seat at are here count can =
    let xs = opening_history p in
    let rs = plain_cast scripts before in
    let roles = ap (plain_cast scripts) at ∙ cast_last scripts before last in
    let front = here_front p xs 0 ss seat (subst (AreHere p xs 0) are here) in
    let same : length ss ≡ length before =
    omega (arith, ap length at, ap length are, length-append before (last ∷ []), length-append ss (seat ∷ [])) in
    let number : 0 + length ss ≡ length rs = omega (arith, cast_length scripts before) in
    let play = can_play_front p 0 rs (plain_role scripts last) (subst (CanPlayAll p 0) roles can) in
    record {
      roles = roles;
      others = front.0;
      here = subst (λ (n : ℕ). IsHere p n seat) number front.1.0;
      seen = front.1.1;
      count = same;
      can_others = play.0;
      can = subst (λ (n : ℕ). CanPlay p n (plain_role scripts last)) (zero-add (length rs)) play.1;
    }

pub crew_can : (p : SharedPort) (scripts : List Script) (cast before : List (Option Role)) (last : Option Role)
    (role : Role) (ss : List PortSeat) (seat : PortSeat)
    → Splits p scripts cast before last ss seat
    → last ≡ Some role
    → IsPlayable p (length (plain_cast scripts before)) (role_in scripts role)
crew_can p scripts cast before last role ss seat h is =
    subst (λ (o : Option Role). CanPlay p (length (plain_cast scripts before)) (plain_role scripts o)) is h.can

-- what the last caller's thread needs
pub crew_needs : (p : SharedPort) (scripts : List Script) (cast before : List (Option Role)) (last : Option Role)
    (role : Role) (ss : List PortSeat) (seat : PortSeat) (calls : List PlainCall)
    → Splits p scripts cast before last ss seat
    → last ≡ Some role
    → calls ≡ calls_in (slice_get scripts role.place)
    → CanPlayCaller p role.number role.first calls seat
crew_needs p scripts cast before last role ss seat calls h is same =
    let n = length (plain_cast scripts before) in
    let can = crew_can p scripts cast before last role ss seat h is in
    let number : role.number ≡ n = can.number in
    record {
      here = subst (λ (k : ℕ). IsHere p k seat) (sym number) h.here;
      known = subst (λ (k : ℕ). k < sum (name_of_port p).counts) (sym number) can.known;
      within = subst (All IsCallWithin) (sym same) can.within;
      few = subst (λ (cs : List PlainCall). role.first + length cs < 2 ^ 32) (sym same) can.few;
      between = subst (λ (k : ℕ). IsBetweenCalls k role.first (list_seen seat)) (sym number)
          (subst (IsBetweenCalls n role.first) (sym h.seen) can.between);
    }

pub crew_none : (p : SharedPort) (scripts : List Script) (cast before : List (Option Role)) (last : Option Role)
    (ss : List PortSeat) (seat : PortSeat) (back now : CallersBack)
    → Splits p scripts cast before last ss seat
    → last ≡ None
    → CallersCome p (plain_cast scripts before) back
    → now.seats.items ≡ back.seats.items ++ seat ∷ []
    → now.full ≡ (back.full || false)
    → CallersCome p (plain_cast scripts cast) now
crew_none p scripts cast before last ss seat back now h is come seats full =
    let rs = plain_cast scripts before in
    subst (λ (roles : List (Option PlainRole)). CallersCome p roles now)
    (sym (h.roles ∙ ap (λ (o : Option Role). rs ++ plain_role scripts o ∷ []) is))
    (callers_none p rs back now seat come seats full h.here h.seen)

pub crew_more : (p : SharedPort) (scripts : List Script) (cast before : List (Option Role)) (last : Option Role)
    (role : Role) (ss : List PortSeat) (seat : PortSeat) (calls : List PlainCall) (back now : CallersBack)
    (one : SeatBack) (k : Bool)
    → Splits p scripts cast before last ss seat
    → last ≡ Some role
    → calls ≡ calls_in (slice_get scripts role.place)
    → CallersCome p (plain_cast scripts before) back
    → CallerComes p role.number role.first calls (list_seen seat) one
    → TellsFull one.result k
    → now.seats.items ≡ back.seats.items ++ one.seat ∷ []
    → now.full ≡ (back.full || k)
    → CallersCome p (plain_cast scripts cast) now
crew_more p scripts cast before last role ss seat calls back now one k h is same come comes told seats full =
    let rs = plain_cast scripts before in
    let r = role_in scripts role in
    let can = crew_can p scripts cast before last role ss seat h is in
    let first = subst (λ (n : ℕ). CallerComes p n role.first calls (list_seen seat) one) can.number comes in
    let second =
    subst (λ (cs : List PlainCall). CallerComes p (length rs) role.first cs (list_seen seat) one) same first in
    let third = subst (λ xs. CallerComes p (length rs) role.first r.calls xs one) h.seen second in
    subst (λ (roles : List (Option PlainRole)). CallersCome p roles now)
    (sym (h.roles ∙ ap (λ (o : Option Role). rs ++ plain_role scripts o ∷ []) is))
    (callers_more p rs r back now one k come seats full told third)

pub both_ok : {E : Type 0} (r : Result CallersBack E) (A B C : CallersBack → Type 0)
    → ((x : CallersBack) → A x → B x → C x)
    → IfOk r A
    → IfOk r B
    → IfOk r C
both_ok (Ok x) A B C f h k = f x h k
both_ok (Err e) A B C f h k = tt

pub at_back : {E : Type 0} (r : Result CallersBack E) (x : CallersBack) (P : CallersBack → Type 0)
    → r ≡ Ok x
    → IfOk r P
    → P x
at_back {E = E} r x P is h = subst (λ (o : Result CallersBack E). IfOk o P) is h

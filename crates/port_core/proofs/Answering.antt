-- What an attempt comes to: an answer, a part, or a wait.
use Rattle.std.specs.Prelude.{MatchBool}
use Rattle.std.proofs.Common.{◌≡◌, ℕ, List, [], ◌∷◌, ◌++◌, Bool, ◌&&◌, Option, None, Some, is_some}
use Rattle.std.proofs.Common.{◌+◌, ◌<◌, ◌≤◌, length, set, refl, sym, ◌∙◌, ap, subst, arith, append-nil}
use Rattle.tty_base.specs.Sizes.{COLUMNS_OF_PIECE, MOST_FLIP}
use Rattle.tty_base.specs.declared.characters.Flagged.{Flagged}
use Rattle.word_ring.specs.Ends.{TakerState}
use Rattle.port_core.specs.declared.waiting.WaitingCall.{WaitingCall}
use Rattle.tty_calls.specs.declared.journals.Who.TheVariants.{Caller}
use Rattle.tty_calls.specs.Plain.{PlainCall, handle_of, PlainAnswer, PlainEvent, answered, parted, waited, PlainEntry}
use Rattle.ldisc_switch.specs.Disciplines.{column_in}
use Rattle.tty_terminal.specs.declared.callers.CallerState.{CallerState}
use Rattle.tty_terminal.specs.declared.rooms.Met.{Met}
use Rattle.tty_terminal.specs.Terminals.{Terminal, caller_at, has_begun}
use Rattle.tty_terminal.specs.Calls.{outcome, outcome_of}
use Rattle.tty_terminal.specs.Meeting.{Meets, drops_of}
use Rattle.tty_terminal.specs.Steps.{Answers, Drops, MustWait, TakesPart, left_by, with_dropped, after_answer}
use Rattle.tty_terminal.specs.Steps.{after_part, after_wait, handle_number, Allowed, after, quiet}
use Rattle.tty_terminal.proofs.Effects.{Leaves, outcome_keeps}
use Rattle.port_core.specs.Flips.{DropsShown}
use Rattle.port_core.specs.Ports.{PlainKept, PortValue, IsOpen, call_in, kept_with, with_call, with_entry, caller_entry}
use Rattle.port_core.specs.Attempts.{IsReady, AnswersCall, TakesPartOf, MustGoOnWaiting}
use Rattle.port_core.specs.Inside.{call_waiting, KeepsCalls}
use Rattle.port_core.proofs.GoingOn.{made, entry_added, few_in, port_callers}
use Rattle.port_core.proofs.Calls.{begun_is, known_call, answered_holds, parted_holds, waited_holds, call_goes_on}
use Rattle.port_core.proofs.Handing.{when_false}

-- what the attempt of a call finds
pub record IsTried (v : PortValue) (slots : List (Option WaitingCall)) (c step : ℕ) (call : PlainCall) : Type 0 where
  pub keeps : KeepsCalls v slots
  pub few : length v.journal < v.limit
  pub ready : IsReady v c step call

-- likewise, from what its caller knows of the port
pub tries : (v w : PortValue) (slots : List (Option WaitingCall)) (c step : ℕ) (call : PlainCall)
    → v ≡ w
    → KeepsCalls v slots
    → IsOpen w
    → IsReady w c step call
    → IsTried v slots c step call
tries v w slots c step call is keeps can ready =
    record {
      keeps = keeps;
      few = few_in v w is can;
      ready = subst (λ (x : PortValue). IsReady x c step call) (sym is) ready;
    }

-- what a call met, and what it left of the terminal
pub record MetBy (t : Terminal) (c : ℕ) (call : PlainCall) (m : Met) (left : Terminal) : Type 0 where
  pub meets : Meets (outcome t (caller_at t c) call) m
  pub left_is : left ≡ left_by (outcome t (caller_at t c) call) t
  pub column : column_in left.disc ≤ column_in t.disc + COLUMNS_OF_PIECE

-- likewise of the terminal before room was made in it
pub met_before : (t u : Terminal) (c : ℕ) (call : PlainCall) (m : Met) (left : Terminal)
    → u ≡ t
    → MetBy u c call m left
    → MetBy t c call m left
met_before t u c call m left same met = subst (λ (x : Terminal). MetBy x c call m left) same met

-- what a call leaves of the terminal
pub leaves_of : (t u w : Terminal) (d : ℕ) (call : PlainCall)
    → u ≡ t
    → w ≡ left_by (outcome u (caller_at u d) call) u
    → Leaves t w
leaves_of t u w d call same left = subst (λ (x : Terminal). Leaves x w) same
    (subst (λ (x : Terminal). Leaves u x) (sym left) (outcome_keeps u (caller_at u d) (Some call)).left)

-- the port with this terminal, this flip buffer and this entry of a call
abbrev pub after_call : PortValue → ℕ → ℕ → PlainCall → Terminal → TakerState Flagged → PlainEntry → PortValue
after_call v c step call u f e =
    record v {
      terminal = u;
      journal = v.journal ++ e ∷ [];
      kept = kept_with (has_begun (caller_at v.terminal c)) v.kept c step call;
      flip = f;
    }

-- the steps that end each attempt: its entry, and the call that is kept
pub record IsNoted (v : PortValue) (c step : ℕ) (call : PlainCall) (event : PlainEvent) (js : List PlainEntry)
    (ks : List PlainKept) : Type 0 where
  pub journal : js ≡ v.journal ++ caller_entry v c event ∷ []
  pub kept : ks ≡ kept_with (has_begun (caller_at v.terminal c)) v.kept c step call

pub noted : (v : PortValue) (c step generation : ℕ) (call : PlainCall) (state : CallerState) (begun : Bool)
    (event said : PlainEvent) (e : PlainEntry) (before js : List PlainEntry) (ks : List PlainKept)
    → step ≡ (caller_at v.terminal c).next
    → state ≡ caller_at v.terminal c
    → begun ≡ is_some state.bound
    → generation ≡ v.terminal.generation
    → said ≡ event
    → e ≡ record { who = Caller c; step = step; part = state.parts; generation = generation; event = said }
    → before ≡ v.journal
    → js ≡ before ++ e ∷ []
    → ks ≡ kept_with begun v.kept c step call
    → IsNoted v c step call event js ks
noted v c step generation call state begun event said e before js ks next stands has same says entry kept added holds =
    record {
      journal = entry_added v.journal before js e (caller_entry v c event) kept added (entry
          ∙ (λ i. record {
            who = Caller c;
            step = next i;
            part = (stands i).parts;
            generation = same i;
            event = says i;
          }));
      kept = holds ∙ ap (λ (b : Bool). kept_with b v.kept c step call) (begun_is v.terminal c state begun stands has);
    }

-- the port that an attempt leaves
pub made_by_call : (v : PortValue) (c step : ℕ) (call : PlainCall) (event : PlainEvent) (t u : Terminal)
    (js : List PlainEntry) (ks : List PlainKept) (starved : Bool) (f : TakerState Flagged)
    → IsNoted v c step call event js ks
    → t ≡ u
    → starved ≡ v.starved
    → record v { terminal = t; journal = js; kept = ks; starved = starved; flip = f }
    ≡ after_call v c step call u f (caller_entry v c event)
made_by_call v c step call event t u js ks starved f notes left same = made v t u js _ ks _ starved f f left
    notes.journal notes.kept same refl

found_now : (v : PortValue) (slots : List (Option WaitingCall)) (c step : ℕ) (call : PlainCall)
    → IsTried v slots c step call
    → call_in (kept_with (has_begun (caller_at v.terminal c)) v.kept c step call)
    c (caller_at v.terminal c).next ≡ Some call
found_now v slots c step call h =
    subst (λ n. call_in (kept_with (has_begun (caller_at v.terminal c)) v.kept c step call) c n ≡ Some call)
    h.ready.next (known_call v c step call h.keeps.port h.ready)

known_now : (v : PortValue) (slots : List (Option WaitingCall)) (c step : ℕ) (call : PlainCall)
    → IsTried v slots c step call
    → c < length v.terminal.callers
known_now v slots c step call h = subst (λ n. c < n) (sym (port_callers v h.keeps.port)) h.ready.known

-- the call is answered
pub answers_call : (v now : PortValue) (slots : List (Option WaitingCall)) (c step : ℕ) (call : PlainCall)
    (a : PlainAnswer) (dropped : List Flagged) (u : Terminal) (f : TakerState Flagged)
    → IsTried v slots c step call
    → Answers (is_some (caller_at v.terminal c).waits && quiet v.counts v.terminal)
    (outcome v.terminal (caller_at v.terminal c) call) a
    → Drops v.terminal (outcome v.terminal (caller_at v.terminal c) call) (length dropped)
    → MatchBool (drops_of (outcome v.terminal (caller_at v.terminal c) call)) (DropsShown v.terminal v.flip f dropped)
    ((dropped ≡ []) × (f ≡ v.flip))
    → f.taken ≡ v.flip.taken ++ dropped
    → length dropped ≤ MOST_FLIP
    → f.capacity ≡ v.flip.capacity
    → v.terminal.sent ≤ f.floor
    → u ≡ left_by (outcome v.terminal (caller_at v.terminal c) call) v.terminal
    → column_in u.disc ≤ column_in v.terminal.disc + COLUMNS_OF_PIECE
    → now
    ≡ after_call v c step call (after_answer (with_dropped u (length dropped)) c) f
    (caller_entry v c (answered a dropped))
    → KeepsCalls now slots × AnswersCall v now c step call a
answers_call v now slots c step call a dropped u f h answers drops
    shown taken few_dropped capacity sent left column now_is =
    let t = v.terminal in
    let s = caller_at t c in
    let g = call_in (kept_with (has_begun s) v.kept c step call) in
    let e : PlainEntry = caller_entry v c (answered a dropped) in
    let found : g c s.next ≡ Some call = found_now v slots c step call h in
    let may : Bool = is_some s.waits && quiet v.counts t in
    let allowed : Allowed g v.counts t e = (
      refl,
      record {
        next = record {
          known = known_now v slots c step call h;
          at_step = refl;
          at_part = refl;
          not_over = h.ready.not_over;
        };
        answer = subst (λ (o : Option PlainCall). Answers may (outcome_of t s o) a) (sym found) answers;
        drops = subst (λ (o : Option PlainCall). Drops t (outcome_of t s o) (length dropped)) (sym found) drops;
      },
    ) in
    let leaves : after g t e ≡ after_answer (with_dropped u (length dropped)) c =
    ap (λ (o : Option PlainCall). after_answer (with_dropped (left_by (outcome_of t s o) t) (length dropped)) c) found
    ∙ ap (λ (w : Terminal). after_answer (with_dropped w (length dropped)) c) (sym left) in
    let same : now ≡ record (with_entry (with_call v c step call) e) { flip = f } =
    now_is ∙ ap (λ (w : Terminal). after_call v c step call w f e) (sym leaves) in
    let held : column_in (after g t e).disc ≡ column_in u.disc = ap (λ (w : Terminal). column_in w.disc) leaves in (
      call_goes_on v now slots slots c step call f (answered a dropped) h.keeps h.few h.ready refl refl allowed taken
          few_dropped capacity sent (omega (arith, held, column)) (answered_holds slots c call a dropped) same,
      subst (λ (w : PortValue). AnswersCall v w c step call a) (sym same)
          (record { dropped = dropped; appends = record { allowed = allowed; appended = refl }; drops = shown }),
    )

-- a part of a write is taken
pub takes_part_of : (v now : PortValue) (slots : List (Option WaitingCall)) (c step : ℕ) (call : PlainCall) (n : ℕ)
    (u : Terminal)
    → IsTried v slots c step call
    → TakesPart (outcome v.terminal (caller_at v.terminal c) call) n
    → u ≡ left_by (outcome v.terminal (caller_at v.terminal c) call) v.terminal
    → column_in u.disc ≤ column_in v.terminal.disc + COLUMNS_OF_PIECE
    → now ≡ after_call v c step call (after_part u c (handle_of call) n) v.flip (caller_entry v c (parted n))
    → KeepsCalls now slots × TakesPartOf v now c step call
takes_part_of v now slots c step call n u h takes left column now_is =
    let t = v.terminal in
    let s = caller_at t c in
    let g = call_in (kept_with (has_begun s) v.kept c step call) in
    let e : PlainEntry = caller_entry v c (parted n) in
    let found : g c s.next ≡ Some call = found_now v slots c step call h in
    let allowed : Allowed g v.counts t e = (
      refl,
      record {
        next = record {
          known = known_now v slots c step call h;
          at_step = refl;
          at_part = refl;
          not_over = h.ready.not_over;
        };
        takes = subst (λ (o : Option PlainCall). TakesPart (outcome_of t s o) n) (sym found) takes;
      },
    ) in
    let leaves : after g t e ≡ after_part u c (handle_of call) n =
    ap (λ (o : Option PlainCall). after_part (left_by (outcome_of t s o) t) c (handle_number o) n) found
    ∙ ap (λ (w : Terminal). after_part w c (handle_of call) n) (sym left) in
    let same : now ≡ record (with_entry (with_call v c step call) e) { flip = v.flip } =
    now_is ∙ ap (λ (w : Terminal). after_call v c step call w v.flip e) (sym leaves) in
    let held : column_in (after g t e).disc ≡ column_in u.disc = ap (λ (w : Terminal). column_in w.disc) leaves in (
      call_goes_on v now slots slots c step call v.flip (parted n) h.keeps h.few h.ready refl refl allowed
          (sym (append-nil v.flip.taken)) (omega arith) refl h.keeps.port.sent (omega (arith, held, column))
          (parted_holds slots c call n) same,
      subst (λ (w : PortValue). TakesPartOf v w c step call) (sym same)
          (record { count = n; appends = record { allowed = allowed; appended = refl } }),
    )

-- a call begins to wait
pub begins_to_wait : (v now : PortValue) (slots : List (Option WaitingCall)) (c step : ℕ) (call : PlainCall)
    (copy : WaitingCall)
    → call_waiting copy ≡ call
    → IsTried v slots c step call
    → MustWait (outcome v.terminal (caller_at v.terminal c) call)
    → (caller_at v.terminal c).waits ≡ None
    → now ≡ after_call v c step call (after_wait v.terminal c (handle_of call)) v.flip (caller_entry v c waited)
    → KeepsCalls now (set slots c (Some copy)) × MustGoOnWaiting v now c step call
begins_to_wait v now slots c step call copy copied h must first now_is =
    let t = v.terminal in
    let s = caller_at t c in
    let g = call_in (kept_with (has_begun s) v.kept c step call) in
    let e : PlainEntry = caller_entry v c waited in
    let found : g c s.next ≡ Some call = found_now v slots c step call h in
    let allowed : Allowed g v.counts t e = (
      refl,
      record {
        next = record {
          known = known_now v slots c step call h;
          at_step = refl;
          at_part = refl;
          not_over = h.ready.not_over;
        };
        first = first;
        must = subst (λ (o : Option PlainCall). MustWait (outcome_of t s o)) (sym found) must;
      },
    ) in
    let leaves : after g t e ≡ after_wait t c (handle_of call) =
    ap (λ (o : Option PlainCall). after_wait t c (handle_number o)) found in
    let same : now ≡ record (with_entry (with_call v c step call) e) { flip = v.flip } =
    now_is ∙ ap (λ (w : Terminal). after_call v c step call w v.flip e) (sym leaves) in
    let held : column_in (after g t e).disc ≡ column_in t.disc = ap (λ (w : Terminal). column_in w.disc) leaves in (
      call_goes_on v now slots (set slots c (Some copy)) c step call v.flip waited h.keeps h.few h.ready refl refl
          allowed (sym (append-nil v.flip.taken)) (omega arith) refl h.keeps.port.sent (omega (arith, held))
          (waited_holds slots c call copy (omega (arith, h.keeps.many, h.ready.known)) copied) same,
      subst (λ (w : PortValue). MustGoOnWaiting v w c step call) (sym same)
          (record {
            must = must;
            waits = when_false (is_some s.waits) _ _ (ap (λ (o : Option ℕ). is_some o) first)
                (record { allowed = allowed; appended = refl });
          }),
    )

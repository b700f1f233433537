-- The entry of an attempt, and of the end of a caller's calls.
use Rattle.std.proofs.Common.{◌≡◌, ℕ, List, ◌∷◌, [], ◌++◌, Bool, true, false, IsTrue, Option, Some, is_some}
use Rattle.std.proofs.Common.{MatchBool, get_or, refl, sym, ◌∙◌, ap, subst, if◌then◌else◌, ◌==◌, ◌&&◌}
use Rattle.std.proofs.lemmas.Bool.{false≢true}
use Rattle.tty_base.specs.declared.characters.Flagged.{Flagged}
use Rattle.word_ring.specs.Ends.{TakerState}
use Rattle.tty_calls.specs.declared.sessions.Script.{Script}
use Rattle.tty_calls.specs.declared.journals.Who.TheVariants.{Caller}
use Rattle.tty_calls.specs.Plain.{PlainCall, answered, parted, waited, PlainEntry}
use Rattle.tty_calls.specs.Sessions.{call_at}
use Rattle.tty_terminal.specs.declared.callers.CallerState.{CallerState}
use Rattle.tty_terminal.specs.Terminals.{caller_at, has_begun}
use Rattle.tty_terminal.specs.Calls.{outcome, outcome_of}
use Rattle.tty_terminal.specs.Steps.{is_wait, quiet}
use Rattle.tty_terminal.specs.Runs.{KnowsMore, is_of_call}
use Rattle.port_core.specs.Attempts.{PlainTried, done_by, took_part, must_wait, Attempts}
use Rattle.port_core.specs.Ports.{PlainKept, PortValue, call_in, kept_with, Appends, with_call, caller_entry}
use Rattle.play_base.specs.Roles.{Scene}
use Rattle.one_thread.specs.Acts.{AddsEntry, InCall, TriesCall, MakesCall}
use Rattle.play_base.specs.declared.roles.Role.{Role}
use Rattle.one_thread.specs.declared.after_line.Stand.{Stand}
use Rattle.one_thread.proofs.Kept.{kept_grows}
use Rattle.one_thread.proofs.Calling.{called, wait_test}
use Rattle.one_thread.proofs.Acting.{Calls, own_kept_then, turns_may}
use Rattle.one_thread.proofs.Ready.{calls_of_next, got_role}

-- the call is kept as the port was asked it
kept_as : (s : Scene) (scripts : List Script) (roles : List Role) (v w : PortValue) (stand : Stand) (place : ℕ)
    (r : Role) (call : PlainCall) (flip : TakerState Flagged) (e : PlainEntry)
    → Calls s scripts roles v stand place r call
    → Appends (with_call v r.number (caller_at v.terminal r.number).next call) w flip e
    → call_in w.kept r.number (caller_at v.terminal r.number).next ≡ Some call
kept_as s scripts roles v w stand place r call flip e h appends =
    let c = r.number in
    let step = (caller_at v.terminal c).next in
    let is_call = called s scripts roles v stand place r call h.turns.plays h.turns.is h.next in
    let known : KnowsMore (call_in w.kept) (call_at s.port s.session) =
    subst (λ (ks : List PlainKept). KnowsMore (call_in ks) (call_at s.port s.session))
    (sym (ap (λ (x : PortValue). x.kept) appends.appended))
    (kept_grows (has_begun (caller_at v.terminal c)) v.kept c step call (call_at s.port s.session)
    is_call h.turns.plays.of_scene.known) in
    let own = own_kept_then v w c call flip e appends (h.turns.plays.callers.kept c) in
    own.found ∙ (sym (known c step own.call own.found) ∙ is_call)

-- what was kept is kept
same_case : (b : Bool) (call : PlainCall) (rest more : Option PlainCall) (x : PlainCall)
    → (rest ≡ Some x → more ≡ Some x)
    → (if b then Some call else rest) ≡ Some x
    → (if b then Some call else more) ≡ Some x
same_case true call rest more x h e = e
same_case false call rest more x h e = h e

still_same : (ks : List PlainKept) (k : PlainKept) (c step : ℕ) (x : PlainCall)
    → call_in ks c step ≡ Some x
    → call_in (ks ++ k ∷ []) c step ≡ Some x
still_same [] k c step x e = absurd (cc)
still_same (y ∷ ks) k c step x e = same_case ((y.caller == c) && (y.step == step)) y.call (call_in ks c step)
    (call_in (ks ++ k ∷ []) c step) x (still_same ks k c step x) e

grown_by : (begun : Bool) (ks : List PlainKept) (c step : ℕ) (call : PlainCall)
    → KnowsMore (call_in ks) (call_in (kept_with begun ks c step call))
grown_by true ks c step call d n x e = e
grown_by false ks c step call d n x e = still_same ks (record { caller = c; step = step; call = call }) d n x e

-- an entry beside which no call is kept
pub adds_by : (v w : PortValue) (flip : TakerState Flagged) (e : PlainEntry) → Appends v w flip e → AddsEntry v w
adds_by v w flip e appends = record {
  entry = e;
  added = ap (λ (x : PortValue). x.journal) appends.appended;
  kept = ap (λ (x : PortValue). x.kept) appends.appended;
}

made : (s : Scene) (scripts : List Script) (roles : List Role) (v w : PortValue) (stand : Stand) (place : ℕ) (r : Role)
    (call : PlainCall) (flip : TakerState Flagged) (e : PlainEntry)
    → Calls s scripts roles v stand place r call
    → Appends (with_call v r.number (caller_at v.terminal r.number).next call) w flip e
    → e.who ≡ Caller r.number
    → e.step ≡ (caller_at v.terminal r.number).next
    → IsTrue (is_of_call e.event)
    → MakesCall v w r.number call
made s scripts roles v w stand place r call flip e h appends who step of_call =
    record {
      entry = e;
      added = ap (λ (x : PortValue). x.journal) appends.appended;
      who = who;
      step = step;
      of_call = of_call;
      kept = kept_as s scripts roles v w stand place r call flip e h appends;
      grows = subst (λ (ks : List PlainKept). KnowsMore (call_in v.kept) (call_in ks))
          (sym (ap (λ (x : PortValue). x.kept) appends.appended))
          (grown_by (has_begun (caller_at v.terminal r.number))
          v.kept r.number (caller_at v.terminal r.number).next call);
    }

made_by : (s : Scene) (scripts : List Script) (roles : List Role) (v w : PortValue) (stand : Stand) (place : ℕ)
    (r : Role) (call : PlainCall) (tried : PlainTried)
    → Calls s scripts roles v stand place r call
    → Attempts v w r.number (caller_at v.terminal r.number).next call tried
    → MakesCall v w r.number call
made_by s scripts roles v w stand place r call (done_by answer) h a =
    made s scripts roles v w stand place r call w.flip (caller_entry v r.number (answered answer a.dropped))
    h a.appends refl refl refl
made_by s scripts roles v w stand place r call took_part h a =
    made s scripts roles v w stand place r call v.flip (caller_entry v r.number (parted a.count))
    h a.appends refl refl refl
made_by s scripts roles v w stand place r call must_wait h a =
    waits_case (is_some (caller_at v.terminal r.number).waits) refl a.waits
  where
    waits_case : (b : Bool)
        → is_some (caller_at v.terminal r.number).waits ≡ b
        → MatchBool b ((w ≡ v) × (quiet v.counts v.terminal ≡ false))
        (Appends (with_call v r.number (caller_at v.terminal r.number).next call) w v.flip
        (caller_entry v r.number waited))
        → MakesCall v w r.number call
    waits_case true e k =
        let is_call = called s scripts roles v stand place r call h.turns.plays h.turns.is h.next in
        let must =
        ap (λ (o : Option PlainCall). is_wait (outcome_of v.terminal (caller_at v.terminal r.number) o)) is_call
        ∙ wait_test (outcome v.terminal (caller_at v.terminal r.number) call) a.must in
        absurd (false≢true (sym k.1 ∙ (turns_may s scripts roles v stand place r h.turns).in_vain e must))
    waits_case false e k =
        made s scripts roles v w stand place r call v.flip (caller_entry v r.number waited) h k refl refl refl

pub attempted : (roles : List Role) (v w : PortValue) (stand : Stand) (place : ℕ) (call : PlainCall) (d : Role)
    (state : CallerState) (tried : PlainTried)
    → InCall roles v stand place call
    → state ≡ caller_at v.terminal (get_or roles place d).number
    → Attempts v w (get_or roles place d).number state.next call tried
    → TriesCall roles v w place call tried
attempted roles v w stand place call d state tried h at attempts =
    let s = h.in_turn.scene in
    let scripts = h.in_turn.scripts in
    let r = h.next.role in
    let made_at : Attempts v w r.number (caller_at v.terminal r.number).next call tried =
    subst (λ (x : Role). Attempts v w x.number (caller_at v.terminal x.number).next call tried)
    (sym (got_role scripts roles v place call d h.next))
    (subst (λ (x : CallerState). Attempts v w (get_or roles place d).number x.next call tried) at attempts) in
    record {
      role = r;
      at_place = h.next.at_place;
      attempts = made_at;
      makes = made_by s scripts roles v w stand place r call tried
          (calls_of_next s scripts roles v stand place call h.in_turn.plays h.in_turn.possible h.next) made_at;
    }

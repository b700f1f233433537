-- Consoles opened and ended one after the other, and their keys.
use Rattle.std.proofs.Common.{◌≡◌, ℕ, ◌+◌, ◌<◌, List, [], ◌∷◌, ◌++◌, Some, drop, length}
use Rattle.std.proofs.Common.{map, refl, sym, subst, ap, ◌∙◌, get_or, length-append}
use Rattle.std.specs.Prelude.{slice_get}
use Rattle.tty_calls.specs.declared.answers.PortEnd.{PortEnd}
use Rattle.tty_calls.specs.declared.journals.PortRun.{PortRun}
use Rattle.tty_calls.specs.Sessions.{PlainSession}
use Rattle.play_base.specs.Phases.{AreFirstPlayed}
use Rattle.play_base.specs.Played.{ArePlayed, IsPlayedOn}
use Rattle.play_base.specs.Roles.{Scene}
use Rattle.play_base.proofs.PortLemmas.{one_more_played}
use Rattle.many_threads.specs.InPlay.{WerePlayedBefore}
use Rattle.many_threads.proofs.Onward.{each_front, each_last}
use Rattle.vt_text.specs.declared.sessions.VtPhase.{VtPhase}
use Rattle.vt_text.specs.Sessions.{vt_phase_of}
use Rattle.vt_account.specs.Keyed.{all_keys}
use Rattle.vt_keyboard.proofs.SeatLemmas.{next_item}
use Rattle.vt_threads.specs.declared.consoles.Console.{Console}
use Rattle.vt_play.specs.Parts.{StandAtEnd}

-- ---- keys, from a phase on

pub keys_left : (phases : List VtPhase) (k : ℕ) (x : VtPhase)
    → k < length phases
    → x ≡ get_or phases k x
    → length (all_keys (map vt_phase_of (drop k phases)))
    ≡ length x.keys.items + length (all_keys (map vt_phase_of (drop (k + 1) phases)))
keys_left phases k x below at =
    ap (λ (l : List VtPhase). length (all_keys (map vt_phase_of l))) (next_item phases k x below at)
    ∙ length-append x.keys.items (all_keys (map vt_phase_of (drop (k + 1) phases)))

-- ---- one console more is ended

pub one_more_ended : (x : PlainSession) (ended : List Console) (c : Console) (runs : List PortRun) (ends : List PortEnd)
    (run : PortRun) (end : PortEnd)
    → (StandAtEnd x ended → AreFirstPlayed x (length ended) runs ends)
    → ((s : Scene) → WerePlayedBefore s (length s.session.phases) c.station c.end → IsPlayedOn s.port s.session run end)
    → StandAtEnd x (ended ++ c ∷ [])
    → AreFirstPlayed x (length (ended ++ c ∷ [])) (runs ++ run ∷ []) (ends ++ end ∷ [])
one_more_ended x ended c runs ends run end before now stand =
    let front = each_front
    (λ p (d : Console). WerePlayedBefore (record { port = p; session = x }) (length x.phases) d.station d.end)
    (ended ++ c ∷ []) ended c refl stand in
    let last = each_last
    (λ p (d : Console). WerePlayedBefore (record { port = p; session = x }) (length x.phases) d.station d.end)
    (ended ++ c ∷ []) ended c refl stand in
    subst (λ (n : ℕ). AreFirstPlayed x n (runs ++ run ∷ []) (ends ++ end ∷ [])) (sym (length-append ended (c ∷ [])))
    (one_more_played x (length ended) runs ends run end (before front)
    (now (record { port = length ended; session = x }) last))

pub none_ended : (x : PlainSession) (runs : List PortRun) (ends : List PortEnd)
    → runs ≡ []
    → ends ≡ []
    → AreFirstPlayed x 0 runs ends
none_ended x runs ends no_runs no_ends = record {
  runs_of = ap (λ (l : List PortRun). length l) no_runs;
  ends_of = ap (λ (l : List PortEnd). length l) no_ends;
  each = λ p run end at_run at_end.
      absurd (nothing p run (ap (λ (l : List PortRun). slice_get l p) (sym no_runs) ∙ at_run));
}
  where
    nothing : (p : ℕ) (run : PortRun) → slice_get [] p ≡ Some run → ⊥
    nothing p run h = cc

map_same : (xs : List Console) → map (λ (c : Console). c) xs ≡ xs
map_same [] = refl
map_same (c ∷ xs) = ap (λ (l : List Console). c ∷ l) (map_same xs)

-- all of them are ended
pub all_ended : (x : PlainSession) (consoles ended : List Console) (runs : List PortRun) (ends : List PortEnd)
    → map (λ (c : Console). c) ended ≡ consoles
    → length consoles ≡ x.ports
    → StandAtEnd x consoles
    → (StandAtEnd x ended → AreFirstPlayed x (length ended) runs ends)
    → ArePlayed x runs ends
all_ended x consoles ended runs ends over ports stand played =
    let is : ended ≡ consoles = sym (map_same ended) ∙ over in
    let all = played (subst (StandAtEnd x) (sym is) stand) in
    let count : length ended ≡ x.ports = ap (λ (l : List Console). length l) is ∙ ports in
    record { runs_of_all = all.runs_of ∙ count; ends_of_all = all.ends_of ∙ count; each = all.each }

pub all_yielded : (yielded consoles : List Console) → map (λ (c : Console). c) yielded ≡ consoles → yielded ≡ consoles
all_yielded yielded consoles over = sym (map_same yielded) ∙ over

-- A session that was played, and the port that it agrees with; and the port's journal once it was hung up.
use Rattle.std.proofs.Common.{◌≡◌, inl, inr, ℕ, ◌==◌, false, List, [], ◌∷◌, ◌++◌, Option, length, take}
use Rattle.std.proofs.Common.{sum, refl, sym, ap, ◌∙◌, append-nil}
use Rattle.std.specs.Prelude.{slice_index_or}
use Rattle.std.proofs.lemmas.List.{length-map}
use Rattle.tty_calls.specs.Plain.{PlainCall, PlainEntry}
use Rattle.tty_calls.specs.Sessions.{PlainSession, line_on}
use Rattle.tty_terminal.specs.Terminals.{Terminal, opening, caller_at, has_begun}
use Rattle.tty_terminal.specs.Steps.{after}
use Rattle.tty_terminal.specs.Standing.{Standing, standing_after, standing_in, at_first}
use Rattle.tty_terminal.proofs.StandingLaws.{run_stands}
use Rattle.port_core.specs.Ports.{PortValue, IsPort, call_in, hangup_entry}
use Rattle.play_base.specs.Roles.{Scene}
use Rattle.play_base.specs.Leaving.{EndsJournal}
use Rattle.play_base.specs.Scenes.{IsOfSceneIn}
use Rattle.order_laws.specs.Agreed.{Agrees, IsLike}
use Rattle.passed_calls.specs.Derived.{Passing, BlockPhase, by_caller}
use Rattle.passed_calls.specs.Journals.{terminal_after}
use Rattle.order_laws.specs.Passed.{IsPassedBy}
use Rattle.order_laws.specs.Witness.{scene_on, HasPassed}
use Rattle.order_laws.specs.Later.{IsLater}
use Rattle.order_laws.proofs.PassedAdding.{like_first}
use Rattle.order_laws.proofs.Blocks.{of_blocks, same_shape}
use Rattle.order_laws.specs.Sessions.{BlockSession, journal_in}
use Rattle.passed_ports.specs.Ports.{IsSceneOf, IsPlayedWith}
use Rattle.passed_ports.proofs.Alike.{agrees_alike}

pub passed_then : (session : BlockSession) (p : ℕ) (ms : List Passing) (mine : ℕ → List Passing) (played : PlainSession)
    → ((c : ℕ) → by_caller c ms ≡ mine c)
    → IsPlayedWith session p ms played
    → IsPassedBy p session.phases mine played
passed_then session p ms mine played same h =
    record { passed = h.passed.passed; are = h.passed.are; by = λ c. h.passed.by c ∙ same c }

pub like_played : (first : Scene) (session : BlockSession) (ms : List Passing) (mine : ℕ → List Passing)
    (played : PlainSession)
    → ((c : ℕ) → by_caller c ms ≡ mine c)
    → IsSceneOf first session
    → IsPlayedWith session first.port ms played
    → IsLike first (scene_on first.port played)
like_played first session ms mine played same scene h =
    like_first first session.phases mine played scene.of_blocks
    (passed_then session first.port ms mine played same h)
    (ap (λ n. n == 0) (h.version ∙ sym scene.version))
    (ap (λ (ns : List ℕ). slice_index_or ns first.port 0) (h.flips ∙ sym scene.flips)) h.limits

pub agrees_played : (first : Scene) (session : BlockSession) (v : PortValue) (ms : List Passing)
    (mine : ℕ → List Passing)
    (played : PlainSession)
    → ((c : ℕ) → by_caller c ms ≡ mine c)
    → IsSceneOf first session
    → HasPassed first session.phases mine v
    → IsPlayedWith session first.port ms played
    → Agrees (scene_on first.port played) v
agrees_played first session v ms mine played same scene has h =
    let p = first.port in
    let phases = session.phases in
    let then = passed_then session p ms mine played same h in
    let shape = (like_played first session ms mine played same scene h).shape in
    let consoles = shape.consoles ∙ sym has.like.shape.consoles in
    let flip = shape.flip ∙ sym has.like.shape.flip in
    agrees_alike p phases mine has.session played v
    (same_shape p phases has.session played consoles flip (of_blocks p phases mine has.session has.by)
    (of_blocks p phases mine played then)) has.by then has.agrees

pub standing_more : (c : ℕ) (es : List PlainEntry) (e : PlainEntry) (q : Standing)
    → standing_in c (es ++ e ∷ []) q ≡ standing_after c e (standing_in c es q)
standing_more c [] e q = refl
standing_more c (x ∷ es) e q = standing_more c es e (standing_after c x q)

pub after_append : (f : ℕ → ℕ → Option PlainCall) (t : Terminal) (es : List PlainEntry) (e : PlainEntry)
    → terminal_after f t (es ++ e ∷ []) ≡ after f (terminal_after f t es) e
after_append f t [] e = refl
after_append f t (x ∷ es) e = after_append f (after f t x) es e

pub take_all : {X : Type 0} (xs : List X) → take (length xs) xs ≡ xs
take_all [] = refl
take_all (x ∷ xs) = λ i. x ∷ take_all xs i

-- nobody has begun a call in it, where nobody has before
pub idle_then : (v : PortValue) (journal : List PlainEntry) (c : ℕ)
    → IsPort v
    → EndsJournal v journal
    → has_begun (caller_at v.terminal c) ≡ false
    → (standing_in c journal at_first).begun ≡ false
idle_then v journal c port (inl same) idle =
    ap (λ (es : List PlainEntry). (standing_in c es at_first).begun) same
    ∙ (sym (ap (λ (q : Standing). q.begun)
    (run_stands (call_in v.kept) v.counts v.flip.capacity v.journal v.terminal port.run c))
    ∙ idle)
idle_then v journal c port (inr h) idle =
    ap (λ (es : List PlainEntry). (standing_in c es at_first).begun) h.1
    ∙ (ap (λ (q : Standing). q.begun) (standing_more c v.journal (hangup_entry v h.0) at_first)
    ∙ (sym (ap (λ (q : Standing). q.begun)
    (run_stands (call_in v.kept) v.counts v.flip.capacity v.journal v.terminal port.run c))
    ∙ idle))

-- the port can come to it
pub later_then : (v : PortValue) (journal : List PlainEntry)
    → EndsJournal v journal
    → (rest : List PlainEntry) × (journal ≡ v.journal ++ rest)
later_then v journal (inl same) = ([], same ∙ sym (append-nil v.journal))
later_then v journal (inr h) = (hangup_entry v h.0 ∷ [], h.1)

pub is_later : {HasOrder : Scene → List PlainEntry → Type 0} (s : Scene) (v : PortValue)
    (journal rest : List PlainEntry)
    → IsOfSceneIn HasOrder s v
    → journal ≡ v.journal ++ rest
    → IsLater v (journal_in s.port s.session journal)
is_later s v journal rest of entries =
    record {
      opens = λ i. opening (sum (sym of.counts i)) (sym of.capacity i);
      calls = of.known;
      rest = rest;
      entries = entries;
    }

pub phases_many : (first : Scene) (session : BlockSession)
    → IsSceneOf first session
    → length first.session.phases ≡ length session.phases
phases_many first session scene =
    sym (length-map first.session.phases (line_on first.port))
    ∙ (ap (λ (xs : List (List _)). length xs) scene.of_blocks.lines
    ∙ length-map session.phases (λ (phase : BlockPhase). slice_index_or phase.lines first.port []))

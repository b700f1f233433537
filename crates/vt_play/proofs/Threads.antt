-- What the functions of a phase hand on to one another.
use Rattle.std.proofs.Common.{◌≡◌, ℕ, ◌+◌, ◌^◌, ◌<◌, List, [], ◌∷◌, ◌++◌, Some, Result, Ok, Err, Vec, Global}
use Rattle.std.proofs.Common.{length, sym, subst, ap, ◌∙◌, arith, length-append, take}
use Rattle.std.specs.Prelude.{IfOk, slice_get}
use Rattle.tty_calls.specs.declared.answers.Denied.{Denied}
use Rattle.tty_port.specs.declared.shared.SharedPort.{SharedPort}
use Rattle.std.specs.Prelude.{Option}
use Rattle.many_threads.proofs.Onward.{at_ok}
use Rattle.vt_consoles.specs.declared.shared.SharedBoard.{SharedBoard}
use Rattle.vt_consoles.specs.Seats.{BoardSeat}
use Rattle.vt_text.specs.declared.sessions.VtPhase.{VtPhase}
use Rattle.vt_text.specs.Sessions.{vt_phase_of, vt_session_of}
use Rattle.vt_account.specs.Keyed.{all_keys}
use Rattle.vt_threads.specs.declared.consoles.Console.{Console}
use Rattle.vt_threads.specs.declared.parting.Casting.{Casting}
use Rattle.vt_play.specs.declared.parts.AllBack.{AllBack}
use Rattle.vt_play.specs.declared.parts.AllParts.{AllParts}
use Rattle.vt_play.specs.declared.phases.PhaseBack.{PhaseBack}
use Rattle.vt_play.specs.declared.stage.PhaseOf.{PhaseOf}
use Rattle.vt_play.specs.declared.stage.Stage.{Stage}
use Rattle.vt_play.specs.Phases.{IsPhaseOf, IsStageOf, IsStaged, PhaseLeaves}
use Rattle.vt_play.proofs.Listing.{mapped_there}
use Rattle.vt_play.proofs.Staging.{keys_front, keys_more}

pub stage_at : (of : PhaseOf) (board : SharedBoard) (xs ports : List (Option SharedPort)) (ys castings : List Casting)
    (stage : Stage)
    → xs ≡ ports
    → ys ≡ castings
    → IsStageOf of board xs ys stage
    → IsStageOf of board ports castings stage
stage_at of board xs ports ys castings stage is are h =
    subst (λ (l : List (Option SharedPort)). IsStageOf of board l castings stage) is
    (subst (λ (l : List Casting). IsStageOf of board xs l stage) are h)

pub hand_number : (of : PhaseOf) (board : SharedBoard) (seats : List BoardSeat) (consoles : List Console)
    (parts : AllParts) → (h : IsStaged of board seats consoles parts)
    → (ports : List (Option SharedPort)) (castings : List Casting) (stage : Stage)
    → IsStageOf of board ports castings stage
    → (others : List BoardSeat) (seat : BoardSeat)
    → seats ≡ others ++ seat ∷ []
    → length others ≡ length stage.names.now
hand_number of board seats consoles parts h ports castings stage g others seat split =
    let size = length-append others (seat ∷ []) in
    let whole = ap (λ (l : List BoardSeat). length l) split in
    let count = h.count in
    let names = ap (λ (l : List (List ℕ)). length l) g.names_are in
    omega (arith, size, whole, count, names)

pub leaves_ok : {E : Type 0} (r : Result PhaseBack E) (seats : List BoardSeat) (made : Result (Unit {0}) Denied)
    (all : AllBack) (P : PhaseBack → Type 0)
    → IfOk r (λ x. x.seats.items ≡ seats)
    → IfOk r (λ x. x.made ≡ made)
    → IfOk r (λ x. x.all ≡ all)
    → ((x : PhaseBack) → x.seats.items ≡ seats → x.made ≡ made → x.all ≡ all → P x)
    → IfOk r P
leaves_ok (Ok x) seats made all P s m a f = f x s m a
leaves_ok (Err e) seats made all P s m a f = tt

pub kept_of : {T U E : Type 0} (result : Result (T × U) E) (kept : T) (made : Result U E) (t : T) (u : U)
    → result ≡ Ok (t, u)
    → IfOk result (λ both. both.0 ≡ kept)
    → IfOk result (λ both. made ≡ Ok both.1)
    → (t ≡ kept) × (made ≡ Ok u)
kept_of result kept made t u is k m =
    (at_ok result (t, u) (λ both. both.0 ≡ kept) is k, at_ok result (t, u) (λ both. made ≡ Ok both.1) is m)

pub passed_on : {T D E : Type 0} (now : Result T D) (made : Result T E) (P : T → Type 0)
    → IfOk now (λ it. made ≡ Ok it)
    → IfOk made P
    → IfOk now P
passed_on (Ok x) made P is h = at_ok made x P is h
passed_on (Err e) made P is h = tt

pub next_first_is : (of : PhaseOf) (phases : List VtPhase) (x : VtPhase) (n : ℕ)
    → IsPhaseOf of
    → of.first ≡ length (all_keys (take of.k (vt_session_of of.session.now).phases))
    → phases ≡ of.session.now.phases.items
    → slice_get phases of.k ≡ Some x
    → n ≡ length x.keys.items
    → (of.first + n ≡ length (all_keys (take (of.k + 1) (vt_session_of of.session.now).phases)))
    × (of.first + n < 2 ^ 32)
next_first_is of phases x n h first are at count =
    let vt = vt_session_of of.session.now in
    let there : slice_get vt.phases of.k ≡ Some (vt_phase_of x) =
    mapped_there vt_phase_of of.session.now.phases.items of.k x
    (ap (λ (l : List VtPhase). slice_get l of.k) (sym are) ∙ at) in
    let more = keys_more vt.phases of.k (vt_phase_of x) there in
    let few = keys_front vt.phases (of.k + 1) in
    let most = h.within.few_keys in
    (omega (arith, more, first, count), omega (arith, more, first, count, few, most))

-- what the threads of a phase left, where the board was kept beside it
pub phase_left : {E F : Type 0} (of : PhaseOf) (consoles : List Console)
    (staged : Result (SharedBoard × Vec BoardSeat Global × AllParts) E) (now : SharedBoard)
    (seats : Vec BoardSeat Global)
    (parts : AllParts) (played : Result PhaseBack F) (both : Result (SharedBoard × PhaseBack) F) (shared : SharedBoard)
    (back : PhaseBack)
    → staged ≡ Ok (now, seats, parts)
    → IfOk staged (λ r. IsStaged of r.0 r.1.items consoles r.2)
    → both ≡ Ok (shared, back)
    → IfOk both (λ r. r.0 ≡ now)
    → IfOk both (λ r. played ≡ Ok r.1)
    → IfOk played (PhaseLeaves of now parts)
    → IsStaged of shared seats.items consoles parts × PhaseLeaves of shared parts back
phase_left of consoles staged now seats parts played both shared back is h both_is kept made leaves =
    let same = at_ok both (shared, back) (λ r. r.0 ≡ now) both_is kept in
    let was = at_ok both (shared, back) (λ r. played ≡ Ok r.1) both_is made in (
      subst (λ (b : SharedBoard). IsStaged of b seats.items consoles parts) (sym same)
          (at_ok staged (now, seats, parts) (λ r. IsStaged of r.0 r.1.items consoles r.2) is h),
      subst (λ (b : SharedBoard). PhaseLeaves of b parts back) (sym same)
          (at_ok played back (PhaseLeaves of now parts) was leaves),
    )

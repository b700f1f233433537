-- All consoles in their parts, and between two phases.
use Rattle.std.specs.Prelude.{◌≡◌, ℕ, List, Some, length, map, slice_get}
use Rattle.tty_calls.specs.declared.sessions.Session.{Session}
use Rattle.tty_calls.specs.Sessions.{PlainSession}
use Rattle.many_threads.specs.InPlay.{CanEnd, WerePlayedBefore}
use Rattle.vt_consoles.specs.declared.entries.VtEntry.{VtEntry}
use Rattle.vt_text.specs.declared.sessions.VtSession.{VtSession}
use Rattle.vt_text.specs.Sessions.{PlainVtSession}
use Rattle.vt_threads.specs.Between.{IsConsoleBefore}
use Rattle.vt_threads.specs.Parting.{IsParted, IsPlayed, IsPlayedIn}
use Rattle.vt_threads.specs.declared.consoles.Console.{Console}
use Rattle.vt_threads.specs.declared.parting.Parted.{Parted}
use Rattle.vt_threads.specs.declared.parting.PartedBack.{PartedBack}
use Rattle.vt_threads.specs.declared.parting.Rest.{Rest}
use Rattle.vt_play.specs.declared.parts.AllBack.{AllBack}
use Rattle.vt_play.specs.declared.parts.AllParts.{AllParts}
use Rattle.vt_play.specs.declared.parts.Kept.{Kept}
use Rattle.vt_play.specs.Stages.{Places}

-- each of these consoles, which begin with console 0, before phase k, where the board has these entries
abbrev pub AreConsolesBefore : PlainVtSession → (k : ℕ) → List VtEntry → List Console → Type 0
AreConsolesBefore session k entries consoles = Places (λ p. IsConsoleBefore session p k entries) consoles

-- ---- the parts of consoles, which stand in lists

-- what of a console the threads do not see
abbrev pub kept_in : Rest → Kept
kept_in rest = record { steps = rest.steps; standing = rest.standing }

pub record ArePartsOf (qs : List Parted) (all : AllParts) : Type 0 where
  pub ports : all.ports.items ≡ map (λ (q : Parted). q.port) qs
  pub seats : all.keyboard.seats.items ≡ map (λ (q : Parted). q.seats) qs
  pub lines : all.keyboard.keyed.lines.items ≡ map (λ (q : Parted). q.line) qs
  pub ends : all.keyboard.keyed.ends.items ≡ map (λ (q : Parted). q.end) qs
  pub owns : all.owns.items ≡ map (λ (q : Parted). q.own) qs
  pub castings : all.castings.items ≡ map (λ (q : Parted). q.rest.casting) qs
  pub kept : all.kept.items ≡ map (λ (q : Parted). kept_in q.rest) qs

pub record ArePartedAll (calls : Session) (k : ℕ) (consoles : List Console) (all : AllParts) : Type 0 where
  pub qs : List Parted
  pub parts : ArePartsOf qs all
  pub count : length qs ≡ length consoles
  pub each : (p : ℕ) (c : Console) (q : Parted)
      → slice_get consoles p ≡ Some c
      → slice_get qs p ≡ Some q
      → IsParted calls p k c q

pub record AreBackOf (bs : List PartedBack) (all : AllBack) : Type 0 where
  pub ports : all.ports.items ≡ map (λ (b : PartedBack). b.port) bs
  pub seats : all.keyboard.seats.items ≡ map (λ (b : PartedBack). b.seats) bs
  pub lines : all.keyboard.keyed.lines.items ≡ map (λ (b : PartedBack). b.line) bs
  pub ends : all.keyboard.keyed.ends.items ≡ map (λ (b : PartedBack). b.end) bs
  pub owns : all.owns.items ≡ map (λ (b : PartedBack). b.own) bs
  pub castings : all.castings.items ≡ map (λ (b : PartedBack). b.rest.casting) bs
  pub kept : all.kept.items ≡ map (λ (b : PartedBack). kept_in b.rest) bs

-- each of the consoles was played in phase k, in which the board had this part more
pub record ArePlayedIn (session : VtSession) (k : ℕ) (entries part : List VtEntry) (all : AllBack) : Type 0 where
  pub bs : List PartedBack
  pub back : AreBackOf bs all
  pub each : Places (λ p. IsPlayedIn session p k entries part) bs

pub record ConsolesArePlayed (session : VtSession) (k : ℕ) (all : AllBack) : Type 0 where
  pub bs : List PartedBack
  pub back : AreBackOf bs all
  pub each : Places (λ p. IsPlayed session p k) bs

-- ---- the end

abbrev pub CanEndAll : List Console → Type 0
CanEndAll consoles = Places (λ p (c : Console). CanEnd c.station c.end) consoles

-- each console stands at the end of its port's session
abbrev pub StandAtEnd : PlainSession → List Console → Type 0
StandAtEnd x consoles = Places
    (λ p (c : Console). WerePlayedBefore (record { port = p; session = x }) (length x.phases) c.station c.end) consoles

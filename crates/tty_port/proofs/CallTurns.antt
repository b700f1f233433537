-- What a turn of a call comes to, as the seat knows it.
use Rattle.std.proofs.Common.{◌≡◌, ◌⊎◌, inl, inr, ℕ, ◌+◌, List, Bool, true, false}
use Rattle.std.proofs.Common.{not, ◌==◌, if◌then◌else◌, ne_eqb, arith, sym, ◌∙◌, ap, subst}
use Rattle.std.proofs.lemmas.Bool.{false≢true, eq-eqb}
use Rattle.tty_calls.specs.Plain.{PlainCall}
use Rattle.tty_terminal.specs.Standing.{Standing}
use Rattle.port_core.specs.Attempts.{PlainTried, done_by, took_part, must_wait, Raises}
use Rattle.port_cell.specs.declared.kept.Stamped.{Stamped}
use Rattle.port_cell.specs.declared.view.User.{User}
use Rattle.port_cell.specs.declared.view.User.TheVariants.{Held, Alone}
use Rattle.port_cell.specs.Entries.{generation_of, Keeps}
use Rattle.port_cell.specs.Views.{Knows}
use Rattle.port_cell.specs.Knowledge.{number_of, list_seen}
use Rattle.tty_port.specs.Inside.{EntryWithCall}
use Rattle.tty_port.specs.Seen.{standing_at, IsBetweenCalls}
use Rattle.tty_port.specs.Placed.{ArePlaced}
use Rattle.tty_port.specs.Adding.{Adds, IsAnswerOf, IsPartOf, IsWaitOf, IsUnderWay, Rests, TriesCall}
use Rattle.tty_port.specs.Calls.{PortSeat}
use Rattle.tty_port.specs.Lines.{MakesOne}
use Rattle.tty_port.specs.Going.{IsMadeIn, Turns}
use Rattle.tty_port.proofs.Keeping.{standing_kept}
use Rattle.tty_port.proofs.Turning.{makes_one, makes_none}

pub held : (u : User) (g k : ℕ) → u ≡ Held g → Knows k u → g ≡ k
held u g k e h = subst (Knows k) e h

pub alone : (u : User) (g k : ℕ) → u ≡ Alone g → Knows k u → g ≡ k
alone u g k e h = subst (Knows k) e h

-- a call that has not begun may go on in any generation
pub not_begun : (c step : ℕ) (call : PlainCall) (generation : ℕ) (xs : List (Stamped EntryWithCall))
    → IsBetweenCalls c step xs
    → IsUnderWay c step call generation xs
not_begun c step call generation xs h =
    record {
      next = h.next;
      not_over = h.not_over;
      same = λ begun. absurd (false≢true (sym h.not_begun ∙ begun));
      one = λ begun waits parts. absurd (false≢true (sym h.not_begun ∙ begun));
    }

pub made_in : (generation : ℕ) (P : Stamped EntryWithCall → Type 0) (before after : List (Stamped EntryWithCall))
    → generation_of before ≡ generation
    → Adds P before after
    → Adds (IsMadeIn generation P before) before after
made_in generation P before after at h = record {
  entry = h.entry;
  added = h.added;
  generation = h.generation;
  is = record { at_generation = h.generation ∙ at; is = h.is };
}

-- what a turn has to do with what its seat knows
pub record IsTurn (m n c generation : ℕ) (old new : PortSeat)
    (before after : List (Stamped EntryWithCall)) : Type 0 where
  pub was : number_of old ≡ c
  pub now : number_of new ≡ c
  pub keeps : Keeps c (list_seen old) before
  pub placed : ArePlaced m n before
  pub at : generation_of before ≡ generation
  pub seen : list_seen new ≡ after

pub makes : (m n c generation : ℕ) (old new : PortSeat) (before after : List (Stamped EntryWithCall))
    → IsTurn m n c generation old new before after
    → (P : Stamped EntryWithCall → Type 0)
    → ((x : Stamped EntryWithCall) → P x → x.seat ≡ c)
    → Adds P before after
    → MakesOne (IsMadeIn generation P) old new
makes m n c generation old new before after t P seat h =
    makes_one (IsMadeIn generation P) c old new before after (λ x is. seat x is.is) t.was t.now t.keeps
    (made_in generation P before after t.at h) t.seen

pub turns : (m n c step : ℕ) (call : PlainCall) (generation : ℕ) (old new : PortSeat)
    (before after : List (Stamped EntryWithCall))
    → IsTurn m n c generation old new before after
    → IsUnderWay c step call generation (list_seen old)
    → (x : PlainTried)
    → TriesCall c step call before after x
    → Turns c step call generation old new x
turns m n c step call generation old new before after t u (done_by a) h = (
  makes m n c generation old new before after t (IsAnswerOf c step call a) (λ x is. is.1.seat) h.0,
  subst (IsBetweenCalls c (step + 1)) (sym t.seen) h.1,
)
turns m n c step call generation old new before after t u took_part h = (
  makes m n c generation old new before after t (IsPartOf c step call) (λ x is. is.1.seat) h.0,
  subst (IsUnderWay c step call generation) (sym t.seen) (subst (λ (g : ℕ). IsUnderWay c step call g after) t.at h.1),
  subst (λ (xs : List (Stamped EntryWithCall)). (standing_at c xs).waits ≡ false) (sym t.seen) h.2,
)
turns m n c step call generation old new before after t u must_wait h = (
  elim (h.0) [
    | inl same ↦ inl (
      makes_none c old new before after t.was t.now t.keeps same.0 t.seen,
      sym (ap (λ (s : Standing). s.waits) (standing_kept m n c (list_seen old) before t.placed t.keeps u.not_over))
          ∙ same.1,
    )
    | inr adds ↦ inr (makes m n c generation old new before after t (IsWaitOf c step call) (λ x is. is.seat) adds)
  ],
  subst (Rests c step call) (sym t.seen) h.1,
)

-- ---- what was installed

counts_one : (a b t new g h : ℕ)
    → b ≡ g
    → a ≡ h
    → (a ≡ b) ⊎ (a ≡ b + 1)
    → new ≡ (if not (a == b) then t + 1 else t)
    → new + g ≡ t + h
counts_one a b t new g h before after (inl e) n =
    let same : (a == b) ≡ true = eq-eqb a b e in
    let none : new ≡ t = n ∙ ap (λ (x : Bool). if not x then t + 1 else t) same in omega arith
counts_one a b t new g h before after (inr e) n =
    let other : (a == b) ≡ false = ne_eqb a b (λ k. absurd (omega arith)) in
    let one : new ≡ t + 1 = n ∙ ap (λ (x : Bool). if not x then t + 1 else t) other in omega arith

-- one install where the generation was raised by one, and none where it was not
pub raised_by : (a b t new g h : ℕ)
    → b ≡ g
    → a ≡ h
    → Raises true b a
    → new ≡ (if not (a == b) then t + 1 else t)
    → new + g ≡ t + h
raised_by a b t new g h before after raises n = counts_one a b t new g h before after raises n

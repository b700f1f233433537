-- The parts of consoles in lists: one console more, and one less.
use Rattle.std.proofs.Common.{◌≡◌, ◌⊎◌, inl, inr, ℕ, List, [], ◌∷◌, ◌++◌, Option}
use Rattle.std.proofs.Common.{Some, length, map, refl, sym, subst, ap, ◌∙◌, arith, length-append}
use Rattle.std.specs.Prelude.{slice_get}
use Rattle.std.proofs.lemmas.List.{map-append}
use Rattle.std.proofs.lemmas.Option.{slice_get_within}
use Rattle.word_ring.specs.Ends.{PutterState}
use Rattle.tty_base.specs.declared.characters.Flagged.{Flagged}
use Rattle.uart_line.specs.LineState.{LineState}
use Rattle.tty_calls.specs.declared.sessions.Session.{Session}
use Rattle.play_base.proofs.PortLemmas.{last_or}
use Rattle.tty_port.specs.declared.shared.SharedPort.{SharedPort}
use Rattle.many_threads.specs.declared.caller_threads.CallersBack.{CallersBack}
use Rattle.many_threads.specs.declared.thread_bodies.FlusherBack.{FlusherBack}
use Rattle.vt_threads.specs.Parting.{IsParted}
use Rattle.vt_keyboard.specs.declared.console_ends.KeySeats.{KeySeats}
use Rattle.vt_threads.specs.declared.consoles.Console.{Console}
use Rattle.vt_threads.specs.declared.parting.Parted.{Parted}
use Rattle.vt_threads.specs.declared.parting.PartedBack.{PartedBack}
use Rattle.vt_threads.specs.declared.parting.Casting.{Casting}
use Rattle.vt_play.specs.declared.parts.AllBack.{AllBack}
use Rattle.vt_play.specs.declared.parts.AllParts.{AllParts}
use Rattle.vt_play.specs.declared.parts.Kept.{Kept}
use Rattle.vt_play.specs.Parts.{AreBackOf, ArePartedAll, ArePartsOf, kept_in}
use Rattle.vt_play.proofs.Listing.{column_length, snoc_is, some_is}

-- ---- one console more

column_more : {X Y : Type 0} (f : X → Y) (ys now : List Y) (xs : List X) (x : X)
    → ys ≡ map f xs
    → now ≡ ys ++ f x ∷ []
    → now ≡ map f (xs ++ x ∷ [])
column_more f ys now xs x h e = e ∙ ap (λ l. l ++ f x ∷ []) h ∙ sym (map-append f xs (x ∷ []))

pub parts_more : (qs : List Parted) (q : Parted) (old new : AllParts)
    → ArePartsOf qs old
    → new.ports.items ≡ old.ports.items ++ q.port ∷ []
    → new.keyboard.seats.items ≡ old.keyboard.seats.items ++ q.seats ∷ []
    → new.keyboard.keyed.lines.items ≡ old.keyboard.keyed.lines.items ++ q.line ∷ []
    → new.keyboard.keyed.ends.items ≡ old.keyboard.keyed.ends.items ++ q.end ∷ []
    → new.owns.items ≡ old.owns.items ++ q.own ∷ []
    → new.castings.items ≡ old.castings.items ++ q.rest.casting ∷ []
    → new.kept.items ≡ old.kept.items ++ kept_in q.rest ∷ []
    → ArePartsOf (qs ++ q ∷ []) new
parts_more qs q old new h ports seats lines ends owns castings kept = record {
  ports = column_more (λ (q : Parted). q.port) old.ports.items new.ports.items qs q h.ports ports;
  seats = column_more (λ (q : Parted). q.seats) old.keyboard.seats.items new.keyboard.seats.items qs q h.seats seats;
  lines = column_more (λ (q : Parted). q.line) old.keyboard.keyed.lines.items
      new.keyboard.keyed.lines.items qs q h.lines lines;
  ends =
      column_more (λ (q : Parted). q.end) old.keyboard.keyed.ends.items new.keyboard.keyed.ends.items qs q h.ends ends;
  owns = column_more (λ (q : Parted). q.own) old.owns.items new.owns.items qs q h.owns owns;
  castings =
      column_more (λ (q : Parted). q.rest.casting) old.castings.items new.castings.items qs q h.castings castings;
  kept = column_more (λ (q : Parted). kept_in q.rest) old.kept.items new.kept.items qs q h.kept kept;
}

parted_at : (calls : Session) (k : ℕ) (consoles : List Console) (c : Console) (qs : List Parted) (q : Parted)
    → length qs ≡ length consoles
    → ((p : ℕ) (c : Console) (q : Parted)
    → slice_get consoles p ≡ Some c
    → slice_get qs p ≡ Some q
    → IsParted calls p k c q)
    → IsParted calls (length consoles) k c q
    → (p : ℕ) (d : Console) (r : Parted)
    → (slice_get consoles p ≡ Some d) ⊎ ((p ≡ length consoles) × (Some c ≡ Some d))
    → (slice_get qs p ≡ Some r) ⊎ ((p ≡ length qs) × (Some q ≡ Some r))
    → IsParted calls p k d r
parted_at calls k consoles c qs q count each now p d r (inl a) (inl b) = each p d r a b
parted_at calls k consoles c qs q count each now p d r (inl a) (inr b) =
    let below = slice_get_within consoles p d a in let is = b.0 in absurd (omega (arith, below, is, count))
parted_at calls k consoles c qs q count each now p d r (inr a) (inl b) =
    let below = slice_get_within qs p r b in let is = a.0 in absurd (omega (arith, below, is, count))
parted_at calls k consoles c qs q count each now p d r (inr a) (inr b) =
    subst (λ (n : ℕ). IsParted calls n k d r) (sym a.0)
    (subst (λ (x : Console). IsParted calls (length consoles) k x r) (some_is c d a.1)
    (subst (λ (x : Parted). IsParted calls (length consoles) k c x) (some_is q r b.1) now))

pub parted_more : (calls : Session) (k : ℕ) (consoles : List Console) (c : Console) (q : Parted) (old new : AllParts)
    → (h : ArePartedAll calls k consoles old)
    → IsParted calls (length consoles) k c q
    → ArePartsOf (h.qs ++ q ∷ []) new
    → ArePartedAll calls k (consoles ++ c ∷ []) new
parted_more calls k consoles c q old new h is parts = record {
  qs = h.qs ++ q ∷ [];
  parts = parts;
  count =
      let a = length-append h.qs (q ∷ []) in
      let b = length-append consoles (c ∷ []) in let n = h.count in omega (arith, a, b, n);
  each = λ p d r at_d at_r. parted_at calls k consoles c h.qs q h.count h.each is p d r (last_or consoles c p d at_d)
      (last_or h.qs q p r at_r);
}

pub parted_count : (calls : Session) (k : ℕ) (consoles : List Console) (all : AllParts)
    → ArePartedAll calls k consoles all
    → length all.kept.items ≡ length consoles
parted_count calls k consoles all h =
    column_length (λ (q : Parted). kept_in q.rest) all.kept.items h.qs h.parts.kept ∙ h.count

-- ---- one console less

column_less : {X Y : Type 0} (f : X → Y) (old now : List Y) (xs : List X) (x : X) (y : Y)
    → old ≡ map f (xs ++ x ∷ [])
    → old ≡ now ++ y ∷ []
    → (now ≡ map f xs) × (y ≡ f x)
column_less f old now xs x y h e = snoc_is now (map f xs) y (f x) (sym e ∙ h ∙ map-append f xs (x ∷ []))

same_back : (b : PartedBack) (port : Option SharedPort) (seats : Option KeySeats)
    (own : Option (FlusherBack × CallersBack)) (line : LineState) (end : PutterState Flagged) (casting : Casting)
    (kept : Kept)
    → port ≡ b.port
    → seats ≡ b.seats
    → own ≡ b.own
    → line ≡ b.line
    → end ≡ b.end
    → casting ≡ b.rest.casting
    → kept ≡ kept_in b.rest
    → record {
      port = port;
      seats = seats;
      own = own;
      line = line;
      end = end;
      rest = record { casting = casting; steps = kept.steps; standing = kept.standing };
    } ≡ b
same_back b port seats own line end casting kept p s o l e c r = λ i. record {
  port = p i;
  seats = s i;
  own = o i;
  line = l i;
  end = e i;
  rest = record { casting = c i; steps = (r i).steps; standing = (r i).standing };
}

pub taken_back : (bs : List PartedBack) (b : PartedBack) (old new : AllBack) (port : Option SharedPort)
    (seats : Option KeySeats) (own : Option (FlusherBack × CallersBack)) (line : LineState) (end : PutterState Flagged)
    (casting : Casting) (kept : Kept)
    → AreBackOf (bs ++ b ∷ []) old
    → old.ports.items ≡ new.ports.items ++ port ∷ []
    → old.keyboard.seats.items ≡ new.keyboard.seats.items ++ seats ∷ []
    → old.owns.items ≡ new.owns.items ++ own ∷ []
    → old.keyboard.keyed.lines.items ≡ new.keyboard.keyed.lines.items ++ line ∷ []
    → old.keyboard.keyed.ends.items ≡ new.keyboard.keyed.ends.items ++ end ∷ []
    → old.castings.items ≡ new.castings.items ++ casting ∷ []
    → old.kept.items ≡ new.kept.items ++ kept ∷ []
    → (record {
      port = port;
      seats = seats;
      own = own;
      line = line;
      end = end;
      rest = record { casting = casting; steps = kept.steps; standing = kept.standing };
    } ≡ b)
    × AreBackOf bs new
taken_back bs b old new port seats own line end casting kept h ports_are
    seats_are owns_are lines_are ends_are castings_are kept_are =
    let p = column_less (λ (b : PartedBack). b.port) old.ports.items new.ports.items bs b port h.ports ports_are in
    let s = column_less (λ (b : PartedBack). b.seats) old.keyboard.seats.items
    new.keyboard.seats.items bs b seats h.seats seats_are in
    let o = column_less (λ (b : PartedBack). b.own) old.owns.items new.owns.items bs b own h.owns owns_are in
    let l = column_less (λ (b : PartedBack). b.line) old.keyboard.keyed.lines.items
    new.keyboard.keyed.lines.items bs b line h.lines lines_are in
    let e = column_less (λ (b : PartedBack). b.end) old.keyboard.keyed.ends.items
    new.keyboard.keyed.ends.items bs b end h.ends ends_are in
    let c = column_less (λ (b : PartedBack). b.rest.casting) old.castings.items
    new.castings.items bs b casting h.castings castings_are in
    let r = column_less (λ (b : PartedBack). kept_in b.rest) old.kept.items new.kept.items bs b kept h.kept kept_are in (
      same_back b port seats own line end casting kept p.1 s.1 o.1 l.1 e.1 c.1 r.1,
      record { ports = p.0; seats = s.0; lines = l.0; ends = e.0; owns = o.0; castings = c.0; kept = r.0 },
    )

-- ---- none

pub parted_none : (calls : Session) (k : ℕ) (all : AllParts) → ArePartsOf [] all → ArePartedAll calls k [] all
parted_none calls k all h =
    record { qs = []; parts = h; count = refl; each = λ p c q at_c at_q. absurd (nothing p c at_c) }
  where
    nothing : (p : ℕ) (c : Console) → slice_get [] p ≡ Some c → ⊥
    nothing p c h = cc

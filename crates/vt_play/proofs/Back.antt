-- The parts of consoles after a phase, put together place by place.
use Rattle.std.proofs.Common.{◌≡◌, suc, List, [], ◌∷◌, Option, length, map, refl, ap, ◌∙◌}
use Rattle.tty_base.specs.declared.characters.Flagged.{Flagged}
use Rattle.word_ring.specs.Ends.{PutterState}
use Rattle.uart_line.specs.LineState.{LineState}
use Rattle.many_threads.specs.declared.caller_threads.CallersBack.{CallersBack}
use Rattle.many_threads.specs.declared.thread_bodies.FlusherBack.{FlusherBack}
use Rattle.vt_keyboard.specs.declared.console_ends.KeySeats.{KeySeats}
use Rattle.vt_threads.specs.declared.parting.Parted.{Parted}
use Rattle.vt_threads.specs.declared.parting.PartedBack.{PartedBack}
use Rattle.vt_play.specs.Parts.{kept_in}
use Rattle.vt_play.proofs.Listing.{none_left, one_left}

pub record IsZipped (qs : List Parted) (seats : List (Option KeySeats))
    (owns : List (Option (FlusherBack × CallersBack))) (lines : List LineState) (ends : List (PutterState Flagged))
    (bs : List PartedBack) : Type 0 where
  pub ports : map (λ (q : Parted). q.port) qs ≡ map (λ (b : PartedBack). b.port) bs
  pub rests : map (λ (q : Parted). q.rest) qs ≡ map (λ (b : PartedBack). b.rest) bs
  pub castings : map (λ (q : Parted). q.rest.casting) qs ≡ map (λ (b : PartedBack). b.rest.casting) bs
  pub kept : map (λ (q : Parted). kept_in q.rest) qs ≡ map (λ (b : PartedBack). kept_in b.rest) bs
  pub seats_are : seats ≡ map (λ (b : PartedBack). b.seats) bs
  pub owns_are : owns ≡ map (λ (b : PartedBack). b.own) bs
  pub lines_are : lines ≡ map (λ (b : PartedBack). b.line) bs
  pub ends_are : ends ≡ map (λ (b : PartedBack). b.end) bs
  pub count : length bs ≡ length qs

pub zipped : (qs : List Parted) (seats : List (Option KeySeats)) (owns : List (Option (FlusherBack × CallersBack)))
    (lines : List LineState) (ends : List (PutterState Flagged))
    → length seats ≡ length qs
    → length owns ≡ length qs
    → length lines ≡ length qs
    → length ends ≡ length qs
    → (bs : List PartedBack) × IsZipped qs seats owns lines ends bs
zipped [] seats owns lines ends s o l e = (
  [],
  record {
    ports = refl;
    rests = refl;
    castings = refl;
    kept = refl;
    seats_are = none_left seats s;
    owns_are = none_left owns o;
    lines_are = none_left lines l;
    ends_are = none_left ends e;
    count = refl;
  },
)
zipped (q ∷ qs) seats owns lines ends s o l e =
    let a = one_left seats (length qs) s in
    let b = one_left owns (length qs) o in
    let c = one_left lines (length qs) l in
    let d = one_left ends (length qs) e in
    let r = zipped qs a.1 b.1 c.1 d.1 a.3 b.3 c.3 d.3 in
    let one : PartedBack = record { port = q.port; seats = a.0; own = b.0; line = c.0; end = d.0; rest = q.rest } in (
      one ∷ r.0,
      record {
        ports = ap (λ xs. q.port ∷ xs) r.1.ports;
        rests = ap (λ xs. q.rest ∷ xs) r.1.rests;
        castings = ap (λ xs. q.rest.casting ∷ xs) r.1.castings;
        kept = ap (λ xs. kept_in q.rest ∷ xs) r.1.kept;
        seats_are = a.2 ∙ ap (λ xs. a.0 ∷ xs) r.1.seats_are;
        owns_are = b.2 ∙ ap (λ xs. b.0 ∷ xs) r.1.owns_are;
        lines_are = c.2 ∙ ap (λ xs. c.0 ∷ xs) r.1.lines_are;
        ends_are = d.2 ∙ ap (λ xs. d.0 ∷ xs) r.1.ends_are;
        count = ap (λ n. suc n) r.1.count;
      },
    )

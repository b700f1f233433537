use Rattle.std.proofs.Common.{◌≡◌, ◌∷◌, ℕ, List, length, sym, ◌∙◌, ap, arith}
use Rattle.tty_base.specs.declared.characters.Flagged.{Flagged}
use Rattle.tty_calls.specs.Sessions.{session_of}
use Rattle.journal_check.specs.Seen.{phase_starts, line_stops, are_between}
use Rattle.journal_check.proofs.CheckLemmas.{kept_is, enough, seen_as_found}
use Rattle.journal_check.proofs.account.is_seen.Goals as goal

pub taken_by-requires : goal.taken_by-requires
taken_by-requires c =
    let same = kept_is c.args.port (session_of c.args.session.now) c.args.run.now.line.overruns.items
    c.args.received.now c.requires.received c.requires.shown in
    omega (
      arith,
      c.len.type_inv,
      c.len.ensures,
      ap (λ (cs : List Flagged). length cs) same,
      ap (λ (cs : List Flagged). length cs) c.requires.kept.chars,
    )

pub are_between-requires-clause-starts : goal.are_between-requires-clause-starts
are_between-requires-clause-starts c =
    let starts : c.in_ok-taken.taken.starts.items ≡ 0 ∷ phase_starts 0 c.args.run.now.journal.items =
    c.in_ok-taken.ensures.starts in
    let stops : c.in_ok-taken.taken.stops.items ≡ line_stops 0 c.args.run.now.journal.items =
    c.in_ok-taken.ensures.stops in
    let both = enough c.args.port (session_of c.args.session.now) c.args.run.now c.args.received.now
    c.in_ok-taken.taken.starts.items c.in_ok-taken.taken.stops.items c.requires.received c.requires.kept starts stops in
    omega (
      arith,
      both.0,
      ap (λ (xs : List ℕ). length xs) c.as_slice.ensures.value,
      ap (λ (xs : List ℕ). length xs) c.as_slice-2.ensures.value,
    )

pub are_between-requires-clause-stops : goal.are_between-requires-clause-stops
are_between-requires-clause-stops c =
    let starts : c.in_ok-taken.taken.starts.items ≡ 0 ∷ phase_starts 0 c.args.run.now.journal.items =
    c.in_ok-taken.ensures.starts in
    let stops : c.in_ok-taken.taken.stops.items ≡ line_stops 0 c.args.run.now.journal.items =
    c.in_ok-taken.ensures.stops in
    let both = enough c.args.port (session_of c.args.session.now) c.args.run.now c.args.received.now
    c.in_ok-taken.taken.starts.items c.in_ok-taken.taken.stops.items c.requires.received c.requires.kept starts stops in
    omega (
      arith,
      both.1,
      ap (λ (xs : List ℕ). length xs) c.as_slice.ensures.value,
      ap (λ (xs : List ℕ). length xs) c.as_slice-3.ensures.value,
    )

pub returns : goal.returns
returns c =
    let starts : c.in_ok-taken.taken.starts.items ≡ 0 ∷ phase_starts 0 c.args.run.now.journal.items =
    c.in_ok-taken.ensures.starts in
    let stops : c.in_ok-taken.taken.stops.items ≡ line_stops 0 c.args.run.now.journal.items =
    c.in_ok-taken.ensures.stops in
    let found = seen_as_found c.args.port (session_of c.args.session.now) c.args.run.now c.args.received.now
    c.in_ok-taken.taken.starts.items c.in_ok-taken.taken.stops.items c.requires.received
    c.requires.shown c.requires.kept starts stops in
    let is : c.are_between.result
    ≡ are_between c.args.received.now.ends.items c.in_ok-taken.taken.starts.items c.in_ok-taken.taken.stops.items
    0 c.args.run.now.line.overruns.items =
    c.are_between.ensures
    ∙ (λ i. are_between (c.as_slice.ensures.value i) (c.as_slice-2.ensures.value i) (c.as_slice-3.ensures.value i) 0
    (c.as_slice-4.ensures i)) in
    (λ h. found.0 (sym is ∙ h), λ h. is ∙ found.1 h)

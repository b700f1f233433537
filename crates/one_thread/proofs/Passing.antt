-- Entries of no caller: a tick, the end of the clock, and a flush.
use Rattle.std.proofs.Common.{◌≡◌, ◌≤◌, ◌<◌, ℕ, ◌+◌, ◌-◌, zero, suc, ◌≢◌, List, [], ◌∷◌, ◌++◌}
use Rattle.std.proofs.Common.{Bool, true, false, not, ◌==◌, ◌||◌, ◌⊎◌, Option, None, Some}
use Rattle.std.proofs.Common.{length, map, min, refl, sym, ◌∙◌, ap, subst, inl, inr, arith}
use Rattle.std.specs.Prelude.{slice_get, IsTrue}
use Rattle.std.proofs.lemmas.List.{length-append}
use Rattle.std.proofs.lemmas.List.Elements.{All-push, All-weaker, All-head, All-tail}
use Rattle.std.proofs.lemmas.Bool.{false≢true, eqb-true, eq-eqb, cases_lt, and_parts, or_right}
use Rattle.std.proofs.lemmas.Bool.Decides.{nat_tests}
use Rattle.tty_base.specs.Sizes.{PIECE}
use Rattle.tty_base.specs.declared.characters.Flagged.{Flagged}
use Rattle.tty_calls.specs.declared.sessions.Script.{Script}
use Rattle.tty_calls.specs.declared.journals.Who.TheVariants.{Clock}
use Rattle.tty_calls.specs.Plain.{ticked, clock_ended, PlainEntry}
use Rattle.tty_calls.specs.Sessions.{call_at, counts_on}
use Rattle.tty_terminal.specs.declared.callers.Piece.{Piece}
use Rattle.tty_terminal.specs.Terminals.{Terminal, caller_at}
use Rattle.tty_terminal.specs.Receiving.{accepts, after_characters}
use Rattle.tty_terminal.specs.Steps.{follows}
use Rattle.tty_terminal.specs.Runs.{is_flush, RunHas}
use Rattle.tty_terminal.specs.Marks.{Marks, marks_of, marks_after}
use Rattle.tty_terminal.specs.Standing.{Standing, standing_of, standing_after}
use Rattle.tty_terminal.proofs.MarkLaws.{step_marks}
use Rattle.tty_terminal.proofs.StandingLaws.{step_stands}
use Rattle.tty_terminal.proofs.BeginLaws.{step_generation}
use Rattle.tty_terminal.proofs.Runs.{run_in_line}
use Rattle.legal_runs.specs.Legal.{first_step}
use Rattle.port_core.specs.Flips.{shown_count}
use Rattle.port_core.specs.Flushes.{Takes}
use Rattle.port_core.specs.Ports.{PlainKept, PortValue, IsPort, Appends, phase_entry, flush_entry}
use Rattle.legal_runs.specs.Order.{IsPiece, is_most, is_after_flush}
use Rattle.play_base.specs.Roles.{Scene, calls_in, role_in, AreRolesOf}
use Rattle.play_base.specs.Scenes.{place_of, HasAnyOrder, RunsBelow}
use Rattle.one_thread.specs.Turns.{role_numbers, turn_with, IsPossible, standing_at, standing_at_rest}
use Rattle.one_thread.specs.Turns.{IsInRole, IsKeptCall, HasCallers, next_run, HasRuns, PlaysIn, TakesTurn}
use Rattle.play_base.specs.declared.roles.Role.{Role}
use Rattle.one_thread.specs.declared.after_line.Stand.{Stand}
use Rattle.one_thread.specs.declared.after_line.Turn.TheVariants as turn
use Rattle.one_thread.proofs.Possible.{flush_view, pass_view}
use Rattle.one_thread.proofs.Entries.{IsMore, more_of, place_is, plays_more}
use Rattle.legal_runs.proofs.Truths.{if_true, when_true}

-- ---- flush runs

pub follows_rest : (f : Option Piece) (run part : ℕ)
    → IsTrue (follows f run part)
    → IsTrue (follows f (next_run run part) 0)
follows_rest None run part h = grind (arith, nat_tests)
follows_rest (Some p) run part h = grind (arith, nat_tests)

follows_piece : (run part : ℕ) → IsTrue (follows (Some (record { run = run; part = part })) run (part + 1))
follows_piece run part = grind (arith, nat_tests)

below_weaker : (m n : ℕ) (journal : List PlainEntry) → m ≤ n → RunsBelow m journal → RunsBelow n journal
below_weaker m n journal le h = All-weaker (λ (e : PlainEntry). IsTrue (is_flush e.event) → e.step < m)
    (λ (e : PlainEntry). IsTrue (is_flush e.event) → e.step < n) (λ e k f. let lt : e.step < m = k f in omega arith)
    journal h

length_more : (journal journal' : List PlainEntry) (e : PlainEntry)
    → journal' ≡ journal ++ e ∷ []
    → length journal' ≡ length journal + 1
length_more journal journal' e more = ap (λ (j : List PlainEntry). length j) more ∙ length-append journal (e ∷ [])

pub runs_rest : (v w : PortValue) (before : Option PlainEntry) (run part : ℕ) (e : PlainEntry)
    → HasRuns v before run part
    → w.journal ≡ v.journal ++ e ∷ []
    → w.terminal.flushed ≡ v.terminal.flushed
    → is_flush e.event ≡ false
    → HasRuns w (Some e) (next_run run part) 0
runs_rest v w before run part e runs more same other =
    let few : next_run run part ≤ run + part = grind (arith, nat_tests) in
    record {
      follows = subst (λ (f : Option Piece). IsTrue (follows f (next_run run part) 0)) (sym same)
          (follows_rest v.terminal.flushed run part runs.follows);
      one = λ lt. absurd (omega arith);
      below =
          subst (λ (j : List PlainEntry). RunsBelow (next_run run part) j) (sym more)
          (All-push (λ (x : PlainEntry). IsTrue (is_flush x.event) → x.step < next_run run part) v.journal e runs.below
          (λ f. absurd (false≢true (sym other ∙ f))));
      few = omega (arith, length_more v.journal w.journal e more, runs.few);
      after_flush = other;
    }

no_piece : (run generation : ℕ) (journal : List PlainEntry) → RunsBelow run journal → RunHas run generation journal
no_piece run generation [] h = tt
no_piece run generation (e ∷ es) h =
    let P : PlainEntry → Type 0 = λ x. IsTrue (is_flush x.event) → x.step < run in (
      (λ f.
          let both = and_parts (is_flush e.event) (e.step == run) f in
          let lt : e.step < run = All-head P e es h both.0 in
          let same : e.step ≡ run = eqb-true e.step run both.1 in
          absurd (omega arith)),
      no_piece run generation es (All-tail P e es h),
    )

run_has_more : (run generation : ℕ) (journal : List PlainEntry) (e : PlainEntry)
    → RunHas run generation journal
    → e.generation ≡ generation
    → RunHas run generation (journal ++ e ∷ [])
run_has_more run generation [] e h same = ((λ f. same), tt)
run_has_more run generation (x ∷ journal) e h same = (h.0, run_has_more run generation journal e h.1 same)

run_had : (v : PortValue) (before : Option PlainEntry) (run part : ℕ)
    → HasRuns v before run part
    → RunHas run v.terminal.generation v.journal
run_had v before run zero runs = no_piece run v.terminal.generation v.journal runs.below
run_had v before run (suc part) runs = runs.one (omega arith)

-- ---- callers

pub callers_same : (s : Scene) (scripts : List Script) (roles : List Role) (v w : PortValue)
    → HasCallers s scripts roles v None
    → w.terminal.phase ≡ v.terminal.phase
    → w.kept ≡ v.kept
    → ((c : ℕ) → standing_at w c ≡ standing_at v c)
    → HasCallers s scripts roles w None
callers_same s scripts roles v w callers phase kept same =
    record {
      are_roles = subst (λ (k : ℕ). AreRolesOf s k (map (role_in scripts) roles)) (sym phase) callers.are_roles;
      in_roles = λ i r is. subst (λ (q : Standing). IsInRole r.first (length (calls_in (slice_get scripts r.place))) q)
          (sym (same r.number)) (callers.in_roles i r is);
      kept = λ c begun.
          let old = callers.kept c (sym (ap (λ (q : Standing). q.begun) (same c)) ∙ begun) in
          let P : List PlainKept → ℕ → Type 0 = λ ks n. IsKeptCall ks c n in
          subst (λ (ks : List PlainKept). P ks (standing_at w c).next) (sym kept)
          (subst (λ (n : ℕ). P v.kept n) (sym (ap (λ (q : Standing). q.next) (same c))) old);
      others = λ c absent.
          same c
          ∙ (callers.others c absent ∙ ap (λ (k : ℕ). standing_at_rest (first_step s.port s.session k c)) (sym phase));
      goes_on = λ i e. absurd (cc);
      parts = λ c waits some.
          callers.parts c (sym (ap (λ (q : Standing). q.waits) (same c)) ∙ waits)
          (subst (λ (n : ℕ). 0 < n) (ap (λ (q : Standing). q.parts) (same c)) some);
    }

pub stands_at : (s : Scene) (v w : PortValue) (e : PlainEntry)
    → IsMore s v w e
    → (c : ℕ)
    → standing_at w c ≡ standing_after c e (standing_at v c)
stands_at s v w e more c =
    ap (λ (t : Terminal). standing_of (caller_at t c)) more.terminal
    ∙ step_stands (call_at s.port s.session) (counts_on s.port s.session) v.terminal e more.allowed c

pub marks_at : (s : Scene) (v w : PortValue) (e : PlainEntry)
    → IsMore s v w e
    → marks_of w.terminal ≡ marks_after e.event e.step e.part (marks_of v.terminal)
marks_at s v w e more =
    ap (λ (t : Terminal). marks_of t) more.terminal
    ∙ step_marks (call_at s.port s.session) (counts_on s.port s.session) v.terminal e more.allowed

-- ---- ticks, and the end of the clock

settled_callers : (s : Scene) (scripts : List Script) (roles : List Role) (v : PortValue) (stand : Stand)
    → PlaysIn HasAnyOrder s scripts roles v stand
    → stand.going ≡ None
    → HasCallers s scripts roles v None
settled_callers s scripts roles v stand plays none =
    subst (λ (g : Option ℕ). HasCallers s scripts roles v g) none plays.callers

pub clock_over_more : (s : Scene) (scripts : List Script) (roles : List Role) (v w : PortValue) (stand : Stand)
    → PlaysIn HasAnyOrder s scripts roles v stand
    → IsPossible v (role_numbers roles) stand.going turn.Pass
    → stand.ticks ≡ 0
    → Appends v w v.flip (phase_entry v Clock clock_ended)
    → TakesTurn s scripts roles v w stand
    (record { run = next_run stand.run stand.part; part = 0; ticks = stand.ticks; going = None }) turn.Pass
clock_over_more s scripts roles v w stand plays possible none_left appends =
    let e : PlainEntry = phase_entry v Clock clock_ended in
    let more = more_of s v w v.kept v.flip e plays.of_scene.counts plays.of_scene.known appends refl refl in
    let marks = marks_at s v w e more in
    let clock = pass_view v (role_numbers roles) stand.going possible in
    plays_more s scripts roles v w stand
    (record { run = next_run stand.run stand.part; part = 0; ticks = stand.ticks; going = None })
    turn.Pass e plays more tt refl tt refl
    (ap (λ (m : Marks). m.phase) marks) (ap (λ (m : Marks). m.line_over) marks) (ap (λ (m : Marks). m.sent) marks)
    (λ over. none_left)
    (ap (λ (m : Marks). m.tick + stand.ticks) marks)
    (runs_rest v w (place_of s v.journal).before stand.run stand.part e plays.runs more.journal
    (ap (λ (m : Marks). m.latest) marks) refl)
    (callers_same s scripts roles v w (settled_callers s scripts roles v stand plays clock.0)
    (ap (λ (m : Marks). m.phase) marks) (ap (λ (x : PortValue). x.kept) appends.appended) (stands_at s v w e more))
    (λ other. refl)

pub tick_more : (s : Scene) (scripts : List Script) (roles : List Role) (v w : PortValue) (stand rested : Stand)
    → PlaysIn HasAnyOrder s scripts roles v stand
    → IsPossible v (role_numbers roles) stand.going turn.Pass
    → stand.ticks ≢ 0
    → Appends v w v.flip (phase_entry v Clock ticked)
    → rested ≡ record { run = next_run stand.run stand.part; part = 0; ticks = stand.ticks; going = None }
    → TakesTurn s scripts roles v w stand
    (record { run = rested.run; part = rested.part; ticks = stand.ticks - 1; going = rested.going }) turn.Pass
tick_more s scripts roles v w stand rested plays possible some_left appends rest =
    let e : PlainEntry = phase_entry v Clock ticked in
    let more = more_of s v w v.kept v.flip e plays.of_scene.counts plays.of_scene.known appends refl refl in
    let marks = marks_at s v w e more in
    let clock = pass_view v (role_numbers roles) stand.going possible in
    let one_more : w.terminal.tick ≡ v.terminal.tick + 1 = ap (λ (m : Marks). m.tick) marks in
    let same_clock : w.terminal.clock_over ≡ v.terminal.clock_over = ap (λ (m : Marks). m.clock_over) marks in
    subst (λ (r : Stand). TakesTurn s scripts roles v w stand
    (record { run = r.run; part = r.part; ticks = stand.ticks - 1; going = r.going }) turn.Pass)
    (sym rest)
    (plays_more s scripts roles v w stand
    (record { run = next_run stand.run stand.part; part = 0; ticks = stand.ticks - 1; going = None })
    turn.Pass e plays more tt refl tt refl
    (ap (λ (m : Marks). m.phase) marks) (ap (λ (m : Marks). m.line_over) marks) (ap (λ (m : Marks). m.sent) marks)
    (λ over. absurd (false≢true (sym clock.1 ∙ (sym same_clock ∙ over))))
    (let sums : w.terminal.tick + (stand.ticks - 1) ≡ v.terminal.tick + stand.ticks = omega arith in sums)
    (runs_rest v w (place_of s v.journal).before stand.run stand.part e plays.runs more.journal
    (ap (λ (m : Marks). m.latest) marks) refl)
    (callers_same s scripts roles v w (settled_callers s scripts roles v stand plays clock.0)
    (ap (λ (m : Marks). m.phase) marks) (ap (λ (x : PortValue). x.kept) appends.appended) (stands_at s v w e more))
    (λ other. refl))

-- ---- a flush

runs_flush : (v w : PortValue) (before : Option PlainEntry) (run part : ℕ) (chars : List Flagged)
    → HasRuns v before run part
    → w.journal ≡ v.journal ++ flush_entry v run part chars ∷ []
    → w.terminal.flushed ≡ Some (record { run = run; part = part })
    → w.terminal.generation ≡ v.terminal.generation
    → HasRuns w (Some (flush_entry v run part chars)) run (part + 1)
runs_flush v w before run part chars runs more latest same =
    let e : PlainEntry = flush_entry v run part chars in
    let next : next_run run (part + 1) ≡ run + 1 = grind (arith, nat_tests) in
    let up : next_run run part ≤ run + 1 = grind (arith, nat_tests) in
    let had : RunHas run v.terminal.generation v.journal = run_had v before run part runs in
    record {
      follows = subst (λ (f : Option Piece). IsTrue (follows f run (part + 1))) (sym latest) (follows_piece run part);
      one = λ lt.
          subst (λ (n : ℕ). RunHas run n w.journal) (sym same)
          (subst (λ (j : List PlainEntry). RunHas run v.terminal.generation j) (sym more)
          (run_has_more run v.terminal.generation v.journal e had refl));
      below =
          subst (λ (n : ℕ). RunsBelow n w.journal) (sym next)
          (subst (λ (j : List PlainEntry). RunsBelow (run + 1) j) (sym more)
          (All-push (λ (x : PlainEntry). IsTrue (is_flush x.event) → x.step < run + 1) v.journal e
          (below_weaker (next_run run part) (run + 1) v.journal up runs.below) (λ f. omega arith)));
      few = omega (arith, length_more v.journal w.journal e more, runs.few);
      after_flush = after_some part;
    }
  where
    after_some : (n : ℕ) → true ≡ not (n + 1 == 0)
    after_some n = grind (arith, nat_tests)

most_case : (len taken sent : ℕ) (accepting : Bool)
    → ((len ≡ PIECE) ⊎ ((taken + len ≡ sent) ⊎ (accepting ≡ false)))
    → ((len == PIECE) || ((taken + len == sent) || not accepting)) ≡ true
most_case len taken sent accepting h =
    elim h [
      | inl e ↦ ap (λ (b : Bool). b || ((taken + len == sent) || not accepting)) (eq-eqb len PIECE e)
      | inr k ↦ or_right (len == PIECE) _ (elim k [
        | inl e ↦ ap (λ (b : Bool). b || not accepting) (eq-eqb (taken + len) sent e)
        | inr e ↦ or_right (taken + len == sent) _ (ap (λ (b : Bool). not b) e)
      ])
    ]

-- a piece that stops early has taken all that was sent, or the discipline does not accept
most_of : (v w : PortValue) (run part n : ℕ)
    → IsPort v
    → v.terminal.line_over ≡ true
    → v.terminal.taken ≤ v.terminal.sent
    → (takes : Takes v w run part PIECE n)
    → accepts w.terminal ≡ accepts (after_characters v.terminal takes.chars)
    → IsTrue (is_most v.terminal takes.chars)
most_of v w run part n port line taken takes same =
    let shown : shown_count v.terminal takes.tail
    ≡ min (takes.tail - v.terminal.taken) (v.terminal.sent - v.terminal.taken) =
    if_true v.terminal.line_over _ _ line in
    let sent = port.sent in
    let rises = takes.looks.rises in
    let count = takes.count in
    most_case (length takes.chars) v.terminal.taken v.terminal.sent (accepts (after_characters v.terminal takes.chars))
    (elim (cases_lt n PIECE) [
      | inl lt ↦
          elim (takes.stops lt) [
            | inl all ↦
                let some = takes.some in
                let whole : v.terminal.taken + length takes.chars ≡ v.terminal.sent = omega arith in
                inr (inl whole)
            | inr full ↦ inr (inr (sym same ∙ full))
          ]
      | inr ge ↦
          let few = takes.few in
          let is : length takes.chars ≡ PIECE = omega arith in
          inl is
    ])

not_twice : (a b : Bool) → a ≡ not b → b ≡ not a
not_twice a true e = sym (ap (λ (x : Bool). not x) e)
not_twice a false e = sym (ap (λ (x : Bool). not x) e)

pub flush_more : (s : Scene) (scripts : List Script) (roles : List Role) (v w : PortValue) (stand : Stand) (n : ℕ)
    → PlaysIn HasAnyOrder s scripts roles v stand
    → IsPort v
    → IsPossible v (role_numbers roles) stand.going turn.Flush
    → Takes v w stand.run stand.part PIECE n
    → TakesTurn s scripts roles v w stand
    (record { run = stand.run; part = stand.part + 1; ticks = stand.ticks; going = stand.going }) turn.Flush
flush_more s scripts roles v w stand n plays port possible takes =
    let e : PlainEntry = flush_entry v stand.run stand.part takes.chars in
    let more = more_of s v w v.kept w.flip e plays.of_scene.counts plays.of_scene.known
    takes.appends takes.takes_out.capacity takes.takes_out.ring in
    let marks = marks_at s v w e more in
    let settled = (flush_view v (role_numbers roles) stand.going possible).0 in
    let at = place_is s v plays.run in
    let taken =
    run_in_line (call_at s.port s.session) (counts_on s.port s.session) _ v.journal v.terminal plays.run plays.line in
    let most =
    most_of v w stand.run stand.part n port plays.line taken takes (ap (λ (t : Terminal). accepts t) more.terminal) in
    let piece : IsPiece s.port s.session (place_of s v.journal) stand.part takes.chars =
    when_true (place_of s v.journal).terminal.line_over _ _ (ap (λ (t : Terminal). t.line_over) at ∙ plays.line) (
      subst (λ (t : Terminal). IsTrue (is_most t takes.chars)) (sym at) most,
      not_twice (is_after_flush (place_of s v.journal).before) (stand.part == 0) plays.runs.after_flush,
    ) in
    let generation : w.terminal.generation ≡ v.terminal.generation =
    ap (λ (t : Terminal). t.generation) more.terminal
    ∙ step_generation (call_at s.port s.session) (counts_on s.port s.session) v.terminal e more.allowed in
    let callers =
    callers_same s scripts roles v w (settled_callers s scripts roles v stand plays settled)
    (ap (λ (m : Marks). m.phase) marks) (ap (λ (x : PortValue). x.kept) takes.appends.appended) (stands_at s v w e more)
    in
    plays_more s scripts roles v w stand
    (record { run = stand.run; part = stand.part + 1; ticks = stand.ticks; going = stand.going })
    turn.Flush e plays more tt refl piece refl
    (ap (λ (m : Marks). m.phase) marks) (ap (λ (m : Marks). m.line_over) marks) (ap (λ (m : Marks). m.sent) marks)
    (λ over. plays.clock (sym (ap (λ (m : Marks). m.clock_over) marks) ∙ over))
    (ap (λ (m : Marks). m.tick + stand.ticks) marks)
    (runs_flush v w (place_of s v.journal).before stand.run stand.part takes.chars plays.runs more.journal
    (ap (λ (m : Marks). m.latest) marks) generation)
    (subst (λ (g : Option ℕ). HasCallers s scripts roles w g) (sym settled) callers)
    (λ other. sym (ap (λ (g : Option ℕ). turn_with (role_numbers roles) g other) settled))

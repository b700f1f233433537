-- Ports that were played one after the other make a session that was played.
use Rattle.std.proofs.Common.{◌≡◌, ◌≤◌, ◌<◌, ◌⊎◌, inl, inr, ℕ, zero, suc, ◌+◌, ◌==◌, Bool, true}
use Rattle.std.proofs.Common.{false, cond, List, [], ◌∷◌, ◌++◌, Option, None, Some, length, map, get_or}
use Rattle.std.proofs.Common.{refl, sym, ap, ◌∙◌, subst, arith, append-nil, length-append}
use Rattle.std.specs.Prelude.{All, slice_get, unwrap_or, option_map}
use Rattle.std.proofs.lemmas.Bool.{eq-eqb, ne_eqb}
use Rattle.std.proofs.lemmas.List.{map-append}
use Rattle.std.proofs.lemmas.List.Elements.{All-nil, All-head, All-tail, All-append, All-weaker, filter-append}
use Rattle.tty_calls.specs.declared.answers.PortEnd.{PortEnd}
use Rattle.tty_calls.specs.declared.journals.PortRun.{PortRun}
use Rattle.tty_calls.specs.Plain.{PlainEntry}
use Rattle.tty_calls.specs.Limits.{IsCallWithin}
use Rattle.tty_calls.specs.Sessions.{PlainSession}
use Rattle.play_base.proofs.PortLemmas.{last_or, get_none, some_is}
use Rattle.passed_calls.specs.Derived.{Passing, Passed, by_caller, calls_at}
use Rattle.passed_calls.specs.Logs.{logged_on}
use Rattle.passed_calls.specs.Within.{ArePassedWithin, AreBlocksWithin}
use Rattle.passed_calls.specs.declared.logs.Logged.{Logged}
use Rattle.passed_calls.proofs.Limits.{within_limits}
use Rattle.order_laws.specs.Sessions.{BlockSession, played_session, journal_on, AreNotFull}
use Rattle.passed_ports.specs.Ports.{ArePassingsWithin, IsPlayedSo, ArePlayedFirst}
use Rattle.passed_ports.proofs.Started.{below_or}

-- ---- lists

pub below_if : {X : Type 0} (xs : List X) (i : ℕ) (x : X) → slice_get xs i ≡ Some x → i < length xs
below_if [] i x is = absurd (cc)
below_if (y ∷ ys) zero x is = omega arith
below_if (y ∷ ys) (suc i) x is = let rest = below_if ys i x is in omega (arith, rest)

some_at : {X : Type 0} (xs : List X) (i : ℕ) → i < length xs → (x : X) × (slice_get xs i ≡ Some x)
some_at [] i lt = absurd (omega (arith, lt))
some_at (x ∷ xs) zero lt = (x, refl)
some_at (x ∷ xs) (suc i) lt = some_at xs i (omega (arith, lt))

none_at : {X : Type 0} (xs : List X) (i : ℕ) → length xs ≤ i → slice_get xs i ≡ None
none_at [] i le = refl
none_at (x ∷ xs) zero le = absurd (omega (arith, le))
none_at (x ∷ xs) (suc i) le = none_at xs i (omega (arith, le))

-- ---- logs

module _ {E : Type 0} where
  one_off : (b : Bool) (l : Logged E) (ls : List (Logged E)) → b ≡ false → cond b (l ∷ ls) ls ≡ ls
  one_off b l ls e = ap (λ (t : Bool). cond t (l ∷ ls) ls) e

  none_on : (p : ℕ) (log : List (Logged E)) → All (λ (l : Logged E). l.port ≡ p → ⊥) log → logged_on p log ≡ []
  none_on p [] h = refl
  none_on p (l ∷ ls) h =
      one_off (l.port == p) l (logged_on p ls) (ne_eqb l.port p (All-head (λ (x : Logged E). x.port ≡ p → ⊥) l ls h))
      ∙ none_on p ls (All-tail (λ (x : Logged E). x.port ≡ p → ⊥) l ls h)

  all_on : (p : ℕ) (log : List (Logged E)) → All (λ (l : Logged E). l.port ≡ p) log → logged_on p log ≡ log
  all_on p [] h = refl
  all_on p (l ∷ ls) h =
      ap (λ (t : Bool). cond t (l ∷ logged_on p ls) (logged_on p ls))
      (eq-eqb l.port p (All-head (λ (x : Logged E). x.port ≡ p) l ls h))
      ∙ ap (λ (xs : List (Logged E)). l ∷ xs) (all_on p ls (All-tail (λ (x : Logged E). x.port ≡ p) l ls h))

  once : (p : ℕ) (b : Bool) (l : Logged E) (ls : List (Logged E))
      → (l.port == p) ≡ b
      → logged_on p ls ≡ ls
      → logged_on p (cond b (l ∷ ls) ls) ≡ cond b (l ∷ ls) ls
  once p true l ls is same =
      ap (λ (t : Bool). cond t (l ∷ logged_on p ls) (logged_on p ls)) is ∙ ap (λ (xs : List (Logged E)). l ∷ xs) same
  once p false l ls is same = same

  twice : (p : ℕ) (log : List (Logged E)) → logged_on p (logged_on p log) ≡ logged_on p log
  twice p [] = refl
  twice p (l ∷ ls) = once p (l.port == p) l (logged_on p ls) refl (twice p ls)

  others_stay : (p count : ℕ) (log own : List (Logged E))
      → p < count
      → All (λ (l : Logged E). l.port ≡ count) own
      → logged_on p (log ++ own) ≡ logged_on p log
  others_stay p count log own lt h =
      filter-append (λ (l : Logged E). l.port == p) log own
      ∙ (ap (λ (ls : List (Logged E)). logged_on p log ++ ls) (none_on p own
      (All-weaker (λ (l : Logged E). l.port ≡ count) (λ (l : Logged E). l.port ≡ p → ⊥)
      (λ l is same. omega (arith, lt, is, same)) own h))
      ∙ append-nil (logged_on p log))

  own_behind : (count : ℕ) (log own : List (Logged E))
      → All (λ (l : Logged E). l.port < count) log
      → All (λ (l : Logged E). l.port ≡ count) own
      → logged_on count (log ++ own) ≡ own
  own_behind count log own below h =
      filter-append (λ (l : Logged E). l.port == count) log own
      ∙ λ i.
      none_on count log
      (All-weaker (λ (l : Logged E). l.port < count) (λ (l : Logged E). l.port ≡ count → ⊥)
      (λ l lt same. omega (arith, lt, same)) log below) i ++ all_on count own h i

-- ---- one port more

module _ {E : Type 0} (IsPlayed : (p : ℕ) → List (Logged E) → PortRun → PortEnd → Type 0) where
  abbrev Are : (count : ℕ) → List (Logged E) → List PortRun → List PortEnd → Type 0
  Are count log runs ends = ArePlayedFirst IsPlayed count log runs ends

  pub nothing_played : ArePlayedFirst IsPlayed 0 [] [] []
  nothing_played = record {
    runs_of = refl;
    ends_of = refl;
    below = All-nil (λ (l : Logged E). l.port < 0);
    each = λ p run end at_run at_end. absurd (get_none [] p run (omega arith) at_run);
  }

  pub one_more_played : (count : ℕ) (log own : List (Logged E)) (runs : List PortRun) (ends : List PortEnd)
      (run : PortRun) (end : PortEnd)
      → ArePlayedFirst IsPlayed count log runs ends
      → All (λ (l : Logged E). l.port ≡ count) own
      → IsPlayed count own run end
      → ArePlayedFirst IsPlayed (count + 1) (log ++ own) (runs ++ run ∷ []) (ends ++ end ∷ [])
  one_more_played count log own runs ends run end before on now = record {
    runs_of = length-append runs (run ∷ []) ∙ ap (λ m. m + 1) before.runs_of;
    ends_of = length-append ends (end ∷ []) ∙ ap (λ m. m + 1) before.ends_of;
    below = All-append (λ (l : Logged E). l.port < count + 1) log own
        (All-weaker (λ (l : Logged E). l.port < count) (λ (l : Logged E). l.port < count + 1)
        (λ l lt. omega (arith, lt)) log before.below)
        (All-weaker (λ (l : Logged E). l.port ≡ count) (λ (l : Logged E). l.port < count + 1)
        (λ l is. omega (arith, is)) own on);
    each = λ p r e at_run at_end. one_of p r e (last_or runs run p r at_run) (last_or ends end p e at_end);
  }
    where
      one_of : (p : ℕ) (r : PortRun) (e : PortEnd)
          → (slice_get runs p ≡ Some r) ⊎ ((p ≡ length runs) × (Some run ≡ Some r))
          → (slice_get ends p ≡ Some e) ⊎ ((p ≡ length ends) × (Some end ≡ Some e))
          → IsPlayed p (logged_on p (log ++ own)) r e
      one_of p r e (inl a) (inl b) =
          let lt : p < count = (let many = below_if runs p r a in omega (arith, many, before.runs_of)) in
          subst (λ (ls : List (Logged E)). IsPlayed p ls r e) (sym (others_stay p count log own lt on))
          (before.each p r e a b)
      one_of p r e (inl a) (inr b) = absurd
          (get_none runs p r (omega (arith, before.runs_of, before.ends_of, b.0)) a)
      one_of p r e (inr a) (inl b) = absurd
          (get_none ends p e (omega (arith, before.runs_of, before.ends_of, a.0)) b)
      one_of p r e (inr a) (inr b) =
          subst (λ m. IsPlayed m (logged_on m (log ++ own)) r e) (sym (a.0 ∙ before.runs_of))
          (subst (λ (ls : List (Logged E)). IsPlayed count ls r e) (sym (own_behind count log own before.below on))
          (subst (λ (x : PortRun). IsPlayed count own x e) (some_is run r a.1)
          (subst (λ (x : PortEnd). IsPlayed count own run x) (some_is end e b.1) now)))

  -- .. with logs as they are kept
  pub port_more : {K : Type 0} (logged_of : Logged K → Logged E) (count : ℕ) (log own more : List (Logged K))
      (runs new_runs : List PortRun) (ends new_ends : List PortEnd) (run : PortRun) (end : PortEnd)
      → ArePlayedFirst IsPlayed count (map logged_of log) runs ends
      → IsPlayed count (map logged_of own) run end
      → All (λ (l : Logged E). l.port ≡ count) (map logged_of own)
      → more ≡ log ++ own
      → new_runs ≡ runs ++ run ∷ []
      → new_ends ≡ ends ++ end ∷ []
      → ArePlayedFirst IsPlayed (count + 1) (map logged_of more) new_runs new_ends
  port_more logged_of count log own more runs new_runs ends new_ends run end before played on added a b =
      subst (λ (xs : List PortRun). Are (count + 1) (map logged_of more) xs new_ends) (sym a)
      (subst (λ (xs : List PortEnd). Are (count + 1) (map logged_of more) (runs ++ run ∷ []) xs) (sym b)
      (subst (λ (ls : List (Logged E)). Are (count + 1) ls (runs ++ run ∷ []) (ends ++ end ∷ []))
      (sym (ap (map logged_of) added ∙ map-append logged_of log own))
      (one_more_played count (map logged_of log) (map logged_of own) runs ends run end before on played)))

-- ---- all ports

none_within : ArePassingsWithin []
none_within = record { calls = All-nil (λ (m : Passing). All IsCallWithin m.calls); single = λ c step. omega arith }

abbrev journal_or : Option PortRun → List PlainEntry
journal_or o = unwrap_or (option_map (λ (run : PortRun). run.journal.items) o) []

past_last : (runs : List PortRun) (q : ℕ) → length runs ≤ q → journal_on runs q ≡ []
past_last runs q le = ap journal_or (none_at runs q le)

journal_is : (runs : List PortRun) (q : ℕ) (run : PortRun)
    → slice_get runs q ≡ Some run
    → journal_on runs q ≡ run.journal.items
journal_is runs q run is = ap journal_or is

pub run_at : (runs : List PortRun) (p : ℕ) (run : PortRun)
    → p < length runs
    → run ≡ get_or runs p run
    → journal_on runs p ≡ run.journal.items
run_at [] p run lt at = absurd (omega (arith, lt))
run_at (x ∷ xs) zero run lt at = ap (λ (r : PortRun). r.journal.items) (sym at)
run_at (x ∷ xs) (suc p) run lt at = run_at xs p run (omega (arith, lt)) at

pub single_still : (made kept : Passed)
    → ((p : ℕ) → made p ≡ kept p)
    → ArePassedWithin kept
    → (p c step : ℕ)
    → length (calls_at (by_caller c (made p)) step) ≤ 1
single_still made kept are h p c step =
    subst (λ (ms : List Passing). length (calls_at (by_caller c ms) step) ≤ 1) (sym (are p)) (h.single p c step)

-- what is passed to a port by these events and in this journal, and what of it is begun
module _ {E : Type 0} (session : BlockSession) (passings begun : (p : ℕ) → List E → List PlainEntry → List Passing)
    (IsPlayedOn : (p : ℕ) → PlainSession → List (Logged E) → PortRun → PortEnd → Type 0) where
  abbrev pub passed_on : List (Logged E) → (p : ℕ) → List PlainEntry → List Passing
  passed_on log p journal = passings p (map (λ (l : Logged E). l.event) (logged_on p log)) journal

  abbrev pub begun_on : List (Logged E) → (p : ℕ) → List PlainEntry → List Passing
  begun_on log p journal = begun p (map (λ (l : Logged E). l.event) (logged_on p log)) journal

  abbrev pub IsPlayed : (p : ℕ) → List (Logged E) → PortRun → PortEnd → Type 0
  IsPlayed p log run end = IsPlayedSo session p (passed_on log p run.journal.items) (begun_on log p run.journal.items)
      (λ played. IsPlayedOn p played log run end) run

  passed_same : (p : ℕ) (log more : List (Logged E)) (journal : List PlainEntry)
      → logged_on p log ≡ logged_on p more
      → passed_on log p journal ≡ passed_on more p journal
  passed_same p log more journal same =
      ap (λ (on : List (Logged E)). passings p (map (λ (l : Logged E). l.event) on) journal) same

  begun_same : (p : ℕ) (log more : List (Logged E)) (journal : List PlainEntry)
      → logged_on p log ≡ logged_on p more
      → begun_on log p journal ≡ begun_on more p journal
  begun_same p log more journal same =
      ap (λ (on : List (Logged E)). begun p (map (λ (l : Logged E). l.event) on) journal) same

  -- past the last port nothing was played
  pub past_passings : (count : ℕ) (log : List (Logged E)) (runs : List PortRun) (q : ℕ)
      → passings q [] [] ≡ []
      → length runs ≡ count
      → All (λ (l : Logged E). l.port < count) log
      → length runs ≤ q
      → passed_on log q (journal_on runs q) ≡ []
  past_passings count log runs q nothing many below le =
      let none : logged_on q log ≡ [] =
      none_on q log
      (All-weaker (λ (l : Logged E). l.port < count) (λ (l : Logged E). l.port ≡ q → ⊥)
      (λ l lt same. omega (arith, lt, same, many, le)) log below) in
      (λ i. passings q (map (λ (l : Logged E). l.event) (none i)) (past_last runs q le i)) ∙ nothing

  -- a port of those that were played
  abbrev Its : List (Logged E) → List PortRun → (q : ℕ) → Type 0
  Its log runs q = (run : PortRun) × (end : PortEnd) × (slice_get runs q ≡ Some run)
      × IsPlayed q (logged_on q log) run end

  its : (count : ℕ) (log : List (Logged E)) (runs : List PortRun) (ends : List PortEnd) (q : ℕ)
      → ArePlayedFirst IsPlayed count log runs ends
      → q < length runs
      → Its log runs q
  its count log runs ends q h lt =
      let run = some_at runs q lt in
      let end = some_at ends q (omega (arith, lt, h.runs_of, h.ends_of)) in
      (run.0, end.0, run.1, h.each q run.0 end.0 run.1 end.1)

  its_passed : (log : List (Logged E)) (runs : List PortRun) (q : ℕ) (run : PortRun)
      → slice_get runs q ≡ Some run
      → passed_on (logged_on q log) q run.journal.items ≡ passed_on log q (journal_on runs q)
  its_passed log runs q run is =
      passed_same q (logged_on q log) log run.journal.items (twice q log)
      ∙ ap (λ (es : List PlainEntry). passed_on log q es) (sym (journal_is runs q run is))

  each_within : (count : ℕ) (log : List (Logged E)) (runs : List PortRun) (ends : List PortEnd) (q : ℕ)
      → passings q [] [] ≡ []
      → ArePlayedFirst IsPlayed count log runs ends
      → ArePassingsWithin (passed_on log q (journal_on runs q))
  each_within count log runs ends q nothing h =
      elim (below_or q (length runs)) [
        | inl lt ↦ (let at = its count log runs ends q h lt in
            subst ArePassingsWithin (its_passed log runs q at.0 at.2) at.3.within)
        | inr le ↦
            subst ArePassingsWithin (sym (past_passings count log runs q nothing h.runs_of h.below le)) none_within
      ]

  pub each_whole : (count : ℕ) (log : List (Logged E)) (runs : List PortRun) (ends : List PortEnd) (q : ℕ)
      → ((es : List E) → begun q es [] ≡ [])
      → ArePlayedFirst IsPlayed count log runs ends
      → AreNotFull runs
      → begun_on log q (journal_on runs q) ≡ []
  each_whole count log runs ends q nothing h not_full =
      elim (below_or q (length runs)) [
        | inl lt ↦
            let at = its count log runs ends q h lt in
            ap (λ (es : List PlainEntry). begun_on log q es) (journal_is runs q at.0 at.2)
            ∙ (sym (begun_same q (logged_on q log) log at.0.journal.items (twice q log))
            ∙ at.3.none_begun (not_full q at.0 at.2))
        | inr le ↦
            ap (λ (es : List PlainEntry). begun_on log q es) (past_last runs q le)
            ∙ nothing (map (λ (l : Logged E). l.event) (logged_on q log))
      ]

  pub passed_within : (count : ℕ) (log : List (Logged E)) (runs : List PortRun) (ends : List PortEnd)
      → ((q : ℕ) → passings q [] [] ≡ [])
      → ArePlayedFirst IsPlayed count log runs ends
      → ArePassedWithin (λ p. passed_on log p (journal_on runs p))
  passed_within count log runs ends nothing h =
      record {
        calls = λ q. (each_within count log runs ends q (nothing q) h).calls;
        single = λ q c step. (each_within count log runs ends q (nothing q) h).single c step;
      }

  -- each was played the session that what they were passed makes
  pub each_played : (count : ℕ) (log : List (Logged E)) (runs : List PortRun) (ends : List PortEnd)
      → ((q : ℕ) → passings q [] [] ≡ [])
      → ((p : ℕ) (played : PlainSession) (own more : List (Logged E)) (run : PortRun) (end : PortEnd)
      → logged_on p own ≡ logged_on p more
      → IsPlayedOn p played own run end
      → IsPlayedOn p played more run end)
      → AreBlocksWithin session.ports session.flips session.phases
      → ArePlayedFirst IsPlayed count log runs ends
      → (p : ℕ) (run : PortRun) (end : PortEnd)
      → slice_get runs p ≡ Some run
      → slice_get ends p ≡ Some end
      → IsPlayedOn p (played_session session (λ q. passed_on log q (journal_on runs q))) log run end
  each_played count log runs ends nothing by_log blocks h p run end at_run at_end =
      let passed : Passed = λ q. passed_on log q (journal_on runs q) in
      let played = played_session session passed in
      by_log p played (logged_on p log) log run end (twice p log)
      ((h.each p run end at_run at_end).each played (record {
        version = refl;
        flips = refl;
        limits = within_limits session.phases passed played refl blocks (passed_within count log runs ends nothing h);
        passed = record {
          passed = passed;
          are = refl;
          by = λ c. ap (λ (ms : List Passing). by_caller c ms) (sym (its_passed log runs p run at_run));
        };
      }))

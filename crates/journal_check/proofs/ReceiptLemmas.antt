-- What a port's line received, one more phase.
use Rattle.std.proofs.Common.{◌≡◌, inl, inr, ℕ, zero, suc, ◌+◌, ◌<◌, ◌≤◌, IsTrue, List, [], ◌∷◌}
use Rattle.std.proofs.Common.{◌++◌, length, take, drop, get_or, map, refl, sym, ◌∙◌, ap, subst}
use Rattle.std.proofs.Common.{arith, length-append, length-drop}
use Rattle.std.specs.Prelude.{All, sum_by}
use Rattle.std.proofs.lemmas.Bool.{cases_lt}
use Rattle.std.proofs.lemmas.List.{get_or_past, take_more, take_all, take-append-drop}
use Rattle.std.proofs.lemmas.List.Elements.{All-nil, All-same, All-get_or}
use Rattle.std.proofs.lemmas.List.Sums.{sum_by-cons, sum_by-append}
use Rattle.tty_base.specs.Contents.{Contents}
use Rattle.tty_base.specs.declared.characters.Flagged.{Flagged}
use Rattle.tty_base.specs.declared.lines.LineStep.{LineStep}
use Rattle.tty_base.specs.declared.lines.Overrun.{Overrun}
use Rattle.tty_base.specs.Lines.{arrival_count, is_step}
use Rattle.tty_calls.specs.Sessions.{PlainPhase, PlainSession, line_on}
use Rattle.tty_calls.specs.Limits.{character_count}
use Rattle.uart_line.specs.Received.{received_list, lost_count, closed_script, script}
use Rattle.uart_line.specs.LineState.{LineState, HasDone}
use Rattle.uart_line.specs.Offered.{AddsCharacters}
use Rattle.journal_check.specs.declared.lines.Received.{Received}
use Rattle.legal_runs.specs.Legal.{phase_at, script_of_first, script_on}
use Rattle.journal_check.specs.WellFormed.{IsPhaseWellFormed, IsWellFormed}
use Rattle.journal_check.specs.Accounts.{Walk, kept_from}
use Rattle.journal_check.specs.Receipts.{received_count, kept_count, IsReceived, HasReceived}
use Rattle.journal_check.proofs.AccountLemmas.{walk_append}
use Rattle.legal_runs.proofs.LineLemmas.{no_phase, script_none, received_none, first_more}

count_more : (p : ℕ) (session : PlainSession) (k : ℕ)
    → k < length session.phases
    → character_count p (take (k + 1) session.phases)
    ≡ character_count p (take k session.phases) + arrival_count (line_on p (phase_at session k))
count_more p session k lt =
    let f : PlainPhase → ℕ = λ phase. arrival_count (line_on p phase) in
    ap (λ (xs : List PlainPhase). sum_by f xs) (take_more session.phases k no_phase lt)
    ∙ sum_by-append f (take k session.phases) (phase_at session k ∷ [])
    ∙ ap (λ (n : ℕ). sum_by f (take k session.phases) + n)
    (sum_by-cons f (phase_at session k) []
    ∙ (let e : f (phase_at session k) + 0 ≡ f (phase_at session k) = omega arith in e))

count_within : (p : ℕ) (session : PlainSession) (k : ℕ)
    → character_count p (take k session.phases) ≤ character_count p session.phases
count_within p session k =
    let f : PlainPhase → ℕ = λ phase. arrival_count (line_on p phase) in
    omega (
      arith,
      ap (λ (xs : List PlainPhase). sum_by f xs) (take-append-drop k session.phases),
      sum_by-append f (take k session.phases) (drop k session.phases),
    )

-- the steps of a line of a well-formed session; a port that the phase has no line for has none
pub good_steps : (p : ℕ) (session : PlainSession) (k : ℕ) (steps : List LineStep)
    → IsWellFormed session
    → k < length session.phases
    → steps ≡ line_on p (phase_at session k)
    → All (λ step. IsTrue (is_step step)) steps
good_steps p session k steps formed lt are =
    let lines = (phase_at session k).lines in
    let good = (All-get_or IsPhaseWellFormed session.phases k no_phase lt formed.phases).steps in
    subst (λ (xs : List LineStep). All (λ step. IsTrue (is_step step)) xs) (sym are) (elim (cases_lt p (length lines)) [
      | inl within ↦
          All-get_or (λ (line : List LineStep). All (λ step. IsTrue (is_step step)) line) lines p [] within good
      | inr past ↦ All-same (λ step. IsTrue (is_step step)) (get_or lines p []) [] (get_or_past lines p [] past)
          (All-nil (λ step. IsTrue (is_step step)))
    ])

pub room_left : (p : ℕ) (session : PlainSession) (overruns : List Overrun) (k : ℕ) (line : LineState)
    (chars : Contents Flagged) (r : Received) (next : ℕ) (steps : List LineStep)
    → k < length session.phases
    → steps ≡ line_on p (phase_at session k)
    → HasReceived p session overruns k line chars r next
    → line.report.arrived + arrival_count steps ≤ line.most
room_left p session overruns k line chars r next steps lt are h =
    omega (arith, h.arrived, h.most, count_more p session k lt, count_within p session (k + 1), ap arrival_count are)

pub received_first : (p : ℕ) (session : PlainSession) (overruns : List Overrun) (line : LineState)
    (chars : Contents Flagged) (r : Received)
    → HasDone line []
    → line.report.overruns.items ≡ []
    → line.most ≡ character_count p session.phases
    → line.most ≤ chars.spare
    → chars.items ≡ []
    → r.kept.items ≡ []
    → r.ends.items ≡ []
    → r.sents.items ≡ []
    → HasReceived p session overruns 0 line chars r 0
received_first p session overruns line chars r done none most spare items kept ends sents =
    let first : script_of_first p session 0 ≡ [] = script_none in
    let nothing : received_list (script_of_first p session 0) ≡ [] = ap received_list first ∙ received_none in
    record {
      done = subst (HasDone line) (sym first) done;
      none = none;
      arrived = omega (arith, done.arrived);
      most = most;
      spare = omega (arith, spare);
      chars_are = items ∙ sym nothing;
      kept = kept ∙ sym (ap (λ (cs : List Flagged). (kept_from 0 cs overruns).chars) nothing);
      within = omega arith;
      rest = sym (ap (λ (cs : List Flagged). (kept_from 0 cs overruns).overruns) nothing);
      many_ends = ap length ends;
      ends = λ k lt. absurd (omega (arith, lt));
      many_sents = ap length sents;
      sents = λ k lt. absurd (omega (arith, lt));
    }

drop_front : (xs ys : List Flagged) (n : ℕ) → n ≡ length xs → drop n (xs ++ ys) ≡ ys
drop_front [] ys n e = ap (λ (m : ℕ). drop m ys) e
drop_front (x ∷ xs) ys zero e = absurd (omega (arith, e))
drop_front (x ∷ xs) ys (suc n) e = drop_front xs ys n (omega (arith, e))

drop_none : (X : Type 0) (n : ℕ) → [] ≡ drop {A = X} n []
drop_none X zero = refl
drop_none X (suc n) = refl

drop_further : (xs : List Overrun) (m n : ℕ) → drop m (drop n xs) ≡ drop (n + m) xs
drop_further xs m zero = ap (λ (k : ℕ). drop k xs) (let e : m ≡ zero + m = omega arith in e)
drop_further [] zero (suc n) = drop_none Overrun (suc n + zero)
drop_further [] (suc m) (suc n) = drop_none Overrun (suc n + suc m)
drop_further (x ∷ xs) m (suc n) =
    drop_further xs m n ∙ ap (λ (k : ℕ). drop k (x ∷ xs)) (let e : suc (n + m) ≡ suc n + m = omega arith in e)

last_is : (xs : List ℕ) (x k : ℕ) → k ≡ length xs → get_or (xs ++ x ∷ []) k 0 ≡ x
last_is [] x k e = ap (λ (n : ℕ). get_or (x ∷ []) n 0) e
last_is (y ∷ xs) x zero e = absurd (omega (arith, e))
last_is (y ∷ xs) x (suc k) e = last_is xs x k (omega (arith, e))

front_stays : (xs : List ℕ) (x k : ℕ) → k < length xs → get_or (xs ++ x ∷ []) k 0 ≡ get_or xs k 0
front_stays [] x k lt = absurd (omega arith)
front_stays (y ∷ xs) x zero lt = refl
front_stays (y ∷ xs) x (suc k) lt = front_stays xs x k (omega arith)

-- a list that has one more number
more_are : (xs ys : List ℕ) (x n : ℕ) (f : ℕ → ℕ)
    → ys ≡ xs ++ x ∷ []
    → length xs ≡ n
    → x ≡ f (n + 1)
    → ((k : ℕ) → k < n → get_or xs k 0 ≡ f (k + 1))
    → (k : ℕ)
    → k < n + 1
    → get_or ys k 0 ≡ f (k + 1)
more_are xs ys x n f is long last each k lt =
    ap (λ (zs : List ℕ). get_or zs k 0) is
    ∙ elim (cases_lt k n) [
      | inl less ↦ front_stays xs x k (omega (arith, less, long)) ∙ each k less
      | inr most ↦ (let same : k ≡ n = omega (arith, lt, most) in
          last_is xs x k (same ∙ sym long) ∙ last ∙ ap (λ (m : ℕ). f (m + 1)) (sym same))
    ]

pub record NextPhase (p : ℕ) (session : PlainSession) (overruns : List Overrun) (k : ℕ) (line line' : LineState)
    (chars chars' : Contents Flagged) (r r' : Received) (next passed : ℕ) (steps : List LineStep) : Type 0 where
  pub lt : k < length session.phases
  pub are : steps ≡ line_on p (phase_at session k)
  pub done : (before : List LineStep) → HasDone line before → HasDone line' (before ++ closed_script steps)
  pub room : line'.most ≡ line.most
  pub arrived : line'.report.arrived ≡ line.report.arrived + arrival_count steps
  pub adds : (before : List LineStep)
      → HasDone line before
      → AddsCharacters (received_list before) (received_list (before ++ closed_script steps)) chars.items chars'.items
  pub spare : line'.most ≤ chars'.spare + line'.handed
  pub none : (before : List LineStep) → HasDone line before → line'.report.overruns.items ≡ line.report.overruns.items
  pub kept : r'.kept.items
      ≡ r.kept.items
      ++ (kept_from (length chars.items) (drop (length chars.items) chars'.items) (drop next overruns)).chars
  pub within : passed ≤ length (drop next overruns)
  pub rest : drop passed (drop next overruns)
      ≡ (kept_from (length chars.items) (drop (length chars.items) chars'.items) (drop next overruns)).overruns
  pub ends : r'.ends.items ≡ r.ends.items ++ length chars'.items ∷ []
  pub sents : r'.sents.items ≡ r.sents.items ++ length r'.kept.items ∷ []

pub received_more : (p : ℕ) (session : PlainSession) (overruns : List Overrun) (k : ℕ) (line line' : LineState)
    (chars chars' : Contents Flagged) (r r' : Received) (next passed : ℕ) (steps : List LineStep)
    → HasReceived p session overruns k line chars r next
    → NextPhase p session overruns k line line' chars chars' r r' next passed steps
    → HasReceived p session overruns (k + 1) line' chars' r' (next + passed)
received_more p session overruns k line line' chars chars' r r' next passed steps h n =
    let before = script_of_first p session k in
    let now : before ++ closed_script steps ≡ script_of_first p session (k + 1) =
    ap (λ (xs : List LineStep). before ++ closed_script xs) n.are ∙ sym (first_more p session k n.lt) in
    let adds = n.adds before h.done in
    let list : List Flagged = adds.list in
    let all : received_list (script_of_first p session (k + 1)) ≡ received_list before ++ list =
    ap received_list (sym now) ∙ adds.grows in
    let items : chars'.items ≡ received_list (script_of_first p session (k + 1)) =
    adds.adds ∙ ap (λ (cs : List Flagged). cs ++ list) h.chars_are ∙ sym all in
    let new : drop (length chars.items) chars'.items ≡ list =
    ap (λ (cs : List Flagged). drop (length chars.items) cs) adds.adds
    ∙ drop_front chars.items list (length chars.items) refl in
    let far : length chars.items ≡ 0 + length (received_list before) = omega (arith, ap length h.chars_are) in
    let walk : kept_from (length chars.items) (drop (length chars.items) chars'.items) (drop next overruns)
    ≡ kept_from (0 + length (received_list before)) list (kept_from 0 (received_list before) overruns).overruns =
    (λ j. kept_from (far j) (new j) (h.rest j)) in
    let whole : kept_from 0 (received_list (script_of_first p session (k + 1))) overruns ≡ record {
      chars =
          (kept_from 0 (received_list before) overruns).chars
          ++ (kept_from (0 + length (received_list before))
          list (kept_from 0 (received_list before) overruns).overruns).chars;
      overruns = (kept_from (0 + length (received_list before))
          list (kept_from 0 (received_list before) overruns).overruns).overruns;
    } = ap (λ (cs : List Flagged). kept_from 0 cs overruns) all ∙ walk_append 0 (received_list before) list overruns in
    let kept : r'.kept.items ≡ (kept_from 0 (received_list (script_of_first p session (k + 1))) overruns).chars =
    n.kept ∙ (λ j. h.kept j ++ (walk j).chars) ∙ sym (ap (λ (w : Walk). w.chars) whole) in
    record {
      done = subst (HasDone line') now (n.done before h.done);
      none = n.none before h.done ∙ h.none;
      arrived = omega (arith, n.arrived, h.arrived, count_more p session k n.lt, ap arrival_count n.are);
      most = n.room ∙ h.most;
      spare = n.spare;
      chars_are = items;
      kept = kept;
      within = omega (arith, h.within, n.within, length-drop next overruns);
      rest =
          sym (drop_further overruns passed next)
          ∙ n.rest
          ∙ ap (λ (w : Walk). w.overruns) walk
          ∙ sym (ap (λ (w : Walk). w.overruns) whole);
      many_ends = omega (arith, ap length n.ends, length-append r.ends.items (length chars'.items ∷ []), h.many_ends);
      ends = more_are r.ends.items r'.ends.items (length chars'.items) k (received_count p session) n.ends h.many_ends
          (ap length items) h.ends;
      many_sents =
          omega (arith, ap length n.sents, length-append r.sents.items (length r'.kept.items ∷ []), h.many_sents);
      sents = more_are r.sents.items r'.sents.items (length r'.kept.items) k (kept_count p session overruns) n.sents
          h.many_sents (ap length kept) h.sents;
    }

pub received_all : (p : ℕ) (session : PlainSession) (overruns : List Overrun) (k : ℕ) (line : LineState)
    (chars : Contents Flagged) (r r' : Received) (next : ℕ)
    → k ≡ length session.phases
    → HasReceived p session overruns k line chars r next
    → r' ≡ record r { arrived = line.report.arrived; fifo_lost = line.report.fifo_lost }
    → IsReceived p session overruns r'
received_all p session overruns k line chars r r' next all h is =
    let whole : script_of_first p session k ≡ script_on p session =
    ap (λ (phases : List PlainPhase). script (map (line_on p) phases))
    (take_all k session.phases (omega (arith, all))) in
    subst (IsReceived p session overruns) (sym is) (record {
      kept = h.kept ∙ ap (λ (steps : List LineStep). (kept_from 0 (received_list steps) overruns).chars) whole;
      many_ends = h.many_ends ∙ all;
      ends = λ i lt. h.ends i (omega (arith, lt, all));
      many_sents = h.many_sents ∙ all;
      sents = λ i lt. h.sents i (omega (arith, lt, all));
      arrived = h.done.arrived ∙ ap arrival_count whole;
      fifo_lost = h.done.lost ∙ ap lost_count whole;
    })

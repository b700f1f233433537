-- Runs of a board, and the history that a cell sees of them.
use Rattle.std.proofs.Common.{◌≡◌, ℕ, ◌<◌, ◌≤◌, List, [], ◌∷◌, ◌++◌, map, fold}
use Rattle.std.proofs.Common.{length, refl, sym, ap, subst, ◌∙◌, arith, length-append}
use Rattle.std.proofs.lemmas.List.Sums.{fold-append}
use Rattle.port_cell.specs.Entries.{generation_of}
use Rattle.vt_consoles.specs.declared.entries.VtEntry.{VtEntry}
use Rattle.vt_consoles.specs.declared.entries.VtEvent.{VtEvent}
use Rattle.vt_consoles.specs.declared.entries.VtEvent.TheVariants.{Activate, State, Key}
use Rattle.vt_consoles.specs.Runs.{active_after, active_of, NamesRightly, NameRightly}
use Rattle.vt_consoles.specs.Boards.{BoardState, IsBoard, IsKept, active_on}
use Rattle.vt_consoles.specs.Histories.{stamped}

-- the console that is active behind entries, where this one is before them
abbrev active_from : ℕ → List VtEntry → ℕ
active_from active entries = fold (λ a (e : VtEntry). active_after a e.event) active entries

run_more : (consoles active : ℕ) (entries : List VtEntry) (e : VtEntry)
    → NameRightly consoles active entries
    → NamesRightly consoles (active_from active entries) e.event
    → NameRightly consoles active (entries ++ e ∷ [])
run_more consoles active [] e r n = (n, tt)
run_more consoles active (x ∷ entries) e r n = (r.0, run_more consoles (active_after active x.event) entries e r.1 n)

-- a board with an entry more
pub kept_with : (consoles active limit : ℕ) (entries : List VtEntry) (seat : ℕ) (event : VtEvent)
    → IsKept consoles active limit entries
    → NamesRightly consoles (active_of entries) event
    → length entries < limit
    → IsKept consoles (active_after active event) limit (entries ++ record { seat = seat; event = event } ∷ [])
kept_with consoles active limit entries seat event k rightly room =
    let e : VtEntry = record { seat = seat; event = event } in
    let size : length (entries ++ e ∷ []) ≤ limit = omega (arith, length-append entries (e ∷ [])) in
    let now : active_after active event ≡ active_of (entries ++ e ∷ []) =
    ap (λ a. active_after a event) k.1
    ∙ sym (fold-append (λ a (x : VtEntry). active_after a x.event) 0 entries (e ∷ [])) in (
      record {
        some = k.0.some;
        few = k.0.few;
        run = run_more consoles 0 entries e k.0.run rightly;
        within = size;
        most = k.0.most;
      },
      now,
    )

-- the active console is one of them
stays_within : (consoles active : ℕ) (event : VtEvent)
    → NamesRightly consoles active event
    → active < consoles
    → active_after active event < consoles
stays_within consoles active (Activate n) r lt = r
stays_within consoles active (State n) r lt = lt
stays_within consoles active (Key index n) r lt = lt

within_from : (consoles active : ℕ) (entries : List VtEntry)
    → NameRightly consoles active entries
    → active < consoles
    → active_from active entries < consoles
within_from consoles active [] r lt = lt
within_from consoles active (e ∷ entries) r lt =
    within_from consoles (active_after active e.event) entries r.1 (stays_within consoles active e.event r.0 lt)

pub active_within : (b : BoardState) → IsBoard b → active_of b.entries < b.consoles
active_within b k = within_from b.consoles 0 b.entries k.run k.some

pub no_generation : (entries : List VtEntry) → generation_of (map (λ (e : VtEntry). stamped e.seat e.event) entries) ≡ 0
no_generation [] = refl
no_generation (e ∷ []) = refl
no_generation (e ∷ f ∷ entries) = no_generation (f ∷ entries)

-- ---- of a board's fields, and its value

pub active_below : (consoles active limit : ℕ) (entries : List VtEntry) (b : BoardState)
    → IsKept consoles active limit entries
    → record { consoles = consoles; limit = limit; entries = entries } ≡ b
    → active < b.consoles
active_below consoles active limit entries b k e =
    subst (λ (x : BoardState). active < x.consoles) e
    (subst (λ (n : ℕ). n < consoles) (sym k.1)
    (active_within (record { consoles = consoles; limit = limit; entries = entries }) k.0))

pub kept_more : (consoles active limit seat : ℕ) (entries more : List VtEntry) (now : ℕ) (event : VtEvent)
    (b : BoardState)
    → IsKept consoles active limit entries
    → record { consoles = consoles; limit = limit; entries = entries } ≡ b
    → NamesRightly b.consoles (active_on b) event
    → length entries < limit
    → more ≡ entries ++ record { seat = seat; event = event } ∷ []
    → now ≡ active_after active event
    → IsKept consoles now limit more
kept_more consoles active limit seat entries more now event b k e r room added same =
    let rightly : NamesRightly consoles (active_of entries) event =
    subst (λ (x : BoardState). NamesRightly x.consoles (active_on x) event) (sym e) r in
    let with_entry = kept_with consoles active limit entries seat event k rightly room in
    subst (λ (n : ℕ). IsKept consoles n limit more) (sym same)
    (subst (λ (l : List VtEntry). IsKept consoles (active_after active event) limit l) (sym added) with_entry)

-- What a seat with the turn may note, once it has added an entry to the list that it found.
use Rattle.std.proofs.Common.{◌≡◌, ℕ, ◌+◌, ◌<◌, List, [], ◌∷◌, ◌++◌, false, inl, inr, sym, ap, ◌∙◌, arith}
use Rattle.port_cell.specs.Word.{GENERATION_END}
use Rattle.port_cell.specs.declared.kept.Stamped.{Stamped}
use Rattle.port_cell.specs.Entries.{generation_of, AddsBy}
use Rattle.port_cell.specs.Views.{bit_of, raises_of}
use Rattle.port_cell.specs.Knowledge.{CellSeat, number_of, list_seen, is_raised, generation_installed, IsAlone, MayNote}
use Rattle.port_cell.proofs.Histories.{generation_of-push}

module _ {V N E : Type 0} (s : CellSeat V N E) (found now : List (Stamped E)) (e : Stamped E)
    (seen : list_seen s ≡ found) (added : now ≡ found ++ e ∷ []) where
  pub adds : e.seat ≡ number_of s → AddsBy (number_of s) (list_seen s) now
  adds by = (e ∷ [], added ∙ ap (λ (xs : List (Stamped E)). xs ++ e ∷ []) (sym seen), (by, tt))

  module _ (low : is_raised s ≡ false) where
    installed : generation_installed s ≡ generation_of found
    installed =
        let bit : raises_of s.me.0 ≡ 0 = ap bit_of low in
        let same : generation_of (list_seen s) ≡ generation_of found = ap generation_of seen in omega arith

    reached : generation_of now ≡ e.after
    reached = ap generation_of added ∙ generation_of-push found e

    -- an entry of the installed generation
    pub same_generation : e.after ≡ generation_of found → generation_of now ≡ generation_installed s
    same_generation same = reached ∙ same ∙ sym installed

    pub may_note_same : e.after ≡ generation_of found → MayNote s (generation_of now)
    may_note_same same = inl (same_generation same)

    -- an entry of the next generation
    pub next_generation : e.after ≡ generation_of found + 1 → generation_of now ≡ generation_installed s + 1
    next_generation next = reached ∙ next ∙ ap (λ (n : ℕ). n + 1) (sym installed)

    pub may_note_next : IsAlone s
        → e.after ≡ generation_of found + 1
        → e.after < GENERATION_END
        → MayNote s (generation_of now)
    may_note_next only next below = let a = reached in inr (only, next_generation next, omega arith)

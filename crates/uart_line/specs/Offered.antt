-- What becomes of characters that are handed to a `Put`, one after the other.
use Rattle.std.specs.Prelude.{◌≡◌, ℕ, ◌+◌, ◌≤◌, ◌==◌, if◌then◌else◌, List, [], ◌∷◌, ◌++◌, length}
use Rattle.std.specs.List.{list_any}
use Rattle.tty_base.specs.declared.characters.Flagged.{Flagged}
use Rattle.tty_base.specs.declared.lines.Overrun.{Overrun}

-- the answer to one character: appended, or refused with the head that this call loaded
pub data PutAnswer : Type 0 where
  appends : PutAnswer
  refuses : ℕ → PutAnswer

-- the characters that were appended
unfoldable pub appended_list : List Flagged → List PutAnswer → List Flagged
appended_list [] _ = []
appended_list (c ∷ cs) [] = []
appended_list (c ∷ cs) (appends ∷ answers) = c ∷ appended_list cs answers
appended_list (c ∷ cs) (refuses _ ∷ answers) = appended_list cs answers

-- each refusal is one overrun: its place, how many were appended before, and the head
unfoldable pub overrun_list : (place sent : ℕ) → List PutAnswer → List Overrun
overrun_list place sent [] = []
overrun_list place sent (appends ∷ answers) = overrun_list (place + 1) (sent + 1) answers
overrun_list place sent (refuses seen ∷ answers) =
    record { at = place; sent = sent; seen = seen } ∷ overrun_list (place + 1) sent answers

-- each refusal comes at a full buffer
unfoldable pub IsFullAt : (capacity sent : ℕ) → List PutAnswer → Type 0
IsFullAt capacity sent [] = Unit {0}
IsFullAt capacity sent (appends ∷ answers) = IsFullAt capacity (sent + 1) answers
IsFullAt capacity sent (refuses seen ∷ answers) = (sent ≡ seen + capacity) × IsFullAt capacity sent answers

-- the heads of the refusals are among the heads loaded, in their order
unfoldable pub AreAmong : List PutAnswer → List ℕ → Type 0
AreAmong [] heads = Unit {0}
AreAmong (appends ∷ answers) heads = AreAmong answers heads
AreAmong (refuses seen ∷ answers) heads =
    (before after : List ℕ) × (heads ≡ before ++ seen ∷ after) × AreAmong answers after

-- These characters were offered from `place` on, each once and in order, to a buffer of this
-- capacity, and `sent`, `heads` and `overruns` have become `sent'`, `heads'` and `overruns'`.
pub record Offers
    (capacity place : ℕ) (list : List Flagged)
    (sent sent' : List Flagged) (heads heads' : List ℕ) (overruns overruns' : List Overrun)
    : Type 0 where
  pub answers : List PutAnswer
  pub loaded : List ℕ
  pub one_each : length answers ≡ length list
  pub appends_rest : sent' ≡ sent ++ appended_list list answers
  pub adds_refused : overruns' ≡ overruns ++ overrun_list place (length sent) answers
  pub is_full : IsFullAt capacity (length sent) answers
  pub loads : heads' ≡ heads ++ loaded
  pub among_loaded : AreAmong answers loaded

-- the list handed over has grown from `all` to `all'`, and what is new was offered
pub record HandsOver
    (capacity : ℕ) (all all' : List Flagged)
    (sent sent' : List Flagged) (heads heads' : List ℕ) (overruns overruns' : List Overrun)
    : Type 0 where
  pub list : List Flagged
  pub grows : all' ≡ all ++ list
  pub offers : Offers capacity (length all) list sent sent' heads heads' overruns overruns'

-- the list handed over has grown from `all` to `all'`, and the plain list `items` by the same characters
pub record AddsCharacters (all all' items items' : List Flagged) : Type 0 where
  pub list : List Flagged
  pub grows : all' ≡ all ++ list
  pub adds : items' ≡ items ++ list

-- the list without the places of the overruns, its first character at `place`
unfoldable pub kept_list_from : ℕ → List Flagged → List Overrun → List Flagged
kept_list_from place [] overruns = []
kept_list_from place (c ∷ cs) overruns =
    if list_any (λ o. o.at == place) overruns
    then kept_list_from (place + 1) cs overruns
    else c ∷ kept_list_from (place + 1) cs overruns

abbrev pub kept_list : List Flagged → List Overrun → List Flagged
kept_list list overruns = kept_list_from 0 list overruns

-- the k-th of these overruns, and those after it: the places rise from `floor`, before each stand that
-- many characters, of which k were refused, and the buffer is full
unfoldable pub AreShown : (capacity k floor : ℕ) → List Overrun → Type 0
AreShown capacity k floor [] = Unit {0}
AreShown capacity k floor (o ∷ overruns) =
    (floor ≤ o.at) × (o.sent + k ≡ o.at) × (o.sent ≡ o.seen + capacity) × AreShown capacity (k + 1) (o.at + 1) overruns

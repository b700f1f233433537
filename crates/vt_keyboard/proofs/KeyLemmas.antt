-- What a key adds to the line of a console, and to what is told of it.
use Rattle.std.proofs.Common.{◌≡◌, ℕ, ◌+◌, ◌-◌, ◌<◌, ◌≤◌, List, [], ◌∷◌, ◌++◌}
use Rattle.std.proofs.Common.{length, refl, sym, ap, ◌∙◌, arith, length-append}
use Rattle.std.specs.Prelude.{replicate, slice_index_or}
use Rattle.std.proofs.lemmas.List.{append_cancel_left, length-replicate, get_or-replicate}
use Rattle.std.specs.List.Sorted.{IsNonDecreasing}
use Rattle.tty_base.specs.declared.characters.Flagged.{Flagged}
use Rattle.tty_base.specs.declared.lines.Full.{Full}
use Rattle.tty_base.specs.declared.lines.Overrun.{Overrun}
use Rattle.uart_line.specs.Offered.{PutAnswer, appends, refuses, appended_list, overrun_list, IsFullAt, HandsOver}

-- ---- what an end answered to one character

over_none : (place capacity : ℕ) (answers : List PutAnswer)
    → length answers ≡ 1
    → 0 < capacity
    → IsFullAt capacity 0 answers
    → overrun_list place 0 answers ≡ []
unfolding overrun_list IsFullAt
over_none place capacity [] e some full = absurd (omega (arith, e))
over_none place capacity (appends ∷ []) e some full = refl
over_none place capacity (appends ∷ x ∷ xs) e some full = absurd (omega (arith, e))
over_none place capacity (refuses s ∷ xs) e some full = absurd (omega (arith, full.0, some))

over_one : (place capacity seen : ℕ) (c : Flagged) (answers : List PutAnswer) (sent sent' : List Flagged)
    → length answers ≡ 1
    → sent' ≡ sent ++ appended_list (c ∷ []) answers
    → length sent' ≡ length sent
    → IsFullAt capacity (length sent) answers
    → length sent ≡ seen + capacity
    → overrun_list place (length sent) answers ≡ record { at = place; sent = length sent; seen = seen } ∷ []
unfolding overrun_list appended_list IsFullAt
over_one place capacity seen c [] sent sent' e s same full h = absurd (omega (arith, e))
over_one place capacity seen c (appends ∷ xs) sent sent' e s same full h =
    absurd (omega (arith, ap length s, length-append sent (c ∷ appended_list [] xs)))
over_one place capacity seen c (refuses k ∷ []) sent sent' e s same full h =
    let is_seen : k ≡ seen = omega (arith, full.0, h) in
    ap (λ (n : ℕ). record { at = place; sent = length sent; seen = n } ∷ []) is_seen
over_one place capacity seen c (refuses k ∷ x ∷ xs) sent sent' e s same full h = absurd (omega (arith, e))

-- an empty end with room accepts it
pub accepted_notes : (capacity : ℕ) (c : Flagged) (all all' sent' : List Flagged) (heads heads' : List ℕ)
    (overruns overruns' : List Overrun)
    → 0 < capacity
    → HandsOver capacity all all' [] sent' heads heads' overruns overruns'
    → all' ≡ all ++ c ∷ []
    → overruns' ≡ overruns ++ []
accepted_notes capacity c all all' sent' heads heads' overruns overruns' some h one =
    let list : h.list ≡ c ∷ [] = append_cancel_left all h.list (c ∷ []) (sym h.grows ∙ one) in
    let each : length h.offers.answers ≡ 1 = h.offers.one_each ∙ ap length list in
    h.offers.adds_refused
    ∙ ap (λ (l : List Overrun). overruns ++ l)
    (over_none (length all) capacity h.offers.answers each some h.offers.is_full)

-- an end whose list stays refuses each
pub refused_notes : (f : Full) (c : Flagged) (all all' sent sent' : List Flagged) (heads heads' : List ℕ)
    (overruns overruns' : List Overrun)
    → f.seen ≤ f.sent
    → length sent ≡ f.sent
    → length sent' ≡ f.sent
    → HandsOver (f.sent - f.seen) all all' sent sent' heads heads' overruns overruns'
    → all' ≡ all ++ c ∷ []
    → overruns' ≡ overruns ++ record { at = length all; sent = f.sent; seen = f.seen } ∷ []
refused_notes f c all all' sent sent' heads heads' overruns overruns' within was is h one =
    let list : h.list ≡ c ∷ [] = append_cancel_left all h.list (c ∷ []) (sym h.grows ∙ one) in
    let each : length h.offers.answers ≡ 1 = h.offers.one_each ∙ ap length list in
    let appends_rest : sent' ≡ sent ++ appended_list (c ∷ []) h.offers.answers =
    h.offers.appends_rest ∙ ap (λ (l : List Flagged). sent ++ appended_list l h.offers.answers) list in
    let numbers : length sent ≡ f.seen + (f.sent - f.seen) = omega (arith, was, within) in
    h.offers.adds_refused
    ∙ ap (λ (l : List Overrun). overruns ++ l)
    (over_one (length all) (f.sent - f.seen) f.seen c h.offers.answers sent sent' each appends_rest (is ∙ sym was)
    h.offers.is_full numbers)
    ∙ ap (λ (n : ℕ). overruns ++ record { at = length all; sent = n; seen = f.seen } ∷ []) was

-- one number again and again does not fall
pub stays_level : (n a : ℕ) → IsNonDecreasing (replicate n a)
stays_level n a i j d le lt =
    let below : j < n = omega (arith, length-replicate n a, lt) in
    let first : slice_index_or (replicate n a) i d ≡ a = get_or-replicate n i a d (omega arith) in
    let second : slice_index_or (replicate n a) j d ≡ a = get_or-replicate n j a d below in
    omega (arith, first, second)

-- What each seat of a ring knows, over a change of one or two.
use Rattle.std.proofs.Common.{◌≡◌, ◌≢◌, ℕ, zero, suc, ◌≤◌, List, [], ◌∷◌, ◌++◌, length}
use Rattle.std.proofs.Common.{set, refl, sym, ap, subst, ⊎_elim, inl, inr, ◌⊎◌, arith}
use Rattle.std.proofs.lemmas.Bool.{false≢true}
use mathlib.Core.List.{IsPrefix}
use mathlib.Core.Option.{some, some-injective, some-ne-none}
use lib.ListN.{get_elem?}
use Rattle.atomic_table.proofs.Lists.{at_set}
use Rattle.word_ring.specs.declared.table.View.{View}
use Rattle.word_ring.specs.Ends.{AreReleased}
use Rattle.word_ring.specs.Plays.{blank_view}
use Rattle.word_ring.specs.Rule.{Story, KnowsPuts, KnowsTakes, Knows}
use Rattle.word_ring.proofs.Beginnings.{begins_through, begins_length}

-- an item of a list with one more at its end
pub at_end : {A : Type 0} (l : List A) (a b : A) (j : ℕ)
    → get_elem? (l ++ a ∷ []) j ≡ some b
    → (get_elem? l j ≡ some b) ⊎ ((j ≡ length l) × (a ≡ b))
at_end [] a b zero e = inr (refl, some-injective a b e)
at_end [] a b (suc j) e = absurd (some-ne-none b (sym e))
at_end (x ∷ xs) a b zero e = inl e
at_end (x ∷ xs) a b (suc j) e = ⊎_elim (λ t. inl t) (λ t. inr (ap suc t.0, t.1)) (at_end xs a b j e)

-- nothing that was done is undone
pub record GoesOn (g g' : Story) : Type 0 where
  pub pushed : IsPrefix g.pushed g'.pushed
  pub released : (hs : List ℕ) → AreReleased g.released hs → AreReleased g'.released hs
  pub taken : length g.taken ≤ length g'.taken

pub knows_on : (n : ℕ) (g g' : Story) (seat : ℕ) (v : View)
    → GoesOn g g'
    → (KnowsPuts n g seat v → KnowsPuts n g' seat v)
    → (KnowsTakes n g seat v → KnowsTakes n g' seat v)
    → Knows n g seat v
    → Knows n g' seat v
knows_on n g g' seat v on puts takes k = record {
  noted = begins_through v.noted g.pushed g'.pushed k.noted on.pushed;
  noted_heads = on.released v.noted_heads k.noted_heads;
  head = (let a = k.head in let b = on.taken in omega arith);
  tail = (let a = k.tail in let b = begins_length g.pushed g'.pushed on.pushed in omega arith);
  puts = λ is. puts (k.puts is);
  takes = λ is. takes (k.takes is);
}

pub knows_nothing : (n : ℕ) (g : Story) (seat : ℕ) → Knows n g seat blank_view
knows_nothing n g seat = record {
  noted = (g.pushed, refl);
  noted_heads = λ k d lt. absurd (omega arith);
  head = omega arith;
  tail = omega arith;
  puts = λ is. absurd (false≢true is);
  takes = λ is. absurd (false≢true is);
}

abbrev pub Each : ℕ → Story → List View → Type 0
Each n g views = (seat : ℕ) (v : View) → get_elem? views seat ≡ some v → Knows n g seat v

-- one seat has a new view
pub each_set : (n : ℕ) (g g' : Story) (views : List View) (id : ℕ) (w : View) → Each n g views → Knows n g' id w
    → ((seat : ℕ) (v : View) → seat ≢ id → Knows n g seat v → Knows n g' seat v) → Each n g' (set views id w)
each_set n g g' views id w each known on seat v at = ⊎_elim
    (λ hit. subst (λ (z : ℕ × View). Knows n g' z.0 z.1) (λ i. (sym hit.0 i, hit.1 i)) known)
    (λ miss. on seat v miss.0 (each seat v miss.1))
    (at_set views id seat w v at)

-- there is one more seat
pub each_end : (n : ℕ) (g : Story) (views : List View) (w : View)
    → Each n g views
    → Knows n g (length views) w
    → Each n g (views ++ w ∷ [])
each_end n g views w each known seat v at = ⊎_elim
    (λ old. each seat v old)
    (λ new. subst (λ (z : ℕ × View). Knows n g z.0 z.1) (λ i. (sym new.0 i, new.1 i)) known)
    (at_end views w v seat at)

-- what a seat knew before another one changed
pub known_before : (n : ℕ) (g : Story) (views : List View) (id other : ℕ) (u w : View)
    → Each n g views
    → ¬ (other ≡ id)
    → get_elem? (set views id u) other ≡ some w
    → Knows n g other w
known_before n g views id other u w each apart at =
    ⊎_elim (λ hit. absurd (apart hit.0)) (λ miss. each other w miss.1) (at_set views id other u w at)

-- one seat took in what another knew, which knows nothing then
pub each_join : (n : ℕ) (g g' : Story) (views : List View) (id other : ℕ) (w : View)
    → Each n g views
    → Knows n g' id w
    → ((seat : ℕ) (v : View) → seat ≢ id → seat ≢ other → Knows n g seat v → Knows n g' seat v)
    → Each n g' (set (set views id w) other blank_view)
each_join n g g' views id other w each known on seat v at = ⊎_elim
    (λ hit. subst (λ (z : View). Knows n g' seat z) hit.1 (knows_nothing n g' seat))
    (λ miss. ⊎_elim
    (λ hit. subst (λ (z : ℕ × View). Knows n g' z.0 z.1) (λ i. (sym hit.0 i, hit.1 i)) known)
    (λ old. on seat v old.0 miss.0 (each seat v old.1))
    (at_set views id seat w v miss.1))
    (at_set (set views id w) other seat blank_view v at)

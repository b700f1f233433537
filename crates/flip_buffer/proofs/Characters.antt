-- Lists of numbers seen as characters.
use Rattle.std.proofs.Common.{arith, ◌/◌, ◌%◌, ◌≡◌, ℕ, suc, ◌<◌, ◌≤◌, List, [], ◌∷◌, ◌++◌, map}
use Rattle.std.proofs.Common.{length, get_or, true, refl, sym, ap, subst, ◌∙◌, ⊎_elim, inl, inr}
use mathlib.Core.List.{IsPrefix, map-append}
use Rattle.std.proofs.lemmas.List.{append-nil, length-map}
use Rattle.std.specs.List.{All}
use Rattle.tty_base.specs.Characters.{good_character, good_characters}
use Rattle.tty_base.specs.declared.characters.Flagged.{Flagged}
use Rattle.word_ring.specs.Ends.{PutterState, TakerState, IsOneWithin, Passes, with_taken}
use Rattle.word_ring.specs.Lanes.{LANE, THREE_LANES, TWO_LANES, lane, lanes}
use Rattle.flip_buffer.specs.Packed.{char_of, flag_of_number, in_state, out_state}

pub chars_begin : (xs ys : List ℕ) → IsPrefix xs ys → IsPrefix (map char_of xs) (map char_of ys)
chars_begin xs ys p = (map char_of p.0, sym (map-append char_of xs p.0) ∙ ap (map char_of) p.1)

pub chars_within : (xs ys : List ℕ) → IsOneWithin xs ys → IsOneWithin (map char_of xs) (map char_of ys)
chars_within xs ys one = ⊎_elim (λ p. inl (chars_begin xs ys p)) (λ p. inr (chars_begin ys xs p)) one

-- what was taken begins what was put, where that is known
pub begins_seen : (t : TakerState ℕ) (u : TakerState Flagged)
    → out_state t ≡ u
    → (t.ended ≡ true → IsPrefix t.taken t.sent)
    → u.ended ≡ true
    → IsPrefix u.taken u.sent
begins_seen t u e begins = subst (λ (z : TakerState Flagged). z.ended ≡ true → IsPrefix z.taken z.sent) e
    (λ is. chars_begin t.taken t.sent (begins is))

-- numbers that were taken are characters that were taken
pub out_taken : (t : TakerState ℕ) (xs : List ℕ)
    → out_state (with_taken t xs) ≡ with_taken (out_state t) (map char_of xs)
out_taken t [] = refl
out_taken t (x ∷ xs) =
    let both = map-append char_of t.taken (x ∷ xs) in
    let count : length (t.taken ++ x ∷ xs) ≡ length (map char_of t.taken ++ map char_of (x ∷ xs)) =
    sym (length-map (t.taken ++ x ∷ xs) char_of) ∙ ap length both in
    λ i. record {
      ring = t.ring;
      capacity = t.capacity;
      taken = both i;
      peeked = [];
      released = t.released ++ count i ∷ [];
      tails = t.tails;
      floor = t.floor;
      ended = t.ended;
      sent = map char_of t.sent;
    }

-- what taking some changes, and what stays
pub record Took {A : Type 0} (t t' : TakerState A) (xs : List A) : Type 0 where
  pub ring : t'.ring ≡ t.ring
  pub capacity : t'.capacity ≡ t.capacity
  pub taken : t'.taken ≡ t.taken ++ xs
  pub tails : t'.tails ≡ t.tails
  pub floor : t'.floor ≡ t.floor
  pub ended : t'.ended ≡ t.ended
  pub sent : t'.sent ≡ t.sent

pub took : {A : Type 0} (t : TakerState A) (xs : List A) → Took t (with_taken t xs) xs
took t [] = record {
  ring = refl;
  capacity = refl;
  taken = sym (append-nil t.taken);
  tails = refl;
  floor = refl;
  ended = refl;
  sent = refl;
}
took t (x ∷ xs) =
    record { ring = refl; capacity = refl; taken = refl; tails = refl; floor = refl; ended = refl; sent = refl }

-- where all that was peeked is taken, nothing is peeked
pub none_left : {A : Type 0} (t : TakerState A) (xs : List A) → xs ≡ t.peeked → (with_taken t xs).peeked ≡ []
none_left t [] all = sym all
none_left t (x ∷ xs) all = refl

-- the characters of a word
pub four_of_word : (w : ℕ) (a b c d : Flagged)
    → a ≡ char_of (w % LANE)
    → b ≡ char_of (w / LANE % LANE)
    → c ≡ char_of (w / TWO_LANES % LANE)
    → d ≡ char_of (w / THREE_LANES % LANE)
    → a ∷ b ∷ c ∷ d ∷ [] ≡ map char_of (lanes w 4)
unfolding lane
four_of_word w a b c d p q r s =
    let first : w % LANE ≡ w / 1 % LANE = omega arith in
    λ i. (p ∙ ap char_of first) i ∷ q i ∷ r i ∷ s i ∷ []

-- ---- what passes

-- a byte's number stands for its good character
good_one_seen : (x : ℕ) → x < 256 → good_character x ≡ char_of x
good_one_seen x small =
    let byte : x ≡ x % 256 = omega arith in
    let none : 0 ≡ x / 256 = omega arith in
    λ i. record { byte = byte i; flag = ap flag_of_number none i }

pub good_seen : (xs : List ℕ) → ((k : ℕ) → get_or xs k 0 < 256) → good_characters xs ≡ map char_of xs
good_seen [] small = refl
good_seen (x ∷ xs) small = λ i. good_one_seen x (small 0) i ∷ good_seen xs (λ k. small (suc k)) i

-- numbers that pass are characters that pass
pub passes_seen : (p p' : PutterState ℕ) (t t' : TakerState ℕ) (xs : List ℕ)
    → Passes p p' t t' xs
    → Passes (in_state p) (in_state p') (out_state t) (out_state t') (map char_of xs)
passes_seen p p' t t' xs passes =
    let sent = map-append char_of p.sent xs in
    let count : length (p.sent ++ xs) ≡ length (map char_of p.sent ++ map char_of xs) =
    sym (length-map (p.sent ++ xs) char_of) ∙ ap length sent in
    let before : length p.sent ≡ length (map char_of p.sent) = sym (length-map p.sent char_of) in
    record {
      met = ap (map char_of) passes.met;
      putter =
          ap in_state passes.putter
          ∙ (λ i. record {
            ring = p.ring;
            capacity = p.capacity;
            sent = sent i;
            pushed = sent i;
            heads = p.heads ++ count i ∷ [];
            floor = count i;
          });
      taker =
          ap out_state passes.taker
          ∙ (λ i. record {
            ring = t.ring;
            capacity = t.capacity;
            taken = sent i;
            peeked = [];
            released = t.released ++ count i ∷ [];
            tails = t.tails ++ count i ∷ [];
            floor = count i;
            ended = t.ended;
            sent = map char_of t.sent;
          });
      floor = omega (arith, passes.floor, before);
      heads = subst (λ n. All (λ h. h ≤ n) p'.heads) count passes.heads;
      rise = passes.rise;
    }

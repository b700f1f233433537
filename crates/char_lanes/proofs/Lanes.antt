-- From the mask of a comparison with one number to each number; numbers and bytes of characters; facts of all in a
-- list.
use Rattle.std.proofs.Common.{◌≡◌, ◌≢◌, ℕ, ◌+◌, ◌-◌, ◌*◌, ◌%◌, ◌^◌, ◌≤◌, Bool, true, false, cond, eqb, w16, List, []}
use Rattle.std.proofs.Common.{◌∷◌, ◌++◌, map, length, get_or, take, drop, replicate, refl, sym, ap, subst, ◌∙◌, arith}
use Rattle.std.proofs.lemmas.Bool.{eqb-true}
use Rattle.std.proofs.lemmas.List.{length-map, append_assoc}
use Rattle.std.proofs.Math.Seq.{take-add}
use mathlib.Core.List.{map-append}
use Rattle.std.proofs.lemmas.Simd.{mask_l-mod, tops_compared, zip2_splat, zip2_splat_left}
use Rattle.std.specs.List.{AllByRecursion}
use lib.Lanes.{zip2, mask_l, top}
use Rattle.tty_base.specs.declared.characters.Flag.{Flag}
use Rattle.tty_base.specs.declared.characters.Flag.TheVariants.{Normal, Break, Parity, Frame, Overrun}
use Rattle.tty_base.specs.declared.characters.Flagged.{Flagged}
use Rattle.char_lanes.specs.Runs.{IsInBounds, bytes_in, number_of, number_of_flag}

module _ {X : Type 0} where
  pub all_weaker : (P Q : X → Type 0)
      → ((x : X) → P x → Q x)
      → (xs : List X)
      → AllByRecursion P xs
      → AllByRecursion Q xs
  all_weaker P Q f [] all = tt
  all_weaker P Q f (x ∷ xs) all = (f x all.0, all_weaker P Q f xs all.1)

  pub all_append : (P : X → Type 0) (xs ys : List X)
      → AllByRecursion P xs
      → AllByRecursion P ys
      → AllByRecursion P (xs ++ ys)
  all_append P [] ys front rest = rest
  all_append P (x ∷ xs) ys front rest = (front.0, all_append P xs ys front.1 rest)

-- ---- masks

clear : (b : Bool) (m : ℕ) → cond b 1 0 + 2 * m ≡ 0 → (b ≡ false) × (m ≡ 0)
clear true m e = absurd (omega arith)
clear false m e = (refl, omega arith)

-- where no bit is set, each number fails the test
all_clear : (t : ℕ → Bool) (xs : List ℕ) → mask_l (map t xs) ≡ 0 → AllByRecursion (λ n. t n ≡ false) xs
all_clear t [] e = tt
all_clear t (x ∷ xs) e = let h = clear (t x) (mask_l (map t xs)) e in (h.0, all_clear t xs h.1)

module _ (t : ℕ → ℕ → Bool) (xs : List ℕ) (y : ℕ) (long : length xs ≡ 8) where
  mask_of : (ms : List Bool) (p : ℕ → Bool) → ms ≡ map p xs → eqb (mask_l ms % 2 ^ 64) 0 ≡ true → mask_l (map p xs) ≡ 0
  mask_of ms p same none =
      sym (ap (λ l. mask_l l % 2 ^ 64) same ∙ mask_l-mod (map p xs) 64 (omega (arith, long, length-map xs p)))
      ∙ eqb-true _ 0 none

  -- `to_bitmask` of the comparison of numbers with a splat is 0
  pub none_passes : eqb (mask_l (map (top 15) (zip2 (λ a b. cond (t a b) (2 ^ 16 - 1) 0) xs (replicate 8 y))) % 2 ^ 64)
      0 ≡ true
      → AllByRecursion (λ n. t n y ≡ false) xs
  none_passes none =
      all_clear (λ x. t x y) xs (mask_of _ _ (tops_compared w16 t xs (replicate 8 y) ∙ zip2_splat t xs 8 y long) none)

  -- the same with the splat before the numbers
  pub none_passes_left : eqb
      (mask_l (map (top 15) (zip2 (λ a b. cond (t a b) (2 ^ 16 - 1) 0) (replicate 8 y) xs)) % 2 ^ 64) 0 ≡ true
      → AllByRecursion (λ n. t y n ≡ false) xs
  none_passes_left none =
      all_clear (λ x. t y x) xs
      (mask_of _ _ (tops_compared w16 t (replicate 8 y) xs ∙ zip2_splat_left t y 8 xs long) none)

-- ---- characters

good_number : (flag : Flag) (byte : ℕ) → byte + 256 * number_of_flag flag ≤ 255 → flag ≡ Normal
good_number Normal byte le = refl
good_number Break byte le = absurd (omega arith)
good_number Parity byte le = absurd (omega arith)
good_number Frame byte le = absurd (omega arith)
good_number Overrun byte le = absurd (omega arith)

number_is : (c : Flagged) → c.flag ≡ Normal → number_of c ≡ c.byte
number_is c good =
    let same : c.byte + 256 * 0 ≡ c.byte = omega arith in ap (λ f. c.byte + 256 * number_of_flag f) good ∙ same

-- what is none of some, for each of two facts about all pairs
none_of : (n : ℕ) (ns : List ℕ) (without : List ℕ) → AllByRecursion (λ x. AllByRecursion (λ m. m ≢ x) (n ∷ ns)) without
    → AllByRecursion (λ x. n ≢ x) without
none_of n ns without all = all_weaker (λ x. AllByRecursion (λ m. m ≢ x) (n ∷ ns)) (λ x. n ≢ x) (λ x h. h.0) without all

others_none : (n : ℕ) (ns : List ℕ) (without : List ℕ)
    → AllByRecursion (λ x. AllByRecursion (λ m. m ≢ x) (n ∷ ns)) without
    → AllByRecursion (λ x. AllByRecursion (λ m. m ≢ x) ns) without
others_none n ns without all =
    all_weaker (λ x. AllByRecursion (λ m. m ≢ x) (n ∷ ns)) (λ x. AllByRecursion (λ m. m ≢ x) ns) (λ x h. h.1)
    without all

-- characters whose numbers are of a run
pub all_in : (first last : ℕ) (without : List ℕ) (cs : List Flagged)
    → last ≤ 255
    → AllByRecursion (λ n. first ≤ n) (map number_of cs)
    → AllByRecursion (λ n. n ≤ last) (map number_of cs)
    → AllByRecursion (λ x. AllByRecursion (λ n. n ≢ x) (map number_of cs)) without
    → AllByRecursion (IsInBounds first last without) cs
all_in first last without [] le low high none = tt
all_in first last without (c ∷ cs) le low high none =
    let good = good_number c.flag c.byte (omega (arith, high.0)) in
    let is = number_is c good in (
      record {
        good = good;
        low = omega (arith, low.0, is);
        high = omega (arith, high.0, is);
        none =
            subst (λ n. AllByRecursion (λ x. n ≢ x) without) is (none_of (number_of c) (map number_of cs) without none);
      },
      all_in first last without cs le low.1 high.1 (others_none (number_of c) (map number_of cs) without none),
    )

-- and their numbers are their bytes
pub numbers_are : (first last : ℕ) (without : List ℕ) (cs : List Flagged)
    → AllByRecursion (IsInBounds first last without) cs
    → map number_of cs ≡ bytes_in cs
numbers_are first last without [] all = refl
numbers_are first last without (c ∷ cs) all =
    λ i. number_is c all.0.good i ∷ numbers_are first last without cs all.1 i

-- ---- eight characters

pub eight_are : (cs : List Flagged) (d : Flagged)
    → length cs ≡ 8
    → number_of (get_or cs 0 d) ∷ number_of (get_or cs 1 d) ∷ number_of (get_or cs 2 d) ∷ number_of (get_or cs 3 d)
    ∷ number_of (get_or cs 4 d) ∷ number_of (get_or cs 5 d) ∷ number_of (get_or cs 6 d) ∷ number_of (get_or cs 7 d)
    ∷ [] ≡ map number_of cs
eight_are [] x long = absurd (omega arith)
eight_are (a ∷ []) x long = absurd (omega arith)
eight_are (a ∷ b ∷ []) x long = absurd (omega arith)
eight_are (a ∷ b ∷ c ∷ []) x long = absurd (omega arith)
eight_are (a ∷ b ∷ c ∷ d ∷ []) x long = absurd (omega arith)
eight_are (a ∷ b ∷ c ∷ d ∷ e ∷ []) x long = absurd (omega arith)
eight_are (a ∷ b ∷ c ∷ d ∷ e ∷ f ∷ []) x long = absurd (omega arith)
eight_are (a ∷ b ∷ c ∷ d ∷ e ∷ f ∷ g ∷ []) x long = absurd (omega arith)
eight_are (a ∷ b ∷ c ∷ d ∷ e ∷ f ∷ g ∷ h ∷ []) x long = refl
eight_are (a ∷ b ∷ c ∷ d ∷ e ∷ f ∷ g ∷ h ∷ i ∷ cs) x long = absurd (omega arith)

-- ---- runs that go on

-- what is added for the front and then for the rest
pub added_both : (old new last : List ℕ) (n m : ℕ) (cs : List Flagged) → new ≡ old ++ bytes_in (take n cs)
    → last ≡ new ++ bytes_in (take m (drop n cs)) → last ≡ old ++ bytes_in (take (n + m) cs)
added_both old new last n m cs front rest =
    rest ∙ ap (λ l. l ++ bytes_in (take m (drop n cs))) front
    ∙ append_assoc old (bytes_in (take n cs)) (bytes_in (take m (drop n cs)))
    ∙ ap (λ l. old ++ l)
    (sym (map-append (λ (c : Flagged). c.byte) (take n cs) (take m (drop n cs))) ∙ ap bytes_in (sym (take-add n m cs)))

pub run_both : (P : Flagged → Type 0) (n m : ℕ) (cs : List Flagged)
    → AllByRecursion P (take n cs)
    → AllByRecursion P (take m (drop n cs))
    → AllByRecursion P (take (n + m) cs)
run_both P n m cs front rest =
    subst (AllByRecursion P) (sym (take-add n m cs)) (all_append P (take n cs) (take m (drop n cs)) front rest)

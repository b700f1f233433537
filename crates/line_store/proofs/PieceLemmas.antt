-- Bytes and the lengths of pieces as items.
use Rattle.std.proofs.Common.{◌≡◌, ◌∙◌, ℕ, zero, suc, ◌+◌, ◌-◌, ◌<◌, ◌≤◌, min, Bool, true, false}
use Rattle.std.proofs.Common.{cond, eqb, nat_le, List, [], ◌∷◌, ◌++◌, length, map, take, drop}
use Rattle.std.proofs.Common.{ap, refl, sym, arith, get_or, inl, inr, length-append, length-drop}
use Rattle.std.proofs.lemmas.Bool.{cases_eq, le-leb, leb-true, leb-false, eq-eqb, ne_eqb}
use Rattle.std.proofs.lemmas.List.{take_min, drop_min, length-take, take-take, nil_from_length}
use Rattle.tty_base.specs.Sizes.{MOST_ENDS, MOST_UNREAD}
use Rattle.line_store.specs.Unread.{Item, Byte, End, bytes_of, end_count, first_piece, line_of, after_line}
use Rattle.line_store.specs.Pieces.{items_of, total, after_front, IsStore}
use Rattle.line_store.proofs.ItemLemmas.{bytes_of-append, bytes_of-plain, end_count-append}
use Rattle.line_store.proofs.ItemLemmas.{end_count-plain, take-first_piece}

joined : (n : ℕ) (bs : List ℕ) → take n bs ++ drop n bs ≡ bs
joined zero bs = refl
joined (suc n) [] = refl
joined (suc n) (b ∷ bs) = ap (λ rest. b ∷ rest) (joined n bs)

pub bytes_of-items_of : (ns bs : List ℕ) → bytes_of (items_of ns bs) ≡ bs
bytes_of-items_of [] bs = bytes_of-plain bs
bytes_of-items_of (n ∷ ns) bs =
    bytes_of-append (map Byte (take n bs)) (End ∷ items_of ns (drop n bs))
    ∙ ap (λ front. front ++ bytes_of (items_of ns (drop n bs))) (bytes_of-plain (take n bs))
    ∙ ap (λ rest. take n bs ++ rest) (bytes_of-items_of ns (drop n bs))
    ∙ joined n bs

pub end_count-items_of : (ns bs : List ℕ) → end_count (items_of ns bs) ≡ length ns
end_count-items_of [] bs = end_count-plain bs
end_count-items_of (n ∷ ns) bs =
    omega (
      arith,
      end_count-append (map Byte (take n bs)) (End ∷ items_of ns (drop n bs)),
      end_count-plain (take n bs),
      end_count-items_of ns (drop n bs),
    )

mapped : (xs ys : List ℕ) → map Byte (xs ++ ys) ≡ map Byte xs ++ map Byte ys
mapped [] ys = refl
mapped (x ∷ xs) ys = ap (λ rest. Byte x ∷ rest) (mapped xs ys)

-- more bytes stand after all ends
pub items_of-append : (ns bs more : List ℕ)
    → total ns ≤ length bs
    → items_of ns (bs ++ more) ≡ items_of ns bs ++ map Byte more
items_of-append [] bs more within = mapped bs more
items_of-append (zero ∷ ns) bs more within = ap (λ rest. End ∷ rest) (items_of-append ns bs more (omega arith))
items_of-append (suc n ∷ ns) [] more within = absurd (omega arith)
items_of-append (suc n ∷ ns) (b ∷ bs) more within =
    ap (λ rest. Byte b ∷ rest) (items_of-append (n ∷ ns) bs more (omega arith))

-- all bytes after the last end become a piece
pub items_of-end : (ns bs : List ℕ) (unended : ℕ)
    → total ns + unended ≡ length bs
    → items_of (ns ++ unended ∷ []) bs ≡ items_of ns bs ++ End ∷ []
items_of-end [] [] zero all = refl
items_of-end [] [] (suc unended) all = absurd (omega arith)
items_of-end [] (b ∷ bs) zero all = absurd (omega arith)
items_of-end [] (b ∷ bs) (suc unended) all = ap (λ rest. Byte b ∷ rest) (items_of-end [] bs unended (omega arith))
items_of-end (zero ∷ ns) bs unended all = ap (λ rest. End ∷ rest) (items_of-end ns bs unended (omega arith))
items_of-end (suc n ∷ ns) [] unended all = absurd (omega arith)
items_of-end (suc n ∷ ns) (b ∷ bs) unended all =
    ap (λ rest. Byte b ∷ rest) (items_of-end (n ∷ ns) bs unended (omega arith))

pub total-end : (ns : List ℕ) (n : ℕ) → total (ns ++ n ∷ []) ≡ total ns + n
total-end [] n = omega arith
total-end (m ∷ ns) n = omega (arith, total-end ns n)

pub first_piece-plain : (bs : List ℕ) → first_piece (map Byte bs) ≡ bs
first_piece-plain [] = refl
first_piece-plain (b ∷ bs) = ap (λ rest. b ∷ rest) (first_piece-plain bs)

pub first_piece-items_of : (n : ℕ) (ns bs : List ℕ) → first_piece (items_of (n ∷ ns) bs) ≡ take n bs
first_piece-items_of zero ns bs = refl
first_piece-items_of (suc n) ns [] = refl
first_piece-items_of (suc n) ns (b ∷ bs) = ap (λ rest. b ∷ rest) (first_piece-items_of n ns bs)

-- a piece that is read whole goes with its end
pub drop-piece : (n : ℕ) (ns bs : List ℕ)
    → n ≤ length bs
    → drop (suc n) (items_of (n ∷ ns) bs) ≡ items_of ns (drop n bs)
drop-piece zero ns bs within = refl
drop-piece (suc n) ns [] within = absurd (omega arith)
drop-piece (suc n) ns (b ∷ bs) within = drop-piece n ns bs (omega arith)

drop_none : {X : Type 0} → (xs : List X) → drop 0 xs ≡ xs
drop_none [] = refl
drop_none (x ∷ xs) = refl

-- of a piece that is read in part the rest stays
pub drop-front : (k n left : ℕ) (ns bs : List ℕ)
    → n ≡ k + left
    → n ≤ length bs
    → drop k (items_of (n ∷ ns) bs) ≡ items_of (left ∷ ns) (drop k bs)
drop-front zero n left ns bs split within =
    let same : n ≡ left = omega arith in
    drop_none (items_of (n ∷ ns) bs)
    ∙ ap (λ m. items_of (m ∷ ns) bs) same
    ∙ ap (items_of (left ∷ ns)) (sym (drop_none bs))
drop-front (suc k) zero left ns bs split within = absurd (omega arith)
drop-front (suc k) (suc n) left ns [] split within = absurd (omega arith)
drop-front (suc k) (suc n) left ns (b ∷ bs) split within = drop-front k n left ns bs (omega arith) (omega arith)

pub drop-plain : (k : ℕ) (bs : List ℕ) → drop k (map Byte bs) ≡ map Byte (drop k bs)
drop-plain zero bs = refl
drop-plain (suc k) [] = refl
drop-plain (suc k) (b ∷ bs) = drop-plain k bs

after_line-whole : (most k : ℕ) (items : List Item)
    → length (first_piece items) ≡ k
    → k ≤ most
    → after_line most items ≡ drop (suc k) items
after_line-whole most k items is whole =
    ap (λ m. cond (nat_le m most) (drop (suc m) items) (drop most items)) is
    ∙ ap (λ b. cond b (drop (suc k) items) (drop most items)) (le-leb k most whole)

after_line-part : (most k : ℕ) (items : List Item)
    → length (first_piece items) ≡ k
    → nat_le k most ≡ false
    → after_line most items ≡ drop most items
after_line-part most k items is part =
    ap (λ m. cond (nat_le m most) (drop (suc m) items) (drop most items)) is
    ∙ ap (λ b. cond b (drop (suc k) items) (drop most items)) part

after_front-whole : (n : ℕ) (ns : List ℕ) → after_front n (n ∷ ns) ≡ ns
after_front-whole n ns = ap (λ b. cond b ns ((n - n) ∷ ns)) (eq-eqb n n refl)

after_front-part : (count n : ℕ) (ns : List ℕ) → (count ≡ n → ⊥) → after_front count (n ∷ ns) ≡ (n - count) ∷ ns
after_front-part count n ns other = ap (λ b. cond b ns ((n - count) ∷ ns)) (ne_eqb count n other)

length-first : (n : ℕ) (ns bs : List ℕ) → n ≤ length bs → length (first_piece (items_of (n ∷ ns) bs)) ≡ n
length-first n ns bs within =
    let taken = length-take n bs in
    let short : length (take n bs) ≡ n = omega arith in
    ap length (first_piece-items_of n ns bs) ∙ short

taken_by : (n : ℕ) (ns bs : List ℕ) (most count : ℕ) (whole : Bool)
    → nat_le n most ≡ whole
    → n ≤ length bs
    → count ≡ min most n
    → items_of (after_front count (n ∷ ns)) (drop count bs) ≡ after_line most (items_of (n ∷ ns) bs)
taken_by n ns bs most count true is within counted =
    let below : n ≤ most = leb-true n most is in
    let all : count ≡ n = omega arith in
    ap (λ k. items_of (after_front k (n ∷ ns)) (drop k bs)) all
    ∙ ap (λ ms. items_of ms (drop n bs)) (after_front-whole n ns)
    ∙ sym (drop-piece n ns bs within)
    ∙ sym (after_line-whole most n (items_of (n ∷ ns) bs) (length-first n ns bs within) below)
taken_by n ns bs most count false is within counted =
    let above : most < n = leb-false n most is in
    let part : count ≡ most = omega arith in
    let split : n ≡ most + (n - most) = omega arith in
    ap (λ k. items_of (after_front k (n ∷ ns)) (drop k bs)) part
    ∙ ap (λ ms. items_of ms (drop most bs)) (after_front-part most n ns (λ same. omega arith))
    ∙ sym (drop-front most n (n - most) ns bs split within)
    ∙ sym (after_line-part most n (items_of (n ∷ ns) bs) (length-first n ns bs within) is)

taken : (ns bs : List ℕ) (most count : ℕ)
    → total ns ≤ length bs
    → 0 < length ns
    → count ≡ min most (length (first_piece (items_of ns bs)))
    → items_of (after_front count ns) (drop count bs) ≡ after_line most (items_of ns bs)
taken [] bs most count within some is = absurd (omega arith)
taken (n ∷ ns) bs most count within some is =
    taken_by n ns bs most count (nat_le n most) refl (omega arith)
    (is ∙ ap (min most) (length-first n ns bs (omega arith)))

first_length : (ns bs : List ℕ)
    → total ns ≤ length bs
    → 0 < length ns
    → length (first_piece (items_of ns bs)) ≡ get_or ns 0 0
first_length [] bs within some = absurd (omega arith)
first_length (n ∷ ns) bs within some = length-first n ns bs (omega arith)

pub total-after : (ns : List ℕ) (count : ℕ)
    → 0 < length ns
    → count ≤ get_or ns 0 0
    → total (after_front count ns) + count ≡ total ns
total-after [] count some within = absurd (omega arith)
total-after (n ∷ ns) count some within = elim (cases_eq count n) [
  | inl same ↦
      let whole = ap total (ap (λ k. after_front k (n ∷ ns)) same ∙ after_front-whole n ns) in
      omega arith
  | inr other ↦
      let part = ap total (after_front-part count n ns other) in
      omega arith
]

pub length-after : (ns : List ℕ) (count : ℕ) → length (after_front count ns) ≤ length ns
length-after [] count = omega arith
length-after (n ∷ ns) count = elim (cases_eq count n) [
  | inl same ↦
      let whole = ap length (ap (λ k. after_front k (n ∷ ns)) same ∙ after_front-whole n ns) in
      omega arith
  | inr other ↦
      let part = ap length (after_front-part count n ns other) in
      omega arith
]

-- a store's items by its parts
module _ (ns bs : List ℕ) (unended : ℕ) (items : List Item) (store : IsStore ns bs unended)
    (view : items_of ns bs ≡ items) where
  pub bytes_in : bytes_of items ≡ bs
  bytes_in = ap bytes_of (sym view) ∙ bytes_of-items_of ns bs

  pub ends_in : end_count items ≡ length ns
  ends_in = ap end_count (sym view) ∙ end_count-items_of ns bs

  pub first_in-none : length ns < 1 → length (first_piece items) ≡ length bs
  first_in-none few =
      ap (λ i. length (first_piece i)) (sym view)
      ∙ ap (λ ms. length (first_piece (items_of ms bs))) (nil_from_length ns (omega arith))
      ∙ ap length (first_piece-plain bs)

  pub first_in : 0 < length ns → length (first_piece items) ≡ get_or ns 0 0
  first_in some = ap (λ i. length (first_piece i)) (sym view) ∙ first_length ns bs (omega (arith, store.counted)) some

  -- more bytes
  pub more : (later added : List ℕ) → later ≡ bs ++ added → items_of ns later ≡ items ++ map Byte added
  more later added is =
      ap (items_of ns) is
      ∙ items_of-append ns bs added (omega (arith, store.counted))
      ∙ ap (λ i. i ++ map Byte added) view

  abbrev pub store_with_more : (later added : List ℕ)
      → later ≡ bs ++ added
      → length (bytes_of items) + length added ≤ MOST_UNREAD
      → IsStore ns later (unended + length added)
  store_with_more later added is room =
      let grown = ap length is in
      let both = length-append bs added in
      let now = ap length bytes_in in
      record { counted = omega (arith, store.counted); few_bytes = omega arith; few_pieces = store.few_pieces }

  -- one more end
  pub ended : (later : List ℕ) → later ≡ ns ++ unended ∷ [] → items_of later bs ≡ items ++ End ∷ []
  ended later is =
      ap (λ ms. items_of ms bs) is ∙ items_of-end ns bs unended store.counted ∙ ap (λ i. i ++ End ∷ []) view

  abbrev pub store_with_end : (later : List ℕ)
      → later ≡ ns ++ unended ∷ []
      → end_count items < MOST_ENDS
      → IsStore later bs 0
  store_with_end later is few =
      let grown = ap total is in
      let sum = total-end ns unended in
      let longer = ap length is in
      let both = length-append ns (unended ∷ []) in
      record {
        counted = omega (arith, store.counted);
        few_bytes = store.few_bytes;
        few_pieces = omega (arith, ends_in);
      }

  -- a front of the first piece
  module _ (most count : ℕ) (is : count ≡ min most (length (first_piece items))) where
    pub front_of_line : take count bs ≡ line_of most items
    front_of_line =
        ap (take count) (sym bytes_in)
        ∙ sym (take-take count (length (first_piece items)) (bytes_of items) (omega arith))
        ∙ ap (take count) (take-first_piece items)
        ∙ ap (λ k. take k (first_piece items)) is
        ∙ take_min most (first_piece items)

    pub front_within : 0 < end_count items → count ≤ get_or ns 0 0
    front_within some = omega (arith, first_in (omega (arith, ends_in)))

    pub left : 0 < end_count items
        → (lengths bytes : List ℕ)
        → lengths ≡ after_front count ns
        → bytes ≡ drop count bs
        → items_of lengths bytes ≡ after_line most items
    left some lengths bytes lengths_are bytes_are =
        ap (λ ms. items_of ms bytes) lengths_are
        ∙ ap (items_of (after_front count ns)) bytes_are
        ∙ taken ns bs most count (omega (arith, store.counted)) (omega (arith, ends_in))
        (is ∙ ap (λ i. min most (length (first_piece i))) (sym view))
        ∙ ap (after_line most) view

    abbrev pub store_left : 0 < end_count items
        → (lengths bytes : List ℕ)
        → lengths ≡ after_front count ns
        → bytes ≡ drop count bs
        → IsStore lengths bytes unended
    store_left some lengths bytes lengths_are bytes_are =
        let some_lengths : 0 < length ns = omega (arith, ends_in) in
        let sum = total-after ns count some_lengths (front_within some) in
        let now = ap total lengths_are in
        let fewer = length-after ns count in
        let as_many = ap length lengths_are in
        let shorter = ap length bytes_are in
        let rest = length-drop count bs in
        record {
          counted = omega (arith, store.counted);
          few_bytes = omega (arith, store.few_bytes);
          few_pieces = omega (arith, store.few_pieces);
        }

  -- a front of plain bytes
  module _ (most count : ℕ) (is : count ≡ min most (length bs)) (none : end_count items ≡ 0) where
    no_ends : ns ≡ []
    no_ends = nil_from_length ns (omega (arith, ends_in))

    all_unended : unended ≡ length bs
    all_unended = let sum = ap total no_ends in omega (arith, store.counted)

    pub plain_within : count ≤ unended
    plain_within = omega (arith, all_unended)

    pub plain_front : take count bs ≡ take most (bytes_of items)
    plain_front = ap (λ k. take k bs) is ∙ take_min most bs ∙ ap (take most) (sym bytes_in)

    pub plain_left : (bytes : List ℕ) → bytes ≡ drop count bs → items_of ns bytes ≡ drop most items
    plain_left bytes bytes_are =
        ap (λ ms. items_of ms bytes) no_ends
        ∙ ap (map Byte) (bytes_are ∙ ap (λ k. drop k bs) is ∙ drop_min most bs)
        ∙ sym (drop-plain most bs)
        ∙ ap (λ ms. drop most (items_of ms bs)) (sym no_ends)
        ∙ ap (drop most) view

    abbrev pub plain_store : (bytes : List ℕ) → bytes ≡ drop count bs → IsStore ns bytes (unended - count)
    plain_store bytes bytes_are =
        let shorter = ap length bytes_are in
        let rest = length-drop count bs in
        let within = plain_within in
        record {
          counted = omega (arith, store.counted);
          few_bytes = omega (arith, store.few_bytes);
          few_pieces = store.few_pieces;
        }

-- Laws of unread input: its bytes, its ends and its first piece.
use Rattle.std.proofs.Common.{◌≡◌, ℕ, ◌+◌, ◌≤◌, List, [], ◌∷◌, ◌++◌, length, map, take, ap, refl, arith}
use Rattle.line_store.specs.Unread.{Item, Byte, End, bytes_of, end_count, first_piece}

pub bytes_of-append : (xs ys : List Item) → bytes_of (xs ++ ys) ≡ bytes_of xs ++ bytes_of ys
bytes_of-append [] ys = refl
bytes_of-append (Byte b ∷ xs) ys = ap (λ bs. b ∷ bs) (bytes_of-append xs ys)
bytes_of-append (End ∷ xs) ys = bytes_of-append xs ys

pub end_count-append : (xs ys : List Item) → end_count (xs ++ ys) ≡ end_count xs + end_count ys
end_count-append [] ys = omega arith
end_count-append (Byte b ∷ xs) ys = end_count-append xs ys
end_count-append (End ∷ xs) ys = omega (arith, end_count-append xs ys)

pub bytes_of-plain : (bs : List ℕ) → bytes_of (map Byte bs) ≡ bs
bytes_of-plain [] = refl
bytes_of-plain (b ∷ bs) = ap (λ xs. b ∷ xs) (bytes_of-plain bs)

pub end_count-plain : (bs : List ℕ) → end_count (map Byte bs) ≡ 0
end_count-plain [] = refl
end_count-plain (b ∷ bs) = end_count-plain bs

-- items without ends are their bytes
pub plain_without_ends : (items : List Item) → end_count items ≡ 0 → items ≡ map Byte (bytes_of items)
plain_without_ends [] e = refl
plain_without_ends (Byte b ∷ items) e = ap (λ xs. Byte b ∷ xs) (plain_without_ends items e)
plain_without_ends (End ∷ items) e = absurd (omega arith)

-- the first piece is a front of the bytes
pub take-first_piece : (items : List Item) → take (length (first_piece items)) (bytes_of items) ≡ first_piece items
take-first_piece [] = refl
take-first_piece (Byte b ∷ items) = ap (λ bs. b ∷ bs) (take-first_piece items)
take-first_piece (End ∷ items) = refl

pub length-first_piece : (items : List Item) → length (first_piece items) ≤ length (bytes_of items)
length-first_piece [] = omega arith
length-first_piece (Byte b ∷ items) = omega (arith, length-first_piece items)
length-first_piece (End ∷ items) = omega arith

pub first_piece_without_ends : (items : List Item) → end_count items ≡ 0 → first_piece items ≡ bytes_of items
first_piece_without_ends [] e = refl
first_piece_without_ends (Byte b ∷ items) e = ap (λ bs. b ∷ bs) (first_piece_without_ends items e)
first_piece_without_ends (End ∷ items) e = absurd (omega arith)

-- Bytes that are stored, and the ends of pieces.
use Rattle.std.proofs.Common.{◌≡◌, ℕ, ◌+◌, ◌<◌, cond, List, [], ◌∷◌, ◌++◌}
use Rattle.std.proofs.Common.{length, map, ap, ◌∙◌, arith, length-append, le-leb}
use Rattle.tty_base.specs.Sizes.{MOST_LINE}
use Rattle.n_tty_edit.specs.Line.{AddBytes, after_change}
use Rattle.line_store.specs.Unread.{Item, Byte, bytes_of, end_count}
use Rattle.line_store.proofs.ItemLemmas.{bytes_of-append, bytes_of-plain, end_count-append, end_count-plain}

pub length-bytes_of-plain : (items : List Item) (bytes : List ℕ)
    → length (bytes_of (items ++ map Byte bytes)) ≡ length (bytes_of items) + length bytes
length-bytes_of-plain items bytes =
    ap length (bytes_of-append items (map Byte bytes) ∙ ap (λ bs. bytes_of items ++ bs) (bytes_of-plain bytes))
    ∙ length-append (bytes_of items) bytes

pub end_count-with_plain : (items : List Item) (bytes : List ℕ) → end_count (items ++ map Byte bytes) ≡ end_count items
end_count-with_plain items bytes = omega (arith, end_count-append items (map Byte bytes), end_count-plain bytes)

pub length-bytes_of-byte : (items : List Item) (b : ℕ)
    → length (bytes_of (items ++ Byte b ∷ [])) ≡ length (bytes_of items) + 1
length-bytes_of-byte items b = ap length (bytes_of-append items (Byte b ∷ [])) ∙ length-append (bytes_of items) (b ∷ [])

pub end_count-byte : (items : List Item) (b : ℕ) → end_count (items ++ Byte b ∷ []) ≡ end_count items
end_count-byte items b = omega (arith, end_count-append items (Byte b ∷ []))

-- a line that becomes a piece brings its bytes, and its delimiter
pub length-bytes_of-piece : (items : List Item) (line : List ℕ) (tail : List Item)
    → length (bytes_of (items ++ (map Byte line ++ tail)))
    ≡ length (bytes_of items) + (length line + length (bytes_of tail))
length-bytes_of-piece items line tail =
    ap length (bytes_of-append items (map Byte line ++ tail))
    ∙ length-append (bytes_of items) (bytes_of (map Byte line ++ tail))
    ∙ ap (λ n. length (bytes_of items) + n) (
    ap length (bytes_of-append (map Byte line) tail ∙ ap (λ bs. bs ++ bytes_of tail) (bytes_of-plain line))
    ∙ length-append line (bytes_of tail)
    )

-- a byte joins a line that has room for it
pub length-joined : (line : List ℕ) (b : ℕ)
    → length line < MOST_LINE
    → length (after_change line (AddBytes (b ∷ []))) ≡ length line + 1
length-joined line b room =
    ap (λ t. length (cond t (line ++ b ∷ []) line)) (le-leb (length line + length (b ∷ [])) MOST_LINE (omega arith))
    ∙ length-append line (b ∷ [])

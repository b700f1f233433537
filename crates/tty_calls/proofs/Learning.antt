-- Names, as an ordered set of texts keeps them.
use Rattle.std.proofs.Common.{◌≡◌, ℕ, Bool, true, false, ◌||◌, List, [], ◌∷◌, ◌++◌, None, Some}
use Rattle.std.proofs.Common.{◌+◌, map, refl, sym, ap, ◌∙◌, cond, not, arith, add-zero, zero-add}
use Rattle.std.specs.Prelude.{position}
use Rattle.std.specs.Str.{bytes_eq}
use Rattle.std.specs.List.{list_any, position_from, position_or_len}
use Rattle.std.proofs.lemmas.Slice.Eq.{bytes_eq-Decides}
use Rattle.std.proofs.lemmas.Iterator.Adapters.{position_from-zero}
use Rattle.arrayvec.specs.ArrayString.{ArrayString}
use Rattle.tty_calls.specs.Sessions.{with_name, number_in}

abbrev pub texts_of : List ArrayString → List (List ℕ)
texts_of keys = map (λ key. key.bytes) keys

abbrev is_name : List ℕ → ArrayString → Bool
is_name name key = bytes_eq name key.bytes

any_text : (name : List ℕ) (keys : List ArrayString)
    → list_any (is_name name) keys ≡ list_any (bytes_eq name) (texts_of keys)
any_text name [] = refl
any_text name (k ∷ ks) = ap (λ b. bytes_eq name k.bytes || b) (any_text name ks)

place_text : (i : ℕ) (name : List ℕ) (keys : List ArrayString)
    → position_from (is_name name) i keys ≡ position_from (bytes_eq name) i (texts_of keys)
place_text i name [] = refl
place_text i name (k ∷ ks) = ap (λ o. cond (bytes_eq name k.bytes) (Some i) o) (place_text (i + 1) name ks)

-- the number of a text is that of its name
pub number_is : (name : List ℕ) (keys : List ArrayString)
    → position (is_name name) keys ≡ number_in (texts_of keys) name
number_is name keys =
    position_from-zero (is_name name) keys
    ∙ place_text 0 name keys
    ∙ sym (position_from-zero (bytes_eq name) (texts_of keys))

text_more : (keys : List ArrayString) (key : ArrayString)
    → texts_of (keys ++ key ∷ []) ≡ texts_of keys ++ key.bytes ∷ []
text_more [] key = refl
text_more (k ∷ ks) key = ap (λ names. k.bytes ∷ names) (text_more ks key)

text_either : (b : Bool) (keys : List ArrayString) (key : ArrayString)
    → texts_of (cond b keys (keys ++ key ∷ [])) ≡ cond b (texts_of keys) (texts_of keys ++ key.bytes ∷ [])
text_either true keys key = refl
text_either false keys key = text_more keys key

-- one more text is one more name
pub name_more : (keys : List ArrayString) (key : ArrayString)
    → texts_of (cond (list_any (is_name key.bytes) keys) keys (keys ++ key ∷ [])) ≡ with_name (texts_of keys) key.bytes
name_more keys key =
    text_either (list_any (is_name key.bytes) keys) keys key
    ∙ ap (λ b. cond b (texts_of keys) (texts_of keys ++ key.bytes ∷ [])) (any_text key.bytes keys)

more_either : {X : Type 0} (b c : Bool) (p : X → Bool) (i : ℕ) (k : X) (ks : List X) (y : X)
    → p k ≡ b
    → position_from p (i + 1) (cond c ks (ks ++ y ∷ [])) ≡ Some (i + 1 + position_or_len p ks)
    → position_from p i (cond (b || c) (k ∷ ks) (k ∷ (ks ++ y ∷ [])))
    ≡ Some (i + cond (not b) (1 + position_or_len p ks) 0)
more_either true c p i k ks y e h =
    ap (λ b. cond b (Some i) (position_from p (i + 1) ks)) e ∙ ap (λ n. Some n) (sym (add-zero i))
more_either false true p i k ks y e h =
    ap (λ b. cond b (Some i) (position_from p (i + 1) ks)) e ∙ h ∙ ap (λ n. Some n) (omega arith)
more_either false false p i k ks y e h =
    ap (λ b. cond b (Some i) (position_from p (i + 1) (ks ++ y ∷ []))) e ∙ h ∙ ap (λ n. Some n) (omega arith)

-- the first place that passes, where one more passes and is added only where none did
place_more : {X : Type 0} (p : X → Bool) (i : ℕ) (ks : List X) (y : X)
    → p y ≡ true
    → position_from p i (cond (list_any p ks) ks (ks ++ y ∷ [])) ≡ Some (i + position_or_len p ks)
place_more p i [] y e = ap (λ b. cond b (Some i) None) e ∙ ap (λ n. Some n) (sym (add-zero i))
place_more p i (k ∷ ks) y e =
    ap (λ b. position_from p i (cond (b || list_any p ks) (k ∷ ks) (k ∷ (ks ++ y ∷ [])))) refl
    ∙ more_either (p k) (list_any p ks) p i k ks y refl (place_more p (i + 1) ks y e)

-- the number of a text that was added
pub number_more : (keys : List ArrayString) (key : ArrayString)
    → number_in (texts_of (cond (list_any (is_name key.bytes) keys) keys (keys ++ key ∷ []))) key.bytes
    ≡ Some (position_or_len (is_name key.bytes) keys)
number_more keys key =
    let grown : List ArrayString = cond (list_any (is_name key.bytes) keys) keys (keys ++ key ∷ []) in
    sym (number_is key.bytes grown)
    ∙ position_from-zero (is_name key.bytes) grown
    ∙ place_more (is_name key.bytes) 0 keys key ((bytes_eq-Decides key.bytes key.bytes).1 refl)
    ∙ ap (λ n. Some n) (zero-add (position_or_len (is_name key.bytes) keys))

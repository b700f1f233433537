-- Calls that were kept stay the same where the lists grow.
use Rattle.std.proofs.Common.{◌≡◌, ℕ, suc, List, [], ◌∷◌, ◌++◌, length, map, take, drop, refl, ◌∙◌, ap, arith}
use Rattle.std.proofs.lemmas.List.{take-append-le, drop-append-le, length-drop, map-append}
use Rattle.std.specs.Prelude.{All}
use Rattle.tty_modes.specs.declared.words.Word.{Word}
use Rattle.tty_calls.specs.declared.parts.ListPart.{ListPart}
use Rattle.tty_calls.specs.declared.kept_calls.KeptCall.{KeptCall}
use Rattle.tty_calls.specs.declared.kept_calls.KeptCall.TheVariants as kept
use Rattle.tty_calls.specs.Plain.{PlainCall, writes, sets_modes, sends_packet}
use Rattle.tty_calls.specs.Kept.{IsWithinLists, kept_in}
use Rattle.tty_calls.specs.Parts.{Extends, IsListPart, part_of}

pub part_stays : {A : Type 0} (xs ys : List A) (part : ListPart)
    → IsListPart (length xs) part
    → part_of (xs ++ ys) part ≡ part_of xs part
part_stays xs ys part within =
    ap (take part.count) (drop-append-le part.first xs ys (omega (arith, within)))
    ∙ take-append-le part.count (drop part.first xs) ys (omega (arith, within, length-drop part.first xs))

stays : (bytes more : List ℕ) (words others : List Word) (k : KeptCall)
    → IsWithinLists (length bytes) (length words) k
    → kept_in (bytes ++ more) (words ++ others) k ≡ kept_in bytes words k
stays bytes more words others (kept.Open h access nonblock) w = refl
stays bytes more words others (kept.Close h) w = refl
stays bytes more words others (kept.Read h n) w = refl
stays bytes more words others (kept.Write h part) w = ap (writes h) (part_stays bytes more part w)
stays bytes more words others (kept.GetModes h) w = refl
stays bytes more words others (kept.SetModes h when part) w = ap (sets_modes h when) (part_stays words others part w)
stays bytes more words others (kept.GetDisc h) w = refl
stays bytes more words others (kept.SetDisc h number) w = refl
stays bytes more words others (kept.Flush h queue) w = refl
stays bytes more words others (kept.Xonc h act) w = refl
stays bytes more words others (kept.Inq h) w = refl
stays bytes more words others (kept.Outq h) w = refl
stays bytes more words others (kept.Excl h) w = refl
stays bytes more words others (kept.Nxcl h) w = refl
stays bytes more words others (kept.Drain h) w = refl
stays bytes more words others (kept.Counts h) w = refl
stays bytes more words others (kept.Vhangup h) w = refl
stays bytes more words others (kept.SendPacket h part) w = ap (sends_packet h) (part_stays bytes more part w)
stays bytes more words others (kept.TakePacket h) w = refl

all_stay : (bytes more : List ℕ) (words others : List Word) (ks : List KeptCall)
    → All (IsWithinLists (length bytes) (length words)) ks
    → map (kept_in (bytes ++ more) (words ++ others)) ks ≡ map (kept_in bytes words) ks
all_stay bytes more words others [] w = refl
all_stay bytes more words others (k ∷ ks) w =
    ap (λ c. c ∷ map (kept_in (bytes ++ more) (words ++ others)) ks)
    (stays bytes more words others k (w 0 k (omega arith)))
    ∙ ap (λ cs. kept_in bytes words k ∷ cs)
    (all_stay bytes more words others ks (λ i d lt. w (suc i) d (omega (arith, lt))))

-- one more call, behind those before
pub one_more : (bytes now : List ℕ) (words here : List Word) (ks : List KeptCall) (k : KeptCall) (call : PlainCall)
    → Extends bytes now
    → Extends words here
    → All (IsWithinLists (length bytes) (length words)) ks
    → kept_in now here k ≡ call
    → map (kept_in now here) (ks ++ k ∷ []) ≡ map (kept_in bytes words) ks ++ call ∷ []
one_more bytes now words here ks k call (more, grown) (others, longer) w is =
    map-append (kept_in now here) ks (k ∷ [])
    ∙ ap (λ c. map (kept_in now here) ks ++ c ∷ []) is
    ∙ ap (λ cs. cs ++ call ∷ [])
    (ap (λ b. map (kept_in b here) ks) grown
    ∙ ap (λ v. map (kept_in (bytes ++ more) v) ks) longer
    ∙ all_stay bytes more words others ks w)

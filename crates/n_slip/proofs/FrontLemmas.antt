-- Characters that are received one after the other: some at the front, and then the rest.
use Rattle.std.proofs.Common.{◌≡◌, ℕ, zero, suc, List, [], ◌∷◌, ◌++◌, map, take, drop, refl, sym, subst, append_assoc}
use Rattle.std.proofs.lemmas.List.{append-nil}
use Rattle.tty_base.specs.declared.characters.Flagged.{Flagged}
use Rattle.tty_base.specs.declared.counters.Counts.{Counts}
use Rattle.n_slip.specs.Discipline.{Slip, after_character, after_characters}
use Rattle.n_slip.specs.Discipline.{counts_after_character, counts_after_characters}
use Rattle.n_slip.specs.History.{Happening, character, HasSeen}
use Rattle.n_slip.proofs.Happenings.{HasSeen-character}

pub front_first : (n : ℕ) (cs : List Flagged) (slip : Slip)
    → after_characters (after_characters slip (take n cs)) (drop n cs) ≡ after_characters slip cs
front_first zero cs slip = refl
front_first (suc n) [] slip = refl
front_first (suc n) (c ∷ cs) slip = front_first n cs (after_character slip c)

pub front_counted : (n : ℕ) (cs : List Flagged) (slip : Slip) (counts : Counts)
    → counts_after_characters (after_characters slip (take n cs)) (drop n cs)
    (counts_after_characters slip (take n cs) counts)
    ≡ counts_after_characters slip cs counts
front_counted zero cs slip counts = refl
front_counted (suc n) [] slip counts = refl
front_counted (suc n) (c ∷ cs) slip counts =
    front_counted n cs (after_character slip c) (counts_after_character slip c counts)

pub HasSeen-characters : (slip : Slip) (events : List Happening) (cs : List Flagged)
    → HasSeen slip events
    → HasSeen (after_characters slip cs) (events ++ map character cs)
HasSeen-characters slip events [] h = subst (HasSeen slip) (sym (append-nil events)) h
HasSeen-characters slip events (c ∷ cs) h =
    subst (HasSeen (after_characters slip (c ∷ cs))) (append_assoc events (character c ∷ []) (map character cs))
    (HasSeen-characters (after_character slip c) (events ++ character c ∷ []) cs (HasSeen-character slip events c h))

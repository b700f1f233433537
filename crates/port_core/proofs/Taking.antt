-- Characters that are taken out of the flip buffer.
use Rattle.std.proofs.Common.{◌≡◌, ℕ, suc, ◌<◌, ◌≤◌, List, [], ◌∷◌, ◌++◌, length, refl, sym, ◌∙◌}
use Rattle.std.proofs.Common.{ap, subst, arith, append_assoc, append-nil, length-append, inl, inr}
use Rattle.std.proofs.lemmas.List.Elements.{All-nil, All-cons, All-append}
use mathlib.Core.List.{IsPrefix}
use Rattle.std.specs.List.{All}
use Rattle.std.specs.List.Sorted.{IsNonDecreasing}
use Rattle.tty_base.specs.declared.characters.Flagged.{Flagged}
use Rattle.word_ring.specs.Ends.{PutterState, TakerState, IsOneWithin, with_loaded, with_shown, with_taken}
use Rattle.word_ring.proofs.Beginnings.{begins_itself, begins_more, begins_through, begins_whole}
use Rattle.flip_buffer.specs.Drops.{Releases}
use Rattle.port_core.specs.Flips.{TakesOut, MeetsTaker}

-- no head was released
none_released : (f g : TakerState Flagged) → g.released ≡ f.released → Releases f g
none_released f g same = record {
  heads = [];
  adds = same ∙ sym (append-nil f.released);
  above = All-nil (λ (h : ℕ). length f.taken < h);
  below = All-nil (λ (h : ℕ). h ≤ length g.taken);
}

-- one head was released, which is what is taken now
pub one_released : (f g : TakerState Flagged)
    → g.released ≡ f.released ++ length g.taken ∷ []
    → length f.taken < length g.taken
    → Releases f g
one_released f g adds more =
    record {
      heads = length g.taken ∷ [];
      adds = adds;
      above =
          All-cons (λ (h : ℕ). length f.taken < h) (length g.taken) [] more (All-nil (λ (h : ℕ). length f.taken < h));
      below = All-cons (λ (h : ℕ). h ≤ length g.taken) (length g.taken) [] (omega arith)
          (All-nil (λ (h : ℕ). h ≤ length g.taken));
    }

taken_more : (f g : TakerState Flagged) (xs : List Flagged) → g.taken ≡ f.taken ++ xs → length f.taken ≤ length g.taken
taken_more f g xs is = omega (arith, ap length is, length-append f.taken xs)

-- by two steps
released_through : (f g h : TakerState Flagged)
    → length f.taken ≤ length g.taken
    → length g.taken ≤ length h.taken
    → Releases f g
    → Releases g h
    → Releases f h
released_through f g h first second a b =
    record {
      heads = a.heads ++ b.heads;
      adds = b.adds ∙ ap (λ (rs : List ℕ). rs ++ b.heads) a.adds ∙ append_assoc f.released a.heads b.heads;
      above = All-append (λ (n : ℕ). length f.taken < n) a.heads b.heads a.above
          (λ k d lt. let n = b.above k d lt in omega arith);
      below = All-append (λ (n : ℕ). n ≤ length h.taken) a.heads b.heads
          (λ k d lt. let n = a.below k d lt in omega arith) b.below;
    }

-- of what was peeked some are taken
pub takes_peeked : (f : TakerState Flagged) (peeked xs : List Flagged)
    → TakesOut f (with_taken (record f { peeked = peeked }) xs) xs
takes_peeked f peeked [] = record {
  ring = refl;
  capacity = refl;
  taken = sym (append-nil f.taken);
  floor = omega arith;
  tails = begins_itself f.tails;
  released = none_released f _ refl;
  ended = refl;
  sent = refl;
}
takes_peeked f peeked (x ∷ xs) =
    record {
      ring = refl;
      capacity = refl;
      taken = refl;
      floor = omega arith;
      tails = begins_itself f.tails;
      released = one_released f _ refl (omega (arith, length-append f.taken (x ∷ xs)));
      ended = refl;
      sent = refl;
    }

-- a take, which looks first
pub takes_out_of : (f : TakerState Flagged) (floor : ℕ) (xs : List Flagged)
    → f.floor ≤ floor
    → TakesOut f (with_taken (with_shown f floor) xs) xs
takes_out_of f floor [] rises =
    record {
      ring = refl;
      capacity = refl;
      taken = sym (append-nil f.taken);
      floor = rises;
      tails = begins_more f.tails (floor ∷ []);
      released = none_released f _ refl;
      ended = refl;
      sent = refl;
    }
takes_out_of f floor (x ∷ xs) rises =
    record {
      ring = refl;
      capacity = refl;
      taken = refl;
      floor = rises;
      tails = begins_more f.tails (floor ∷ []);
      released = one_released f _ refl (omega (arith, length-append f.taken (x ∷ xs)));
      ended = refl;
      sent = refl;
    }

pub takes_out_more : (f g h : TakerState Flagged) (xs ys : List Flagged)
    → TakesOut f g xs
    → TakesOut g h ys
    → TakesOut f h (xs ++ ys)
takes_out_more f g h xs ys a b =
    record {
      ring = b.ring ∙ a.ring;
      capacity = b.capacity ∙ a.capacity;
      taken = b.taken ∙ ap (λ (z : List Flagged). z ++ ys) a.taken ∙ append_assoc f.taken xs ys;
      floor = omega (arith, a.floor, b.floor);
      tails = begins_through f.tails g.tails h.tails a.tails b.tails;
      released = released_through f g h (taken_more f g xs a.taken) (taken_more g h ys b.taken) a.released b.released;
      ended = b.ended ∙ a.ended;
      sent = b.sent ∙ a.sent;
    }

-- a look, and then what it counted is taken
pub looks_first : (f g h : TakerState Flagged) (xs : List Flagged)
    → g ≡ with_shown f g.floor
    → f.floor ≤ g.floor
    → TakesOut g h xs
    → TakesOut f h xs
looks_first f g h xs same rises a =
    let looked : TakesOut f (with_shown f g.floor) [] = takes_out_of f g.floor [] rises in
    takes_out_more f g h [] xs (subst (λ (z : TakerState Flagged). TakesOut f z []) (sym same) looked) a

-- of two lists of which one begins the other the one that is no longer begins the other
pub shorter_begins : (xs ys : List Flagged) → IsOneWithin xs ys → length xs ≤ length ys → IsPrefix xs ys
shorter_begins xs ys one le =
    elim one [
      | inl p ↦ p
      | inr q ↦ subst (λ (z : List Flagged). IsPrefix xs z) (sym (begins_whole ys xs q le)) (begins_itself xs)
    ]

-- what holds of each item holds of the last
last_holds : (P : ℕ → Type 0) (xs : List ℕ) (x : ℕ) → All P (xs ++ x ∷ []) → P x
last_holds P [] x all = all 0 x (omega arith)
last_holds P (y ∷ ys) x all = last_holds P ys x (λ k d lt. all (suc k) d (omega arith))

-- both ends told each other what they know
pub ends_meet : (f : TakerState Flagged) (p0 p1 p2 : PutterState Flagged) (pushed : List Flagged) (heads : List ℕ)
    → p1 ≡ with_loaded p0 p1.floor
    → p2 ≡ record p1 { pushed = p1.sent }
    → p0.floor ≤ p1.floor
    → length f.taken ≤ p1.floor
    → p1.floor ≤ length p0.pushed
    → length p0.pushed ≤ length p0.sent
    → IsNonDecreasing p2.heads
    → pushed ≡ p1.sent
    → heads ≡ p1.heads
    → IsOneWithin f.taken pushed
    → All (λ h. h ≤ length f.taken) heads
    → MeetsTaker f p0 p2
ends_meet f p0 p1 p2 pushed heads met note rises least most known rise pushed_is heads_are one below =
    let heads_now : heads ≡ p0.heads ++ p1.floor ∷ [] = heads_are ∙ ap (λ (p : PutterState Flagged). p.heads) met in
    let high : p1.floor ≤ length f.taken =
    last_holds (λ h. h ≤ length f.taken) p0.heads p1.floor
    (subst (λ (hs : List ℕ). All (λ h. h ≤ length f.taken) hs) heads_now below) in
    let floor_is : p1.floor ≡ length f.taken = omega arith in
    let p2_is : p2 ≡ with_loaded (record p0 { pushed = p0.sent }) p1.floor =
    note ∙ ap (λ (p : PutterState Flagged). record p { pushed = p.sent }) met in
    let sent_is : pushed ≡ p0.sent = pushed_is ∙ ap (λ (p : PutterState Flagged). p.sent) met in
    let within : length f.taken ≤ length p0.sent = omega arith in
    record {
      putter = p2_is ∙ ap (λ (n : ℕ). with_loaded (record p0 { pushed = p0.sent }) n) floor_is;
      begins = shorter_begins f.taken p0.sent (subst (λ (z : List Flagged). IsOneWithin f.taken z) sent_is one) within;
      heads = subst (λ (hs : List ℕ). All (λ h. h ≤ length f.taken) hs)
          (heads_now ∙ sym (ap (λ (p : PutterState Flagged). p.heads) p2_is)) below;
      rise = rise;
      rises = omega arith;
    }

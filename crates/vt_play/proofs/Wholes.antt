-- Consoles put together one after the other, the last one first.
use Rattle.std.proofs.Common.{◌≡◌, ℕ, zero, suc, ◌+◌, ◌<◌, ◌==◌, Bool, false, List, [], ◌∷◌, ◌++◌, Some, length}
use Rattle.std.proofs.Common.{sym, subst, ap, arith, length-append}
use Rattle.std.specs.Prelude.{slice_get}
use Rattle.many_threads.proofs.Onward.{each_front, each_last, each_one_more}
use Rattle.vt_consoles.specs.declared.entries.VtEntry.{VtEntry}
use Rattle.vt_text.specs.declared.sessions.VtSession.{VtSession}
use Rattle.vt_text.specs.Sessions.{PlainVtSession}
use Rattle.vt_threads.specs.Between.{IsConsoleBefore}
use Rattle.vt_threads.specs.Parting.{IsPlayed, IsPlayedIn}
use Rattle.vt_threads.specs.declared.consoles.Console.{Console}
use Rattle.vt_threads.specs.declared.parting.PartedBack.{PartedBack}
use Rattle.vt_play.specs.declared.parts.AllBack.{AllBack}
use Rattle.vt_play.specs.Parts.{AreBackOf, AreConsolesBefore, ConsolesArePlayed, ArePlayedIn, kept_in}
use Rattle.vt_play.proofs.Listing.{column_length, split_last}

pub some_left : (n : ℕ) (none : Bool) → none ≡ (n == 0) → none ≡ false → 0 < n
some_left zero none is not = absurd (cc)
some_left (suc n) none is not = omega arith

pub whole_some : (bs : List PartedBack) (all : AllBack)
    → AreBackOf bs all
    → 0 < length all.kept.items
    → (front : List PartedBack) × (last : PartedBack) × (bs ≡ front ++ last ∷ []) × AreBackOf (front ++ last ∷ []) all
whole_some bs all h some =
    let size = column_length (λ (b : PartedBack). kept_in b.rest) all.kept.items bs h.kept in
    let s = split_last bs (omega (arith, some, size)) in
    (s.0, s.1, s.2, subst (λ (l : List PartedBack). AreBackOf l all) s.2 h)

pub front_count : (front : List PartedBack) (all : AllBack) → AreBackOf front all → length all.kept.items ≡ length front
front_count front all h = column_length (λ (b : PartedBack). kept_in b.rest) all.kept.items front h.kept

module _ (session : VtSession) (k : ℕ) (bs front : List PartedBack) (last : PartedBack) (is : bs ≡ front ++ last ∷ [])
    (now : AllBack) (back : AreBackOf front now) where
  pub others_played : ((p : ℕ) (b : PartedBack) → slice_get bs p ≡ Some b → IsPlayed session p k b)
      → ConsolesArePlayed session k now
  others_played each =
      record { bs = front; back = back; each = each_front (λ p. IsPlayed session p k) bs front last is each }

  pub last_played : ((p : ℕ) (b : PartedBack) → slice_get bs p ≡ Some b → IsPlayed session p k b)
      → IsPlayed session (length front) k last
  last_played each = each_last (λ p. IsPlayed session p k) bs front last is each

  pub others_in : (entries part : List VtEntry)
      → ((p : ℕ) (b : PartedBack) → slice_get bs p ≡ Some b → IsPlayedIn session p k entries part b)
      → ArePlayedIn session k entries part now
  others_in entries part each = record {
    bs = front;
    back = back;
    each = each_front (λ p. IsPlayedIn session p k entries part) bs front last is each;
  }

  pub last_in : (entries part : List VtEntry)
      → ((p : ℕ) (b : PartedBack) → slice_get bs p ≡ Some b → IsPlayedIn session p k entries part b)
      → IsPlayedIn session (length front) k entries part last
  last_in entries part each = each_last (λ p. IsPlayedIn session p k entries part) bs front last is each

pub consoles_more : (session : PlainVtSession) (k : ℕ) (entries : List VtEntry) (now consoles : List Console)
    (c : Console) (n : ℕ)
    → now ≡ consoles ++ c ∷ []
    → length consoles ≡ n
    → AreConsolesBefore session k entries consoles
    → IsConsoleBefore session n k entries c
    → AreConsolesBefore session k entries now
consoles_more session k entries now consoles c n added count before one =
    each_one_more (λ p. IsConsoleBefore session p k entries) now consoles c added before
    (subst (λ (m : ℕ). IsConsoleBefore session m k entries c) (sym count) one)

-- ---- the parts of the last console are taken

-- one console less
pub record IsLess (session : VtSession) (k : ℕ) (all now : AllBack) (one : PartedBack) : Type 0 where
  pub count : length all.kept.items ≡ length now.kept.items + 1
  pub others : ConsolesArePlayed session k now
  pub last : IsPlayed session (length now.kept.items) k one
  pub others_so : (entries part : List VtEntry)
      → ArePlayedIn session k entries part all
      → ArePlayedIn session k entries part now
  pub last_so : (entries part : List VtEntry)
      → ArePlayedIn session k entries part all
      → IsPlayedIn session (length now.kept.items) k entries part one

module _ (session : VtSession) (k : ℕ) (all now : AllBack) (one : PartedBack) (some : 0 < length all.kept.items)
    (took : (bs : List PartedBack) (b : PartedBack)
    → AreBackOf (bs ++ b ∷ []) all
    → (one ≡ b) × AreBackOf bs now) where
  took_last : (bs : List PartedBack)
      → AreBackOf bs all
      → (front : List PartedBack) × (last : PartedBack) × (bs ≡ front ++ last ∷ []) × (one ≡ last) × AreBackOf front now
  took_last bs back =
      let s = whole_some bs all back some in let t = took s.0 s.1 s.3 in (s.0, s.1, s.2, t.0, t.1)

  at_last : (P : ℕ → PartedBack → Type 0) (front : List PartedBack) (last : PartedBack)
      → one ≡ last
      → AreBackOf front now
      → P (length front) last
      → P (length now.kept.items) one
  at_last P front last is back h =
      subst (λ (n : ℕ). P n one) (sym (front_count front now back)) (subst (P (length front)) (sym is) h)

  pub is_less : ConsolesArePlayed session k all → IsLess session k all now one
  is_less h =
      let s = took_last h.bs h.back in
      record {
        count =
            let whole = column_length (λ (b : PartedBack). kept_in b.rest) all.kept.items h.bs h.back.kept in
            let less = front_count s.0 now s.4 in
            let split = ap (λ (l : List PartedBack). length l) s.2 in
            let size = length-append s.0 (s.1 ∷ []) in
            omega (arith, whole, less, split, size);
        others = others_played session k h.bs s.0 s.1 s.2 now s.4 h.each;
        last = at_last (λ p. IsPlayed session p k) s.0 s.1 s.3 s.4
            (last_played session k h.bs s.0 s.1 s.2 now s.4 h.each);
        others_so = λ entries part g.
            let s = took_last g.bs g.back in
            others_in session k g.bs s.0 s.1 s.2 now s.4 entries part g.each;
        last_so = λ entries part g.
            let s = took_last g.bs g.back in
            at_last (λ p. IsPlayedIn session p k entries part) s.0 s.1 s.3 s.4
            (last_in session k g.bs s.0 s.1 s.2 now s.4 entries part g.each);
      }

pub count_more : (now consoles : List Console) (c : Console) (n m : ℕ)
    → now ≡ consoles ++ c ∷ []
    → length consoles ≡ n
    → m ≡ n + 1
    → length now ≡ m
count_more now consoles c n m added count is =
    let size = ap (λ (l : List Console). length l) added in
    let more = length-append consoles (c ∷ []) in
    omega (arith, size, more, count, is)

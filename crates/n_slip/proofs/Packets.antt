-- Packets kept as bytes and lengths: one more at the end, and one less at the front.
use Rattle.std.proofs.Common.{◌≡◌, ℕ, suc, ◌+◌, ◌*◌, ◌<◌, ◌≤◌, List, [], ◌∷◌}
use Rattle.std.proofs.Common.{◌++◌, length, take, drop, sum, refl, ap, arith}
use Rattle.std.specs.List.{AllByRecursion}
use Rattle.std.proofs.lemmas.List.{length-append, length-drop, take-append-le, drop-append-le, take_all}
use Rattle.std.proofs.lemmas.List.Sums.{sum_by-cons, sum_by_push}
use Rattle.n_slip.specs.Queue.{packets_of, Holds}

pub length-packets_of : (lengths bytes : List ℕ) → length (packets_of lengths bytes) ≡ length lengths
length-packets_of [] bytes = refl
length-packets_of (n ∷ lengths) bytes = ap suc (length-packets_of lengths (drop n bytes))

sum-cons : (n : ℕ) (ns : List ℕ) → sum (n ∷ ns) ≡ n + sum ns
sum-cons n ns = sum_by-cons (λ x. x) n ns

sum_bound : (lengths : List ℕ) → AllByRecursion (λ n. n ≤ 1006) lengths → sum lengths ≤ 1006 * length lengths
sum_bound [] short = omega arith
sum_bound (n ∷ lengths) short = omega (arith, sum-cons n lengths, short.0, sum_bound lengths short.1)

-- how many bytes there can be
pub bytes_bound : (lengths bytes : List ℕ) → Holds lengths bytes → length bytes ≤ 1006 * length lengths
bytes_bound lengths bytes h = omega (arith, h.whole, sum_bound lengths h.short)

sum-push : (ns : List ℕ) (n : ℕ) → sum (ns ++ n ∷ []) ≡ sum ns + n
sum-push ns n = sum_by_push (λ x. x) ns n

short-push : (ns : List ℕ) (n : ℕ)
    → AllByRecursion (λ n. n ≤ 1006) ns
    → n ≤ 1006
    → AllByRecursion (λ n. n ≤ 1006) (ns ++ n ∷ [])
short-push [] n short le = (le, tt)
short-push (m ∷ ns) n short le = (short.0, short-push ns n short.1 le)

pub packets_of-push : (lengths bytes packet : List ℕ)
    → sum lengths ≡ length bytes
    → packets_of (lengths ++ length packet ∷ []) (bytes ++ packet) ≡ packets_of lengths bytes ++ packet ∷ []
packets_of-push [] [] packet whole = ap (λ (x : List ℕ). x ∷ []) (take_all (length packet) packet (omega arith))
packets_of-push [] (b ∷ bytes) packet whole = absurd (omega (arith, whole))
packets_of-push (n ∷ lengths) bytes packet whole =
    let within : n ≤ length bytes = omega (arith, whole, sum-cons n lengths) in
    let rest : sum lengths ≡ length (drop n bytes) = omega (arith, whole, sum-cons n lengths, length-drop n bytes) in
    rw (take-append-le n bytes packet within, drop-append-le n bytes packet within)
    (ap (λ (ps : List (List ℕ)). take n bytes ∷ ps) (packets_of-push lengths (drop n bytes) packet rest))

pub Holds-push : (lengths bytes packet : List ℕ)
    → Holds lengths bytes
    → length lengths < 64
    → length packet ≤ 1006
    → Holds (lengths ++ length packet ∷ []) (bytes ++ packet)
Holds-push lengths bytes packet h few le = record {
  short = short-push lengths (length packet) h.short le;
  whole = omega (arith, sum-push lengths (length packet), h.whole, length-append bytes packet);
  few = omega (arith, length-append lengths (length packet ∷ []));
}

-- The processes of a port, as they are listed.
use Rattle.std.proofs.Common.{◌≡◌, ◌<◌, ℕ, zero, suc, ◌+◌, ◌==◌, Bool, true, false, cond, List, [], ◌∷◌, ◌++◌}
use Rattle.std.proofs.Common.{length, map, filter, drop, if◌then◌else◌, refl, sym, ap, ◌∙◌, arith, append_assoc}
use Rattle.std.specs.Prelude.{slice_index_or}
use Rattle.job_control.specs.declared.processes.Proc.{Proc}
use Rattle.job_text.specs.declared.sessions.PortProc.{PortProc}
use Rattle.job_text.specs.Sessions.{procs_on}

procs_if : (b : Bool) (q : PortProc) (qs : List PortProc)
    → map (λ r. r.proc) (cond b (q ∷ qs) qs) ≡ (if b then q.proc ∷ [] else []) ++ map (λ r. r.proc) qs
procs_if true q qs = refl
procs_if false q qs = refl

next_in : {X : Type 0} (xs : List X) (i : ℕ) (x : X)
    → i < length xs
    → x ≡ slice_index_or xs i x
    → drop i xs ≡ x ∷ drop (i + 1) xs
next_in [] i x lt at = absurd (omega (arith, lt))
next_in (y ∷ ys) zero x lt at = ap (λ z. z ∷ ys) (sym at)
next_in (y ∷ ys) (suc i) x lt at = (let same : suc (i + 1) ≡ suc i + 1 = omega arith in
    next_in ys i x (omega (arith, lt)) at ∙ ap (λ (n : ℕ). x ∷ drop n (y ∷ ys)) same)

pub proc_more : (found new all : List Proc) (p i : ℕ) (procs : List PortProc) (x : PortProc)
    → i < length procs
    → x ≡ slice_index_or procs i x
    → new ≡ found ++ (if x.port == p then x.proc ∷ [] else [])
    → found ++ procs_on p (drop i procs) ≡ all
    → new ++ procs_on p (drop (i + 1) procs) ≡ all
proc_more found new all p i procs x lt at put left =
    let one : List Proc = if x.port == p then x.proc ∷ [] else [] in
    let rest : List PortProc = drop (i + 1) procs in
    ap (λ (l : List Proc). l ++ procs_on p rest) put
    ∙ append_assoc found one (procs_on p rest)
    ∙ ap (λ (l : List Proc). found ++ l) (sym (procs_if (x.port == p) x (filter (λ r. r.port == p) rest)))
    ∙ ap (λ (qs : List PortProc). found ++ procs_on p qs) (sym (next_in procs i x lt at))
    ∙ left

-- Sessions of processes without the room behind the names of these.
use Rattle.std.proofs.Common.{◌≡◌, ℕ, zero, suc, ◌+◌, ◌==◌, Bool, true, false, cond, List, []}
use Rattle.std.proofs.Common.{◌∷◌, Option, Some, length, map, refl, sym, ap, ◌∙◌, subst, arith}
use Rattle.std.specs.Prelude.{IsSome, filter, slice_index_or}
use Rattle.std.specs.List.{position_from, range_with_len}
use Rattle.std.specs.Str.{bytes_eq}
use Rattle.std.proofs.lemmas.List.{length-map}
use Rattle.std.proofs.lemmas.List.Elements.{All-weaker}
use Rattle.std.proofs.lemmas.Iterator.Adapters.{position_from-zero}
use Rattle.tty_calls.specs.Sessions.{session_of}
use Rattle.job_control.specs.declared.processes.Proc.{Proc}
use Rattle.passed_calls.specs.Blocks.{Block}
use Rattle.job_text.specs.declared.sessions.JobsSession.{JobsSession as KeptSession}
use Rattle.job_text.specs.declared.sessions.PortProc.{PortProc}
use Rattle.job_text.specs.Sessions.{JobsSession, bare, bare_session_of, blocks_in}
use Rattle.job_text.specs.Sessions.{jobs_session_of, proc_place, procs_on}
use Rattle.job_text.specs.Within.{IsJobsSessionWithin, IsProc}
use Rattle.tty_one.specs.Processes.{bare_proc, bare_of}

-- ---- a session that is kept

kept_either : (t : Bool) (q : PortProc) (xs ys : List PortProc)
    → map (λ x. x.proc) ys ≡ map bare_proc (map (λ x. x.proc) xs)
    → map (λ x. x.proc) (cond t (bare q ∷ ys) ys) ≡ map bare_proc (map (λ x. x.proc) (cond t (q ∷ xs) xs))
kept_either true q xs ys h = ap (λ (ps : List Proc). bare_proc q.proc ∷ ps) h
kept_either false q xs ys h = h

procs_bare : (p : ℕ) (procs : List PortProc) → procs_on p (map bare procs) ≡ map bare_proc (procs_on p procs)
procs_bare p [] = refl
procs_bare p (q ∷ procs) = kept_either (q.port == p) q (filter (λ x. x.port == p) procs)
    (filter (λ x. x.port == p) (map bare procs)) (procs_bare p procs)

each_bare : (procs : List PortProc) (ports : List ℕ)
    → map (λ p. procs_on p (map bare procs)) ports ≡ map (λ ps. map bare_proc ps) (map (λ p. procs_on p procs) ports)
each_bare procs [] = refl
each_bare procs (p ∷ ports) = λ i. procs_bare p procs i ∷ each_bare procs ports i

pub kept_bare : (s : KeptSession) → bare_session_of s ≡ bare_of (jobs_session_of s)
kept_bare s =
    ap (λ (procs : List (List Proc)). record (jobs_session_of s) { procs = procs })
    (each_bare s.procs.items (range_with_len 0 (session_of s.session).ports))

-- ---- its limits

pub procs_at : (procs : List (List Proc)) (p : ℕ)
    → slice_index_or (map (λ ps. map bare_proc ps) procs) p [] ≡ map bare_proc (slice_index_or procs p [])
procs_at [] p = refl
procs_at (ps ∷ procs) zero = refl
procs_at (ps ∷ procs) (suc p) = procs_at procs p

abbrev named : List ℕ → Proc → Bool
named name proc = bytes_eq proc.name.bytes name

place_from : (i : ℕ) (name : List ℕ) (procs : List Proc)
    → position_from (named name) i (map bare_proc procs) ≡ position_from (named name) i procs
place_from i name [] = refl
place_from i name (proc ∷ procs) =
    ap (λ (o : Option ℕ). cond (named name proc) (Some i) o) (place_from (i + 1) name procs)

pub place_bare : (name : List ℕ) (procs : List Proc) → proc_place (map bare_proc procs) name ≡ proc_place procs name
place_bare name procs =
    position_from-zero (named name) (map bare_proc procs)
    ∙ (place_from 0 name procs ∙ sym (position_from-zero (named name) procs))

caller_is : (session : JobsSession) (b : Block) → IsProc (bare_of session) b → IsProc session b
caller_is session b h =
    subst (λ (o : Option ℕ). IsSome o)
    (ap (λ (ps : List Proc). proc_place ps b.name) (procs_at session.procs b.port)
    ∙ place_bare b.name (slice_index_or session.procs b.port [])) h

pub within_kept : (session : JobsSession) → IsJobsSessionWithin (bare_of session) → IsJobsSessionWithin session
within_kept session h = record {
  blocks = h.blocks;
  calls = h.calls;
  procs = λ p. (
      let same = ap (λ (ps : List Proc). length ps) (procs_at session.procs p) in
      omega (arith, h.procs p, same, length-map (slice_index_or session.procs p []) bare_proc)
      );
  callers = All-weaker (IsProc (bare_of session)) (IsProc session) (caller_is session) (blocks_in session) h.callers;
}

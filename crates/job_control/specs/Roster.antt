-- The processes of a port, named by their places; and which of them keep a group from being orphaned (termios(3),
-- setpgid(2)).
use Rattle.std.specs.Prelude.{ℕ, ◌==◌, Bool, true, false, not, ◌&&◌, Option}
use Rattle.std.specs.Prelude.{None, List, length, slice_get, slice_index_or}
use Rattle.std.specs.List.{list_any, range_with_len}
use Rattle.std.specs.Option.{option_map_or}
use Rattle.job_control.specs.declared.processes.Proc.{Proc}

-- the places of a list
abbrev pub places_of : List Proc → List ℕ
places_of procs = range_with_len 0 (length procs)

abbrev pub session_at : List Proc → ℕ → ℕ
session_at procs p = option_map_or (λ proc. proc.session) (slice_get procs p) 0

abbrev pub group_at : List Proc → ℕ → ℕ
group_at procs p = option_map_or (λ proc. proc.group) (slice_get procs p) 0

abbrev pub parent_at : List Proc → ℕ → Option ℕ
parent_at procs p = option_map_or (λ proc. proc.parent) (slice_get procs p) None

abbrev pub leads_at : List Proc → ℕ → Bool
leads_at procs p = option_map_or (λ proc. proc.leader) (slice_get procs p) false

-- by place, who has exited; a place that is none counts as one that has
abbrev pub has_exited : List Bool → ℕ → Bool
has_exited exited p = slice_index_or exited p true

-- a process ties its group to its session by this parent: the parent has not exited, is in another group, and in the
-- same session
abbrev pub ties_to : List Proc → List Bool → (child parent : ℕ) → Bool
ties_to procs exited child parent =
    not (has_exited exited parent)
    && not (group_at procs parent == group_at procs child)
    && (session_at procs parent == session_at procs child)

-- a process that has not exited, and ties its group so
abbrev pub is_tied : List Proc → List Bool → ℕ → Bool
is_tied procs exited p =
    not (has_exited exited p) && option_map_or (λ parent. ties_to procs exited p parent) (parent_at procs p) false

-- a process of this group that ties it
abbrev pub ties_group : List Proc → List Bool → (group p : ℕ) → Bool
ties_group procs exited group p = is_tied procs exited p && (group_at procs p == group)

-- no process of the group ties it: each has exited, or has no parent, or one that has exited, is in the same group,
-- or is in another session
abbrev pub is_orphaned : List Proc → List Bool → (group : ℕ) → Bool
is_orphaned procs exited group = not (list_any (ties_group procs exited group) (places_of procs))

-- a process of this session and group that has not exited
abbrev pub lives_in : List Proc → List Bool → (session group p : ℕ) → Bool
lives_in procs exited session group p =
    not (has_exited exited p) && (session_at procs p == session) && (group_at procs p == group)

-- the session has such a process
abbrev pub has_living : List Proc → List Bool → (session group : ℕ) → Bool
has_living procs exited session group = list_any (lives_in procs exited session group) (places_of procs)

-- What `Jobs` keeps beside its state, so that no call looks through all processes: for private functions alone.
use Rattle.std.specs.Prelude.{◌≡◌, ℕ, ◌+◌, ◌*◌, ◌==◌, ◌<◌, ◌≤◌, Bool, false, not, ◌&&◌, ◌||◌, List}
use Rattle.std.specs.Prelude.{[], ◌∷◌, ◌++◌, Option, None, Some, filter, length, slice_index}
use Rattle.std.specs.Prelude.{slice_index_or, slice_set, count_by, nat_eq, unwrap_or, if◌then◌else◌}
use Rattle.std.specs.HashMap.{get}
use Rattle.std.specs.Option.{option_map_or}
use Rattle.tty_base.specs.Sizes.{GROUP_END, MOST_PROCESSES}
use Rattle.job_control.specs.declared.processes.Proc.{Proc}
use Rattle.job_control.specs.declared.census.Census.{Census}
use Rattle.job_control.specs.Roster.{places_of, session_at, group_at, parent_at, has_exited, ties_group}

-- how often a number was counted
abbrev pub counted : Census → ℕ → ℕ
counted census key = unwrap_or (get nat_eq census.counts key) 0

-- a session and a group as one number
abbrev pub key_of : (session group : ℕ) → ℕ
key_of session group = session * GROUP_END + group

abbrev pub key_at : List Proc → ℕ → ℕ
key_at procs p = key_of (session_at procs p) (group_at procs p)

-- a process of this key that has not exited
abbrev pub lives_under : List Proc → List Bool → (key p : ℕ) → Bool
lives_under procs exited key p = not (has_exited exited p) && (key_at procs p == key)

-- 1 for such a process
abbrev pub life_of : List Proc → List Bool → (key p : ℕ) → ℕ
life_of procs exited key p = if lives_under procs exited key p then 1 else 0

-- how many processes of a group tie it, and how many of a key have not exited
abbrev pub ties_count : List Proc → List Bool → (group : ℕ) → ℕ
ties_count procs exited group = count_by (ties_group procs exited group) (places_of procs)

abbrev pub living_count : List Proc → List Bool → (key : ℕ) → ℕ
living_count procs exited key = count_by (lives_under procs exited key) (places_of procs)

-- the tie of a process ends with another's exit: it is that process, or its child
abbrev pub is_hit : List Proc → (gone p : ℕ) → Bool
is_hit procs gone p = (p == gone) || option_map_or (λ parent. parent == gone) (parent_at procs p) false

-- a process that ties a group until another exits
abbrev pub looses : List Proc → List Bool → (gone group p : ℕ) → Bool
looses procs exited gone group p = ties_group procs exited group p && is_hit procs gone p

-- 1 for a process that ties a group
abbrev pub tie_of : List Proc → List Bool → (group p : ℕ) → ℕ
tie_of procs exited group p = if ties_group procs exited group p then 1 else 0

-- the other processes whose parent a process is, in their order
abbrev pub is_child : List Proc → (parent p : ℕ) → Bool
is_child procs parent p = option_map_or (λ q. q == parent) (parent_at procs p) false && not (p == parent)

abbrev pub children_of : List Proc → ℕ → List ℕ
children_of procs parent = filter (is_child procs parent) (places_of procs)

-- the lists with one child more; a process is no child of its own
abbrev pub with_child : List (List ℕ) → (parent : Option ℕ) → (p : ℕ) → List (List ℕ)
with_child lists None p = lists
with_child lists (Some parent) p =
    if parent == p then lists else slice_set lists parent (slice_index_or lists parent [] ++ p ∷ [])

-- a list for each process, of its children
abbrev pub AreChildren : List Proc → List (List ℕ) → Type 0
AreChildren procs children = (p : ℕ) → p < length procs → slice_index_or children p [] ≡ children_of procs p

-- counts after one more, and after one less, of a key
abbrev pub one_at : (key k : ℕ) → ℕ
one_at key k = if key == k then 1 else 0

-- the numbers that are kept are those counts, the lists those of children, the list of exits has a place for each
-- process, and no mark is ahead of the number of times that the port was taken
pub record IsKept (procs : List Proc) (exited : List Bool) (given_up_at : List ℕ) (taken : ℕ) (ties living : Census)
    (children : List (List ℕ)) : Type 0 where
  pub few : length procs ≤ MOST_PROCESSES
  pub groups_fit : (p : ℕ) → group_at procs p < GROUP_END
  pub exits_fit : length exited ≡ length procs
  pub marks_fit : length given_up_at ≡ length procs
  pub marks_past : (p : ℕ) → slice_index given_up_at p ≤ taken
  pub ties_are : (group : ℕ) → counted ties group ≡ ties_count procs exited group
  pub living_are : (key : ℕ) → counted living key ≡ living_count procs exited key
  pub children_are : AreChildren procs children

-- What a seat knows, and how its steps change that.
use Rattle.std.specs.Prelude.{◌≡◌, ℕ, ◌+◌, ◌-◌, ◌<◌, ◌⊎◌, List, [], ◌∷◌, ◌++◌, Bool, true}
use Rattle.std.specs.Prelude.{false, Option, Some, None, IfSome, nat_lt, if◌then◌else◌}
use Rattle.port_cell.specs.Word.{GENERATION_END}
use Rattle.port_cell.specs.declared.kept.Stamped.{Stamped}
use Rattle.port_cell.specs.declared.view.Joined.{Joined}
use Rattle.port_cell.specs.declared.view.User.{User}
use Rattle.port_cell.specs.declared.view.User.TheVariants.{Free, Trying, Held, Marked, Alone}
use Rattle.port_cell.specs.declared.view.View.{View}
use Rattle.port_cell.specs.Entries.{generation_of}

-- the share of a user in the user count
abbrev pub user_part : User → ℕ
user_part Trying = 1
user_part (Held g) = 1
user_part _ = 0

-- 1 for a seat that holds a reference
abbrev pub reference_part : User → ℕ
reference_part (Held g) = 1
reference_part _ = 0

-- 1 for the seat that has set the changing bit
abbrev pub mark_part : User → ℕ
mark_part (Marked g) = 1
mark_part (Alone g) = 1
mark_part _ = 0

-- 1 for the seat that has set the changing bit and has found no user since
abbrev pub lone_part : User → ℕ
lone_part (Alone g) = 1
lone_part _ = 0

-- the generation that a user relies on, or keeps from changing
abbrev pub generation_known : User → Option ℕ
generation_known (Held g) = Some g
generation_known (Marked g) = Some g
generation_known (Alone g) = Some g
generation_known _ = None

-- where the user knows a generation, it is this one
abbrev pub Knows : ℕ → User → Type 0
Knows g u = IfSome (generation_known u) (λ h. h ≡ g)

abbrev pub bit_of : Bool → ℕ
bit_of b = if b then 1 else 0

-- f of each, added up
abbrev pub total : {X : Type 0} → (X → ℕ) → List X → ℕ
total f [] = 0
total f (x ∷ xs) = f x + total f xs

module _ {N E : Type 0} where
  abbrev pub turns_of : View N E → ℕ
  turns_of v = bit_of v.turn

  abbrev pub raises_of : View N E → ℕ
  raises_of v = bit_of v.raised

  abbrev pub users_of : View N E → ℕ
  users_of v = user_part v.user

  abbrev pub references_of : View N E → ℕ
  references_of v = reference_part v.user

  abbrev pub marks_of : View N E → ℕ
  marks_of v = mark_part v.user

  abbrev pub lone_marks_of : View N E → ℕ
  lone_marks_of v = lone_part v.user

  -- how many generations the seat, and those that were joined into it, installed
  abbrev pub installs_of : View N E → ℕ
  installs_of v = v.installs + total (λ (x : Joined N E). x.installs) v.joined

  -- a seat that holds nothing
  abbrev pub new_view : N → ℕ → ℕ → List (Stamped E) → View N E
  new_view name number made seen =
      record {
        name = Some name;
        number = number;
        made = made;
        user = Free;
        turn = false;
        raised = false;
        word = 0;
        steps = 0;
        installs = 0;
        seen = seen;
        joined = [];
      }

  -- the first seat
  abbrev pub first_view : N → List (Stamped E) → View N E
  first_view name list = new_view name 0 1 list

  -- what is left of a seat that was joined into another
  abbrev pub spent_view : View N E
  spent_view = record {
    name = None;
    number = 0;
    made = 0;
    user = Free;
    turn = false;
    raised = false;
    word = 0;
    steps = 0;
    installs = 0;
    seen = [];
    joined = [];
  }

  abbrev pub with_user : User → View N E → View N E
  with_user u v = record v { user = u }

  -- after a step that found the word w
  abbrev pub with_word : ℕ → User → View N E → View N E
  with_word w u v = record v { user = u; word = w; steps = v.steps + 1 }

  abbrev pub with_turn : List (Stamped E) → View N E → View N E
  with_turn list v = record v { turn = true; seen = list }

  abbrev pub without_turn : View N E → View N E
  without_turn v = record v { turn = false }

  -- the installed generation, as a seat with the turn knows it
  abbrev pub installed_generation : View N E → ℕ
  installed_generation v = generation_of v.seen - raises_of v

  abbrev pub with_list : List (Stamped E) → View N E → View N E
  with_list list v = record v { seen = list; raised = nat_lt (installed_generation v) (generation_of list) }

  -- a list of this generation may be noted: of the installed one, or, by a seat that is alone, of the next
  abbrev pub MayTell : View N E → ℕ → Type 0
  MayTell v g =
      (g ≡ installed_generation v) ⊎ ((lone_part v.user ≡ 1) × (g ≡ installed_generation v + 1) × (g < GENERATION_END))

  abbrev pub after_install : View N E → View N E
  after_install v = record v { user = Free; raised = false; installs = v.installs + 1 }

  -- the first seat after it has made one more, and the one that it made
  abbrev pub with_one_made : View N E → View N E
  with_one_made v = record v { made = v.made + 1 }

  abbrev pub next_view : View N E → View N E
  next_view v = record {
    name = v.name;
    number = v.made;
    made = 0;
    user = Free;
    turn = false;
    raised = false;
    word = 0;
    steps = 0;
    installs = 0;
    seen = v.seen;
    joined = [];
  }

  abbrev pub joined_part : View N E → Joined N E
  joined_part w = record { name = w.name; number = w.number; installs = w.installs; seen = w.seen }

  -- the first seat takes in the second
  abbrev pub with_joined : View N E → View N E → View N E
  with_joined v w = record v { joined = joined_part w ∷ (w.joined ++ v.joined) }

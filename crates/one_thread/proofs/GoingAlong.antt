-- Followers of a line, one flush after the other.
use Rattle.std.proofs.Common.{◌≡◌, List, [], ◌∷◌, ◌++◌, refl, sym, subst}
use Rattle.std.specs.Prelude.{Result, Ok, Err}
use Rattle.tty_calls.specs.declared.answers.Denied.{Denied}
use Rattle.tty_calls.specs.declared.answers.Denied.TheVariants.{NoMemory, Full}
use Rattle.port_core.specs.Ports.{PortValue, IsPort, Denies}
use Rattle.one_thread.specs.Acts.{FlushesOnce}
use Rattle.one_thread.specs.Following.{FollowsBy, GoesAlong, StopsAtFull, StopsAlong, Follows}
use Rattle.one_thread.proofs.LineFlushes.{same}

pub goes_none : {F : Type 0} (follows : PortValue → F → F → Type 0) (v : PortValue) (x : F) → GoesAlong follows v v x x
goes_none follows v x = record { between = []; by = (refl, refl) }

-- behind one flush
pub goes_once : {F : Type 0} (follows : PortValue → F → F → Type 0) (v w : PortValue) (x y : F)
    → IsPort v
    → IsPort w
    → FlushesOnce v w
    → follows w x y
    → GoesAlong follows v w x y
goes_once follows v w x y was is flushes done = record {
  between = (w, y) ∷ [];
  by = (record { was = was; is = is; flushes = flushes; done = done }, (refl, refl));
}

-- where it was denied
pub flush_stops : {F : Type 0} (d : Denied) (follows : PortValue → F → F → Type 0) (v w : PortValue) (x : F)
    → IsPort v
    → IsPort w
    → FlushesOnce v w
    → StopsAlong d follows v w x x
flush_stops NoMemory follows v w x was is flushes = tt
flush_stops Full follows v w x was is flushes =
    record { mid = v; goes = goes_none follows v x; was = was; is = is; flushes = flushes }

-- where memory was wanting behind it
pub follower_stops : {F : Type 0} (d : Denied) (follows : PortValue → F → F → Type 0) (v w : PortValue) (x y : F)
    → d ≡ NoMemory
    → StopsAlong d follows v w x y
follower_stops d follows v w x y is = subst (λ (e : Denied). StopsAlong e follows v w x y) (sym is) tt

-- where the line's end was denied
pub end_stops : {F : Type 0} (d : Denied) (follows : PortValue → F → F → Type 0) (v mid w : PortValue) (x y : F)
    → GoesAlong follows v mid x y
    → IsPort mid
    → Denies d mid w
    → StopsAlong d follows v w x y
end_stops NoMemory follows v mid w x y goes was denies = tt
end_stops Full follows v mid w x y goes was denies = record {
  mid = mid;
  goes = goes;
  was = was;
  is = subst IsPort (sym denies.1) was;
  flushes = same mid w denies.1;
}

-- ---- one after the other

by_more : {F : Type 0} (follows : PortValue → F → F → Type 0) (first then : List (PortValue × F)) (u v w : PortValue)
    (x y z : F)
    → FollowsBy follows first u v x y
    → FollowsBy follows then v w y z
    → FollowsBy follows (first ++ then) u w x z
by_more follows [] then u v w x y z h k =
    subst (λ p. FollowsBy follows then p w x z) h.0 (subst (λ q. FollowsBy follows then v w q z) h.1 k)
by_more follows (mid ∷ first) then u v w x y z h k =
    (h.0, by_more follows first then mid.0 v w mid.1 y z h.1 k)

module _ {F : Type 0} (follows : PortValue → F → F → Type 0) (u v : PortValue) (x y : F)
    (h : GoesAlong follows u v x y) where
  pub goes_more : (w : PortValue) (z : F) → GoesAlong follows v w y z → GoesAlong follows u w x z
  goes_more w z k =
      record { between = h.between ++ k.between; by = by_more follows h.between k.between u v w x y z h.by k.by }

  pub stops_more : (d : Denied) (w : PortValue) (z : F) → StopsAlong d follows v w y z → StopsAlong d follows u w x z
  stops_more NoMemory w z k = tt
  stops_more Full w z k =
      record { mid = k.mid; goes = goes_more k.mid z k.goes; was = k.was; is = k.is; flushes = k.flushes }

  pub follows_more : {A : Type 0} (w : PortValue) (z : F) (result : Result A Denied)
      → Follows follows v w y z result
      → Follows follows u w x z result
  follows_more w z (Ok a) k = goes_more w z k
  follows_more w z (Err d) k = stops_more d w z k

-- The run as code goes by it: each stop from nothing found, with a list cut at k. A tile may be asked for again at a
-- later stop.
-- `join-cut` (proofs/Cut) says that lists and openings are those of the join.
use Rattle.std.specs.Prelude.{ℕ, Bool, cond, List, [], ◌∷◌, ◌++◌}
use Rattle.base.specs.Refusal.{Outcome, accepted, refused, and_then}
use Rattle.search.specs.Plan.{Geometry, Directory, near}
use Rattle.search.specs.Run.{Place, Reading, rank, tile_places}
use Rattle.search.specs.Inner.Cut.{inserts, last_ahead}

-- the tiles asked for, in turn, and what it comes to
pub record Trace (X : Type 0) : Type 0 where
  pub asked : List ℕ
  pub out : Outcome X

-- a tile's opening, and the rest of the walk with its sites
unfoldable pub enter : {S X : Type 0} → ℕ → Outcome (List S) → (List S → Trace X) → Trace X
enter t (accepted f) rest = record { asked = t ∷ (rest f).asked; out = (rest f).out }
enter t (refused n b) rest = record { asked = t ∷ []; out = refused n b }

-- a stop's list before those of the later stops, unless it is refused
unfoldable pub stop_then : List ℕ → Outcome (List Place) → Trace (List (List Place)) → Trace (List (List Place))
stop_then ts (accepted l) rest =
    record { asked = ts ++ rest.asked; out = and_then rest.out (λ ls. accepted (l ∷ ls)) }
stop_then ts (refused n b) rest = record { asked = ts; out = refused n b }

-- A stop's walk over the tiles that wait: it ends before a tile, or opens the tile and adds its sites to what is kept.
module _ {S A : Type 0} (ends : ℕ → A → Bool) (adds : ℕ → List S → A → A) (read : ℕ → Outcome (List S)) where
  unfoldable pub walk_by : List ℕ → A → Trace A
  walk_by [] a = record { asked = []; out = accepted a }
  walk_by (t ∷ ts) a =
      cond (ends t a) (record { asked = []; out = accepted a }) (enter t (read t) (λ f. walk_by ts (adds t f a)))

-- the walks of all stops in turn
unfoldable pub walks_by : {P : Type 0} → (P → Trace (List Place)) → List P → Trace (List (List Place))
walks_by stop [] = record { asked = []; out = accepted [] }
walks_by stop (p ∷ ps) = stop_then (stop p).asked (stop p).out (walks_by stop ps)

module _ {G : Geometry} (E : Directory G) (k : ℕ) where
  open G use {Site, Stop}

  -- what ends the walk with a list cut at k, and what adds to it
  abbrev pub cut_ends : Stop → ℕ → List Place → Bool
  cut_ends p t l = last_ahead k l (near E p t) t

  abbrev pub cut_adds : Stop → ℕ → List Site → List Place → List Place
  cut_adds p t f l = inserts rank k (tile_places G p t f) l

  abbrev pub cut_walk : Reading G → Stop → List ℕ → List Place → Trace (List Place)
  cut_walk read p ts l = walk_by (cut_ends p) (cut_adds p) read ts l

  -- each over the tiles of its queue, from nothing found
  abbrev pub cut_walks : Reading G → (Stop → List ℕ) → List Stop → Trace (List (List Place))
  cut_walks read tiles_of ps = walks_by (λ p. cut_walk read p (tiles_of p) []) ps

-- What the calls that serve stops ask and leave.
--
--   TileReady, after_tile    before and after a tile is taken for a stop
--   StopReady, StopServed    before and after a stop is served
--   StopsReady, Serves       before and after all stops are served
--   after_stops              what is left then
use Rattle.std.specs.Prelude.{ℕ, ◌*◌, ◌<◌, ◌≤◌, List, [], ◌∷◌, ◌≡◌, ltb, ℤ, length, set}
use Rattle.base.specs.Lists.{All}
use Rattle.base.specs.Refusal.{Outcome, accepted, refused, and_then}
use Rattle.blocks.specs.Directory.{directory}
use Rattle.blocks.specs.declared.header.Header.{Header}
use Rattle.list.specs.Inner.Keeping.{places, Ready}
use Rattle.list.specs.Slices.{Long, Lists, Slices, place_at, lay, cleared}
use Rattle.places.specs.declared.tile.Target.{Target}
use Rattle.plan.specs.FilePlan.{space, entries, opening_of, Site}
use Rattle.plan.specs.Inner.Seam.{TileOf, stop_of, ValidStop}
use Rattle.queue.specs.Inner.Keys.{waits}
use Rattle.search.specs.Inner.Cut.{inserts}
use Rattle.search.specs.Inner.Places.{max_places}
use Rattle.search.specs.Inner.Walk.{Trace, cut_walk, cut_walks}
use Rattle.search.specs.Lists.{range, filter}
use Rattle.search.specs.Order.{Strict}
use Rattle.search.specs.Run.{no_place, rank, tile_places, in_order, in_rows, opened_mark}
use Rattle.search.specs.declared.Place.{Place}
use Rattle.serve.specs.Inner.Marks.{mark_all, OpenedOpen}

-- ---- a tile

pub record TileReady (f : List ℕ) (h : Header) (t : ℕ) (g : Target) (used : ℕ) (o : Slices) : Type 0 where
  pub tile : TileOf f h t
  pub stop : ValidStop h (stop_of h g.stop)
  pub list : Ready o.lists g.at used g.k
  pub marks : h.tiles ≤ length o.marks
  pub opens : OpenedOpen f h o.marks

module _ (h : Header) (t : ℕ) (g : Target) (used : ℕ) where
  -- the list with the tile's sites that rank put in
  abbrev pub with_sites : List Site → Lists → List Place
  with_sites l o = inserts rank g.k (tile_places space (stop_of h g.stop) t l) (places o g.at used)

  -- opened, with these in the list; or refused, with nothing changed
  abbrev pub after_tile : Outcome (List Site) → Slices → Slices
  after_tile (accepted l) o = record {
    lists = lay o.lists g.at (with_sites l o.lists);
    marks = set o.marks t opened_mark;
  }
  after_tile (refused number block) o = o

-- ---- a stop

-- the walk of the stop over the waiting tiles
abbrev pub walk_of : List ℕ → Header → List ℕ → List ℤ → ℕ → Trace (List Place)
walk_of f h order p k = cut_walk (entries f h) k (opening_of f h) p (in_order (entries f h) order p) []

pub record StopReady (f : List ℕ) (h : Header) (order : List ℕ) (g : Target) (keys : List ℕ) (o : Slices) : Type 0 where
  pub dir : directory f ≡ accepted h
  pub tiles : All (λ t. t < h.tiles) order
  pub rise : Strict ltb order
  pub stop : ValidStop h (stop_of h g.stop)
  pub list : Ready o.lists g.at 0 g.k
  pub room : length order ≤ length keys
  pub marks : h.tiles ≤ length o.marks
  pub opens : OpenedOpen f h o.marks

-- the list from its index on and the marks; or refused, with changes among the stop's places and the marks only
pub record StopServed (f : List ℕ) (h : Header) (w : Trace (List Place)) (k at : ℕ) (o : Slices) (r : Outcome ℕ)
    (o' : Slices) : Type 0 where
  pub outcome : r ≡ and_then w.out (λ l. accepted (length l))
  pub few : (l : List Place) → w.out ≡ accepted l → length l ≤ k
  pub answered : (l : List Place) → w.out ≡ accepted l
      → o' ≡ record { lists = lay o.lists at l; marks = mark_all o.marks w.asked }
  pub opens : (l : List Place) → w.out ≡ accepted l → OpenedOpen f h o'.marks
  pub under : cleared at k h.tiles o' ≡ cleared at k h.tiles o

-- ---- all stops

pub record StopsReady (f : List ℕ) (h : Header) (ps : List (List ℤ)) (k : ℕ) (o : Slices) : Type 0 where
  pub dir : directory f ≡ accepted h
  pub valid : All (ValidStop h) ps
  pub some : 0 < k
  pub few : length ps * k ≤ max_places
  pub long : Long o.lists (length ps * k)
  pub clear : (i : ℕ) → 0 ≤ i → i < length ps * k → place_at o.lists i ≡ no_place
  pub marks : h.tiles ≤ length o.marks
  pub opens : OpenedOpen f h o.marks

-- the tiles that wait, by the marks
abbrev pub waiting : List ℕ → Header → List ℕ → List ℕ
waiting f h marks = filter (waits (entries f h) marks) (range 0 h.tiles)

-- the walks of all stops over them
abbrev pub walks_of : List ℕ → Header → List ℕ → List (List ℤ) → ℕ → Trace (List (List Place))
walks_of f h order ps k = cut_walks (entries f h) k (opening_of f h) (in_order (entries f h) order) ps

-- the length of the last list, or n if there is none
abbrev pub last_length : ℕ → List (List Place) → ℕ
last_length n [] = n
last_length n (l ∷ ls) = last_length (length l) ls

-- all lists and the marks; or refused, with n places and T marks zero
abbrev pub after_stops : Header → Trace (List (List Place)) → ℕ → ℕ → Slices → Slices
after_stops h w k n o = go w.out
  where
    go : Outcome (List (List Place)) → Slices
    go (accepted ls) = record { lists = lay o.lists 0 (in_rows k ls); marks = mark_all o.marks w.asked }
    go (refused number block) = cleared 0 n h.tiles o

-- what serving comes to, and what it leaves
pub record Serves (f : List ℕ) (h : Header) (ps : List (List ℤ)) (k : ℕ) (o : Slices) (r : Outcome ℕ) (o' : Slices)
    : Type 0 where
  pub outcome : r ≡ and_then (walks_of f h (waiting f h o.marks) ps k).out (λ ls. accepted (last_length 0 ls))
  pub left : o' ≡ after_stops h (walks_of f h (waiting f h o.marks) ps k) k (length ps * k) o

-- What the demands claim of a call: about the file, the answer, and the lent slices at the end.
--
--   full_run_for     the run that striking is compared with
--   SameAnswer       two calls with the same lists, marks and counts
--   RefusedRun       a call whose run is refused
--   SameCandidates   two files that are alike in all tiles that a run may open
--   PastStays        a call and the elements that it has no use for
--   PrunesAlike      a call that answers, and the call that strikes
--   Demand2          a call on a file that passes the full check
--   Demand3          a call that answers
use Rattle.std.specs.Prelude.{ℕ, ◌+◌, ◌*◌, ◌<◌, ◌≤◌, true, false, List, [], ◌↔◌, ◌≡◌, eqb, ℤ, length, get_or, take}
use Rattle.base.specs.Refusal.{accepted, refused}
use Rattle.blocks.specs.Block.{block_at}
use Rattle.blocks.specs.Directory.{directory}
use Rattle.blocks.specs.Same.{SameDirectory}
use Rattle.blocks.specs.declared.header.Header.{Header}
use Rattle.geometry.specs.Around.{around, SmallestAround}
use Rattle.list.specs.Slices.{Slices, place_at}
use Rattle.plan.specs.FilePlan.{space, entries, opening_of, town_of}
use Rattle.prune.specs.Prune.{prune_call, marks_after}
use Rattle.search.specs.Claims.{FullSearch}
use Rattle.search.specs.FullSearch.{SiteOf, ByDistanceTileSlot, fullSearch, Fits, Changes}
use Rattle.search.specs.Lists.{count, member, All, Distinct}
use Rattle.search.specs.Plan.{ranked, Town, Agrees}
use Rattle.search.specs.Pruning.{pruned}
use Rattle.search.specs.Run.{Run, rank, no_place, full_queue, run, places_used, opened_mark}
use Rattle.search.specs.Run.{pruned_mark, no_mark}
use Rattle.search.specs.declared.Place.{Place}
use Rattle.stops.specs.Stops.{stop_count, stops_of}
use Rattle.tiles.specs.Tile.{tile_position, open_tile}
use Rattle.join.specs.declared.call.Joined.{Joined}
use Rattle.join.specs.Join.{End, run_for, lengths_of, join_end}

-- the run of `run_for` with the struck tiles in each stop's queue
abbrev pub full_run_for : List ℕ → Header → List (List ℤ) → ℕ → Run (List (List Place))
full_run_for f h cols k = run (entries f h) k (full_queue (entries f h)) (opening_of f h) (stops_of cols) []

-- "an answer with the same lists, marks and counts": the same outcome, the same in the first n × k places and in the
-- first T marks
pub record SameAnswer (cols : List (List ℤ)) (k : ℕ) (h : Header) (a b : End) : Type 0 where
  pub outcome : b.outcome ≡ a.outcome
  pub lists : (i : ℕ) → i < stop_count cols * k → place_at b.slices.lists i ≡ place_at a.slices.lists i
  pub marks : (t : ℕ) → t < h.tiles → get_or b.slices.marks t 0 ≡ get_or a.slices.marks t 0

-- "no struck tile is opened, not even in a refused run": number and block of the refusal are those of a tile that is
-- neither struck nor empty: it has a site that ranks
pub record RefusedRun (f : List ℕ) (h : Header) (cols : List (List ℤ)) (k number block : ℕ) : Type 0 where
  pub tile : ℕ
  pub below : tile < h.tiles
  pub position : block ≡ tile_position h tile
  pub unpruned : pruned (entries f h) (around cols) k tile ≡ false
  pub some : 0 < ranked (entries f h) tile
  pub refuses : open_tile f h tile ≡ refused number block

-- g has the length and the directory of f, and the block of every tile that is not struck and has a site that ranks;
-- those of struck tiles, and of tiles without such a site, may hold anything
pub record SameCandidates (f g : List ℕ) (h : Header) (cols : List (List ℤ)) (k : ℕ) : Type 0 where
  pub same : SameDirectory f g h
  pub candidates : (t : ℕ) → t < h.tiles → pruned (entries f h) (around cols) k t ≡ false
      → 0 < ranked (entries f h) t → block_at g (tile_position h t) ≡ block_at f (tile_position h t)

-- "Elements past these never change": past the first n × k places and the first T marks
pub record PastStays (cols : List (List ℤ)) (k : ℕ) (h : Header) (before after : Slices) : Type 0 where
  pub lists : (i : ℕ) → stop_count cols * k ≤ i → place_at after.lists i ≡ place_at before.lists i
  pub marks : (t : ℕ) → h.tiles ≤ t → get_or after.marks t 0 ≡ get_or before.marks t 0

-- strike, for "the smallest box around the stops", the same k and any marks that are long enough
pub record PrunesAlike (f : List ℕ) (cols : List (List ℤ)) (k : ℕ) (out : Slices) (r : Joined) (lent : List ℕ) : Type 0
  where
    pub smallest : SmallestAround (length cols) (stops_of cols) (around cols)
    -- it answers, with the T and the number struck of the join
    pub answers : prune_call f (around cols) k lent ≡ accepted (record { tiles = r.tiles; pruned = r.pruned })
    -- and leaves the mark 1 exactly where the join does
    pub marked : (t : ℕ) → t < r.tiles
        → (get_or (join_end f cols k out).slices.marks t 0 ≡ pruned_mark)
        ↔ (get_or (marks_after f (around cols) k lent (prune_call f (around cols) k lent)) t 0 ≡ pruned_mark)

module _ (f : List ℕ) (cols : List (List ℤ)) (k : ℕ) (out : Slices) (h : Header) where
  -- the tiles opened, and the slices at the end
  abbrev pub opened : List ℕ
  opened = (run_for f h cols k).openings

  abbrev pub slices_left : Slices
  slices_left = (join_end f cols k out).slices

  -- "any town that agrees with the directory and the opened tiles, whatever its other tiles hold"
  abbrev pub Agreeing : Town space → Type 0
  Agreeing town = Fits (entries f h) (opening_of f h) opened town

  -- "On a file that passes the full check", with the header h: the whole town is its own, `town_of`
  pub record Demand2 (r : Joined) : Type 0 where
    -- the join answers, with T and the places used
    pub answers : (join_end f cols k out).outcome ≡ accepted r
    pub tiles : r.tiles ≡ h.tiles
    pub used : r.used ≡ places_used (entries f h) k
    -- "each list is the first k sites of the whole town": place j of stop i is at i × k + j
    pub lists : (i j : ℕ) → i < stop_count cols → j < k
        → place_at slices_left.lists (i * k + j)
        ≡ get_or (fullSearch (entries f h) k (get_or (stops_of cols) i []) (town_of f h)) j no_place
    -- what that is: the town's sites that rank, each once, in their ranking, and every one left out behind every listed
    -- one
    pub first : All (λ p. FullSearch (entries f h) k p (town_of f h)) (stops_of cols)
    -- "by Euclidean distance, ties by tile and slot"
    pub ranking : (p : List ℤ) (a b : Place) (s : SiteOf (entries f h) p (town_of f h) a)
        (u : SiteOf (entries f h) p (town_of f h) b)
        → (rank a b ≡ true) ↔ ByDistanceTileSlot (entries f h) s u
    -- and the town has T tiles, each with the count and the muted number of its entry and all sites inside its box
    pub agrees : Agrees (entries f h) (town_of f h)

  -- "Suppose the join answers"
  pub record Demand3 (r : Joined) : Type 0 where
    -- T is the directory's, and the box of 'struck' "the smallest box around the stops"
    pub header : directory f ≡ accepted h
    pub tiles : r.tiles ≡ h.tiles
    pub smallest : SmallestAround (length cols) (stops_of cols) (around cols)
    -- "For every stop, the join's list equals what a full search of that town gives: the same distance, site and cue at
    -- each place"
    pub lists : (town : Town space) → Agreeing town → (i j : ℕ) → i < stop_count cols → j < k
        → place_at slices_left.lists (i * k + j)
        ≡ get_or (fullSearch (entries f h) k (get_or (stops_of cols) i []) town) j no_place
    -- the order of such a town's sites: "by D from the stop, then tile, then slot"
    pub ranking : (town : Town space) → Agreeing town → (p : List ℤ) (a b : Place)
        (s : SiteOf (entries f h) p town a) (u : SiteOf (entries f h) p town b)
        → (rank a b ≡ true) ↔ ByDistanceTileSlot (entries f h) s u
    -- "A tile was opened exactly when some other filling of it .. changes what the full search gives for at least one
    -- stop"
    pub opened_exactly : (town : Town space) → Agreeing town → (t : ℕ)
        → (member t opened ≡ true) ↔ Changes (entries f h) k town (stops_of cols) t
    -- "A tile is marked 2 exactly when it was opened and 1 exactly when it is struck"
    pub marked_opened : (t : ℕ) → t < h.tiles → (get_or slices_left.marks t 0 ≡ opened_mark) ↔ (member t opened ≡ true)
    pub marked_pruned : (t : ℕ) → t < h.tiles
        → (get_or slices_left.marks t 0 ≡ pruned_mark) ↔ (pruned (entries f h) (around cols) k t ≡ true)
    -- "0 neither"
    pub marked_neither : (t : ℕ) → t < h.tiles
        → (get_or slices_left.marks t 0 ≡ no_mark)
        ↔ ((member t opened ≡ false) × (pruned (entries f h) (around cols) k t ≡ false))
    -- "no struck tile is opened", and each tile once
    pub none_pruned : All (λ t. pruned (entries f h) (around cols) k t ≡ false) opened
    pub once : Distinct opened
    -- "the counts are as the papers define them": those of the marks, and the places used
    pub count_opened : r.opened ≡ count (λ m. eqb m opened_mark) (take h.tiles slices_left.marks)
    pub count_pruned : r.pruned ≡ count (λ m. eqb m pruned_mark) (take h.tiles slices_left.marks)
    pub count_used : r.used ≡ places_used (entries f h) k
    -- "Any file of the same length, equal to this one in every byte of the directory and of the opened tiles, gets an
    -- answer with the same lists, marks and counts for the same stops, k and output lengths, whatever bytes the other
    -- tiles of either file hold."
    pub other_files : (g : List ℕ) → SameDirectory f g h
        → All (λ t. block_at g (tile_position h t) ≡ block_at f (tile_position h t)) opened
        → (out' : Slices) → lengths_of out' ≡ lengths_of out
        → SameAnswer cols k h (join_end f cols k out) (join_end g cols k out')

-- The theorems for the reader: demands 2 and 3 of the run, sentence by sentence.
-- The definition of the run is `join` (specs/Run), what is claimed of it `RunAnswers` (specs/Claims). G is the
-- geometry, E the directory, O the box around the stops, and L what is assumed of them.
use Prim.Native.Nat.{ℕ, ◌<◌, ◌≤◌}
use mathlib.Core.Bool.{true, false, not, ◌&&◌}
use mathlib.Core.List.{List, [], ◌∷◌, map}
use mathlib.Core.Logic.{◌↔◌}
use mathlib.Core.Path.{◌≡◌, ap, ◌∙◌}
use lib.Dec.{eqb}
use lib.ListN.{length, get_or}
use Rattle.base.specs.Refusal.{accepted}
use Rattle.search.specs.Claims.{FullSearch, RunAnswers}
use Rattle.search.specs.FullSearch.{first_of, SiteOf, ByDistanceTileSlot, Fits}
use Rattle.search.specs.Lists.{range, count, total, member, All, Distinct}
use Rattle.search.specs.Plan.{Geometry, Directory, Lawful, ranked, Town, Agrees}
use Rattle.search.specs.Pruning.{pruned, pruned_count}
use Rattle.search.specs.Run.{Reading, Place, Run, Checked, rank, places_of, queue, full_queue, run, join}
use Rattle.search.specs.Run.{places_used, marks}
use Rattle.search.specs.Run.{opened_mark, pruned_mark, no_mark}
use Rattle.search.specs.Document01.{LikeDocument01}
use Rattle.search.proofs.Answered.{read_town, join-town, some_town, answer_padded, answer_places, answer_used}
use Rattle.search.proofs.Answered.{opened_changes, changes_opened}
use Rattle.search.proofs.FullQueue.{full_alike}
use Rattle.search.proofs.Lists.{all_map, all_mem}
use Rattle.search.proofs.Marks.{marks_at, mark_opened, mark_pruned, mark_neither, marks_opened}
use Rattle.search.proofs.Marks.{marks_pruned}
use Rattle.search.proofs.Places.{Known, known}
use Rattle.search.proofs.Pruning as pruning
use Rattle.search.proofs.Queue.{candidate_unpruned, candidate_some}
use Rattle.search.proofs.Ranking.{rank_exactly, site_here, first_strict, first_sites, first_once, first_rest}
use Rattle.search.proofs.Ranking.{first_length}
use Rattle.search.proofs.Run.{join_chosen, join_once, join-same}
use Rattle.search.proofs.Sound as sound
use Rattle.search.proofs.Document01 as document01

module _ {G : Geometry} (E : Directory G) (O : G.Box) (k : ℕ) where
  open G use {Stop, Within, closer}
  open E use {tiles, box}

  -- ---- every run, refused ones too; nothing is assumed

  -- "no struck tile is opened, not even in a refused run"
  pub never_pruned : (read : Reading G) (ps : List Stop)
      → All (λ t. pruned E O k t ≡ false) (join E O k read ps).openings
  never_pruned read ps =
      all_map (join E O k read ps).openings (λ t c. candidate_unpruned E O k t c.1) (join_chosen E O k read ps)

  -- "the tiles that are not struck and not empty": a tile with no site that ranks counts as empty
  pub never_empty : (read : Reading G) (ps : List Stop) → All (λ t. 0 < ranked E t) (join E O k read ps).openings
  never_empty read ps =
      all_map (join E O k read ps).openings (λ t c. candidate_some E O k t c.1) (join_chosen E O k read ps)

  pub only_tiles : (read : Reading G) (ps : List Stop) → All (λ t. t < tiles) (join E O k read ps).openings
  only_tiles read ps = all_map (join E O k read ps).openings (λ t c. c.0) (join_chosen E O k read ps)

  -- "each tile is opened once a run"
  pub opened_once : (read : Reading G) (ps : List Stop) → Distinct (join E O k read ps).openings
  opened_once read ps = join_once E O k read ps

  -- "Any file .. equal to this one in every byte of the directory and of the opened tiles, gets an answer with the same
  -- lists, marks and counts": the same outcome, lists and openings, of which marks and counts are made
  pub same_run : (read read' : Reading G) (ps : List Stop) → All (λ t. read' t ≡ read t) (join E O k read ps).openings
      → join E O k read' ps ≡ join E O k read ps
  same_run read read' ps h = join-same E O k read read' ps h

  -- "A tile is marked 2 exactly when it was opened"
  pub marked_opened : (opened : List ℕ) (t : ℕ) → t < tiles
      → (get_or (marks E O k opened) t 0 ≡ opened_mark) ↔ (member t opened ≡ true)
  marked_opened opened t h = rw (marks_at E O k opened t h) (mark_opened E O k opened t)

  -- "and 1 exactly when it is struck"
  pub marked_pruned : (read : Reading G) (ps : List Stop) (t : ℕ) → t < tiles
      → (get_or (marks E O k (join E O k read ps).openings) t 0 ≡ pruned_mark) ↔ (pruned E O k t ≡ true)
  marked_pruned read ps t h = rw (marks_at E O k (join E O k read ps).openings t h)
      (mark_pruned E O k (join E O k read ps).openings (never_pruned read ps) t)

  -- "0 neither"
  pub marked_neither : (opened : List ℕ) (t : ℕ) → t < tiles
      → (get_or (marks E O k opened) t 0 ≡ no_mark) ↔ ((member t opened ≡ false) × (pruned E O k t ≡ false))
  marked_neither opened t h = rw (marks_at E O k opened t h) (mark_neither E O k opened t)

  -- "Opened and struck equal the marks of that sort"
  pub opened_count : (read : Reading G) (ps : List Stop)
      → count (λ m. eqb m opened_mark) (marks E O k (join E O k read ps).openings)
      ≡ length (join E O k read ps).openings
  opened_count read ps = marks_opened E O k (join E O k read ps).openings (opened_once read ps) (only_tiles read ps)

  pub pruned_count_lem : (read : Reading G) (ps : List Stop)
      → count (λ m. eqb m pruned_mark) (marks E O k (join E O k read ps).openings) ≡ pruned_count E O k
  pruned_count_lem read ps = marks_pruned E O k (join E O k read ps).openings (never_pruned read ps)

  -- 02.1 leaves a town without muted sites as it was: all is given that document 01 alone gives
  pub like_document_01 : ((t : ℕ) → t < tiles → E.muted t ≡ 0) → LikeDocument01 E O k
  like_document_01 none = document01.like_document_01 E none O k

  -- ---- every run, where what opens agrees with the directory

  module _ (L : Lawful E O) where
    -- Striking spares a stop the keys of tiles that it would not come to, and changes nothing else: with the struck
    -- tiles in the queue the same tiles are opened in the same order, with the same lists or the same refusal.
    pub pruning_opens_alike : (read : Reading G) → Checked E read → (ps : List Stop) → All (Within O) ps
        → run E k (full_queue E) read ps [] ≡ join E O k read ps
    pruning_opens_alike = full_alike E O k L

    -- Why striking is right: the tiles nearer than a struck tile that are not struck themselves have k sites
    -- that rank or more,
    pub pruned_by_free : (b : ℕ) → b < tiles → pruned E O k b ≡ true
        → k ≤ total (λ e. not (pruned E O k e) && closer O (box e) (box b)) (ranked E) (range 0 tiles)
    pruned_by_free = pruning.pruned_by_free E O k L

    -- and every site of it that ranks is behind k sites of tiles that a stop may come to
    pub pruned_behind : (p : Stop) → Within O p → (g : Town G) → Agrees E g → (y : Place) (u : SiteOf E p g y)
        → pruned E O k u.tile ≡ true → k ≤ count (λ x. rank x y) (places_of G p g (queue E O k p))
    pruned_behind p home g ag y u s =
        let t = u.tile in
        let i = all_mem (Known E p g t) (known E L p home g t (u.below, ag t u.below)) (site_here E k p g y u) in
        sound.pruned_behind E O k L p home g ag t u.below s y i

  -- ---- a full search, and a run that answers

  module _ (L : Lawful E O) where
    -- "Sites rank by D from the stop, then tile, then slot": so do the sites of a town that agrees with the directory
    pub ranking_exactly : (p : Stop) (g : Town G) → Agrees E g → (a b : Place)
        → (s : SiteOf E p g a) (u : SiteOf E p g b) → (rank a b ≡ true) ↔ ByDistanceTileSlot E s u
    ranking_exactly = rank_exactly E L

    pub full_search : (p : Stop) → Within O p → (g : Town G) → Agrees E g → FullSearch E k p g
    full_search p home g ag = record {
      sites = first_sites E k L p home g ag;
      once = first_once E k L p home g ag;
      order = first_strict E k L p home g ag;
      behind = first_rest E k L p home g ag;
      used = first_length E k L p home g ag;
    }

    -- Demand 2: "On a file that passes the full check, each list is the first k sites of the whole town".
    pub demand_2 : (read : Reading G) (g : Town G) → Agrees E g → ((t : ℕ) → t < tiles → read t ≡ accepted (g t))
        → (ps : List Stop) → All (Within O) ps
        → (join E O k read ps).outcome ≡ accepted (map (λ p. first_of E k p g) ps)
    demand_2 read g ag e ps hs =
        let opened = (join E O k (read_town L k g) ps).openings in
        ap (λ (r : Run (List (List Place))). r.outcome)
        (same_run (read_town L k g) read ps (all_map opened (λ t h. e t h) (only_tiles (read_town L k g) ps)))
        ∙ join-town L k g ag ps hs

    pub demand_3 : (read : Reading G) (ps : List Stop) → All (Within O) ps → (ls : List (List Place))
        → (join E O k read ps).outcome ≡ accepted ls → RunAnswers E O k read ps ls (join E O k read ps).openings
    demand_3 read ps hs ls e = record {
      lists = answer_padded L k read ps hs ls e;
      places = answer_places L k read ps hs ls e;
      opened_exactly = λ g f t. (opened_changes L k read ps hs ls e g f t, changes_opened L k read ps hs ls e g f t);
      marked_opened = marked_opened (join E O k read ps).openings;
      marked_pruned = marked_pruned read ps;
      marked_neither = marked_neither (join E O k read ps).openings;
      none_pruned = never_pruned read ps;
      count_opened = opened_count read ps;
      count_pruned = pruned_count_lem read ps;
      count_used = answer_used L k read ps hs ls e;
      other_files = λ read' h. same_run read read' ps h;
    }

    -- Demand 3 speaks of some town: where what opens agrees with the directory, one agrees with it and with all that
    -- was opened.
    pub town_exists : (read : Reading G) → Checked E read → (ps : List Stop) (ls : List (List Place))
        → (join E O k read ps).outcome ≡ accepted ls → (p : Stop) → Within O p → (g : Town G)
        × Fits E read (join E O k read ps).openings g
    town_exists = some_town L k

    -- "Places used for each stop: the smaller of k and all sites", those that rank
    pub places_used_lem : (read : Reading G) → Checked E read → (ps : List Stop) → All (Within O) ps
        → (ls : List (List Place))
        → (join E O k read ps).outcome ≡ accepted ls → All (λ l. length l ≡ places_used E k) ls
    unfolding join run
    places_used_lem read checked [] hs ls e = let i : ls ≡ [] = cc in rw i tt
    places_used_lem read checked (p ∷ ps) hs ls e =
        let g = some_town L k read checked (p ∷ ps) ls e p hs.0 in
        answer_used L k read (p ∷ ps) hs ls e g.0 g.1

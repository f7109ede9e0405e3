-- What the theorems claim of a full search, and of a run that answers.
use Rattle.std.specs.Prelude.{ℕ, ◌+◌, ◌*◌, ◌<◌, true, false, ◌↔◌, ◌≡◌, eqb, length, get_or}
use mathlib.Core.List.{List, map, Memᴰ}
use Rattle.search.specs.FullSearch.{first_of, fullSearch, SiteOf, Fits, Changes}
use Rattle.search.specs.Lists.{count, member, All, Distinct}
use Rattle.search.specs.Order.{Strict}
use Rattle.search.specs.Plan.{Geometry, Directory, Town}
use Rattle.search.specs.Pruning.{pruned, pruned_count}
use Rattle.search.specs.Run.{Reading, Place, no_place, rank, join, padded, in_rows, places_used, marks, opened_mark}
use Rattle.search.specs.Run.{pruned_mark, no_mark}

-- What a full search gives: the town's sites that rank, each once, in their ranking, and every one left out behind
-- every listed one.
pub record FullSearch {G : Geometry} (E : Directory G) (k : ℕ) (p : G.Stop) (g : Town G) : Type 0 where
  pub sites : All (SiteOf E p g) (first_of E k p g)
  pub once : Distinct (map (λ a. a.site) (first_of E k p g))
  pub order : Strict rank (first_of E k p g)
  pub behind : (a b : Place) → Memᴰ a (first_of E k p g) → SiteOf E p g b → (Memᴰ b (first_of E k p g) → ⊥)
      → rank a b ≡ true
  pub used : length (first_of E k p g) ≡ places_used E k

-- Demand 3 of a run. "Suppose the join answers", with the lists ls. "Take any town that agrees with the directory and
-- the opened tiles, whatever its other tiles hold."
module _ {G : Geometry} (E : Directory G) (O : G.Box) (k : ℕ) (read : Reading G) (ps : List G.Stop) where
  pub record RunAnswers (ls : List (List Place)) (opened : List ℕ) : Type 0 where
    -- "For every stop, the join's list equals what a full search of that town gives"
    pub lists : (g : Town G) → Fits E read opened g → map (padded k) ls ≡ map (λ p. fullSearch E k p g) ps
    -- "the same distance, site and cue at each place": place j of stop i, in the output slices
    pub places : (g : Town G) → Fits E read opened g → (p : G.Stop) (i j : ℕ) → i < length ps → j < k
        → get_or (in_rows k ls) (i * k + j) no_place ≡ get_or (fullSearch E k (get_or ps i p) g) j no_place
    -- "A tile was opened exactly when some other filling of it .. changes what the full search gives for at least one
    -- stop"
    pub opened_exactly : (g : Town G) → Fits E read opened g → (t : ℕ) → (member t opened ≡ true) ↔ Changes E k g ps t
    -- "A tile is marked 2 exactly when it was opened and 1 exactly when it is struck"
    pub marked_opened : (t : ℕ) → t < E.tiles → (get_or (marks E O k opened) t 0 ≡ opened_mark) ↔ (member t opened ≡ true)
    pub marked_pruned : (t : ℕ) → t < E.tiles → (get_or (marks E O k opened) t 0 ≡ pruned_mark) ↔ (pruned E O k t ≡ true)
    -- "0 neither"
    pub marked_neither : (t : ℕ) → t < E.tiles
        → (get_or (marks E O k opened) t 0 ≡ no_mark) ↔ ((member t opened ≡ false) × (pruned E O k t ≡ false))
    -- "no struck tile is opened"
    pub none_pruned : All (λ t. pruned E O k t ≡ false) opened
    -- "and the counts are as the papers define them"
    pub count_opened : count (λ m. eqb m opened_mark) (marks E O k opened) ≡ length opened
    pub count_pruned : count (λ m. eqb m pruned_mark) (marks E O k opened) ≡ pruned_count E O k
    pub count_used : (g : Town G) → Fits E read opened g → All (λ l. length l ≡ places_used E k) ls
    -- "Any file .. equal to this one in .. the directory and .. the opened tiles"
    pub other_files : (read' : Reading G) → All (λ t. read' t ≡ read t) opened
        → join E O k read' ps ≡ join E O k read ps

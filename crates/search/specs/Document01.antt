-- Document 01 alone, without 02.1: every site ranks. What is claimed of a town in which none is muted.
--
--   geometry01, entries01   a geometry, a directory, in which every site ranks
--   AllRank                 every site of a filling ranks
--   LikeDocument01          nothing else is given than document 01 gives
use Rattle.std.specs.Prelude.{ℕ, ◌<◌, true, List, ◌≡◌}
use Rattle.search.specs.FullSearch.{fullSearch}
use Rattle.search.specs.Lists.{All}
use Rattle.search.specs.Plan.{Geometry, Directory, Town, ranked}
use Rattle.search.specs.Pruning.{pruned, pruned_count}
use Rattle.search.specs.Run.{Reading, Checked, places_used, join, marks}

abbrev pub geometry01 : Geometry → Geometry
geometry01 G = record {
  Site = G.Site;
  Stop = G.Stop;
  Box = G.Box;
  cue = G.cue;
  ranks = λ s. true;
  Inside = G.Inside;
  Within = G.Within;
  D = G.D;
  min_dist = G.min_dist;
  closer = G.closer;
}

abbrev pub entries01 : {G : Geometry} → Directory G → Directory (geometry01 G)
entries01 E = record { tiles = E.tiles; box = E.box; size = E.size; muted = λ t. 0 }

abbrev pub AllRank : (G : Geometry) → List G.Site → Type 0
AllRank G f = All (λ s. G.ranks s ≡ true) f

pub record LikeDocument01 {G : Geometry} (E : Directory G) (O : G.Box) (k : ℕ) : Type 0 where
  -- the sites of a tile that rank are as many as its count
  pub all_rank : (t : ℕ) → t < E.tiles → ranked E t ≡ E.size t
  pub used : places_used E k ≡ places_used (entries01 E) k
  pub pruned_alike : (t : ℕ) → t < E.tiles → pruned E O k t ≡ pruned (entries01 E) O k t
  pub pruned_number : pruned_count E O k ≡ pruned_count (entries01 E) O k
  pub marked : (opened : List ℕ) → marks E O k opened ≡ marks (entries01 E) O k opened
  -- a full search of a town in which every site ranks
  pub searched : (p : G.Stop) (g : Town G) → ((t : ℕ) → t < E.tiles → AllRank G (g t))
      → fullSearch E k p g ≡ fullSearch (entries01 E) k p g
  -- the run: the same tiles in the same order, with the same lists or the same refusal
  pub ran : (read : Reading G) → Checked E read → (ps : List G.Stop)
      → join E O k read ps ≡ join (entries01 E) O k read ps

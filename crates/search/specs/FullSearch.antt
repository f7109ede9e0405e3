-- Document 01, "What a full search of a town gives for a stop", and demand 3's words about it.
use Rattle.std.specs.Prelude.{ℕ, ◌+◌, ◌*◌, ◌<◌, true, cond, ◌⊎◌, ◌≡◌, eqb}
use mathlib.Core.List.{List, Memᴰ}
use Rattle.std.proofs.Math.Option.{some}
use Rattle.std.proofs.Math.ListN.{get_elem?}
use Rattle.base.specs.Refusal.{accepted}
use Rattle.search.specs.Lists.{range, All}
use Rattle.search.specs.Plan.{Geometry, Directory, slots, Town, Agrees}
use Rattle.search.specs.Run.{Place, Reading, nearest, padded}

-- tile t filled otherwise, "with nothing else changed"
unfoldable pub refill : (G : Geometry) → Town G → ℕ → List G.Site → Town G
refill G g t f u = cond (eqb u t) f (g u)

module _ {G : Geometry} (E : Directory G) where
  open G use {Site, Stop, D, cue, ranks}
  open E use {tiles}

  -- a is the place of a site of the town that ranks: "each place with D, tile × 40 + slot, and cue"
  pub record SiteOf (p : Stop) (g : Town G) (a : Place) : Type 0 where
    pub tile : ℕ
    pub slot : ℕ
    pub it : Site
    pub below : tile < tiles
    pub there : get_elem? (g tile) slot ≡ some it
    pub ranked : ranks it ≡ true
    pub place : a ≡ record { dist = D p it; site = tile * slots + slot; cue = cue it }

  -- "Sites rank by D from the stop, then tile, then slot": of two sites of a town the first stands ahead
  abbrev pub ByDistanceTileSlot : {p : Stop} {g : Town G} {a b : Place} → SiteOf p g a → SiteOf p g b → Type 0
  ByDistanceTileSlot {p} s u =
      (D p s.it < D p u.it)
      ⊎ ((D p s.it ≡ D p u.it)
      × ((s.tile < u.tile) ⊎ ((s.tile ≡ u.tile) × (s.slot < u.slot))))

  -- a town "that agrees with the directory and the opened tiles": it "has the sites of that block there, slot for slot"
  pub record Fits (read : Reading G) (opened : List ℕ) (g : Town G) : Type 0 where
    pub directory : Agrees E g
    pub blocks : All (λ t. read t ≡ accepted (g t)) opened

  module _ (k : ℕ) where
    -- "the town's sites in their ranking, cut after k of them"; 02.1: "only sites with another cue rank"
    unfoldable pub first_of : Stop → Town G → List Place
    first_of p g = nearest G k p g (range 0 tiles)

    -- "places left over up to k are 0"
    unfoldable pub fullSearch : Stop → Town G → List Place
    fullSearch p g = padded k (first_of p g)

    -- "some other filling of it, agreeing with the directory and put into that town with nothing else changed, changes
    -- what the full search gives for at least one stop, in a distance, a site or a cue"
    pub record Changes (g : Town G) (ps : List Stop) (t : ℕ) : Type 0 where
      pub filling : List Site
      pub another : filling ≡ g t → ⊥
      pub agrees : Agrees E (refill G g t filling)
      pub stop : Stop
      pub served : Memᴰ stop ps
      pub differs : fullSearch stop (refill G g t filling) ≡ fullSearch stop g → ⊥

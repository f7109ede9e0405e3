-- Document 01, the opening paragraphs, with 02.1: sites, boxes, tiles and towns, over any geometry.
--
--   slots             the slots of a tile in a site number
--   Geometry          sites, stops and boxes, and the distances between them
--   Directory         T, and the box and the counts of each tile
--   near              near distance of a tile from a stop
--   Lawful            what is assumed of a directory and a box O
--   ranked            how many sites of a tile rank
--   Town              a filling of all tiles
--   Fills, Agrees     a filling, a town that agrees with the directory
use Rattle.std.specs.Prelude.{ℕ, ◌-◌, ◌≤◌, ◌<◌, Bool, true, false, not, List, ◌≡◌, length}
use Rattle.search.specs.Lists.{count, All}

-- Slots of a tile in a site number, "tile × 40 + slot".
abbrev pub slots : ℕ
slots = 40

pub record Geometry : Type 1 where
  pub Site : Type 0
  pub Stop : Type 0
  pub Box : Type 0
  -- what a list shows of a site's cue, and whether the site ranks
  pub cue : Site → ℕ
  pub ranks : Site → Bool
  -- a site, a stop lies in a box
  pub Inside : Box → Site → Type 0
  pub Within : Box → Stop → Type 0
  -- "D(p,q) is the squared Euclidean distance"
  pub D : Stop → Site → ℕ
  -- "Near .. of a point p and a box"
  pub min_dist : Stop → Box → ℕ
  -- from the first box, O, the second "is nearer than" the third
  pub closer : Box → Box → Box → Bool

-- T, and of each tile the box and the count of its entry, and how many of its sites do not rank
pub record Directory (G : Geometry) : Type 0 where
  pub tiles : ℕ
  pub box : ℕ → G.Box
  pub size : ℕ → ℕ
  pub muted : ℕ → ℕ

abbrev pub near : {G : Geometry} → Directory G → G.Stop → ℕ → ℕ
near {G} E p t = G.min_dist p (E.box t)

-- What is assumed: facts of the tiles' boxes and of the stops in the box O.
pub record Lawful {G : Geometry} (E : Directory G) (O : G.Box) : Type 0 where
  -- "A tile has 0 to 40 sites"; those that do not rank are at most as many
  pub size_small : (t : ℕ) → t < E.tiles → E.size t ≤ slots
  pub muted_few : (t : ℕ) → t < E.tiles → E.muted t ≤ E.size t
  -- near is the least distance: not above any, and reached by a site that ranks, with any other cue
  pub min_dist_le : (p : G.Stop) (t : ℕ) (s : G.Site) → G.Within O p → t < E.tiles → G.Inside (E.box t) s
      → near E p t ≤ G.D p s
  pub min_dist_reached : (p : G.Stop) (t : ℕ) (c : ℕ) → G.Within O p → t < E.tiles
      → (q : G.Site) × G.Inside (E.box t) q × (G.D p q ≡ near E p t) × (G.cue q ≡ c → ⊥) × (G.ranks q ≡ true)
  -- a box with muted sites can hold one
  pub muted_inside : (t : ℕ) → t < E.tiles → 0 < E.muted t
      → (q : G.Site) × G.Inside (E.box t) q × (G.ranks q ≡ false)
  -- from every stop of O each point of the nearer box is at a smaller distance
  pub closer_less : (p : G.Stop) (e b : ℕ) (s u : G.Site) → G.Within O p → e < E.tiles → b < E.tiles
      → G.closer O (E.box e) (E.box b) ≡ true → G.Inside (E.box e) s → G.Inside (E.box b) u → G.D p s < G.D p u
  pub closer_irrefl : (b : ℕ) → b < E.tiles → G.closer O (E.box b) (E.box b) ≡ false
  pub closer_trans : (a b c : ℕ) → a < E.tiles → b < E.tiles → c < E.tiles
      → G.closer O (E.box a) (E.box b) ≡ true → G.closer O (E.box b) (E.box c) ≡ true
      → G.closer O (E.box a) (E.box c) ≡ true

-- "A filling of a tile is its sites by slot"; a town has one for each tile, and past T it counts for nothing.
abbrev pub Town : Geometry → Type 0
Town G = ℕ → List G.Site

module _ {G : Geometry} (E : Directory G) where
  open G use {Site, ranks, Inside}
  open E use {tiles, box, size, muted}

  -- How many sites of a tile rank, by the directory.
  unfoldable pub ranked : ℕ → ℕ
  ranked t = size t - muted t

  -- a filling has "the count of its entry and .. all sites inside the box of its entry"; 02.1: "A filling of a tile
  -- keeps both numbers", the count and how many do not rank
  pub record Fills (t : ℕ) (f : List Site) : Type 0 where
    pub counted : length f ≡ size t
    pub muted_counted : count (λ s. not (ranks s)) f ≡ muted t
    pub inside : All (Inside (box t)) f

  -- "A town agrees with the directory when it has T tiles, each with .."; 02.1: "only when each of its tiles has the
  -- muted number of its entry too"
  abbrev pub Agrees : Town G → Type 0
  Agrees g = (t : ℕ) → t < tiles → Fills t (g t)

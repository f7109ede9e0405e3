-- Document 01, "The join", with 02.1: the ranking, the run over the stops, and what it gives out.
--
--   rank, ahead_of                    sites in their ranking; a place ahead of a key
--   listing, tile_places, places_of   the places of sites, of a tile, of some tiles of a town
--   nearest                           the first k of them
--   by_key, in_order, candidate, queue   the tiles of a stop by key
--   full_queue                        the same with the struck ones
--   ahead, enough                     the end of a stop's search
--   Reading, contents, Checked        what openings give
--   serve, run, join                  one stop, the stops in turn, the join
--   padded, in_rows, places_used, mark, marks   what it gives out
use Rattle.std.specs.Prelude.{ℕ, suc, ◌*◌, ◌/◌, ◌<◌, min, Bool, true, cond, not, ◌&&◌, List, [], ◌∷◌, ◌++◌, map, ◌≡◌, ltb, leb, take, replicate}
use Rattle.base.specs.Refusal.{Outcome, accepted, refused, and_then}
pub use Rattle.search.specs.declared.Place.{Place}
use Rattle.search.specs.Lists.{range, count, total, filter, member}
use Rattle.search.specs.Order.{lex, sort}
use Rattle.search.specs.Plan.{Geometry, Directory, slots, near, ranked, Town, Fills}
use Rattle.search.specs.Pruning.{pruned}

-- "Sites rank by D from the stop, then tile, then slot": the last two are the order of tile × 40 + slot.
unfoldable pub rank : Place → Place → Bool
rank a b = lex a.dist a.site b.dist b.site

-- A place is "ahead of the .. key (smaller D, or equal D and a lower tile number)".
unfoldable pub ahead_of : Place → ℕ → ℕ → Bool
ahead_of a least tile = lex a.dist (a.site / slots) least tile

-- "Unused places are 0."
abbrev pub no_place : Place
no_place = record { dist = 0; site = 0; cue = 0 }

-- A run: the tiles whose opening was tried, in that order, a refused one included; and what it comes to.
pub record Run (X : Type 0) : Type 0 where
  pub openings : List ℕ
  pub outcome : Outcome X

-- ---- places

module _ (G : Geometry) where
  open G use {Site, Stop, cue, ranks, D}

  -- the sites of a filling that rank, as places numbered by slot from a on
  unfoldable pub listing : Stop → ℕ → List Site → List Place
  listing p a [] = []
  listing p a (s ∷ f) =
      cond (ranks s) (record { dist = D p s; site = a; cue = cue s } ∷ listing p (suc a) f) (listing p (suc a) f)

  -- those of a tile: "the site as tile × 40 + slot"
  abbrev pub tile_places : Stop → ℕ → List Site → List Place
  tile_places p t f = listing p (t * slots) f

  -- those of some tiles of a town
  unfoldable pub places_of : Stop → Town G → List ℕ → List Place
  places_of p g [] = []
  places_of p g (t ∷ ts) = tile_places p t (g t) ++ places_of p g ts

  -- the first k of them
  unfoldable pub nearest : ℕ → Stop → Town G → List ℕ → List Place
  nearest k p g ts = take k (sort rank (places_of p g ts))

-- ---- openings

module _ (G : Geometry) where
  open G use {Site}

  -- what the opening of each tile gives: its sites by slot, or a refusal
  abbrev pub Reading : Type 0
  Reading = ℕ → Outcome (List Site)

  -- the sites of a tile that opens
  unfoldable pub contents : Reading → Town G
  contents read t = sites (read t)
    where
      sites : Outcome (List Site) → List Site
      sites (accepted f) = f
      sites (refused number block) = []

  -- a refused opening ends the run with its number and block, and is the last in it
  unfoldable pub opening : {X : Type 0} → Outcome (List Site) → List ℕ → Run X → Run X
  opening (accepted f) openings rest = rest
  opening (refused number block) openings rest = record { openings = openings; outcome = refused number block }

-- what opens agrees with the directory: an opening tests its entries (7), each of its sites (10) and how many are muted
-- (16)
abbrev pub Checked : {G : Geometry} → Directory G → Reading G → Type 0
Checked {G} E read = (t : ℕ) (f : List G.Site) → t < E.tiles → read t ≡ accepted f → Fills E t f

-- ---- the tiles of a stop

module _ {G : Geometry} (E : Directory G) where
  open G use {Stop}
  open E use {tiles}

  -- "by key: near distance from the stop, then tile number"
  unfoldable pub by_key : Stop → ℕ → ℕ → Bool
  by_key p t u = lex (near E p t) t (near E p u) u

  abbrev pub in_order : List ℕ → Stop → List ℕ
  in_order ts p = sort (by_key p) ts

  unfoldable pub ahead : Stop → ℕ → Place → Bool
  ahead p t a = ahead_of a (near E p t) t

  -- "the tiles that are not struck and not empty are taken by key"; 02.1: a tile with no sounding site "is treated as
  -- empty"
  module _ (O : G.Box) (k : ℕ) where
    unfoldable pub candidate : ℕ → Bool
    candidate t = not (pruned E O k t) && ltb 0 (ranked E t)

    abbrev pub candidates : List ℕ
    candidates = filter candidate (range 0 tiles)

    unfoldable pub queue : Stop → List ℕ
    queue p = in_order candidates p

  -- those "not empty", struck or not, by key: the join does not go by it; `pruning_opens_alike` (proofs/Theorems) says
  -- that it might
  unfoldable pub full_queue : Stop → List ℕ
  full_queue p = in_order (filter (λ t. ltb 0 (ranked E t)) (range 0 tiles)) p

-- ---- the run

-- a stop's list before those of the later stops, unless it is refused
unfoldable pub follow : Run (List Place) → Run (List (List Place)) → Run (List (List Place))
follow stop rest = go stop.outcome
  where
    go : Outcome (List Place) → Run (List (List Place))
    go (accepted l) = record { openings = rest.openings; outcome = and_then rest.outcome (λ ls. accepted (l ∷ ls)) }
    go (refused number block) = record { openings = stop.openings; outcome = refused number block }

module _ {G : Geometry} (E : Directory G) (k : ℕ) where
  open G use {Stop}
  open E use {tiles}

  -- "k sites .. are ahead of the next key", that of tile t
  unfoldable pub enough : Stop → ℕ → List Place → Bool
  enough p t found = leb k (count (ahead E p t) found)

  -- a stop's end, with its list: the first k sites of the tiles opened so far
  abbrev pub answer : Reading G → Stop → List ℕ → Run (List Place)
  answer read p opened = record { openings = opened; outcome = accepted (nearest G k p (contents G read) opened) }

  -- One stop, with the tiles that wait, and those opened in the run so far, for this stop or an earlier one. "It ends
  -- when k sites of opened tiles are ahead of the next key .., or no tile remains. A tile not yet opened is opened".
  unfoldable pub serve : Reading G → Stop → List ℕ → List ℕ → Run (List Place)
  serve read p [] opened = answer read p opened
  serve read p (t ∷ ts) opened =
      let more = opened ++ t ∷ [] in
      let next = cond (member t opened) (serve read p ts opened) (opening G (read t) more (serve read p ts more)) in
      cond (enough p t (places_of G p (contents G read) opened)) (answer read p opened) next

  -- "Stops are taken in turn", each over the tiles of its queue.
  unfoldable pub run : (Stop → List ℕ) → Reading G → List Stop → List ℕ → Run (List (List Place))
  run tiles_of read [] opened = record { openings = opened; outcome = accepted [] }
  run tiles_of read (p ∷ ps) opened =
      let stop = serve read p (tiles_of p) opened in
      follow stop (run tiles_of read ps stop.openings)

  -- "Places used for each stop: the smaller of k and all sites"; 02.1: "places used counts only these", that rank
  unfoldable pub places_used : ℕ
  places_used = min k (total (λ t. true) (ranked E) (range 0 tiles))

-- The join: at the start no tile is open.
unfoldable pub join : {G : Geometry} (E : Directory G) → G.Box → ℕ → Reading G → List G.Stop
    → Run (List (List Place))
join E O k read ps = run E k (queue E O k) read ps []

-- ---- what it gives out

-- a stop's k places
unfoldable pub padded : ℕ → List Place → List Place
padded k l = take k (l ++ replicate k no_place)

-- what the output slices hold: "place j of stop i is at i × k + j"
unfoldable pub in_rows : ℕ → List (List Place) → List Place
in_rows k [] = []
in_rows k (l ∷ ls) = padded k l ++ in_rows k ls

-- "Marks, one byte for each tile: 2 opened, 1 struck, 0 neither."
abbrev pub opened_mark : ℕ
opened_mark = 2

abbrev pub pruned_mark : ℕ
pruned_mark = 1

abbrev pub no_mark : ℕ
no_mark = 0

module _ {G : Geometry} (E : Directory G) (O : G.Box) (k : ℕ) where
  unfoldable pub mark : List ℕ → ℕ → ℕ
  mark opened t = cond (member t opened) opened_mark (cond (pruned E O k t) pruned_mark no_mark)

  unfoldable pub marks : List ℕ → List ℕ
  marks opened = map (mark opened) (range 0 E.tiles)

-- The output slices of the join: "Three output slices hold D, the site as tile × 40 + slot, and cue" (document 01, "The
-- join").
--
--   Lists, lists         the three slices as one value
--   Long                 how long they are at least
--   place_at             the place at an index
--   dists, sites, cues   what each slice holds of a list of places
--   lay                  the slices with a list of places written from an index on
--   Slices, lent         these three and the marks
--   cleared              the four slices with places and marks zero
use Rattle.std.specs.Prelude.{ℕ, ◌≤◌, List, map, get_or, length, replicate}
use Rattle.base.specs.Over.{over}
use Rattle.search.specs.Run.{no_place, no_mark}
use Rattle.search.specs.declared.Place.{Place}

pub record Lists : Type 0 where
  pub dist : List ℕ
  pub site : List ℕ
  pub cue : List ℕ

abbrev pub lists : List ℕ → List ℕ → List ℕ → Lists
lists d s c = record { dist = d; site = s; cue = c }

-- slices of at least m elements
abbrev pub Long : Lists → ℕ → Type 0
Long o m = (m ≤ length o.dist) × ((m ≤ length o.site) × (m ≤ length o.cue))

abbrev pub place_at : Lists → ℕ → Place
place_at o i = record { dist = get_or o.dist i 0; site = get_or o.site i 0; cue = get_or o.cue i 0 }

abbrev pub dists : List Place → List ℕ
dists l = map (λ a. a.dist) l

abbrev pub sites : List Place → List ℕ
sites l = map (λ a. a.site) l

abbrev pub cues : List Place → List ℕ
cues l = map (λ a. a.cue) l

-- nothing else is changed
unfoldable pub lay : Lists → ℕ → List Place → Lists
lay o at l = record {
  dist = over o.dist at (dists l);
  site = over o.site at (sites l);
  cue = over o.cue at (cues l);
}

-- "Marks, one byte for each tile" beside them
pub record Slices : Type 0 where
  pub lists : Lists
  pub marks : List ℕ

abbrev pub lent : List ℕ → List ℕ → List ℕ → List ℕ → Slices
lent d s c m = record { lists = lists d s c; marks = m }

-- n places from index at on and T marks; "elements past these never change"
unfoldable pub cleared : ℕ → ℕ → ℕ → Slices → Slices
cleared at n tiles o = record {
  lists = lay o.lists at (replicate n no_place);
  marks = over o.marks 0 (replicate tiles no_mark);
}

-- A list of at most k places kept sorted in the slices: what the calls ask and leave.
use Rattle.std.specs.Prelude.{ℕ, ◌+◌, ◌<◌, ◌≤◌, List, ◌≡◌, length, set}
use Rattle.base.specs.Tabulate.{tabulate}
use Rattle.search.specs.Inner.Cut.{Sorted, inserts}
use Rattle.search.specs.Order.{insert}
use Rattle.search.specs.Run.{rank}
use Rattle.search.specs.declared.Place.{Place}
use Rattle.list.specs.Slices.{Lists, Long, place_at, lay}

-- the n places from an index on
unfoldable pub places : Lists → ℕ → ℕ → List Place
places o at n = tabulate (place_at o) at n

-- one place stored
abbrev pub put : Lists → ℕ → Place → Lists
put o i x = record { dist = set o.dist i x.dist; site = set o.site i x.site; cue = set o.cue i x.cue }

-- x put in its rank into the n places from index at on
abbrev pub with_place : Lists → ℕ → ℕ → Place → Lists
with_place o at n x = lay o at (insert rank x (places o at n))

-- what a call that keeps a list wants: room for k places from index at on, of which some are used, in their rank
pub record Ready (o : Lists) (at used k : ℕ) : Type 0 where
  pub some : 0 < k
  pub few : used ≤ k
  pub long : Long o (at + k)
  pub sorted : Sorted rank (places o at used)

-- and leaves: the used places with more put in one after another and cut at k, and their number
pub record Adds (o : Lists) (at used k : ℕ) (more : List Place) (r : ℕ) (o' : Lists) : Type 0 where
  pub number : r ≡ length (inserts rank k more (places o at used))
  pub laid : o' ≡ lay o at (inserts rank k more (places o at used))

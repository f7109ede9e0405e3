-- What tests 11 to 14 and 17 show of the arguments.
use Rattle.std.specs.Prelude.{ℕ, ◌*◌, ◌<◌, ◌≤◌, true, List, ◌≡◌, ℤ, length}
use Rattle.base.specs.Lists.{All}
use Rattle.blocks.specs.declared.header.Header.{Header}
use Rattle.search.specs.Limits.{max_k, max_stops}
use Rattle.stops.specs.Stops.{stop_count, valid_stop}
use Rattle.stops.specs.declared.arguments.Lengths.{Lengths}

pub record GoodArguments (h : Header) (cols : List (List ℤ)) (k : ℕ) (l : Lengths) : Type 0 where
  pub some_k : 1 ≤ k
  pub few_k : k ≤ max_k
  pub some : 1 ≤ stop_count cols
  pub few : stop_count cols ≤ max_stops
  pub same : All (λ c. length c ≡ stop_count cols) cols
  pub axes : length cols ≡ h.axes
  pub valid : (i : ℕ) → i < stop_count cols → valid_stop cols i ≡ true
  pub dist : stop_count cols * k ≤ l.dist
  pub site : stop_count cols * k ≤ l.site
  pub cue : stop_count cols * k ≤ l.cue
  pub marks : h.tiles ≤ l.marks

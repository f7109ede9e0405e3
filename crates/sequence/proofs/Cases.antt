-- The worked examples, computed by the definitions.
use mathlib.Core.Path.{refl}
use Rattle.geometry.specs.Box.{on_axis}
use Rattle.geometry.specs.Distance.{gap, square, D, closest, farthest, closest_point, farthest_point}
use Rattle.geometry.specs.Margin.{gain, best_end, best_point, difference, reached_from, reached, margin, closer}
use Rattle.search.specs.Lists.{count, filter}
use Rattle.sequence.specs.Cases.{AllHold}
use Rattle.sequence.specs.Sequence.{without, lowest_of, free, next, steps, sequence}

pub cases_hold : AllHold
unfolding sequence steps next free lowest_of without count filter on_axis gap square D closest farthest closest_point
    farthest_point gain best_end best_point difference reached_from reached margin closer
cases_hold = (refl, (refl, (refl, (refl, (refl, (refl, (refl, tt)))))))

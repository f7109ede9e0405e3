-- What the run asks.
use Rattle.std.specs.Prelude.{ℕ, List, ◌≡◌, ℤ}
use Rattle.base.specs.Refusal.{accepted}
use Rattle.blocks.specs.Directory.{directory}
use Rattle.blocks.specs.declared.header.Header.{Header}
use Rattle.list.specs.Slices.{Slices}
use Rattle.stops.specs.Inner.Good.{GoodArguments}
use Rattle.join.specs.Join.{lengths_of}

-- tests 1 to 14 and 17 passed
pub record RunReady (f : List ℕ) (h : Header) (cols : List (List ℤ)) (k : ℕ) (out : Slices) : Type 0 where
  pub dir : directory f ≡ accepted h
  pub args : GoodArguments h cols k (lengths_of out)

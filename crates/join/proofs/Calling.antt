-- The call from its tests to its run.
use Prim.Native.Nat.{ℕ}
use mathlib.Core.List.{List}
use mathlib.Core.Path.{◌≡◌}
use lib.IntN.{ℤ}
use Rattle.base.specs.Refusal.{accepted}
use Rattle.blocks.specs.Directory.{directory}
use Rattle.blocks.specs.declared.header.Header.{Header}
use Rattle.list.specs.Slices.{Slices}
use Rattle.stops.specs.Arguments.{arguments}
use Rattle.stops.proofs.ArgumentLaws.{arguments_good}
use Rattle.join.specs.Inner.Running.{RunReady}
use Rattle.join.specs.Join.{lengths_of, tests, run_end, join_from, join_end}

module _ (f : List ℕ) (cols : List (List ℤ)) (k : ℕ) (out : Slices) {h : Header} (d : directory f ≡ accepted h)
    (a : arguments h cols k (lengths_of out) ≡ accepted tt) where
  -- all tests pass: the run decides
  pub tests_pass : join_end f cols k out ≡ run_end f h cols k out
  unfolding join_end join_from tests
  tests_pass = rw (d, a)

  -- and may start
  pub run_ready : RunReady f h cols k out
  run_ready = record { dir = d; args = arguments_good h cols k (lengths_of out) a }

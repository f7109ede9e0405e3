-- Laws of the program's answer: what the join answers can be printed.
use Prim.Native.Nat.{ℕ, ◌≤◌}
use mathlib.Core.List.{List}
use mathlib.Core.Path.{◌≡◌}
use lib.IntN.{ℤ}
use Rattle.base.specs.Refusal.{accepted}
use Rattle.join.specs.declared.call.Joined.{Joined}
use Rattle.join.specs.Join.{join_end}
use Rattle.list.specs.Slices.{Slices}
use Rattle.stops.specs.Stops.{stop_count}
use Rattle.base.proofs.Outcomes.{by_outcome}
use Rattle.join.proofs.Theorems.{answer_fits}
use Rattle.console.specs.Inner.Room.{Fitting, Printable}
use Rattle.console.specs.Limits.{request_stops}

module _ (f : List ℕ) (cols : List (List ℤ)) (k : ℕ) (out : Slices) (few : stop_count cols ≤ request_stops) where
  fitting : (r : Joined) → (join_end f cols k out).outcome ≡ accepted r
      → Fitting (stop_count cols) k r.used (join_end f cols k out).slices.lists
  fitting r e =
      let a = answer_fits f cols k out r e in
      record { stops = few; few = a.0; some = a.1.0; long = a.1.1 }

  pub printable : Printable (stop_count cols) k (join_end f cols k out).slices.lists (join_end f cols k out).outcome
  printable = by_outcome (join_end f cols k out).outcome (λ r e. rw e (fitting r e)) (λ n b e. rw e tt)

-- From a region O, "nearer" between the tiles of a file is irreflexive and transitive. Assumes nothing.
use Prim.Native.Nat.{ℕ}
use mathlib.Core.List.{List}
use mathlib.Core.Path.{◌≡◌}
use lib.IntN.{ℤ}
use Rattle.base.specs.Refusal.{accepted}
use Rattle.blocks.specs.Directory.{directory}
use Rattle.blocks.specs.declared.header.Header.{Header}
use Rattle.plan.specs.Inner.Seam.{ValidRegion}
use Rattle.plan.proofs.Theorems.{plan_lawful}
use Rattle.sequence.specs.Claims.{StrictOrder}
use Rattle.stream.specs.Stream.{closer_from}

pub closer-strict : (f : List ℕ) (h : Header) → directory f ≡ accepted h → (o : List (List ℤ)) → ValidRegion h o
    → StrictOrder (closer_from f h o) h.tiles
unfolding closer_from
closer-strict f h dir o v =
    let lawful = plan_lawful f h o dir v.valid v.axes in
    record { irreflexive = lawful.closer_irrefl; transitive = lawful.closer_trans }

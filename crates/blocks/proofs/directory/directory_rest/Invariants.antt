use Prim.Native.Nat.{◌-◌}
use mathlib.Core.Path.{◌≡◌}
use Rattle.base.specs.Refusal.{in_turn}
use Rattle.blocks.specs.Directory.{directory_blocks, directory_block_at}
use Rattle.blocks.proofs.directory.directory_rest.Given as goal

abbrev pub invariant-loop-p : goal.invariant-loop-p
invariant-loop-p l =
    in_turn (directory_block_at l.f) l.p (l.d - l.p) ≡ in_turn (directory_block_at l.f) 1 (directory_blocks l.h - 1)

-- Files that agree on the directory (demand 3: "of the same length, equal to this one in every byte of the directory").
use Rattle.std.specs.Prelude.{ℕ, ◌<◌, List, ◌≡◌, length}
use Rattle.blocks.specs.Block.{block_at}
use Rattle.blocks.specs.Directory.{directory_blocks}
use Rattle.blocks.specs.declared.header.Header.{Header}

-- g agrees with f on the directory with the header h
pub record SameDirectory (f g : List ℕ) (h : Header) : Type 0 where
  pub size : length g ≡ length f
  pub blocks : (p : ℕ) → p < directory_blocks h → block_at g p ≡ block_at f p

use native.Mathlib.Omega.{arith}
use Rattle.plan.proofs.Measures.{tile_few}
use Rattle.places.proofs.tile.add_tile.Goals as goal

pub overflow_cast-first : goal.overflow_cast-first
overflow_cast-first c = omega (arith, tile_few c.requires.0)

pub overflow_mul-first : goal.overflow_mul-first
overflow_mul-first c = omega (arith, tile_few c.requires.0)

pub add_sites-requires : goal.add_sites-requires
add_sites-requires c = (
  rw c.count-n.ensures.0 c.block_of.ensures.sited,
  omega (arith, tile_few c.requires.0, c.count-n.ensures.1),
  c.requires.2,
  c.requires.3,
)

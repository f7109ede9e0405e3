use native.Mathlib.Omega.{arith}
use Rattle.plan.proofs.Measures.{tiles_few}
use Rattle.arrange.proofs.Listing.{listed_same}
use Rattle.arrange.proofs.places.list_tiles.Goals as goal

pub sort-requires : goal.sort-requires
sort-requires c =
    let most = tiles_few c.args.f.now c.args.h c.requires.0 in
    omega (arith, most, c.requires.2)

pub returns : goal.returns
returns c =
    listed_same c.sort.ensures c.fill_keys.ensures

use mathlib.Core.Path.{◌≡◌, ap, ◌∙◌}
use Rattle.base.proofs.Tests.{passed, failed}
use Rattle.list.proofs.Full.{put_nothing}
use Rattle.plan.specs.FilePlan.{cue_ranks, space}
use Rattle.plan.specs.Inner.Seam.{stop_of, site_in}
use Rattle.search.specs.declared.Place.{Place}
use Rattle.places.proofs.Adding.{the_ranking, the_muted}
use Rattle.places.proofs.tile.add_site.Goals as goal
use Rattle.places.proofs.tile.add_site.Goals.{After-ranks}

-- the test by the cue is that by the site
ranks-told : (c : After-ranks) →
    c.ranks.result ≡ space.ranks (site_in c.args.h.axes c.args.s.now c.args.slot)
ranks-told c =
    c.ranks.ensures ∙ ap (λ (z : Place). cue_ranks z.cue) c.place_in-x.ensures

pub returns-then-not-ranks : goal.returns-then-not-ranks
returns-then-not-ranks c =
    let a = c.args in
    let p = stop_of a.h a.target.stop in
    rw (the_muted a.h a.s.now p a.first a.slot
    (failed (ranks-told (goal.at.returns-then-not-ranks c).After-ranks) c.if-not-ranks.true))
    (put_nothing _ a.target.at a.used a.target.k)

pub returns : goal.returns
returns c =
    let a = c.args in
    let p = stop_of a.h a.target.stop in
    rw (
      the_ranking a.h a.s.now p a.first a.slot
          (passed (ranks-told (goal.at.returns c).After-ranks) c.if-not-ranks.false),
      ← c.place_in-x.ensures,
    )
    c.insert_place.ensures

use Rattle.list.specs.Slices.{lists}
use Rattle.list.proofs.Clearing.{filled}
use Rattle.list.proofs.Padding.{clear_lays}
use Rattle.list.proofs.clear.clear_places.Goals as goal

pub returns : goal.returns
returns c =
    let a = c.args in
    let long = c.requires in
    let d = filled a.dist.now c.fill.new.self a.n 0 long.0 (c.fill.ensures.after (λ y e. e)) in
    let s = filled a.site.now c.fill-2.new.self a.n 0 long.1.0 (c.fill-2.ensures.after (λ y e. e)) in
    let q = filled a.cue.now c.fill-3.new.self a.n 0 long.1.1 (c.fill-3.ensures.after (λ y e. e)) in
    rw (d, s, q) (clear_lays (lists a.dist.now a.site.now a.cue.now) a.n)

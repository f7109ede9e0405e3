use Prim.Native.Nat.{ℕ, ◌+◌, ◌*◌}
use mathlib.Core.List.{List, [], ◌∷◌}
use mathlib.Core.Path.{◌∙◌, ap}
use lib.ListN.{take}
use Rattle.base.specs.Over.{over}
use Rattle.blocks.specs.Layout.{site_size}
use Rattle.encode.specs.Encode.{site_bytes}
use Rattle.encode.proofs.EncodeLaws.{length_site, joined_next}
use Rattle.encode.proofs.tile.put_sites.Goals as goal
use Rattle.encode.proofs.tile.put_sites.Goals.{Start}

-- the bytes of a site
abbrev site : Start → ℕ → List ℕ
site c =
    let s = c.args.sites in
    site_bytes c.args.axes (take c.args.axes (s.xs.now ∷ s.ys.now ∷ s.zs.now ∷ [])) s.cues.now

pub loop-i-preserved : goal.loop-i-preserved
loop-i-preserved c =
    let a = c.args in
    joined_next (site (goal.at.loop-i-preserved c).Start) (site_size a.axes) a.d.now a.start a.first c.loop-i.i
    (λ i l. length_site _ _ _ _) c.loop-i.invariant
    (c.put_site.ensures ∙ ap (λ w. over c.loop-i.d (a.start + w * c.loop-i.i)
    (site (goal.at.loop-i-preserved c).Start (a.first + c.loop-i.i))) c.site_size-size.ensures)

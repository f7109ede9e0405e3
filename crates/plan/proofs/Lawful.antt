-- The plan of a file whose directory is accepted is lawful for the stops of O.
use Prim.Native.Nat.{ℕ, zero, suc, ◌<◌, ◌≤◌}
use mathlib.Core.Bool.{true, false}
use mathlib.Core.List.{List}
use mathlib.Core.Path.{◌≡◌, refl, sym, ◌∙◌}
use native.Mathlib.Omega.{arith}
use lib.IntN.{ℤ}
use lib.ListN.{length}
use Rattle.base.specs.Refusal.{accepted}
use Rattle.blocks.specs.Directory.{entry_box, directory, box_at}
use Rattle.blocks.specs.Layout.{max_sites}
use Rattle.blocks.specs.declared.header.Header.{Header}
use Rattle.geometry.specs.Axes.{KnownAxes}
use Rattle.geometry.specs.Box.{valid_box, inside}
use Rattle.geometry.specs.Claims.{Least}
use Rattle.geometry.specs.Corners.{corner}
use Rattle.geometry.specs.Distance.{min_dist}
use Rattle.search.specs.Plan.{Lawful, slots}
use Rattle.tiles.specs.Tile.{muted_cue}
use Rattle.base.proofs.Tabulate.{length-tabulate}
use Rattle.blocks.proofs.DirectoryLaws.{directory_good}
use Rattle.blocks.proofs.Theorems.{entry_of_accepted}
use Rattle.geometry.proofs.Theorems.{by_axes, min-dist_exact, inside_axes, inside-valid, corner-inside}
use Rattle.geometry.proofs.Theorems.{closer_exact, closer_irreflexive, closer_transitive}
use Rattle.plan.specs.FilePlan.{entries}

pub box_axes : (f : List ℕ) (h : Header) (t : ℕ) → length (box_at f h t) ≡ h.axes
unfolding box_at entry_box
box_axes f h t = length-tabulate _ 0 h.axes

-- the sites of a tile fit its slots, with height too
pub sites-few : (a n : ℕ) → KnownAxes a → n ≤ max_sites a → n ≤ slots
sites-few a n k = by_axes (λ a. n ≤ max_sites a → n ≤ slots) (λ l. l) (λ l. omega (arith, l)) a k

-- a cue other than c that is not muted
other_cue : (c : ℕ) → (n : ℕ) × ((n < 3) × (n ≡ c → ⊥) × (muted_cue n ≡ false))
other_cue zero = (1, (omega arith, (λ e. omega arith), refl))
other_cue (suc zero) = (2, (omega arith, (λ e. omega arith), refl))
other_cue (suc (suc c)) = (1, (omega arith, (λ e. omega arith), refl))

module _ (f : List ℕ) (h : Header) (o : List (List ℤ)) (read : directory f ≡ accepted h) (valid : valid_box o ≡ true)
    (axes : length o ≡ h.axes) where
  valid_at : (t : ℕ) → t < h.tiles → valid_box (box_at f h t) ≡ true
  valid_at t l = (entry_of_accepted f h t read l).0

  axes_at : (t : ℕ) → length (box_at f h t) ≡ length o
  axes_at t = box_axes f h t ∙ sym axes

  -- near of a tile from a stop of O
  near_exact : (p : List ℤ) (t : ℕ) → inside o p ≡ true → t < h.tiles
      → Least (box_at f h t) p (min_dist (box_at f h t) p)
  near_exact p t i l =
      min-dist_exact (box_at f h t) p (valid_at t l) (inside-valid o p valid i) (inside_axes o p i ∙ sym (axes_at t))

  pub lawful : Lawful (entries f h) o
  lawful = record {
    size_small = λ t l.
        sites-few h.axes _ (directory_good f read).axes (entry_of_accepted f h t read l).1;
    muted_few = λ t l. (entry_of_accepted f h t read l).2;
    min_dist_le = λ p t s i l j. (near_exact p t i l).least s.point j.0;
    min_dist_reached = λ p t c i l.
        let n = other_cue c in
        let e = near_exact p t i l in (
          record { point = e.point; cue = n.0 },
          (e.point_inside, omega (arith, n.1.0)),
          e.reached,
          n.1.1,
          rw n.1.2 refl,
        );
    muted_inside = λ t l some. (
      record { point = corner (box_at f h t) 0; cue = 0 },
      (corner-inside (box_at f h t) (valid_at t l) 0, omega arith),
      refl,
    );
    closer_less = λ p e b s u i he hb t j l.
        (closer_exact o (box_at f h e) (box_at f h b) valid (valid_at e he) (valid_at b hb) (axes_at e) (axes_at b)).0
        t p s.point u.point i j.0 l.0;
    closer_irrefl = λ b l. closer_irreflexive o (box_at f h b) valid (valid_at b l) (axes_at b);
    closer_trans = λ a b c ha hb hc. closer_transitive o (box_at f h a) (box_at f h b) (box_at f h c) valid
        (valid_at a ha) (valid_at b hb) (valid_at c hc) (axes_at a) (axes_at b) (axes_at c);
  }

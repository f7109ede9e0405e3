-- The theorems of this crate for the reader. Of a call that answers: `streams_exactly` (`StreamsExactly`,
-- specs/Claims), `order_fixed`. The call is `call::stream_order`, its definitions `stream_call` and `order_after`
-- (specs/Stream). That the directory alone decides: `directory_decides`. f is the file, o the box O.
use Prim.Native.Nat.{ℕ, ◌≤◌, ◌<◌}
use mathlib.Core.Bool.{true}
use mathlib.Core.List.{List}
use mathlib.Core.Logic.{◌↔◌}
use mathlib.Core.Path.{◌≡◌, refl, sym, ap, ◌∙◌}
use native.Mathlib.Omega.{arith}
use lib.Dec.{eqb, leb}
use lib.IntN.{ℤ}
use lib.ListN.{length, take}
use lib.Seq.{take_at}
use borrow.Author.Tests.{leb-true, eqb-true}
use Rattle.base.specs.Over.{over}
use Rattle.base.specs.Refusal.{Outcome, accepted, refused, #axes, #box, #short}
use Rattle.blocks.specs.Directory.{directory, box_at}
use Rattle.blocks.specs.Same.{SameDirectory}
use Rattle.blocks.specs.declared.header.Header.{Header}
use Rattle.geometry.specs.Box.{valid_box, inside}
use Rattle.geometry.specs.Distance.{D}
use Rattle.plan.specs.Inner.Seam.{ValidRegion}
use Rattle.base.proofs.Outcomes.{accepted_injective, require_accepted, and_then_accepted}
use Rattle.base.proofs.Over.{over_eq, get_d_after, length_over}
use Rattle.blocks.proofs.Theorems.{entry_of_accepted, entry_depends, same-directory}
use Rattle.geometry.proofs.Theorems.{closer_exact}
use Rattle.plan.proofs.Lawful.{box_axes}
use Rattle.plan.proofs.Measures.{known_axes}
use Rattle.sequence.specs.Claims.{IsSequence}
use Rattle.stream.specs.Claims.{StreamsExactly, order_at_end}
use Rattle.stream.specs.Stream.{closer_from, stream_call, tile_order, order_after}
use Rattle.stream.proofs.Nearer.{closer-strict}
use Rattle.sequence.proofs.Steps.{same_sequence}
use Rattle.sequence.proofs.Theorems.{sequence_length, sequence_is, sequence_fixed}

module _ (f : List ℕ) (o : List (List ℤ)) (lent : List ℕ) where
  -- what an answer shows
  record Answered (tiles : ℕ) : Type 0 where
    h : Header
    dir : directory f ≡ accepted h
    valid : ValidRegion h o
    room : h.tiles ≤ length lent
    carried : tiles ≡ h.tiles
    end : order_at_end f o lent ≡ over lent 0 (tile_order f h o)

  end_by : (tiles : ℕ) (h : Header) → directory f ≡ accepted h
      → order_after f o lent (accepted tiles) ≡ over lent 0 (tile_order f h o)
  unfolding order_after
  end_by tiles h d = rw d

  answered : (tiles : ℕ) → stream_call f o lent ≡ accepted tiles → Answered tiles
  unfolding stream_call
  answered tiles e =
      let d = and_then_accepted (directory f) _ e in
      let h = d.0 in
      let axes = require_accepted (eqb h.axes (length o)) #axes 0 _ d.2 in
      let box = require_accepted (valid_box o) #box 0 _ axes.1 in
      let long = require_accepted (leb h.tiles (length lent)) #short 0 _ box.1 in
      record {
        h = h;
        dir = d.1;
        valid = record { valid = box.0; axes = sym (eqb-true h.axes (length o) axes.0) };
        room = leb-true h.tiles (length lent) long.0;
        carried = sym (accepted_injective long.1);
        end = ap (order_after f o lent) e ∙ end_by tiles h d.1;
      }

  order_length : (h : Header) → length (tile_order f h o) ≡ h.tiles
  unfolding tile_order
  order_length h = sequence_length (closer_from f h o) h.tiles

  order_is : (h : Header) → directory f ≡ accepted h → ValidRegion h o
      → IsSequence (closer_from f h o) h.tiles (tile_order f h o)
  unfolding tile_order
  order_is h dir v = sequence_is (closer_from f h o) h.tiles (closer-strict f h dir o v)

  -- the first T elements are the sequence
  first_are : (h : Header) → h.tiles ≤ length lent → take h.tiles (over lent 0 (tile_order f h o)) ≡ tile_order f h o
  first_are h room =
      let l = order_length h in
      rw (over_eq lent 0 (tile_order f h o) (omega arith)) (take_at (tile_order f h o) _ h.tiles l)

  -- "nearer", over all points of the boxes
  nearer_is : (h : Header) → directory f ≡ accepted h → ValidRegion h o → (e b : ℕ) → e < h.tiles → b < h.tiles
      → (closer_from f h o e b ≡ true)
      ↔ ((x y z : List ℤ) → inside o x ≡ true → inside (box_at f h e) y ≡ true → inside (box_at f h b) z ≡ true
      → D x y < D x z)
  unfolding closer_from
  nearer_is h dir v e b i j =
      let n : (t : ℕ) → length (box_at f h t) ≡ length o = λ t. box_axes f h t ∙ sym v.axes in
      closer_exact o (box_at f h e) (box_at f h b) v.valid (entry_of_accepted f h e dir i).0
      (entry_of_accepted f h b dir j).0 (n e) (n b)

  pub streams_exactly : (tiles : ℕ) → stream_call f o lent ≡ accepted tiles
      → (h : Header) × StreamsExactly f o lent h tiles
  streams_exactly tiles e =
      let a = answered tiles e in
      let h = a.h in (
        h,
        record {
          header = a.dir;
          carries = a.carried;
          nearer = nearer_is h a.dir a.valid;
          strict = closer-strict f h a.dir o a.valid;
          in_sequence = rw (a.end, first_are h a.room) (order_is h a.dir a.valid);
          past = λ i l. rw a.end (get_d_after lent 0 i (tile_order f h o) (omega (arith, order_length h)));
          long = rw a.end (length_over lent 0 (tile_order f h o));
        },
      )

  -- any list of which the sentences hold is what stands in the first T elements
  pub order_fixed : (tiles : ℕ) → stream_call f o lent ≡ accepted tiles → (h : Header) → directory f ≡ accepted h
      → (l : List ℕ) → IsSequence (closer_from f h o) h.tiles l → l ≡ take h.tiles (order_at_end f o lent)
  order_fixed tiles e h dir l q =
      let s = streams_exactly tiles e in
      let same : s.0 ≡ h = accepted_injective (sym s.1.header ∙ dir) in
      sequence_fixed (closer_from f h o) h.tiles l _ q (rw same at s.1.in_sequence)

-- Nothing but the directory decides: a file of the same length with the same directory blocks gets the same answer and
-- leaves the same slice.
module _ (f g : List ℕ) (h : Header) (dir : directory f ≡ accepted h) (same : SameDirectory f g h)
    (o : List (List ℤ)) (lent : List ℕ) where
  dir_same : directory g ≡ directory f
  dir_same = same-directory f g h dir same ∙ sym dir

  call_same : stream_call g o lent ≡ stream_call f o lent
  unfolding stream_call
  call_same = rw dir_same

  nearer_same : (e b : ℕ) → e < h.tiles → b < h.tiles → closer_from f h o e b ≡ closer_from g h o e b
  unfolding closer_from
  nearer_same e b i j =
      let known = known_axes f h dir in
      rw ((entry_depends f g h e known same i).0, (entry_depends f g h b known same j).0)

  end_same : (c : Outcome ℕ) → stream_call f o lent ≡ c → order_after g o lent c ≡ order_after f o lent c
  unfolding order_after
  end_same (accepted tiles) e =
      let a = answered f o lent tiles e in
      let is : a.h ≡ h = accepted_injective (sym a.dir ∙ dir) in
      let v : ValidRegion h o = rw is at a.valid in
      rw (dir_same, dir) (ap (over lent 0)
      (sequence_fixed (closer_from f h o) h.tiles (tile_order g h o) (tile_order f h o)
      (same_sequence nearer_same (order_is g o lent h (dir_same ∙ dir) v)) (order_is f o lent h dir v)))
  end_same (refused number block) e = refl

  pub directory_decides : (stream_call g o lent ≡ stream_call f o lent)
      × (order_at_end g o lent ≡ order_at_end f o lent)
  directory_decides = (call_same, rw call_same (end_same (stream_call f o lent) refl))

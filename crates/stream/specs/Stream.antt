-- 02.5, "A sequence for streaming": what the call comes to, and what it leaves in the lent slice.
--
--   closer_from               from O one tile of a file is nearer than another
--   stream_call               what the call comes to
--   tile_order, order_after   the tiles in their sequence, and the slice at the end
use Rattle.std.specs.Prelude.{ℕ, Bool, List, eqb, leb, ℤ, length}
use Rattle.base.specs.Over.{over}
use Rattle.base.specs.Refusal.{Outcome, accepted, refused, require, and_then, #axes, #box, #short}
use Rattle.blocks.specs.Directory.{directory, box_at}
use Rattle.blocks.specs.declared.header.Header.{Header}
use Rattle.geometry.specs.Box.{valid_box}
use Rattle.geometry.specs.Margin.{closer}
use Rattle.sequence.specs.Sequence.{sequence}

-- "E is nearer than B from O", of the boxes of two tiles
unfoldable pub closer_from : List ℕ → Header → List (List ℤ) → ℕ → ℕ → Bool
closer_from f h o e b = closer o (box_at f h e) (box_at f h b)

-- "It refuses as strike does, without 11 .. a slice shorter than T is 14": 1, directory, 17, 9 for O, 14; 02.2: "17
-- when the call has another number of axes than the town"; "the result carries T"
unfoldable pub stream_call : List ℕ → List (List ℤ) → List ℕ → Outcome ℕ
stream_call f o order =
    and_then (directory f) (λ h.
    require (eqb h.axes (length o)) #axes 0
    (require (valid_box o) #box 0
    (require (leb h.tiles (length order)) #short 0
    (accepted h.tiles))))

-- "For a box O they want all tiles in a sequence": "empty ones too", since nothing but boxes is looked at
unfoldable pub tile_order : List ℕ → Header → List (List ℤ) → List ℕ
tile_order f h o = sequence (closer_from f h o) h.tiles

-- "the first T elements of the lent slice take the tile numbers"; document 01: "Elements past these never change", and
-- a refusal "leaves the lent slices unchanged"
unfoldable pub order_after : List ℕ → List (List ℤ) → List ℕ → Outcome ℕ → List ℕ
order_after f o order (accepted tiles) = ordered (directory f)
  where
    ordered : Outcome Header → List ℕ
    ordered (accepted h) = over order 0 (tile_order f h o)
    ordered (refused number block) = order
order_after f o order (refused number block) = order

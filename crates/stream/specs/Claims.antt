-- 02.5: what the theorems claim of a call that answers.
use Rattle.std.specs.Prelude.{ℕ, ◌<◌, ◌≤◌, true, List, ◌↔◌, ◌≡◌, ℤ, length, get_or, take}
use Rattle.base.specs.Refusal.{accepted}
use Rattle.blocks.specs.Directory.{directory, box_at}
use Rattle.blocks.specs.declared.header.Header.{Header}
use Rattle.geometry.specs.Box.{inside}
use Rattle.geometry.specs.Distance.{D}
use Rattle.sequence.specs.Claims.{StrictOrder, IsSequence}
use Rattle.stream.specs.Stream.{closer_from, stream_call, order_after}

module _ (f : List ℕ) (o : List (List ℤ)) (lent : List ℕ) where
  -- the slice at the end
  abbrev pub order_at_end : List ℕ
  order_at_end = order_after f o lent (stream_call f o lent)

  -- with the header h of the file's directory, and the number that the result carries
  pub record StreamsExactly (h : Header) (tiles : ℕ) : Type 0 where
    pub header : directory f ≡ accepted h
    -- "the result carries T"
    pub carries : tiles ≡ h.tiles
    -- nearer: from every point of O each point of the one box is at a smaller distance than each point of the other
    pub nearer : (e b : ℕ) → e < h.tiles → b < h.tiles → (closer_from f h o e b ≡ true)
        ↔ ((x y z : List ℤ) → inside o x ≡ true → inside (box_at f h e) y ≡ true → inside (box_at f h b) z ≡ true
        → D x y < D x z)
    pub strict : StrictOrder (closer_from f h o) h.tiles
    -- "the first T elements of the lent slice take the tile numbers"
    pub in_sequence : IsSequence (closer_from f h o) h.tiles (take h.tiles order_at_end)
    -- "Elements past these never change."
    pub past : (i : ℕ) → h.tiles ≤ i → get_or order_at_end i 0 ≡ get_or lent i 0
    pub long : length order_at_end ≡ length lent

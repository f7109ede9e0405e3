-- The writer's lists (document 01, "Writer, full check, host, program"; 02.1, 02.2): "boxes, counts, and x, y, cue
-- lists in tile order"; the spots are columns, a list of coordinates for each axis, z after y.
--
--   Supply, supply                        the lists as one value
--   axes_of, header_of, tiles_of          the axes; T with the axes as a header, and as a number
--   numbers_per_box, box_number, box_of   the boxes: how many numbers each, one of them, a box
--   count_of, offset, site_total          the sites: of a tile, of all tiles before it, of all
--   muted_from, muted_of                  the muted sites: of a run of sites, of a tile
--   supplied_site, site_of                a site by its index, by tile and slot
use Rattle.std.specs.Prelude.{ℕ, zero, suc, ◌+◌, ◌*◌, List, [], ◌∷◌, ℤ, pos, get_or, length}
use Rattle.base.specs.HowMany.{how_many}
use Rattle.base.specs.Tabulate.{tabulate}
use Rattle.blocks.specs.declared.header.Header.{Header}
use Rattle.geometry.specs.Around.{row}
use Rattle.tiles.specs.Tile.{Site, muted_cue}

pub record Supply : Type 0 where
  pub boxes : List ℤ
  pub counts : List ℕ
  pub spots : List (List ℤ)
  pub cues : List ℕ

-- the lists that a call is given
abbrev pub supply : List ℤ → List ℕ → List (List ℤ) → List ℕ → Supply
supply boxes counts spots cues = record { boxes = boxes; counts = counts; spots = spots; cues = cues }

-- a column of spots for each axis
abbrev pub axes_of : Supply → ℕ
axes_of s = length s.spots

-- "T is the number of counts"
abbrev pub header_of : ℕ → List ℕ → Header
header_of a counts = record { tiles = length counts; axes = a }

abbrev pub tiles_of : Supply → ℕ
tiles_of s = length s.counts

-- "4 numbers for each tile, in the directory's order": low x, low y, high x, high y; 02.2: "six numbers for each box"
abbrev pub numbers_per_box : ℕ → ℕ
numbers_per_box a = 2 * a

-- the box of tile t, which has its ends by axis
abbrev pub box_number : ℕ → List ℤ → ℕ → ℕ → ℤ
box_number a boxes t n = get_or boxes (numbers_per_box a * t + n) (pos 0)

unfoldable pub box_of : ℕ → List ℤ → ℕ → List (List ℤ)
box_of a boxes t = tabulate (λ axis. box_number a boxes t axis ∷ box_number a boxes t (a + axis) ∷ []) 0 a

-- the number of sites of tile t
abbrev pub count_of : List ℕ → ℕ → ℕ
count_of counts t = get_or counts t 0

-- where the sites of tile t start in the lists: the sum of the counts before it
unfoldable pub offset : List ℕ → ℕ → ℕ
offset counts zero = 0
offset counts (suc t) = offset counts t + count_of counts t

-- "the sum of counts"
abbrev pub site_total : List ℕ → ℕ
site_total counts = offset counts (length counts)

-- 02.1: "the writer counts them from the cues": among n sites from site i on, and those of tile t
unfoldable pub muted_from : List ℕ → ℕ → ℕ → ℕ
muted_from cues i n = how_many (λ slot. muted_cue (get_or cues (i + slot) 0)) n

abbrev pub muted_of : List ℕ → List ℕ → ℕ → ℕ
muted_of counts cues t = muted_from cues (offset counts t) (count_of counts t)

-- site i of the lists, and the site of a tile's slot
abbrev pub supplied_site : List (List ℤ) → List ℕ → ℕ → Site
supplied_site spots cues i = record { point = row spots i; cue = get_or cues i 0 }

abbrev pub site_of : Supply → ℕ → ℕ → Site
site_of s t slot = supplied_site s.spots s.cues (offset s.counts t + slot)

-- A file and the lists from which the writer makes it (demand 2: "A file passes the full check exactly when our writer
-- makes it from some town").
--
--   Unsigned, Signed, Typed          lists that slices can hold; the lists of a call
--   Made                             the writer makes this file from these lists
--   box_numbers, column, supply_of   lists from a file: of a box, of one field, all
use Rattle.std.specs.Prelude.{ℕ, ◌<◌, List, ◌++◌, map, ◌≡◌, ℤ, pos, get_or, length}
use Rattle.std.specs.Int.Signed.{mag}
use Rattle.base.specs.Lists.{All}
use Rattle.base.specs.Refusal.{accepted}
use Rattle.base.specs.Tabulate.{tabulate, joined}
use Rattle.blocks.specs.Directory.{box_at, count_at}
use Rattle.blocks.specs.declared.header.Header.{Header}
use Rattle.codec.specs.Number.{limit32, limit_signed}
use Rattle.encode.specs.Supply.{Supply, axes_of, header_of}
use Rattle.geometry.specs.Axes.{KnownAxes}
use Rattle.geometry.specs.Box.{lo, hi}
use Rattle.tiles.specs.Tile.{Site, site_at}
use Rattle.writer.specs.Write.{write_call, write_exit}

-- lists of unsigned and of signed 32-bit numbers, as slices hold them
abbrev pub Unsigned : List ℕ → Type 0
Unsigned l = (i : ℕ) → get_or l i 0 < limit32

abbrev pub Signed : List ℤ → Type 0
Signed l = (i : ℕ) → mag (get_or l i (pos 0)) < limit_signed

-- the lists of a call: such numbers, and a column of spots for each axis, two or three
pub record Typed (s : Supply) : Type 0 where
  pub boxes : Signed s.boxes
  pub counts : Unsigned s.counts
  pub spots : All Signed s.spots
  pub axes : KnownAxes (axes_of s)
  pub cues : Unsigned s.cues

-- the writer makes exactly this file, with the header h, from these lists: into an output slice of the file's length,
-- whatever it held before
pub record Made (f : List ℕ) (h : Header) (s : Supply) : Type 0 where
  pub typed : Typed s
  pub header : header_of (axes_of s) s.counts ≡ h
  pub answer : write_call s (length f) ≡ accepted (length f)
  pub bytes : (out : List ℕ) → length out ≡ length f → write_exit s out ≡ f

-- the numbers of a box, in the directory's order
unfoldable pub box_numbers : List (List ℤ) → List ℤ
box_numbers b = map lo b ++ map hi b

-- a field of all sites, in tile order
unfoldable pub column : {A : Type 0} → (Site → A) → List ℕ → Header → List A
column field f h = joined (λ t. tabulate (λ slot. field (site_at f h t slot)) 0 (count_at f h t)) 0 h.tiles

-- the lists that a file with the header h holds
unfoldable pub supply_of : List ℕ → Header → Supply
supply_of f h = record {
  boxes = joined (λ t. box_numbers (box_at f h t)) 0 h.tiles;
  counts = tabulate (count_at f h) 0 h.tiles;
  spots = tabulate (λ axis. column (λ site. get_or site.point axis (pos 0)) f h) 0 h.axes;
  cues = column (λ site. site.cue) f h;
}

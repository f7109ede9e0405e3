-- The writer's call (document 01, "Writer, full check, host, program"; 02.2).
--
--   tiles_fit, entry_fits, lists_fit   tests 6, 9 of a tile, and 15 of the site lists
--   sites_fit, tile_fits               test 10: of a run of sites, of a tile
--   write_tests                        all tests in order
--   write_call                         what the call comes to
--   leaves, write_exit                 the output slice afterwards: by outcome, of the call
use Rattle.std.specs.Prelude.{ℕ, ◌+◌, ◌*◌, Bool, ◌&&◌, List, eqb, leb, ℤ, length}
use Rattle.base.specs.Over.{over}
use Rattle.base.specs.Refusal.{Outcome, accepted, refused, require, and_then, #tiles, #box, #stray, #short, #supply}
use Rattle.blocks.specs.Directory.{valid_box_count}
use Rattle.blocks.specs.Layout.{max_tiles}
use Rattle.base.specs.Every.{every}
use Rattle.encode.specs.Encode.{file_bytes, file_length}
use Rattle.encode.specs.Supply.{Supply, axes_of, header_of, tiles_of, numbers_per_box, box_of, count_of, offset, site_total}
use Rattle.geometry.specs.Around.{equal_columns, row}
use Rattle.geometry.specs.Box.{inside}

-- 6: "T is 0, over 960"
unfoldable pub tiles_fit : ℕ → Bool
tiles_fit t = leb 1 t && leb t max_tiles

-- 9 of tile t: the directory's test of box and count; the muted number, which is counted, is at most the count
unfoldable pub entry_fits : ℕ → List ℤ → List ℕ → ℕ → Bool
entry_fits a boxes counts t = valid_box_count a (box_of a boxes t) (count_of counts t)

-- 15: "a site list's length is not the sum of counts"
unfoldable pub lists_fit : ℕ → List (List ℤ) → List ℕ → Bool
lists_fit sum spots cues = equal_columns sum spots && eqb (length cues) sum

-- 10 of n sites of the lists from site i on, and of tile t: "a site outside its box"
unfoldable pub sites_fit : List (List ℤ) → List (List ℤ) → ℕ → ℕ → Bool
sites_fit bounds spots i n = every (λ slot. inside bounds (row spots (i + slot))) n

unfoldable pub tile_fits : ℕ → List ℤ → List ℕ → List (List ℤ) → ℕ → Bool
tile_fits a boxes counts spots t = sites_fit (box_of a boxes t) spots (offset counts t) (count_of counts t)

-- "Order: 6, 15 (boxes are not 4 numbers for each tile, in the directory's order), 9, 15 (a site list's length is not
-- the sum of counts), 10, 14"; 02.2: "six numbers for each box"; the block is 0 "for every refusal by the writer"
unfoldable pub write_tests : Supply → ℕ → Outcome Unit
write_tests s room =
    require (tiles_fit (tiles_of s)) #tiles 0
    (require (eqb (length s.boxes) (numbers_per_box (axes_of s) * tiles_of s)) #supply 0
    (require (every (entry_fits (axes_of s) s.boxes s.counts) (tiles_of s)) #box 0
    (require (lists_fit (site_total s.counts) s.spots s.cues) #supply 0
    (require (every (tile_fits (axes_of s) s.boxes s.counts s.spots) (tiles_of s)) #stray 0
    (require (leb (file_length (header_of (axes_of s) s.counts)) room) #short 0
    (accepted tt))))))

-- of these lists and an output slice of this length: "It gives the file's length in bytes"
unfoldable pub write_call : Supply → ℕ → Outcome ℕ
write_call s room = and_then (write_tests s room) (λ _. accepted (file_length (header_of (axes_of s) s.counts)))

-- "writes the file; later bytes stay"; "refused, it writes nothing"
abbrev pub leaves : Outcome ℕ → List ℕ → List ℕ → List ℕ
leaves (accepted n) out file = over out 0 file
leaves (refused number block) out file = out

-- what the output slice holds afterwards
unfoldable pub write_exit : Supply → List ℕ → List ℕ
write_exit s out = leaves (write_call s (length out)) out (file_bytes s)

-- Without 02.1: the last two bytes of an entry are due to be zero, as document 01 has it.
--
--   entry_zero                                      the last two bytes of an entry
--   directory_padding01                             test 8
--   directory_block01, directory_block_at01         a directory block: of its bytes, of a file
--   directory_rest01, directory01                   what reading comes to: after block 0, from the start
--   EntriesZero                                     a file whose entries end in zeros
use Rattle.std.specs.Prelude.{ℕ, ◌+◌, ◌-◌, ◌/◌, ◌<◌, ◌≤◌, Bool, true, ◌&&◌, List, ◌≡◌, eqb, length}
use Rattle.base.specs.Every.{every}
use Rattle.base.specs.Refusal.{Outcome, accepted, require, and_then, #length, #position, #tiles, #entries, #padding}
use Rattle.base.specs.Refusal.{#box, in_turn}
use Rattle.codec.specs.Zeros.{zeros}
use Rattle.blocks.specs.Block.{block_at, header_in, position_in, entries_in, block_start}
use Rattle.blocks.specs.Directory.{directory_blocks, entries_due, entry_offset, entry_box, entry_count, tiles_due}
use Rattle.blocks.specs.Directory.{valid_box_count, length_due, length_fits}
use Rattle.blocks.specs.Layout.{block_size, directory_kind, reserved_at, payload_at, check_at, entry_size}
use Rattle.blocks.specs.Layout.{muted_offset}
use Rattle.blocks.specs.declared.header.Header.{Header}

-- "count (2), zero (2)"
unfoldable pub entry_zero : ℕ → List ℕ → ℕ → Bool
entry_zero a s i = zeros s (entry_offset a i + muted_offset a) (entry_offset a i + entry_size a)

unfoldable pub directory_padding01 : ℕ → List ℕ → ℕ → Bool
directory_padding01 a s n =
    (zeros s reserved_at payload_at && every (entry_zero a s) n) && zeros s (entry_offset a n) check_at

unfoldable pub directory_block01 : List ℕ → ℕ → Header → ℕ → Outcome Header
directory_block01 s p first n =
    and_then (block_start (directory_kind first.axes) s p) (λ _.
    require (length_fits first.axes n) #length p
    (require (eqb (position_in s) p) #position p
    (require (tiles_due (header_in s) first (n / block_size)) #tiles p
    (require (eqb (entries_in s) (entries_due (header_in s) p)) #entries p
    (require (directory_padding01 first.axes s (entries_due (header_in s) p)) #padding p
    (require (every (λ i. valid_box_count first.axes (entry_box first.axes s i) (entry_count first.axes s i))
    (entries_due (header_in s) p)) #box p
    (accepted (header_in s))))))))

unfoldable pub directory_block_at01 : List ℕ → ℕ → Outcome Header
directory_block_at01 f p = directory_block01 (block_at f p) p (header_in (block_at f 0)) (length f)

unfoldable pub directory_rest01 : List ℕ → Header → Outcome Header
directory_rest01 f h = and_then (in_turn (directory_block_at01 f) 1 (directory_blocks h - 1)) (λ _. accepted h)

unfoldable pub directory01 : List ℕ → Outcome Header
directory01 f =
    require (length_due (length f)) #length 0
    (and_then (directory_block_at01 f 0) (directory_rest01 f))

-- the last two bytes of every entry of the directory are zero; block 0 is one of its blocks whatever its T
abbrev pub EntriesZero : List ℕ → Type 0
EntriesZero f = (p i : ℕ) → p ≤ directory_blocks (header_in (block_at f 0)) - 1 →
    i < entries_due (header_in (block_at f p)) p → entry_zero (header_in (block_at f 0)).axes (block_at f p) i ≡ true

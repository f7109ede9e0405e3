-- "The twelve cases form a table, proved of the definitions by a lone statement."
use mathlib.Core.Path.{refl}
use Rattle.base.specs.Every.{every}
use Rattle.base.specs.HowMany.{how_many}
use Rattle.base.specs.Over.{over}
use Rattle.base.specs.Refusal.{in_turn}
use Rattle.base.specs.Tabulate.{tabulate, joined}
use Rattle.geometry.specs.Box.{within_limits, valid_axis, valid_box, valid_point, on_axis, inside}
use Rattle.geometry.specs.Distance.{gap, square, D, closest, farthest, closest_point, farthest_point, min_dist}
use Rattle.geometry.specs.Distance.{max_dist}
use Rattle.geometry.specs.Margin.{gain, best_end, best_point, difference, reached_from, reached, margin, closer}
use Rattle.geometry.specs.Around.{equal_columns, row, rows, points, foremost, least, greatest, around}
use Rattle.codec.specs.Bytes.{bytes, bytes16, bytes32, bits, bytes_signed}
use Rattle.codec.specs.Number.{u16_at, u32_at, signed, i32_at}
use Rattle.codec.specs.Zeros.{zeros}
use Rattle.blocks.specs.Checksum.{sums_from, sums, check_agrees}
use Rattle.blocks.specs.Block.{block_at, axes_in, kind_due, block_start}
use Rattle.blocks.specs.Directory.{directory_blocks, entries_due, entry_offset, entry_box, entry_count, entry_muted}
use Rattle.blocks.specs.Directory.{tiles_due, directory_padding, entry_valid, length_due, length_fits, directory_block}
use Rattle.blocks.specs.Directory.{directory_block_at, directory_rest, directory, box_at, count_at, muted_at}
use Rattle.tiles.specs.Tile.{site_offset, site_in, muted_in, tile_padding, site_inside, tile_block, tile_position}
use Rattle.tiles.specs.Tile.{open_tile, site_at, sites_at}
use Rattle.encode.specs.Supply.{box_of, offset, muted_from}
use Rattle.encode.specs.Encode.{head_bytes, check_bytes, body_bytes, block_bytes, box_bytes, entry_bytes, site_bytes}
use Rattle.encode.specs.Encode.{directory_bytes, tile_bytes, tile_bytes_of, file_bytes, file_length}
use Rattle.writer.specs.Write.{tiles_fit, entry_fits, lists_fit, sites_fit, tile_fits, write_tests, write_call}
use Rattle.writer.specs.Write.{write_exit}
use Rattle.search.specs.Lists.{count, total, filter, member}
use Rattle.search.specs.Order.{lex, insert, sort}
use Rattle.search.specs.Plan.{ranked}
use Rattle.search.specs.Pruning.{pruned, pruned_count}
use Rattle.search.specs.Run.{rank, ahead_of, listing, places_of, nearest, contents, opening, by_key, ahead, candidate}
use Rattle.search.specs.Run.{queue, follow, enough, serve, run, places_used, join, padded, in_rows, mark, marks}
use Rattle.search.specs.Limits.{valid_k}
use Rattle.stops.specs.Stops.{valid_stop}
use Rattle.stops.specs.Arguments.{stops_due, axes_due, stops_valid, room, arguments}
use Rattle.list.specs.Slices.{lay, cleared}
use Rattle.plan.specs.FilePlan.{opening_of}
use Rattle.join.specs.Join.{run_for, tests, filled, ended, run_end, join_from, join_end}
use Rattle.console.specs.Text.{width_up_to, width, digits, decimal, labelled}
use Rattle.console.specs.Line.{refused_line, counts_line, place_text, text_at, places_text, stop_line}
use Rattle.console.specs.Request.{k_of, stops_asked, coordinates, xs_of, ys_of, head_length, file_of, well_formed}
use Rattle.console.specs.Output.{empty_slices, answer_text, end_of, end_text, output}
use Rattle.console.specs.Cases.{table, AllSay}

pub twelve_cases : AllSay table
unfolding every how_many within_limits valid_axis valid_box valid_point on_axis inside gap square D closest farthest
    closest_point farthest_point min_dist max_dist gain best_end best_point difference reached_from reached margin
    closer equal_columns row rows points foremost least greatest around bytes bytes16 bytes32 bits bytes_signed u16_at
    u32_at signed i32_at zeros tabulate joined over sums_from sums check_agrees block_at axes_in kind_due block_start
    directory_blocks entries_due entry_offset entry_box entry_count entry_muted tiles_due directory_padding entry_valid
    directory_block directory_block_at length_due length_fits directory_rest directory box_at count_at muted_at in_turn
    site_offset site_in muted_in tile_padding site_inside tile_block tile_position open_tile site_at sites_at box_of
    offset muted_from head_bytes check_bytes body_bytes block_bytes box_bytes entry_bytes site_bytes directory_bytes
    tile_bytes tile_bytes_of file_bytes file_length tiles_fit entry_fits lists_fit sites_fit tile_fits write_tests
    write_call write_exit count total filter member lex insert sort ranked pruned pruned_count rank ahead_of listing
    places_of nearest contents opening by_key ahead candidate queue follow enough serve run places_used join padded
    in_rows mark marks valid_k valid_stop stops_due axes_due stops_valid room arguments lay cleared opening_of run_for
    tests filled ended run_end join_from join_end width_up_to width digits decimal labelled refused_line counts_line
    place_text text_at places_text stop_line k_of stops_asked coordinates xs_of ys_of head_length file_of well_formed
    empty_slices answer_text end_of end_text output
twelve_cases = (
  refl,
  (
    refl,
    (
      refl,
      (
        refl,
        (
          refl,
          (
            refl,
            (
              (refl, refl),
              (
                (refl, refl),
                (
                  (λ sync a c. refl),
                  ((λ sync a c. refl), ((λ sync a c. refl), ((refl, refl, refl), ((refl, refl), ((refl, refl), tt))))),
                ),
              ),
            ),
          ),
        ),
      ),
    ),
  ),
)

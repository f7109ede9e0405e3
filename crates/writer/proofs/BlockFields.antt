-- The fields of a block: a block that holds what the writer makes has them, and a block of bytes that has them holds
-- it. Assumes nothing.
use Prim.Native.Nat.{ℕ, zero, suc, ◌+◌, ◌-◌, ◌<◌, ◌≤◌}
use mathlib.Core.Bool.{true}
use mathlib.Core.List.{List, [], ◌∷◌, ◌++◌}
use mathlib.Core.Path.{◌≡◌, refl, sym, ap, ◌∙◌}
use native.Mathlib.Nat.{zero-add}
use native.Mathlib.Omega.{arith}
use lib.Dec.{lit<}
use lib.IntN.{ℤ, pos}
use lib.ListN.{length, get_or, replicate, length-append}
use borrow.Author.Tests.{eqb-true, eq-eqb}
use Rattle.base.specs.Lists.{All}
use Rattle.base.specs.Tabulate.{tabulate, joined}
use Rattle.blocks.specs.Block.{position_in, entries_in, header_in}
use Rattle.blocks.specs.Checksum.{sums, check_agrees}
use Rattle.blocks.specs.Directory.{entry_offset, entry_number, entry_box, entry_count, entry_muted}
use Rattle.blocks.specs.Layout.{position_at, entries_at, tiles_at, count_offset, block_size, sync_byte, kind_at}
use Rattle.blocks.specs.Layout.{number_offset, reserved_at, cue_offset, payload_at, check_at, muted_offset}
use Rattle.blocks.specs.declared.checksum.Sums.{Sums}
use Rattle.codec.specs.Bytes.{bytes, bytes16, bytes32, bytes_signed}
use Rattle.codec.specs.Zeros.{zeros}
use Rattle.codec.specs.Number.{limit16, Bytes, i32_at}
use Rattle.encode.specs.Encode.{head_bytes, check_bytes, body_bytes, block_bytes, box_bytes, entry_bytes, site_bytes}
use Rattle.encode.specs.Supply.{numbers_per_box, box_number, box_of, count_of, offset, muted_of, supplied_site}
use Rattle.geometry.specs.Around.{row}
use Rattle.tiles.specs.Tile.{Site, site_offset, site_in}
use Rattle.base.proofs.Joined.{length-joined}
use Rattle.base.proofs.Tabulate.{get_d_tabulate, tabulate-same}
use Rattle.base.proofs.Tests.{and_both, both_and}
use Rattle.codec.proofs.Bytes.{read_16, read_32, read_signed, held_16, held_32, held_signed}
use Rattle.codec.proofs.Holds.{Holds, holds_run, holds-cons, holds_head, holds_tail, holds_left, holds_right}
use Rattle.codec.proofs.Holds.{holds-append, holds-each, holds-joined, zeros_held, held_zeros}
use Rattle.geometry.proofs.Theorems.{row_axes}
use Rattle.encode.proofs.EncodeLaws.{length_head, length-number, length-box, length-box-count, length_body, sums_body}
use Rattle.encode.proofs.SupplyLaws.{muted_most}
use Rattle.writer.specs.Made.{Signed, Unsigned}
use Rattle.writer.proofs.BoxNumbers.{tabulate_whole, ends_same, ends_only}

pub record Fields (s : List ℕ) (kind p n t : ℕ) (payload : List ℕ) : Type 0 where
  pub sync : get_or s 0 0 ≡ sync_byte
  pub kinds : get_or s kind_at 0 ≡ kind
  pub position : position_in s ≡ p
  pub entries : entries_in s ≡ n
  pub tiles : (header_in s).tiles ≡ t
  pub reserved : zeros s reserved_at payload_at ≡ true
  pub held : Holds s payload_at payload
  pub unused : zeros s (payload_at + length payload) check_at ≡ true
  pub check : check_agrees s ≡ true

module _ (s : List ℕ) (size : length s ≡ block_size) where
  -- ---- the check
  check_read : (body : List ℕ) → length body ≡ check_at → Holds s 0 body → Holds s check_at (check_bytes body) →
      check_agrees s ≡ true
  unfolding check_agrees check_bytes
  check_read body n h g =
      let e = sums_body s body h n (omega arith) in
      both_and (eq-eqb (get_or s check_at 0) (sums s).a (holds_head g ∙ sym (ap (λ (x : Sums). x.a) e)))
      (eq-eqb (get_or s (check_at + 1) 0) (sums s).c (holds_head (holds_tail g) ∙ sym (ap (λ (x : Sums). x.c) e)))

  check_held : (body : List ℕ) → length body ≡ check_at → Holds s 0 body → check_agrees s ≡ true →
      Holds s check_at (check_bytes body)
  unfolding check_agrees check_bytes
  check_held body n h e =
      let q = sums_body s body h n (omega arith) in
      let b = and_both _ _ e in
      let x = eqb-true (get_or s check_at 0) (sums s).a b.0 ∙ ap (λ (x : Sums). x.a) q in
      let y = eqb-true (get_or s (check_at + 1) 0) (sums s).c b.1 ∙ ap (λ (x : Sums). x.c) q in
      holds-cons x (holds-cons y (record { at = λ j l. absurd (omega arith) }))

  module _ (kind p n t : ℕ) (payload : List ℕ) where
    -- ---- what stands before the check
    body-read : p < limit16 → n < limit16 → t < limit16 → Holds s 0 (body_bytes (head_bytes kind p n t) payload) →
        check_agrees s ≡ true →
        Fields s kind p n t payload
    unfolding body_bytes head_bytes bytes16 bytes
    body-read lp ln lt h check =
        let hd = head_bytes kind p n t in
        let gap : List ℕ = replicate (payload_at - reserved_at) 0 in
        let rest : List ℕ = replicate (check_at - (payload_at + length payload)) 0 in
        let one : List ℕ = (sync_byte ∷ []) ++ (kind ∷ []) in
        let h₃ = holds_left s 0 (hd ++ gap ++ payload) rest h in
        let h₂ = holds_left s 0 (hd ++ gap) payload h₃ in
        let h₁ = holds_left s 0 hd gap h₂ in
        let a = holds_left s 0 (one ++ bytes16 p ++ bytes16 n) (bytes16 t) h₁ in
        let b = holds_left s 0 (one ++ bytes16 p) (bytes16 n) a in
        let c = holds_left s 0 one (bytes16 p) b in
        let u : payload_at + length payload ≡ 0 + length (hd ++ gap ++ payload) = omega
        (arith, length-append (hd ++ gap) payload) in
        record {
          sync = holds_head c;
          kinds = holds_head (holds_tail c);
          position = read_16 s position_at lp (holds_right s 0 one (bytes16 p) refl b);
          entries = read_16 s entries_at ln (holds_right s 0 (one ++ bytes16 p) (bytes16 n) refl a);
          tiles = read_16 s tiles_at lt (holds_right s 0 (one ++ bytes16 p ++ bytes16 n) (bytes16 t) refl h₁);
          reserved = held_zeros s reserved_at payload_at (holds_right s 0 hd gap refl h₂);
          held = holds_right s 0 (hd ++ gap) payload refl h₃;
          unused = held_zeros s (payload_at + length payload) check_at
              (holds_right s 0 (hd ++ gap ++ payload) rest u h);
          check = check;
        }

    body-held : Bytes s → Fields s kind p n t payload → Holds s 0 (body_bytes (head_bytes kind p n t) payload)
    unfolding body_bytes head_bytes bytes16 bytes
    body-held byte g =
        let hd = head_bytes kind p n t in
        let gap : List ℕ = replicate (payload_at - reserved_at) 0 in
        let rest : List ℕ = replicate (check_at - (payload_at + length payload)) 0 in
        let one : List ℕ = (sync_byte ∷ []) ++ (kind ∷ []) in
        let c : Holds s 0 one = holds-cons g.sync
        (holds-cons g.kinds (record { at = λ j l. absurd (omega arith) })) in
        let b = holds-append s 0 one (bytes16 p) refl c (holds_run (held_16 s position_at byte)
        (ap bytes16 g.position)) in
        let a = holds-append s 0 (one ++ bytes16 p) (bytes16 n) refl b
        (holds_run (held_16 s entries_at byte) (ap bytes16 g.entries)) in
        let h₁ = holds-append s 0 (one ++ bytes16 p ++ bytes16 n) (bytes16 t) refl a
        (holds_run (held_16 s tiles_at byte) (ap bytes16 g.tiles)) in
        let h₂ = holds-append s 0 hd gap refl h₁ (zeros_held s reserved_at payload_at g.reserved) in
        let h₃ = holds-append s 0 (hd ++ gap) payload refl h₂ g.held in
        let u : payload_at + length payload ≡ 0 + length (hd ++ gap ++ payload) = omega
        (arith, length-append (hd ++ gap) payload) in
        holds-append s 0 (hd ++ gap ++ payload) rest u h₃ (zeros_held s (payload_at + length payload) check_at
        g.unused)

    -- ---- the whole block
    module _ (fits : payload_at + length payload ≤ check_at) where
      pub fields_read : p < limit16 → n < limit16 → t < limit16 →
          Holds s 0 (block_bytes (head_bytes kind p n t) payload) →
          Fields s kind p n t payload
      unfolding block_bytes
      fields_read lp ln lt h =
          let hd = head_bytes kind p n t in
          let body = body_bytes hd payload in
          let m = length_body hd payload (length_head kind p n t) fits in
          let b = holds_left s 0 body (check_bytes body) h in
          let e : check_at ≡ 0 + length body = omega (arith, m) in
          body-read lp ln lt b (check_read body m b (holds_right s 0 body (check_bytes body) e h))

      pub fields_held : Bytes s → Fields s kind p n t payload → Holds s 0 (block_bytes (head_bytes kind p n t) payload)
      unfolding block_bytes
      fields_held byte g =
          let hd = head_bytes kind p n t in
          let body = body_bytes hd payload in
          let m = length_body hd payload (length_head kind p n t) fits in
          let b = body-held byte g in
          let e : check_at ≡ 0 + length body = omega (arith, m) in
          holds-append s 0 body (check_bytes body) e b (check_held body m b g.check)

-- ---- the entry of tile t, as entry i of a block
module _ (a : ℕ) (s : List ℕ) (i : ℕ) (boxes : List ℤ) (counts cues : List ℕ) (t : ℕ) where
  abbrev end : ℕ → List ℕ
  end n = bytes_signed (box_number a boxes t n)

  box_read : Signed boxes → Holds s (entry_offset a i) (box_bytes a boxes t) → entry_box a s i ≡ box_of a boxes t
  unfolding box_bytes entry_box box_of
  box_read signed h =
      ends_same a (entry_number a s i) (box_number a boxes t) (λ n l. read_signed s _ (signed _)
      (holds_run (holds-each s end 4 (entry_offset a i) 0 (numbers_per_box a)
      (λ k m. length-number (box_number a boxes t (0 + k))) h n l) (ap end (zero-add n))))

  box_held : Bytes s → entry_box a s i ≡ box_of a boxes t → Holds s (entry_offset a i) (box_bytes a boxes t)
  unfolding box_bytes entry_box box_of
  box_held byte e =
      holds-joined s end 4 (entry_offset a i) 0 (numbers_per_box a)
      (λ k m. length-number (box_number a boxes t (0 + k)))
      (λ n l. holds_run (held_signed s (entry_offset a i + number_offset n) byte)
      (ap bytes_signed (ends_only a (entry_number a s i) (box_number a boxes t) e n l) ∙ ap end (sym (zero-add n))))

  -- where the count and the muted number stand
  count_at : entry_offset a i + count_offset a ≡ entry_offset a i + length (box_bytes a boxes t)
  count_at = ap (λ k. entry_offset a i + k) (sym (length-box a boxes counts cues t))

  muted_at_lem : entry_offset a i + muted_offset a
      ≡ entry_offset a i + length (box_bytes a boxes t ++ bytes16 (count_of counts t))
  muted_at_lem = ap (λ k. entry_offset a i + k) (sym (length-box-count a boxes counts cues t))

  pub entry_read : Signed boxes → count_of counts t < limit16 →
      Holds s (entry_offset a i) (entry_bytes a boxes counts cues t) →
      (entry_box a s i ≡ box_of a boxes t)
      × (entry_count a s i ≡ count_of counts t)
      × (entry_muted a s i ≡ muted_of counts cues t)
  unfolding entry_count entry_muted entry_bytes
  entry_read signed small h =
      let at = entry_offset a i in
      let box = box_bytes a boxes t in
      let count = bytes16 (count_of counts t) in
      let muted = bytes16 (muted_of counts cues t) in
      let g = holds_left s at (box ++ count) muted h in
      let most = muted_most cues (offset counts t) (count_of counts t) in
      let few : muted_of counts cues t < limit16 = omega (arith, most) in (
        box_read signed (holds_left s at box count g),
        read_16 s (at + count_offset a) small (holds_right s at box count count_at g),
        read_16 s (at + muted_offset a) few (holds_right s at (box ++ count) muted muted_at_lem h),
      )

  pub entry_held : Bytes s → entry_box a s i ≡ box_of a boxes t → entry_count a s i ≡ count_of counts t →
      entry_muted a s i ≡ muted_of counts cues t → Holds s (entry_offset a i) (entry_bytes a boxes counts cues t)
  unfolding entry_count entry_muted entry_bytes
  entry_held byte box-same number muted-number =
      let at = entry_offset a i in
      let box = box_bytes a boxes t in
      let count = bytes16 (count_of counts t) in
      let muted = bytes16 (muted_of counts cues t) in
      let g = holds-append s at box count count_at (box_held byte box-same)
      (holds_run (held_16 s (at + count_offset a) byte) (ap bytes16 number)) in
      holds-append s at (box ++ count) muted muted_at_lem g
      (holds_run (held_16 s (at + muted_offset a) byte) (ap bytes16 muted-number))

-- ---- site i of the lists, as the site of a slot of a block
pub row-signed : (spots : List (List ℤ)) → All Signed spots → (i : ℕ) → Signed (row spots i)
unfolding row
row-signed [] h i axis = lit< tt
row-signed (c ∷ spots) h i zero = h.0 i
row-signed (c ∷ spots) h i (suc axis) = row-signed spots h.1 i axis

module _ (s : List ℕ) (slot : ℕ) (spots : List (List ℤ)) (cues : List ℕ) (i : ℕ) where
  abbrev axes : ℕ
  axes = length spots

  abbrev at : ℕ
  at = site_offset axes slot

  abbrev number : ℕ → List ℕ
  number axis = bytes_signed (get_or (row spots i) axis (pos 0))

  wide : (k : ℕ) → k < axes → length (number (0 + k)) ≡ 4
  wide k l = length-number (get_or (row spots i) (0 + k) (pos 0))

  cue_at : at + cue_offset axes ≡ at + length (joined number 0 axes)
  cue_at = ap (λ k. at + k) (sym (length-joined number 4 0 axes wide))

  pub site_read : Signed (row spots i) → Unsigned cues → Holds s at (site_bytes axes spots cues i) →
      site_in axes s slot ≡ supplied_site spots cues i
  unfolding site_in site_bytes
  site_read signed unsigned h =
      let c = bytes32 (get_or cues i 0) in
      let g = holds_left s at (joined number 0 axes) c h in
      let point : tabulate (λ axis. i32_at s (at + number_offset axis)) 0 axes ≡ row spots i =
      tabulate-same (λ axis. i32_at s (at + number_offset axis)) (λ axis. get_or (row spots i) axis (pos 0)) 0 axes
      (λ axis l. let z = zero-add axis in
      rw z (read_signed s _ (signed axis) (holds_run (holds-each s number 4 at 0 axes wide g axis l) (ap number z))))
      ∙ tabulate_whole (row spots i) (pos 0) axes (row_axes spots i) in
      rw (
        point,
        read_32 s (at + cue_offset axes) (unsigned i)
            (holds_right s at (joined number 0 axes) c cue_at h),
      )

  pub site_held : Bytes s → site_in axes s slot ≡ supplied_site spots cues i → Holds s at (site_bytes axes spots cues i)
  unfolding site_in site_bytes
  site_held byte e =
      holds-append s at (joined number 0 axes) (bytes32 (get_or cues i 0)) cue_at
      (holds-joined s number 4 at 0 axes wide (λ axis l. let z = zero-add axis in
      holds_run (held_signed s (at + number_offset axis) byte)
      (ap (λ k. bytes_signed (i32_at s (at + number_offset k))) (sym z)
      ∙ ap bytes_signed (sym (get_d_tabulate (λ axis. i32_at s (at + number_offset axis)) (pos 0) 0 axes axis l)
      ∙ ap (λ (q : Site). get_or q.point axis (pos 0)) e) ∙ ap number (sym z))))
      (holds_run (held_32 s (at + cue_offset axes) byte) (ap (λ (q : Site). bytes32 q.cue) e))

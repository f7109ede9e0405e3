-- The bytes of blocks: their lengths, and that rows of writing calls leave them. Assumes nothing.
--
--   length_head, length-number, length-box, length-box-count, length_entry, length_site   the length of each part
--   length-entries, length-sites                of several
--   length_body, length-block_bytes             of a block
--   length-directory_block, length_tile_block   of a block of each kind
--   parts_fit                                   entries or sites in a payload
--   part_within                                 a part of one width
--   due_few, due_within, due_next               how many entries there are
--   length-tile_of, tile_of                     a tile's block: its length; by what the code goes by
--   sums_byte, sums_body, sums_part             the check: its sums, of a body, of the part that is lent
--   joined_next                                 a loop that writes parts of one width: a turn
--   head_row, entry_row, plan_site_row, height_site_row, check_row, block_row   what each row of calls leaves
use Prim.Native.Nat.{ℕ, zero, suc, min, ◌+◌, ◌*◌, ◌-◌, ◌/◌, ◌<◌, ◌≤◌}
use mathlib.Core.List.{List, [], ◌∷◌, ◌++◌, append-nil, append_assoc}
use mathlib.Core.Path.{◌≡◌, refl, sym, ap, ◌∙◌}
use native.Mathlib.Nat.{add-zero, min-le_left, div-zero, le-div_iff_mul-le, mul-le-mul_left, not-suc-le-zero}
use native.Mathlib.Numerals.{add-one}
use native.Mathlib.Omega.{arith}
use lib.Dec.{lit<}
use lib.IntN.{ℤ, pos}
use lib.ListN.{length, get_or, take, drop, replicate, length-append, length-replicate, length-drop}
use lib.Seq.{slice, take_all, length-take-le}
use Rattle.base.specs.Over.{over}
use Rattle.base.specs.Tabulate.{joined}
use Rattle.blocks.specs.Checksum.{sums_from, sums}
use Rattle.blocks.specs.Directory.{directory_blocks, entries_due}
use Rattle.blocks.specs.Layout.{sync_byte, directory_kind, tile_kind, kind_at, position_at, entries_at, tiles_at}
use Rattle.blocks.specs.Layout.{count_offset, muted_offset, block_size, reserved_at, payload_at, check_at, entry_size}
use Rattle.blocks.specs.Layout.{payload_size, entries_per_block, site_size, max_sites}
use Rattle.blocks.specs.declared.checksum.Sums.{Sums}
use Rattle.blocks.specs.declared.header.Header.{Header}
use Rattle.codec.specs.Bytes.{bytes, bytes16, bytes32, bytes_signed}
use Rattle.geometry.specs.Around.{row}
use Rattle.tiles.specs.Tile.{tile_position}
use Rattle.base.proofs.Joined.{length-joined}
use Rattle.base.proofs.Over.{also, length_over}
use Rattle.blocks.proofs.ChecksumLaws.{sums-small}
use Rattle.codec.proofs.Holds.{Holds, holds-over, holds-part, holds_front}
use Rattle.encode.specs.Encode.{head_bytes, check_bytes, body_bytes, block_bytes, box_bytes, entry_bytes, site_bytes}
use Rattle.encode.specs.Encode.{directory_bytes, tile_bytes, tile_bytes_of}
use Rattle.encode.specs.Supply.{header_of, numbers_per_box, box_number, count_of, offset, muted_of}

-- ---- lengths
pub length_head : (kind p n t : ℕ) → length (head_bytes kind p n t) ≡ reserved_at
unfolding head_bytes bytes16 bytes
length_head kind p n t = refl

-- a signed number, and several one after the other
pub length-number : (z : ℤ) → length (bytes_signed z) ≡ 4
unfolding bytes_signed bytes32 bytes
length-number z = refl

length-numbers : (g : ℕ → ℤ) (n : ℕ) → length (joined (λ i. bytes_signed (g i)) 0 n) ≡ 4 * n
length-numbers g n = length-joined (λ i. bytes_signed (g i)) 4 0 n (λ i l. length-number (g (0 + i)))

module _ (a : ℕ) (boxes : List ℤ) (counts cues : List ℕ) where
  pub length-box : (t : ℕ) → length (box_bytes a boxes t) ≡ count_offset a
  unfolding box_bytes
  length-box t = length-numbers (box_number a boxes t) (numbers_per_box a) ∙ omega arith

  pub length-box-count : (t : ℕ) → length (box_bytes a boxes t ++ bytes16 (count_of counts t)) ≡ muted_offset a
  unfolding bytes16 bytes
  length-box-count t =
      length-append (box_bytes a boxes t) (bytes16 (count_of counts t)) ∙ omega (arith, length-box t)

  pub length_entry : (t : ℕ) → length (entry_bytes a boxes counts cues t) ≡ entry_size a
  unfolding entry_bytes bytes16 bytes
  length_entry t =
      length-append (box_bytes a boxes t ++ bytes16 (count_of counts t)) (bytes16 (muted_of counts cues t))
      ∙ omega (arith, length-box-count t)

  pub length-entries : (t n : ℕ) → length (joined (entry_bytes a boxes counts cues) t n) ≡ entry_size a * n
  length-entries t n = length-joined (entry_bytes a boxes counts cues) (entry_size a) t n (λ i l. length_entry (t + i))

module _ (a : ℕ) (spots : List (List ℤ)) (cues : List ℕ) where
  pub length_site : (i : ℕ) → length (site_bytes a spots cues i) ≡ site_size a
  unfolding site_bytes bytes32 bytes
  length_site i =
      let point : ℕ → ℤ = λ axis. get_or (row spots i) axis (pos 0) in
      length-append (joined (λ axis. bytes_signed (point axis)) 0 a) (bytes32 (get_or cues i 0))
      ∙ omega (arith, length-numbers point a)

  pub length-sites : (i n : ℕ) → length (joined (site_bytes a spots cues) i n) ≡ site_size a * n
  length-sites i n = length-joined (site_bytes a spots cues) (site_size a) i n (λ j l. length_site (i + j))

module _ (head payload : List ℕ) (h : length head ≡ reserved_at) (fits : payload_at + length payload ≤ check_at) where
  pub length_body : length (body_bytes head payload) ≡ check_at
  unfolding body_bytes
  length_body = simp (length-append, length-replicate) (omega arith)

  pub length-block_bytes : length (block_bytes head payload) ≡ block_size
  unfolding block_bytes check_bytes
  length-block_bytes = simp (length-append, length_body)

-- as many parts as the payload holds end before the check
pub parts_fit : (w n : ℕ) → 0 < w → n ≤ payload_size / w → payload_at + w * n ≤ check_at
parts_fit w n some l = omega (arith, (le-div_iff_mul-le some).0 l)

-- part t of n parts of one width
pub part_within : (w t n : ℕ) → t < n → w * t + w ≤ w * n
part_within w t n l = let e : w * suc t ≡ w * t + w = omega arith in rw e at (mul-le-mul_left w l)

pub due_few : (h : Header) (p : ℕ) → entries_due h p ≤ entries_per_block h.axes
unfolding entries_due
due_few h p = min-le_left (entries_per_block h.axes) (h.tiles - entries_per_block h.axes * p)

-- T by blocks of e entries
module _ (t p : ℕ) where
  within : (e : ℕ) → p < (t + (e - 1)) / e → e * p + min e (t - e * p) ≤ t
  within zero l = absurd (not-suc-le-zero (rw div-zero at l))
  within (suc e) l = omega (arith, (le-div_iff_mul-le {k = suc e} (omega arith)).0 l)

  next : (e : ℕ) → p + 1 < (t + (e - 1)) / e → e * p + min e (t - e * p) ≡ e * (p + 1)
  next zero l = absurd (not-suc-le-zero (rw div-zero at l))
  next (suc e) l = omega (arith, (le-div_iff_mul-le {k = suc e} (omega arith)).0 l)

pub due_within : (h : Header) (p : ℕ) → p < directory_blocks h →
    entries_per_block h.axes * p + entries_due h p ≤ h.tiles
unfolding directory_blocks entries_due
due_within h p l = within h.tiles p (entries_per_block h.axes) l

-- before the last block all entries are used
pub due_next : (h : Header) (p : ℕ) → p + 1 < directory_blocks h →
    entries_per_block h.axes * p + entries_due h p ≡ entries_per_block h.axes * (p + 1)
unfolding directory_blocks entries_due
due_next h p l = next h.tiles p (entries_per_block h.axes) l

pub length-directory_block : (a : ℕ) (boxes : List ℤ) (counts cues : List ℕ) (p : ℕ) →
    length (directory_bytes a boxes counts cues p) ≡ block_size
unfolding directory_bytes
length-directory_block a boxes counts cues p =
    let n = entries_due (header_of a counts) p in
    let first = entries_per_block a * p in
    let kind = directory_kind a in
    length-block_bytes (head_bytes kind p n (length counts)) (joined (entry_bytes a boxes counts cues) first n)
    (length_head kind p n (length counts))
    (omega (
      arith,
      length-entries a boxes counts cues first n,
      parts_fit (entry_size a) n (omega arith) (due_few (header_of a counts) p),
    ))

pub length_tile_block : (a : ℕ) (spots : List (List ℤ)) (cues : List ℕ) (p i n : ℕ) → n ≤ max_sites a →
    length (tile_bytes a spots cues p i n) ≡ block_size
unfolding tile_bytes
length_tile_block a spots cues p i n h =
    length-block_bytes (head_bytes (tile_kind a) p n 0) (joined (site_bytes a spots cues) i n)
    (length_head (tile_kind a) p n 0)
    (omega (arith, length-sites a spots cues i n, parts_fit (site_size a) n (omega arith) h))

pub length-tile_of : (a : ℕ) (counts : List ℕ) (spots : List (List ℤ)) (cues : List ℕ) (t : ℕ) →
    count_of counts t ≤ max_sites a → length (tile_bytes_of a counts spots cues t) ≡ block_size
unfolding tile_bytes_of
length-tile_of a counts spots cues t h = length_tile_block a spots cues _ (offset counts t) (count_of counts t) h

-- the block of tile t, by what the code goes by
pub tile_of : (a : ℕ) (counts : List ℕ) (spots : List (List ℤ)) (cues : List ℕ) (t : ℕ) {p first n : ℕ} →
    p ≡ directory_blocks (header_of a counts) + t → first ≡ offset counts t → n ≡ count_of counts t →
    tile_bytes a spots cues p first n ≡ tile_bytes_of a counts spots cues t
unfolding tile_bytes_of tile_position
tile_of a counts spots cues t e₁ e₂ e₃ = rw (e₁, e₂, e₃)

-- ---- the check, which is over bytes 1 to 509
sums_front : (s r : List ℕ) → take check_at s ≡ take check_at r → sums s ≡ sums r
unfolding sums
sums_front s r e = ap (λ l. sums_from 0 0 (drop 1 l)) e

pub sums_byte : (s : List ℕ) → ((sums s).a < 256) × ((sums s).c < 256)
unfolding sums
sums_byte s =
    let h = sums-small (slice 1 check_at s) 0 0 (lit< tt) (lit< tt) in (omega (arith, h.0), omega (arith, h.1))

-- of a block that holds a body
pub sums_body : (s body : List ℕ) → Holds s 0 body → length body ≡ check_at → check_at ≤ length s → sums s ≡ sums body
sums_body s body h n l =
    sums_front s body (holds_front check_at h n l ∙ sym (take_all check_at body (omega arith)))

-- the part of the slice that is lent to the check
pub sums_part : (l : List ℕ) (at : ℕ) (r : Sums) → r ≡ sums (take (at + block_size - at) (drop at l)) →
    r ≡ sums (take block_size (drop at l))
sums_part l at r e = let k : at + block_size - at ≡ block_size = omega arith in rw k at e

-- ---- loops that write parts of one width, one after the other: a turn
joined_snoc : (g : ℕ → List ℕ) (a n : ℕ) → joined g a (suc n) ≡ joined g a n ++ g (a + n)
unfolding joined
joined_snoc g a zero = rw (append-nil, add-zero)
joined_snoc g a (suc n) =
    let e : a + 1 + n ≡ a + suc n = omega arith in
    rw (joined_snoc g (a + 1) n, e) (sym (append_assoc (g a) (joined g (a + 1) n) (g (a + suc n))))

pub joined_next : (g : ℕ → List ℕ) (w : ℕ) (l : List ℕ) (at a n : ℕ) {d e : List ℕ} →
    ((i : ℕ) → i < n → length (g (a + i)) ≡ w) → d ≡ over l at (joined g a n) → e ≡ over d (at + w * n) (g (a + n)) →
    e ≡ over l at (joined g a (n + 1))
joined_next g w l at a n h p q =
    also l at (at + w * n) (joined g a n) (g (a + n)) p q (ap (λ k. at + k) (sym (length-joined g w a n h)))
    ∙ rw (add-one, joined_snoc)

-- ---- rows of calls
module _ (l : List ℕ) (at : ℕ) where
  pub head_row : (kind p n t : ℕ) {d₁ d₂ d₃ d₄ d₅ : List ℕ} → d₁ ≡ over l at (sync_byte ∷ []) →
      d₂ ≡ over d₁ (at + kind_at) (kind ∷ []) →
      d₃ ≡ over d₂ (at + position_at) (bytes16 p) → d₄ ≡ over d₃ (at + entries_at) (bytes16 n) →
      d₅ ≡ over d₄ (at + tiles_at) (bytes16 t) →
      d₅ ≡ over l at (head_bytes kind p n t)
  unfolding head_bytes bytes16 bytes
  head_row kind p n t e₁ e₂ e₃ e₄ e₅ =
      let a : List ℕ = sync_byte ∷ [] in
      let b = a ++ (kind ∷ []) in
      let c = b ++ bytes16 p in
      let d = c ++ bytes16 n in
      also l at (at + tiles_at) d (bytes16 t)
      (also l at (at + entries_at) c (bytes16 n) (also l at (at + position_at) b (bytes16 p)
      (also l at (at + kind_at) a (kind ∷ []) e₁ e₂ refl) e₃ refl) e₄ refl) e₅ refl

  pub check_row : (s : List ℕ) {a c : ℕ} {d₁ d₂ : List ℕ} → a ≡ (sums s).a → c ≡ (sums s).c → d₁ ≡ over l at (a ∷ []) →
      d₂ ≡ over d₁ (at + 1) (c ∷ []) → d₂ ≡ over l at (check_bytes s)
  unfolding check_bytes
  check_row s {a} {c} p q e₁ e₂ = also l at (at + 1) (a ∷ []) (c ∷ []) e₁ e₂ refl ∙ rw (p, q)

  pub entry_row : (a : ℕ) (boxes : List ℤ) (counts cues : List ℕ) (t : ℕ) {d₁ d₂ d₃ : List ℕ} →
      d₁ ≡ over l at (box_bytes a boxes t) →
      d₂ ≡ over d₁ (at + count_offset a) (bytes16 (count_of counts t)) →
      d₃ ≡ over d₂ (at + muted_offset a) (bytes16 (muted_of counts cues t)) →
      d₃ ≡ over l at (entry_bytes a boxes counts cues t)
  unfolding entry_bytes
  entry_row a boxes counts cues t e₁ e₂ e₃ =
      let box = box_bytes a boxes t in
      let front = box ++ bytes16 (count_of counts t) in
      also l at (at + muted_offset a) front (bytes16 (muted_of counts cues t))
      (also l at (at + count_offset a) box (bytes16 (count_of counts t)) e₁ e₂
      (ap (λ k. at + k) (sym (length-box a boxes counts cues t)))) e₃
      (ap (λ k. at + k) (sym (length-box-count a boxes counts cues t)))

  -- a site: x and y, then the cue, or z and the cue
  module _ (xs ys zs : List ℤ) (cues : List ℕ) (i : ℕ) {d₁ d₂ : List ℕ}
      (e₁ : d₁ ≡ over l at (bytes_signed (get_or xs i (pos 0))))
      (e₂ : d₂ ≡ over d₁ (at + 4) (bytes_signed (get_or ys i (pos 0)))) where
    first_two : d₂ ≡ over l at (bytes_signed (get_or xs i (pos 0)) ++ bytes_signed (get_or ys i (pos 0)))
    unfolding bytes_signed bytes32 bytes
    first_two = also l at (at + 4) (bytes_signed (get_or xs i (pos 0))) (bytes_signed (get_or ys i (pos 0))) e₁ e₂ refl

    pub plan_site_row : {d₃ : List ℕ} → d₃ ≡ over d₂ (at + 8) (bytes32 (get_or cues i 0)) →
        d₃ ≡ over l at (site_bytes 2 (take 2 (xs ∷ ys ∷ zs ∷ [])) cues i)
    unfolding site_bytes joined row bytes_signed bytes32 bytes
    plan_site_row e₃ =
        also l at (at + 8) (bytes_signed (get_or xs i (pos 0)) ++ bytes_signed (get_or ys i (pos 0)))
        (bytes32 (get_or cues i 0)) first_two e₃ refl

    pub height_site_row : {d₃ d₄ : List ℕ} → d₃ ≡ over d₂ (at + 8) (bytes_signed (get_or zs i (pos 0))) →
        d₄ ≡ over d₃ (at + 12) (bytes32 (get_or cues i 0)) →
        d₄ ≡ over l at (site_bytes 3 (take 3 (xs ∷ ys ∷ zs ∷ [])) cues i)
    unfolding site_bytes joined row bytes_signed bytes32 bytes
    height_site_row e₃ e₄ =
        let front = bytes_signed (get_or xs i (pos 0)) ++ bytes_signed (get_or ys i (pos 0)) in
        let z = bytes_signed (get_or zs i (pos 0)) in
        also l at (at + 12) (front ++ z) (bytes32 (get_or cues i 0)) (also l at (at + 8) front z first_two e₃ refl)
        e₄ refl

  pub block_row : (head payload : List ℕ) (used : ℕ) → length head ≡ reserved_at → used ≡ payload_at + length payload →
      used ≤ check_at →
      at + block_size ≤ length l → {d₁ d₂ d₃ d₄ d₅ : List ℕ} → d₁ ≡ over l at head →
      d₂ ≡ over d₁ (at + reserved_at) (replicate (at + payload_at - (at + reserved_at)) 0) →
      d₃ ≡ over d₂ (at + payload_at) payload →
      d₄ ≡ over d₃ (at + used) (replicate (at + check_at - (at + used)) 0) →
      d₅ ≡ over d₄ (at + check_at) (check_bytes (take block_size (drop at d₄))) → d₅
      ≡ over l at (block_bytes head payload)
  unfolding block_bytes body_bytes check_bytes
  block_row head payload used n u fits room {d₁} {d₂} {d₃} {d₄} e₁ e₂ e₃ e₄ e₅ =
      let z : at + payload_at - (at + reserved_at) ≡ payload_at - reserved_at = omega arith in
      let y : at + check_at - (at + used) ≡ check_at - (payload_at + length payload) = omega arith in
      let gap : List ℕ = replicate (payload_at - reserved_at) 0 in
      let tail : List ℕ = replicate (check_at - (payload_at + length payload)) 0 in
      let f₂ = e₂ ∙ ap (λ k. over d₁ (at + reserved_at) (replicate k 0)) z in
      let f₄ = e₄ ∙ ap (λ k. over d₃ (at + used) (replicate k 0)) y in
      let b₂ = also l at (at + reserved_at) head gap e₁ f₂ (ap (λ k. at + k) (sym n)) in
      let m₂ : length (head ++ gap) ≡ payload_at = simp length-append (omega arith) in
      let b₃ = also l at (at + payload_at) (head ++ gap) payload b₂ e₃ (ap (λ k. at + k) (sym m₂)) in
      let m₃ : length (head ++ gap ++ payload) ≡ used = length-append (head ++ gap) payload ∙ omega arith in
      let b₄ = also l at (at + used) (head ++ gap ++ payload) tail b₃ f₄ (ap (λ k. at + k) (sym m₃)) in
      let body = body_bytes head payload in
      let m₄ : length body ≡ check_at = length_body head payload n (omega arith) in
      let held : Holds d₄ at body = rw b₄ (holds-over l at body (omega arith)) in
      let room₄ : length d₄ ≡ length l = ap length b₄ ∙ length_over l at body in
      let size : length (take block_size (drop at d₄)) ≡ block_size =
      length-take-le block_size (drop at d₄) (omega (arith, length-drop at d₄)) in
      let s = sums_body (take block_size (drop at d₄)) body
      (holds-part held block_size at 0 (omega arith) (omega arith))
      m₄
      (omega arith) in
      also l at (at + check_at) body (check_bytes body) b₄
      (e₅ ∙ ap (λ (x : Sums). over d₄ (at + check_at) (x.a ∷ x.c ∷ [])) s)
      (ap (λ k. at + k) (sym m₄))

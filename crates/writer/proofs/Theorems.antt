-- The theorems of this crate for the reader. The calls are `write::write` and, with height, `write::write3`, their
-- definitions `write_call` and `write_exit` (specs/Write). What they accept: `write_exactly` (`GoodSupply`,
-- specs/Accepted); what they leave: `written_file`, `written_passes`. Demand 2: `passes_exactly` (`Made`, specs/Made),
-- with `read_back`, `only_town`, `different_towns`. Of old files: `bytes_like_01`. s is the lists, f the file, h its
-- header. Assumes nothing.
use Prim.Native.Nat.{ℕ, ◌<◌, ◌≤◌}
use mathlib.Core.Bool.{false}
use mathlib.Core.List.{List, ◌++◌}
use mathlib.Core.Path.{◌≡◌, refl, sym, ap, ◌∙◌}
use native.Mathlib.Nat.{zero-add}
use native.Mathlib.Omega.{arith}
use lib.ListN.{length, get_or, take, drop}
use lib.Seq.{take_at, drop_at}
use Rattle.base.specs.Refusal.{accepted}
use Rattle.base.specs.Tabulate.{tabulate}
use Rattle.blocks.specs.Directory.{box_at, count_at, muted_at}
use Rattle.blocks.specs.declared.header.Header.{Header}
use Rattle.codec.specs.Number.{Bytes}
use Rattle.encode.specs.Document01.{file_bytes01}
use Rattle.encode.specs.Encode.{file_bytes, file_length}
use Rattle.encode.specs.Supply.{Supply, axes_of, header_of, tiles_of, box_of, count_of, site_total, muted_of, site_of}
use Rattle.tiles.specs.Accepted.{GoodFile}
use Rattle.tiles.specs.Tile.{muted_cue, site_at, sites_at}
use Rattle.tiles.specs.Validate.{validate}
use Rattle.base.proofs.Outcomes.{accepted_injective, and_then_accepted}
use Rattle.base.proofs.Over.{over_eq}
use Rattle.base.proofs.Tabulate.{tabulate-same}
use Rattle.codec.proofs.Holds.{Holds, holds_self, holds-all, over-all}
use Rattle.tiles.proofs.Theorems.{validate_exactly}
use Rattle.writer.specs.Accepted.{GoodSupply}
use Rattle.writer.specs.Made.{Typed, Made, supply_of}
use Rattle.writer.specs.Write.{write_tests, write_call, write_exit}
use Rattle.writer.proofs.Document01.{file_like}
use Rattle.writer.proofs.FileLaws.{Reads, length_file, written_reads, written_muted, written_good, good_holds}
use Rattle.writer.proofs.SupplyOf.{reads_own, header_own, good_own, typed_own, only_own}
use Rattle.writer.proofs.WriteLaws.{tests_good, tests_enough, call_accepted, exit_accepted}

-- ---- the call
-- the writer accepts exactly good lists, where the file fits the output slice, and gives the file's length
pub write_exactly : (s : Supply) (room n : ℕ) →
    (write_call s room ≡ accepted n → GoodSupply s × (file_length (header_of (axes_of s) s.counts) ≤ room)
    × (n ≡ file_length (header_of (axes_of s) s.counts)))
    × (GoodSupply s × (file_length (header_of (axes_of s) s.counts) ≤ room)
    × (n ≡ file_length (header_of (axes_of s) s.counts)) → write_call s room ≡ accepted n)
unfolding write_call
write_exactly s room n = (
  λ e. let length_told = λ (_ : Unit). accepted (file_length (header_of (axes_of s) s.counts)) in
      let h = and_then_accepted (write_tests s room) length_told e in
      let g = tests_good s room h.1 in
      (g.0, g.1, sym (accepted_injective h.2)),
  λ h. call_accepted s room (tests_enough s room h.0 h.1) ∙ ap accepted (sym h.2),
)

-- accepted, the output slice starts with the file, and "later bytes stay"
module _ (s : Supply) (out : List ℕ) (n : ℕ) (e : write_call s (length out) ≡ accepted n) where
  good : GoodSupply s × (file_length (header_of (axes_of s) s.counts) ≤ length out)
      × (n ≡ file_length (header_of (axes_of s) s.counts))
  good = (write_exactly s (length out) n).0 e

  size : length (file_bytes s) ≡ n
  size = length_file s good.0.counts ∙ sym good.2

  laid : write_exit s out ≡ file_bytes s ++ drop n out
  laid =
      exit_accepted s out e ∙ over_eq out 0 (file_bytes s) (omega (arith, good.1, good.2, size))
      ∙ ap (λ k. file_bytes s ++ drop k out) (zero-add (length (file_bytes s)) ∙ size)

  pub written_file : (take n (write_exit s out) ≡ file_bytes s) × (drop n (write_exit s out) ≡ drop n out)
  written_file = (
    ap (take n) laid ∙ take_at (file_bytes s) (drop n out) n size,
    ap (drop n) laid ∙ drop_at (file_bytes s) (drop n out) n size,
  )

-- ---- "A file passes the full check exactly when our writer makes it from some town" (demand 2): with the header h,
-- and into an output slice of the file's length
module _ (f : List ℕ) (h : Header) where
  -- what was made: lists that pass the writer's tests, whose bytes are the file
  module _ (s : Supply) (m : Made f h s) where
    made-good : GoodSupply s
    made-good = ((write_exactly s (length f) (length f)).0 m.answer).0

    made_bytes : f ≡ file_bytes s
    made_bytes =
        let n = length_file s made-good.counts in
        let k = ((write_exactly s (length f) (length f)).0 m.answer).2 in
        sym (m.bytes f refl) ∙ exit_accepted s f m.answer ∙ over-all f (file_bytes s) (k ∙ sym n)

    made-length : length f ≡ file_length (header_of (axes_of s) s.counts)
    made-length = ((write_exactly s (length f) (length f)).0 m.answer).2

    made_holds : Holds f 0 (file_bytes s)
    made_holds = rw made_bytes (holds_self (file_bytes s))

  good_length : GoodFile f h → length f ≡ file_length h
  unfolding file_length
  good_length g = omega (arith, g.directory.size.whole, g.directory.tiles.sum)

  -- the lists that are read from a file of bytes that passes
  makes : Bytes f → GoodFile f h → Made f h (supply_of f h)
  makes byte g =
      let s = supply_of f h in
      let k : header_of (axes_of s) s.counts ≡ h = header_own f h in
      let good = good_own f h g in
      let n : length f ≡ file_length (header_of (axes_of s) s.counts) = good_length g ∙ ap file_length (sym k) in
      let held = good_holds f s byte (rw k g) (rw k (reads_own f h)) in
      let l : length (file_bytes s) ≡ length f = length_file s good.counts ∙ sym n in
      let e : write_call s (length f) ≡ accepted (length f) = (write_exactly s (length f) (length f)).1
      (good, omega (arith, n), n) in
      record {
        typed = typed_own f h byte g.directory.axes;
        header = k;
        answer = e;
        bytes = λ out q. exit_accepted s out (ap (write_call s) q ∙ e) ∙ over-all out (file_bytes s) (q ∙ sym l)
            ∙ sym (holds-all held (sym l));
      }

  passes : (s : Supply) → Made f h s → validate f ≡ accepted h
  passes s m =
      let g = written_good s (made-good s m) m.typed f (made-length s m) (made_holds s m) in
      (validate_exactly f h).1 (rw m.header at g)

  pub passes_exactly : Bytes f →
      (validate f ≡ accepted h → (s : Supply) × Made f h s)
      × ((s : Supply) × Made f h s → validate f ≡ accepted h)
  passes_exactly byte = (λ e. (supply_of f h, makes byte ((validate_exactly f h).0 e)), λ m. passes m.0 m.1)

  -- reading back what was written gives the same boxes, counts, muted numbers and sites
  module _ (s : Supply) (m : Made f h s) where
    made_reads : Reads f (header_of (axes_of s) s.counts) s
    made_reads = written_reads s (made-good s m) m.typed f (made-length s m) (made_holds s m)

    pub read_back : (t : ℕ) → t < h.tiles →
        (box_at f h t ≡ box_of (axes_of s) s.boxes t)
        × (count_at f h t ≡ count_of s.counts t)
        × (muted_at f h t ≡ muted_of s.counts s.cues t)
        × (sites_at f h t ≡ tabulate (site_of s t) 0 (count_of s.counts t))
    unfolding sites_at
    read_back t l =
        let k = m.header in
        let r : Reads f h s = rw k at made_reads in
        let n : t < tiles_of s = rw (ap (λ (h : Header). h.tiles) k) l in (
          r.box t n,
          r.count t n,
          rw k at (written_muted s (made-good s m) m.typed f (made-length s m) (made_holds s m) t n),
          rw (r.count t n) (tabulate-same (site_at f h t) (site_of s t) 0 (count_of s.counts t)
              (λ slot o. let z = zero-add slot in rw z (r.site t slot n o))),
        )

    -- and no lists but these make the file
    pub only_town : s ≡ supply_of f h
    only_town = only_own f s (made-good s m) made_reads ∙ ap (supply_of f) m.header

-- 02.1 leaves old files as they were: lists without a cue 0 give the bytes that they give without 02.1
pub bytes_like_01 : (s : Supply) → ((i : ℕ) → i < site_total s.counts → muted_cue (get_or s.cues i 0) ≡ false) →
    file_bytes s ≡ file_bytes01 s
bytes_like_01 s sounds = file_like s sounds

-- ---- the same about what the call leaves in an output slice
module _ (s : Supply) (typed : Typed s) (out : List ℕ) (n : ℕ) (e : write_call s (length out) ≡ accepted n) where
  made_from : Made (take n (write_exit s out)) (header_of (axes_of s) s.counts) s
  made_from =
      let f = take n (write_exit s out) in
      let q : f ≡ file_bytes s = (written_file s out n e).0 in
      let g = good s out n e in
      let k : length f ≡ n = ap length q ∙ size s out n e in
      let answer : write_call s (length f) ≡ accepted (length f) =
      (write_exactly s (length f) (length f)).1 (g.0, omega (arith, k, g.2), k ∙ g.2) in
      record {
        typed = typed;
        header = refl;
        answer = answer;
        bytes = λ o l. exit_accepted s o (ap (write_call s) l ∙ answer) ∙ over-all o (file_bytes s) (l ∙ ap length q)
            ∙ sym q;
      }

  -- what the writer leaves passes the full check
  pub written_passes : validate (take n (write_exit s out)) ≡ accepted (header_of (axes_of s) s.counts)
  written_passes = passes (take n (write_exit s out)) (header_of (axes_of s) s.counts) s made_from

-- two towns that differ give different files
pub different_towns : (s r : Supply) → Typed s → Typed r → (out other : List ℕ) (n k : ℕ) →
    write_call s (length out) ≡ accepted n →
    write_call r (length other) ≡ accepted k → take n (write_exit s out) ≡ take k (write_exit r other) → s ≡ r
different_towns s r ts tr out other n k e h q =
    let f = take n (write_exit s out) in
    let m : Made f (header_of (axes_of s) s.counts) s = made_from s ts out n e in
    let w : Made f (header_of (axes_of r) r.counts) r = rw q (made_from r tr other k h) in
    let t : header_of (axes_of s) s.counts ≡ header_of (axes_of r) r.counts =
    accepted_injective (sym (passes f _ s m) ∙ passes f _ r w) in
    only_town f _ s m ∙ ap (supply_of f) t ∙ sym (only_town f _ r w)

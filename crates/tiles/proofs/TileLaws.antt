-- What an accepted tile and an accepted file show, and that this is enough; where a tile is refused. Assumes nothing.
use Prim.Native.Nat.{ℕ, ◌+◌, ◌*◌, ◌≤◌}
use mathlib.Core.Bool.{Bool, true, false}
use mathlib.Core.List.{List}
use mathlib.Core.Path.{◌≡◌, refl, sym, ap, ◌∙◌}
use native.Mathlib.Nat.{zero-add}
use native.Mathlib.Omega.{arith}
use lib.IntN.{ℤ}
use lib.Dec.{eqb}
use lib.ListN.{get_or}
use borrow.Author.Tests.{eqb-true, eq-eqb}
use Rattle.base.specs.Every.{every}
use Rattle.base.specs.Refusal.{Outcome, accepted, refused, require, and_then, #sync, #check, #kind, #position, in_turn}
use Rattle.base.specs.Refusal.{#entries, #padding, #stray, #muted}
use Rattle.blocks.specs.Block.{position_in, entries_in, kind_due, block_start}
use Rattle.blocks.specs.Checksum.{check_agrees}
use Rattle.blocks.specs.Directory.{directory, count_at}
use Rattle.blocks.specs.Layout.{sync_byte, tile_kind, payload_at, check_at, site_size, max_sites}
use Rattle.blocks.specs.declared.header.Header.{Header}
use Rattle.geometry.specs.Axes.{KnownAxes}
use Rattle.geometry.proofs.Theorems.{by_axes}
use Rattle.base.proofs.InTurn.{turns_each, turns_all}
use Rattle.base.proofs.Outcomes.{accepted_injective, accepted_refused, require_accepted, and_then_accepted}
use Rattle.blocks.proofs.BlockLaws.{start_good, start_enough}
use Rattle.blocks.proofs.DirectoryLaws.{directory_good, directory_enough}
use Rattle.base.proofs.Every.{every_at, every_holds}
use Rattle.tiles.specs.Accepted.{GoodTileBlock, GoodTile, GoodFile}
use Rattle.tiles.specs.Tile.{tile_block, tile_padding, site_inside, muted_in, tile_position, open_tile}
use Rattle.tiles.specs.Validate.{open_all, validate}

-- what refuses at block p: a row of the table, or what comes next
at_require : {A : Type 0} (test : Bool) (x p : ℕ) (o : Outcome A) {n q : ℕ} → require test x p o ≡ refused n q
    → (o ≡ refused n q → q ≡ p) → q ≡ p
at_require true x p o e next = next e
at_require false x p o e next = cc

at_then : {A B : Type 0} (o : Outcome A) (next : A → Outcome B) {p n q : ℕ} → and_then o next ≡ refused n q
    → (o ≡ refused n q → q ≡ p) → ((a : A) → next a ≡ refused n q → q ≡ p) → q ≡ p
at_then (accepted a) next e f g = g a e
at_then (refused m b) next {n = n} {q} e f g =
    let x : m ≡ n = cc in
    let y : b ≡ q = cc in
    f (rw (x, y))

start_at : (kind : ℕ) (s : List ℕ) (p : ℕ) {n q : ℕ} → block_start kind s p ≡ refused n q → q ≡ p
unfolding block_start
start_at kind s p e =
    at_require (eqb (get_or s 0 0) sync_byte) #sync p _ e
    (λ e. at_require (check_agrees s) #check p _ e
    (λ e. at_require (kind_due kind s) #kind p (accepted tt) e
    (λ e. accepted_refused refl e)))

module _ (a : ℕ) (s : List ℕ) (p : ℕ) (bounds : List (List ℤ)) (count muted : ℕ) where
  pub tile_good : {n : ℕ} → tile_block a s p bounds count muted ≡ accepted n → GoodTileBlock a s p bounds count muted
  unfolding tile_block site_inside
  tile_good e =
      let h = and_then_accepted (block_start (tile_kind a) s p) _ e in
      let at = require_accepted _ _ _ _ h.2 in
      let x = require_accepted _ _ _ _ at.1 in
      let b = require_accepted _ _ _ _ x.1 in
      let c = require_accepted _ _ _ _ b.1 in
      let d = require_accepted _ _ _ _ c.1 in
      record {
        head = start_good (tile_kind a) s p h.1 at.0;
        entries = eqb-true (entries_in s) count x.0;
        padding = b.0;
        inside = λ slot l. every_at (site_inside a bounds s) count slot c.0 l;
        muted_counted = eqb-true (muted_in a s count) muted d.0;
      }

  tile_enough : GoodTileBlock a s p bounds count muted → tile_block a s p bounds count muted ≡ accepted count
  unfolding tile_block site_inside
  tile_enough g =
      let v = every_holds (site_inside a bounds s) count g.inside in
      let m = eq-eqb (muted_in a s count) muted g.muted_counted in
      rw (
        start_enough (tile_kind a) s p g.head,
        eq-eqb (position_in s) p g.head.position,
        eq-eqb (entries_in s) count g.entries,
        g.padding,
        v,
        m,
      )

  tile_at_lem : {n q : ℕ} → tile_block a s p bounds count muted ≡ refused n q → q ≡ p
  unfolding tile_block
  tile_at_lem e = at_then (block_start (tile_kind a) s p) _ e (start_at (tile_kind a) s p)
      (λ _ e. at_require (eqb (position_in s) p) #position p _ e
      (λ e. at_require (eqb (entries_in s) count) #entries p _ e
      (λ e. at_require (tile_padding a s count) #padding p _ e
      (λ e. at_require (every (site_inside a bounds s) count) #stray p _ e
      (λ e. at_require (eqb (muted_in a s count) muted) #muted p (accepted count) e
      (λ e. accepted_refused refl e))))))

-- where the sites of a block end
pub sites_end : (a n : ℕ) → KnownAxes a → n ≤ max_sites a → payload_at + site_size a * n ≤ check_at
sites_end a n k =
    by_axes (λ a. n ≤ max_sites a → payload_at + site_size a * n ≤ check_at)
    (λ l. omega (arith, l)) (λ l. omega (arith, l)) a k

module _ (f : List ℕ) (h : Header) where
  pub open_at : (t : ℕ) {n p : ℕ} → open_tile f h t ≡ refused n p → p ≡ tile_position h t
  unfolding open_tile
  open_at t e = tile_at_lem _ _ _ _ _ _ e

  pub open_good : (t : ℕ) {n : ℕ} → open_tile f h t ≡ accepted n → GoodTile f h t
  unfolding open_tile
  open_good t e = tile_good _ _ _ _ _ _ e

  pub open_enough : (t : ℕ) → GoodTile f h t → open_tile f h t ≡ accepted (count_at f h t)
  unfolding open_tile
  open_enough t g = tile_enough _ _ _ _ _ _ g

pub validate_good : (f : List ℕ) {h : Header} → validate f ≡ accepted h → GoodFile f h
unfolding validate open_all
validate_good f {h} e =
    let k = and_then_accepted (directory f) (open_all f) e in
    let a = k.0 in
    let r = and_then_accepted (in_turn (open_tile f a) 0 a.tiles) (λ _. accepted a) k.2 in
    let q : a ≡ h = accepted_injective r.2 in
    let g : GoodFile f a = record {
      directory = directory_good f k.1;
      opened = λ t l. let x = turns_each (open_tile f a) 0 a.tiles r.1 t l in
          open_good f a t (ap (open_tile f a) (sym (zero-add t)) ∙ x.1);
    } in
    rw q at g

pub validate_enough : (f : List ℕ) (h : Header) → GoodFile f h → validate f ≡ accepted h
unfolding validate open_all
validate_enough f h g =
    let all = turns_all (open_tile f h) 0 h.tiles
    (λ t l. (count_at f h t, ap (open_tile f h) (zero-add t) ∙ open_enough f h t (g.opened t l))) in
    rw (directory_enough f h g.directory, all)

-- What the code keeps of each tile: found for one tile, kept while others are found, kept while a tile is taken.
use Prim.Native.Nat.{ℕ, zero, suc, ◌+◌, ◌-◌, ◌<◌, ◌≤◌}
use mathlib.Core.Bool.{Bool, true, false, ◌&&◌}
use mathlib.Core.List.{List}
use mathlib.Core.Logic.{◌≢◌}
use mathlib.Core.Path.{◌≡◌, refl, sym, ◌∙◌}
use native.Mathlib.Omega.{arith}
use lib.Dec.{eqb, ltb}
use lib.ListN.{get_or, length, set, replicate}
use lib.Seq.{get_or-set_same, get_or-set_other}
use borrow.Author.Tests.{ltb-true, ltb-false, eqb-true, eqb-false, eq-eqb, ne_eqb}
use Rattle.base.proofs.Tests.{clash, by_test, and_both, both_and}
use Rattle.arrange.specs.Inner.Places.{tile_at, Listed}
use Rattle.stream.specs.Inner.State.{free_mark, taken_mark, is_left, LastBlocker, waits_for}
use Rattle.stream.specs.Inner.State.{Stands, Standing, Released}

-- ---- the mark of a tile

-- a tile that waits for something else than the mark is left
pub left_by : (waits : List ℕ) (a : ℕ) → get_or waits a 0 ≢ taken_mark → is_left waits a ≡ true
left_by waits a d = rw (ne_eqb (get_or waits a 0) taken_mark d)

pub taken_by : (waits : List ℕ) (a : ℕ) → get_or waits a 0 ≡ taken_mark → is_left waits a ≡ false
taken_by waits a e = rw (eq-eqb (get_or waits a 0) taken_mark e)

pub left_not : (waits : List ℕ) (a : ℕ) → is_left waits a ≡ true → get_or waits a 0 ≢ taken_mark
left_not waits a l e = clash l (taken_by waits a e)

-- at first all tiles have the mark of a free one
pub all_free : (k a : ℕ) → is_left (replicate k free_mark) a ≡ true
all_free zero a = refl
all_free (suc k) zero = refl
all_free (suc k) (suc a) = all_free k a

-- what a tile that is left waits for may change
pub same_left : (waits : List ℕ) (b w : ℕ) → b < length waits → is_left waits b ≡ true → w ≢ taken_mark
    → (a : ℕ) → is_left (set waits b w) a ≡ is_left waits a
same_left waits b w room l d a = by_test (eqb a b)
    (λ e.
    let q : a ≡ b = eqb-true a b e in
    rw q (left_by (set waits b w) b (λ t. d (sym (get_or-set_same waits b w 0 room) ∙ t)) ∙ sym l))
    (λ e. rw (get_or-set_other waits b a w 0 (eqb-false a b e)))

module _ (closer : ℕ → ℕ → Bool) (n : ℕ) (keys : List ℕ) where
  -- ---- one tile

  -- by the last blocker of tile b, among the places that were not looked at before
  pub settled_stands : {below left : ℕ → Bool} {low to i b : ℕ} → n ≤ free_mark → Listed n keys
      → ((i : ℕ) → i < n → below i ≡ closer (tile_at keys i) b)
      → ((i : ℕ) → i < low → i < n → left (tile_at keys i) ≡ false)
      → to ≤ n → ((i : ℕ) → to ≤ i → i < n → left (tile_at keys i) ≡ true → closer (tile_at keys i) b ≡ false)
      → LastBlocker (λ i. below i && left (tile_at keys i)) low to i
      → Stands closer n keys left n (waits_for keys low i) i b
  settled_stands {below} {left} {low} {to} {i} {b} small listed tells gone few rest last = by_test (ltb low i)
      (λ e.
      let l = ltb-true low i e in
      let at : i - 1 < n = omega (arith, last.within) in
      let w = tile_at keys (i - 1) in
      let both = and_both (below (i - 1)) (left w) (last.found l) in
      let is : waits_for keys low i ≡ w = rw e in
      let tile : w < n = listed.below (i - 1) at in
      rw is (record {
        known = λ u d. absurd (omega arith);
        blocked = λ u d. (both.1, sym (tells (i - 1) at) ∙ both.0);
        free = λ f a u l. absurd (omega arith);
        few = omega (arith, last.within);
        rest = none;
      }))
      (λ e.
      let l = ltb-false low i e in
      let is : waits_for keys low i ≡ free_mark = rw e in
      rw is (record {
        known = λ u d. absurd (d refl);
        blocked = λ u d. absurd (omega arith);
        free = λ f a u g.
            let p = listed.every a u in
            by_test (ltb p.0 low)
            (λ t. clash (rw (sym p.2) at g) (gone p.0 (ltb-true p.0 low t) p.1))
            (λ t.
            rw (sym p.2) (none p.0 (omega (arith, ltb-false p.0 low t)) p.1 (rw (sym p.2) at g)));
        few = omega (arith, last.within);
        rest = none;
      }))
    where
      -- from the last blocker on there is none
      none : (j : ℕ) → i ≤ j → j < n → left (tile_at keys j) ≡ true → closer (tile_at keys j) b ≡ false
      none j m u g = by_test (ltb j to)
          (λ t. by_test (ltb j low)
          (λ v. clash g (gone j (ltb-true j low v) u))
          (λ v.
          let off = last.none j m (ltb-false j low v) (ltb-true j to t) in
          by_test (closer (tile_at keys j) b)
          (λ e. clash (both_and (tells j u ∙ e) g) off)
          (λ e. e)))
          (λ t. rest j (ltb-false j to t) u g)

  -- ---- all tiles

  -- only which tiles are left counts
  stands_same : {left left' : ℕ → Bool} {gone w from b : ℕ} → ((a : ℕ) → left' a ≡ left a)
      → Stands closer n keys left gone w from b → Stands closer n keys left' gone w from b
  stands_same same s = record {
    known = s.known;
    blocked = λ u d. let x = s.blocked u d in (same _ ∙ x.0, x.1);
    free = λ e a u l. s.free e a u (sym (same a) ∙ l);
    few = s.few;
    rest = λ i m u l. s.rest i m u (sym (same (tile_at keys i)) ∙ l);
  }

  -- the numbers of one tile found again
  module _ {b : ℕ} {waits waits' from from' : List ℕ} (found : Released closer n keys b waits waits' from from')
      (room : b < length waits) (room' : b < length from) (here : is_left waits b ≡ true) where
    pub left_same : (a : ℕ) → is_left waits' a ≡ is_left waits a
    left_same = rw found.waits_set (same_left waits b found.w room here found.left)

    pub this_stands : Stands closer n keys (is_left waits') n (get_or waits' b 0) (get_or from' b 0) b
    this_stands =
        let w : get_or waits' b 0 ≡ found.w = rw found.waits_set (get_or-set_same waits b found.w 0 room) in
        let r : get_or from' b 0 ≡ found.r = rw found.from_set (get_or-set_same from b found.r 0 room') in
        rw (w, r) (stands_same left_same found.stands)

    pub waits_kept : (j : ℕ) → j ≢ b → get_or waits' j 0 ≡ get_or waits j 0
    waits_kept j d = rw found.waits_set (get_or-set_other waits b j found.w 0 d)

    pub other_stands : (j gone : ℕ) → j ≢ b
        → Stands closer n keys (is_left waits) gone (get_or waits j 0) (get_or from j 0) j
        → Stands closer n keys (is_left waits') gone (get_or waits' j 0) (get_or from' j 0) j
    other_stands j gone d s =
        let r : get_or from' j 0 ≡ get_or from j 0 = rw found.from_set (get_or-set_other from b j found.r 0 d) in
        rw (waits_kept j d, r) (stands_same left_same s)

    pub standing_next : {gone : ℕ} → Standing closer n keys gone b waits from
        → Standing closer n keys gone (b + 1) waits' from'
    standing_next {gone} s = record {
      settled = λ j u l. by_test (eqb j b)
          (λ e. let q : j ≡ b = eqb-true j b e in rw q this_stands)
          (λ e. let d = eqb-false j b e in other_stands j n d (s.settled j u (omega arith)));
      others = λ j u l. other_stands j gone (omega arith) (s.others j u (omega arith));
    }

  -- tiles that do not wait for the one that is gone
  pub standing_skip : {gone m : ℕ} (k : ℕ) {waits from : List ℕ} → m ≤ k
      → ((b : ℕ) → m ≤ b → b < k → b < n → get_or waits b 0 ≢ gone)
      → Standing closer n keys gone m waits from → Standing closer n keys gone k waits from
  standing_skip {gone} {m} k le none s = record {
    settled = λ j u l. by_test (ltb j m)
        (λ e. s.settled j u (ltb-true j m e))
        (λ e.
        let v = ltb-false j m e in
        let x = s.others j u v in
        record {
          known = x.known;
          blocked = λ a d. x.blocked a (none j v l u);
          free = x.free;
          few = x.few;
          rest = x.rest;
        });
    others = λ j u l. s.others j u (omega arith);
  }

  -- all are settled
  pub standing_all : {gone : ℕ} {waits from : List ℕ} → Standing closer n keys gone n waits from
      → Standing closer n keys n 0 waits from
  standing_all s = record { settled = λ j u l. s.settled j u u; others = λ j u l. s.settled j u u }

  -- a tile is taken: those that wait for it have still to find another
  pub taken_standing : {waits from : List ℕ} (t : ℕ) → n ≤ free_mark → t < length waits
      → Standing closer n keys n 0 waits from → Standing closer n keys t 0 (set waits t taken_mark) from
  taken_standing {waits} {from} t small room s = record {
    settled = λ j u l. absurd (omega arith);
    others = λ j u l. by_test (eqb j t)
        (λ e.
        let q : j ≡ t = eqb-true j t e in
        let x = s.others j u l in
        let w : get_or (set waits t taken_mark) j 0 ≡ taken_mark = rw q (get_or-set_same waits t taken_mark 0 room) in
        rw w (record {
          known = λ a d. refl;
          blocked = λ a d. absurd (omega arith);
          free = λ e a u l. absurd (omega arith);
          few = x.few;
          rest = λ i m v g. x.rest i m v (still-left (tile_at keys i) g);
        }))
        (λ e.
        let x = s.others j u l in
        rw (get_or-set_other waits t j taken_mark 0 (eqb-false j t e)) (record {
          known = x.known;
          blocked = λ a d.
              let y = x.blocked a (omega arith) in
              (rw (get_or-set_other waits t (get_or waits j 0) taken_mark 0 d) y.0, y.1);
          free = λ e a v g. x.free e a v (still-left a g);
          few = x.few;
          rest = λ i m v g. x.rest i m v (still-left (tile_at keys i) g);
        }));
  }
    where
      -- who is left now was left before
      still-left : (a : ℕ) → is_left (set waits t taken_mark) a ≡ true → is_left waits a ≡ true
      still-left a g = by_test (eqb a t)
          (λ e.
          let q : a ≡ t = eqb-true a t e in
          clash g (taken_by (set waits t taken_mark) a (rw q (get_or-set_same waits t taken_mark 0 room))))
          (λ e. rw (get_or-set_other waits t a taken_mark 0 (eqb-false a t e)) at g)

-- Pairs of numbers in order: what the test `lex` says, and that it is an order.
use Prim.Native.Nat.{ℕ, ◌+◌, ◌*◌, ◌/◌, ◌≤◌, ◌<◌}
use mathlib.Core.Bool.{true, false}
use mathlib.Core.Logic.{◌⊎◌, inl, inr, ◌≢◌, ◌↔◌}
use mathlib.Core.Path.{◌≡◌, refl}
use native.Mathlib.Omega.{arith}
use lib.Dec.{ltb, eqb}
use borrow.Author.Tests.{ltb-true, ltb-false, eqb-true, eqb-false, lt-ltb, le-ltb, eq-eqb}
use Rattle.base.proofs.Tests.{clash, by_test}
use Rattle.search.specs.Order.{lex}
use Rattle.search.specs.Plan.{slots}

-- what it says where it holds, and where it does not
abbrev pub Ahead : ℕ → ℕ → ℕ → ℕ → Type 0
Ahead a b c d = (a < c) ⊎ ((a ≡ c) × (b < d))

abbrev pub Behind : ℕ → ℕ → ℕ → ℕ → Type 0
Behind a b c d = (c < a) ⊎ ((a ≡ c) × (d ≤ b))

pub lex_less : {a c : ℕ} (b d : ℕ) → a < c → lex a b c d ≡ true
unfolding lex
lex_less {a} {c} b d h = rw (lt-ltb a c h)

pub lex-same : {a c b d : ℕ} → a ≡ c → b < d → lex a b c d ≡ true
unfolding lex
lex-same {a} {c} {b} {d} e h = rw (le-ltb a c (omega arith), eq-eqb a c e, lt-ltb b d h)

pub lex-ahead : (a b c d : ℕ) → lex a b c d ≡ true → Ahead a b c d
unfolding lex
lex-ahead a b c d e = by_test (ltb a c)
    (λ f. inl (ltb-true a c f))
    (λ f. by_test (eqb a c) (λ g. inr (eqb-true a c g, ltb-true b d (rw (f, g) at e)))
    (λ g. clash (rw (f, g) at e) refl))

lex-behind : (a b c d : ℕ) → lex a b c d ≡ false → Behind a b c d
lex-behind a b c d e = by_test (ltb a c)
    (λ f. clash (lex_less b d (ltb-true a c f)) e)
    (λ f. by_test (eqb a c)
    (λ g. inr (
      eqb-true a c g,
      by_test (ltb b d) (λ u. clash (lex-same (eqb-true a c g) (ltb-true b d u)) e)
          (λ u. ltb-false b d u),
    ))
    (λ g. inl (let u = ltb-false a c f in let v : a ≢ c = eqb-false a c g in omega arith)))

lex_no : (a b c d : ℕ) → (Ahead a b c d → ⊥) → lex a b c d ≡ false
lex_no a b c d h = by_test (lex a b c d) (λ e. absurd (h (lex-ahead a b c d e))) (λ e. e)

-- one that is ahead is not behind, and being not ahead passes on
pub lex_asym : (a b c d : ℕ) → lex a b c d ≡ true → lex c d a b ≡ false
lex_asym a b c d e = lex_no c d a b (go (lex-ahead a b c d e))
  where
    go : Ahead a b c d → Ahead c d a b → ⊥
    go (inl h) (inl g) = omega arith
    go (inl h) (inr g) = omega arith
    go (inr h) (inl g) = omega arith
    go (inr h) (inr g) = omega arith

pub lex_negtrans : (a b c d e f : ℕ) → lex a b c d ≡ false → lex c d e f ≡ false → lex a b e f ≡ false
lex_negtrans a b c d e f p q = lex_no a b e f (go (lex-behind a b c d p) (lex-behind c d e f q))
  where
    go : Behind a b c d → Behind c d e f → Ahead a b e f → ⊥
    go (inl h) (inl g) (inl u) = omega arith
    go (inl h) (inl g) (inr u) = omega arith
    go (inl h) (inr g) (inl u) = omega arith
    go (inl h) (inr g) (inr u) = omega arith
    go (inr h) (inl g) (inl u) = omega arith
    go (inr h) (inl g) (inr u) = omega arith
    go (inr h) (inr g) (inl u) = omega arith
    go (inr h) (inr g) (inr u) = omega arith

-- ahead of something that another is not ahead of: ahead of that other
pub lex_trans : (a b c d e f : ℕ) → lex a b c d ≡ true → lex e f c d ≡ false → lex a b e f ≡ true
lex_trans a b c d e f p q = by_test (lex a b e f) (λ u. u) (λ u. clash p (lex_negtrans a b e f c d u q))

pub lex-tight : (a b c d : ℕ) → lex a b c d ≡ false → lex c d a b ≡ false → (a ≡ c) × (b ≡ d)
lex-tight a b c d p q = go (lex-behind a b c d p) (lex-behind c d a b q)
  where
    go : Behind a b c d → Behind c d a b → (a ≡ c) × (b ≡ d)
    go (inl h) (inl g) = omega arith
    go (inl h) (inr g) = omega arith
    go (inr h) (inl g) = omega arith
    go (inr h) (inr g) = omega arith

pub lex_not_less : {a b c d : ℕ} → c ≤ a → d ≤ b → lex a b c d ≡ false
lex_not_less {a} {b} {c} {d} h g = lex_no a b c d go
  where
    go : Ahead a b c d → ⊥
    go (inl u) = omega arith
    go (inr u) = omega arith

-- ---- a second part in units of a tile

-- ahead by the tile: ahead by the site
pub lex_fine : (a b c d : ℕ) → lex a (b / slots) c (d / slots) ≡ true → lex a b c d ≡ true
lex_fine a b c d e = go (lex-ahead a (b / slots) c (d / slots) e)
  where
    go : Ahead a (b / slots) c (d / slots) → lex a b c d ≡ true
    go (inl h) = lex_less b d h
    go (inr h) = lex-same h.0 (omega arith)

-- ahead by the site of something that is ahead by the tile: ahead by the tile
pub lex_coarse : (a b c d e f : ℕ) → lex a b c d ≡ true → lex c (d / slots) e f ≡ true → lex a (b / slots) e f ≡ true
lex_coarse a b c d e f p q = go (lex-ahead a b c d p) (lex-ahead c (d / slots) e f q)
  where
    go : Ahead a b c d → Ahead c (d / slots) e f → lex a (b / slots) e f ≡ true
    go (inl h) (inl g) = lex_less (b / slots) f (omega arith)
    go (inl h) (inr g) = lex_less (b / slots) f (omega arith)
    go (inr h) (inl g) = lex_less (b / slots) f (omega arith)
    go (inr h) (inr g) = lex-same (omega arith) (omega arith)

-- the number of tile and slot, in the order of the tile and then the slot
pub lex_tile_slot : (a t s c u v : ℕ) → s < slots → v < slots → (lex a (t * slots + s) c (u * slots + v) ≡ true)
    ↔ ((a < c) ⊎ ((a ≡ c) × Ahead t s u v))
lex_tile_slot a t s c u v hs hv = (λ e. there (lex-ahead a (t * slots + s) c (u * slots + v) e), back)
  where
    finer : t * slots + s < u * slots + v → Ahead t s u v
    finer h = by_test (ltb t u)
        (λ e. inl (ltb-true t u e))
        (λ e. let i = ltb-false t u e in let j : t ≡ u = omega arith in inr (j, omega arith))

    there : Ahead a (t * slots + s) c (u * slots + v) → (a < c) ⊎ ((a ≡ c) × Ahead t s u v)
    there (inl h) = inl h
    there (inr h) = inr (h.0, finer h.1)

    back : (a < c) ⊎ ((a ≡ c) × Ahead t s u v) → lex a (t * slots + s) c (u * slots + v) ≡ true
    back (inl h) = lex_less (t * slots + s) (u * slots + v) h
    back (inr (e, inl h)) = lex-same e (omega arith)
    back (inr (e, inr h)) = lex-same e (omega arith)

-- On the line of whole numbers from 0: the square of a distance, and how the difference of two squares goes along the
-- line. With the end points fixed, that difference is linear in the point, so its largest value is at an end. Assumes
-- nothing.
use Prim.Native.Nat.{ℕ, ◌+◌, ◌*◌, ◌≤◌}
use mathlib.Core.Path.{◌≡◌}
use native.Mathlib.Decide.{dec_le}
use native.Mathlib.Nat.{le_dest}
use native.Mathlib.Omega.{arith}
use Rattle.geometry.proofs.Shift.{dist}

-- either way round
pub order {ℓ} : {X : Type ℓ} (a b : ℕ) → (a ≤ b → X) → (b ≤ a → X) → X
order {X} a b f g = go (dec_le a b)
  where
    go : Dec (a ≤ b) → X
    go (yes h) = f h
    go (no n) = g (omega arith)

square_of : (a b k : ℕ) → a + k ≡ b → dist a b * dist a b + 2 * (a * b) ≡ a * a + b * b
square_of a b k e =
    let d : dist a b ≡ k = omega arith in
    rw (d, ← e) (omega arith)

square_le : (a b : ℕ) → a ≤ b → dist a b * dist a b + 2 * (a * b) ≡ a * a + b * b
square_le a b h = square_of a b (le_dest h).0 (le_dest h).1

dist_comm : (a b : ℕ) → dist a b ≡ dist b a
dist_comm a b = omega arith

-- the square of a distance, multiplied out
square_out : (a b : ℕ) → dist a b * dist a b + 2 * (a * b) ≡ a * a + b * b
square_out a b = order a b (square_le a b) (λ h. rw (dist_comm a b) (omega (arith, square_le b a h)))

-- two rising pairs: their products are largest when they go together
rearrange : {o h e b : ℕ} → o ≤ h → e ≤ b → h * e + o * b ≤ o * e + h * b
rearrange {o} {h} {e} {b} p q =
    let x : o + (le_dest p).0 ≡ h = (le_dest p).1 in
    let y : e + (le_dest q).0 ≡ b = (le_dest q).1 in
    rw (← x, ← y) (omega arith)

-- with e at most b, the square to e less the square to b rises along the line
pub rises : (o h e b : ℕ) → o ≤ h → e ≤ b →
    dist o e * dist o e + dist h b * dist h b ≤ dist h e * dist h e + dist o b * dist o b
rises o h e b p q =
    sums (dist o e * dist o e) (dist h b * dist h b) (dist h e * dist h e) (dist o b * dist o b)
    (o * e) (h * b) (h * e) (o * b) (o * o) (h * h) (e * e) (b * b)
    (square_out o e) (square_out h b) (square_out h e) (square_out o b) (rearrange p q)
  where
    sums : (oe hb he ob poe phb phe pob oo hh ee bb : ℕ) → oe + 2 * poe ≡ oo + ee → hb + 2 * phb ≡ hh + bb →
        he + 2 * phe ≡ hh + ee → ob + 2 * pob ≡ oo + bb → phe + pob ≤ poe + phb → oe + hb ≤ he + ob
    sums oe hb he ob poe phb phe pob oo hh ee bb h1 h2 h3 h4 h5 = omega arith

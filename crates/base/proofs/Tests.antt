-- Laws of tests. Assumes nothing.
--
--   true_T               a true test, as the library has it
--   clash                no test is both true and false
--   and_both, both_and   a true conjunction and its parts
--   by_test, cond_ind    proof by the value of a test, for any claim and for one of a choice
--   iff_eq               two tests that show each other
--   cond_ap              a function of a choice
--   passed, failed       what a branch of the code shows: an answer behind `if !r`
--   equal, unequal       the same: two numbers compared
use Prim.Native.Nat.{ℕ}
use mathlib.Core.Bool.{Bool, true, false, cond, ◌&&◌}
use mathlib.Core.Path.{◌≡◌, refl, sym, ◌∙◌}
use native.Mathlib.Omega.{arith}
use lib.Dec.{T, eqb}
use borrow.Author.Tests.{eq-eqb, ne_eqb}

pub true_T : {a : Bool} → a ≡ true → T a
true_T e = rw e tt

-- no test is both true and false
pub clash {ℓ} : {X : Type ℓ} {a : Bool} → a ≡ true → a ≡ false → X
clash p q = absurd (let z : ◌≡◌ {A = ℕ} 0 1 = cc in omega arith)

pub and_both : (a b : Bool) → a && b ≡ true → (a ≡ true) × (b ≡ true)
and_both true b e = (refl, e)
and_both false b e = clash e refl

pub both_and : {a b : Bool} → a ≡ true → b ≡ true → a && b ≡ true
both_and p q = rw (p, q)

-- by the value of a test
pub by_test {ℓ} : {X : Type ℓ} (a : Bool) → (a ≡ true → X) → (a ≡ false → X) → X
by_test true f g = f refl
by_test false f g = g refl

-- two tests that show each other
pub iff_eq : (a b : Bool) → (a ≡ true → b ≡ true) → (b ≡ true → a ≡ true) → a ≡ b
iff_eq true b f g = rw (f refl)
iff_eq false true f g = g refl
iff_eq false false f g = refl

-- by the value of the test of a choice
pub cond_ind {ℓ} : {A : Type 0} (c : Bool) (x y : A) (P : A → Type ℓ) → (c ≡ true → P x) → (c ≡ false → P y)
    → P (cond c x y)
cond_ind true x y P f g = f refl
cond_ind false x y P f g = g refl

-- a function of a choice
pub cond_ap : {A B : Type 0} (f : A → B) (c : Bool) (x y : A) → f (cond c x y) ≡ cond c (f x) (f y)
cond_ap f true x y = refl
cond_ap f false x y = refl

-- a call's answer r, which is the test t, behind an `if !r`
module _ {r t : Bool} (e : r ≡ t) where
  pub passed : r ≡ true → t ≡ true
  passed h = sym e ∙ h

  pub failed : r ≡ false → t ≡ false
  failed h = sym e ∙ h

-- a number r that was read, which is x, compared with one that is due
module _ {r x : ℕ} (e : r ≡ x) {p y : ℕ} (q : p ≡ y) where
  pub equal : r ≡ p → eqb x y ≡ true
  equal h = eq-eqb x y (sym e ∙ h ∙ q)

  pub unequal : (r ≡ p → ⊥) → eqb x y ≡ false
  unequal h = ne_eqb x y (λ z. h (e ∙ z ∙ sym q))

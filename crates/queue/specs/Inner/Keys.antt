-- The tiles that wait for a stop, and their keys.
--
--   waits              by its mark not pruned, and with sites that rank
--   spare, Gathers     what gathering leaves in a slice
--   none               the key of a taken tile
--   lower, least_key   the least of some keys
--   some_key           that, unless no key is left
--   Passed             what is known once a key was taken
use Rattle.std.specs.Prelude.{ℕ, zero, suc, ◌<◌, ◌≤◌, Bool, cond, not, ◌&&◌, List, [], ◌∷◌, ◌++◌, ◌≡◌, Option, Some, None, eqb, leb, ltb, length, get_or}
use Rattle.base.specs.Over.{over}
use Rattle.search.specs.Lists.{range, filter}
use Rattle.search.specs.Plan.{Geometry, Directory, ranked}
use Rattle.search.specs.Run.{pruned_mark}
use Rattle.queue.specs.declared.keys.Least.{Least}

-- "the tiles that are not struck and not empty", by the marks and by the sites that rank
unfoldable pub waits : {G : Geometry} → Directory G → List ℕ → ℕ → Bool
waits E marks t = not (eqb (get_or marks t 0) pruned_mark) && ltb 0 (ranked E t)

-- the last element, if it fails a test
unfoldable pub spare : (ℕ → Bool) → List ℕ → List ℕ
spare w [] = []
spare w (t ∷ []) = cond (w t) [] (t ∷ [])
spare w (t ∷ u ∷ l) = spare w (u ∷ l)

-- the tiles below n that pass a test, written in their order, and their number; a last one that fails is left behind
pub record Gathers (w : ℕ → Bool) (n : ℕ) (order : List ℕ) (r : ℕ) (order' : List ℕ) : Type 0 where
  pub number : r ≡ length (filter w (range 0 n))
  pub written : order' ≡ over order 0 (filter w (range 0 n) ++ spare w (range 0 n))

-- above every distance
abbrev pub none : ℕ
none = 18446744073709551615

-- the one with the lower key, of equal ones the first
abbrev pub lower : Least → Least → Least
lower x y = cond (leb x.key y.key) x y

-- the least of n keys from index a on, and the first place where it stands; of no key, none
unfoldable pub least_key : List ℕ → ℕ → ℕ → Least
least_key keys a zero = record { at = a; key = none }
least_key keys a (suc n) = lower (record { at = a; key = get_or keys a 0 }) (least_key keys (suc a) n)

-- as an answer: nothing where no key is left
unfoldable pub some_key : Least → Option Least
some_key r = cond (ltb r.key none) (Some r) None

-- once a tile with the key `bound` was taken just before index `from`: no key is below it, and those before are above
pub record Passed (keys : List ℕ) (m from bound : ℕ) : Type 0 where
  pub inside : from ≤ m
  pub real : bound < none
  pub bounded : (j : ℕ) → j < m → bound ≤ get_or keys j 0
  pub behind : (j : ℕ) → j < from → bound < get_or keys j 0

-- What the theorem claims of a call that strikes and answers: about the file, the answer, and the marks at the end.
use Rattle.std.specs.Prelude.{ℕ, ◌<◌, ◌≤◌, true, false, List, ◌↔◌, ◌≡◌, eqb, ℤ, get_or, take}
use Rattle.base.specs.Refusal.{accepted}
use Rattle.blocks.specs.Directory.{directory}
use Rattle.blocks.specs.declared.header.Header.{Header}
use Rattle.plan.specs.FilePlan.{entries}
use Rattle.search.specs.Lists.{count}
use Rattle.search.specs.Pruning.{pruned}
use Rattle.search.specs.Run.{pruned_mark, no_mark}
use Rattle.prune.specs.Prune.{prune_call, marks_after}
use Rattle.prune.specs.declared.call.Pruned.{Pruned}

module _ (f : List ℕ) (o : List (List ℤ)) (k : ℕ) (lent : List ℕ) where
  -- the marks at the end
  abbrev pub marks_left : List ℕ
  marks_left = marks_after f o k lent (prune_call f o k lent)

  -- "Given a file, a box O and k", with the header h of the file's directory and the counts c of the answer
  pub record PrunesExactly (h : Header) (c : Pruned) : Type 0 where
    pub header : directory f ≡ accepted h
    -- "Marks: 1 struck, 0 not."
    pub marked : (t : ℕ) → t < h.tiles → (get_or marks_left t 0 ≡ pruned_mark) ↔ (pruned (entries f h) o k t ≡ true)
    pub unmarked : (t : ℕ) → t < h.tiles → (get_or marks_left t 0 ≡ no_mark) ↔ (pruned (entries f h) o k t ≡ false)
    -- "The result carries T and the number struck": as many as there are marks of that sort
    pub tiles : c.tiles ≡ h.tiles
    pub count_pruned : c.pruned ≡ count (λ m. eqb m pruned_mark) (take h.tiles marks_left)
    -- "Elements past these never change."
    pub past : (t : ℕ) → h.tiles ≤ t → get_or marks_left t 0 ≡ get_or lent t 0

-- Cases of an arc's place, made by hand and computed by the definition: who counts the arcs of other nodes wrong, or the arc
-- itself, computes something else. Assumes nothing.
use Rattle.std.specs.Prelude.{◌≡◌, refl, [], ◌∷◌, set}
use Rattle.listing.specs.Listing.{listed_at, count_before}
use Rattle.relist.specs.Relist.{arc_place}

-- the tails of district D5, which are listed 0, 3, 1, 2, 4: every arc; arc 1 moved to node 0, to node 4, and to its own
pub places_computed :
    arc_place (0 ∷ 1 ∷ 2 ∷ 0 ∷ 4 ∷ []) 0 ∷ arc_place (0 ∷ 1 ∷ 2 ∷ 0 ∷ 4 ∷ []) 1 ∷ arc_place (0 ∷ 1 ∷ 2 ∷ 0 ∷ 4 ∷ []) 2
    ∷ arc_place (0 ∷ 1 ∷ 2 ∷ 0 ∷ 4 ∷ []) 3 ∷ arc_place (0 ∷ 1 ∷ 2 ∷ 0 ∷ 4 ∷ []) 4
    ∷ arc_place (set (0 ∷ 1 ∷ 2 ∷ 0 ∷ 4 ∷ []) 1 0) 1 ∷ arc_place (set (0 ∷ 1 ∷ 2 ∷ 0 ∷ 4 ∷ []) 1 4) 1 ∷ arc_place (set (0 ∷ 1 ∷ 2 ∷ 0 ∷ 4 ∷ []) 1 1) 1
    ∷ []
    ≡ 0 ∷ 2 ∷ 3 ∷ 1 ∷ 4 ∷ 1 ∷ 3 ∷ 2 ∷ []
unfolding count_before listed_at
places_computed = refl

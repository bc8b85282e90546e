-- The demands (docs/RULES.md, "The three demands" and "Capped queries"), of every query that the refusal table accepts: what an
-- accepted query gives is all that the theorems ask. Assumes nothing.
use Rattle.std.specs.Prelude.{◌≡◌, ◌≢◌, List, ℕ, ◌≤◌, Ok}
use Rattle.network.specs.declared.Lent.{Lent}
use Rattle.network.specs.Query.{Query}
use Rattle.network.specs.Refusal.{query_verdict}
use Rattle.network.specs.SoundLaws.{accepted_sound}
use Rattle.nba.specs.Search.{after_turns, state_at, end_state}
use Rattle.nba.specs.Result.{figures_in, found, found_at}
use Rattle.nba.specs.Demands.{Demand2Found, Demand3Turns, Demand3Opened, Demand3Bound, with_pattern, SameLengthAndVerdict, BelowTheMark, Honest, NeverTakenBack, Demand3TurnsAt}
use Rattle.nba.proofs.Why.Theorems.{demand_2, demand_3_turns_at, demand_3_turns, demand_3_opened, demand_3_opened_at, demand_3_bound, demand_3_same, below_the_mark, below_the_mark_at}
use Rattle.nba.proofs.Why.Capped.{honest, never_taken_back, capped_at_nodes}

module _ (q : Query) (l : Lent) (accepted : query_verdict q l ≡ Ok tt) where
  pub accepted_demand_2 : Demand2Found q
  accepted_demand_2 = demand_2 (accepted_sound q l accepted)

  pub accepted_demand_3_turns : q.start ≢ q.end → Demand3Turns q (figures_in (end_state q).states).turns
  accepted_demand_3_turns = demand_3_turns (accepted_sound q l accepted)

  -- before every turn, and at every cap, so at the end
  pub accepted_demand_3_opened : q.start ≢ q.end → (i : ℕ) → Demand3Opened q (after_turns q i)
  accepted_demand_3_opened = demand_3_opened (accepted_sound q l accepted)

  pub accepted_demand_3_opened_at : (cap : ℕ) → Demand3Opened q (state_at q cap)
  accepted_demand_3_opened_at = demand_3_opened_at (accepted_sound q l accepted)

  pub accepted_demand_3_bound : Demand3Bound q
  accepted_demand_3_bound = demand_3_bound (accepted_sound q l accepted)

  -- labels stay below the missing mark, before every turn and at every cap
  pub accepted_below_the_mark : q.start ≢ q.end → (i : ℕ) → BelowTheMark q (after_turns q i)
  accepted_below_the_mark = below_the_mark (accepted_sound q l accepted)

  pub accepted_below_the_mark_at : (cap : ℕ) → BelowTheMark q (state_at q cap)
  accepted_below_the_mark_at = below_the_mark_at (accepted_sound q l accepted)

  -- ---- at every cap
  pub accepted_honest : (cap : ℕ) → Honest q cap
  accepted_honest = honest (accepted_sound q l accepted)

  pub accepted_never_taken_back : (c d : ℕ) → c ≤ d → NeverTakenBack q c d
  accepted_never_taken_back = never_taken_back (accepted_sound q l accepted)

  pub accepted_demand_3_turns_at : q.start ≢ q.end → (cap : ℕ) → Demand3TurnsAt q cap (figures_in (state_at q cap).states).turns
  accepted_demand_3_turns_at = demand_3_turns_at (accepted_sound q l accepted)

  -- the uncapped answer is the one at a cap of as many turns as there are nodes
  pub accepted_capped_at_nodes : found_at q q.network.nodes ≡ found q
  accepted_capped_at_nodes = capped_at_nodes (accepted_sound q l accepted)

-- length and verdict are the same for any two patterns with which the query is accepted
pub accepted_demand_3_same : (q : Query) (p : List ℕ) (l l' : Lent) → query_verdict q l ≡ Ok tt → query_verdict (with_pattern p q) l' ≡ Ok tt
    → SameLengthAndVerdict (found q) (found (with_pattern p q))
accepted_demand_3_same q p l l' a b = demand_3_same p (accepted_sound q l a) (accepted_sound (with_pattern p q) l' b)

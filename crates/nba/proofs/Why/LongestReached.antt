-- The largest shortest length, 2,047,000,000, is reached: the search answers the query along the chain (specs/Why/Longest) by a
-- route of the chain's length. No turn is computed. Assumes nothing.
use Rattle.std.specs.Prelude.{◌≡◌, length}
use Rattle.std.proofs.Common.{ap, ◌∙◌, ℕ, ◌*◌, ◌-◌, ◌<◌, arith}
use Rattle.network.specs.declared.Answer.TheVariants.{Route}
use Rattle.network.specs.Network.{most_nodes, most_weight}
use Rattle.network.specs.Refusal.{room_for}
use Rattle.network.specs.CaseSplit.{by_lt}
use Rattle.nba.specs.State.{missing}
use Rattle.nba.specs.Search.{end_state}
use Rattle.nba.specs.Result.{path_of, figures_in, found, answer_to}
use Rattle.nba.specs.Demands.{most_length}
use Rattle.nba.specs.Why.PathLaws.{joined_walk}
use Rattle.nba.specs.Why.Longest.{along, along_accepted, walk_of_chain, along_sound, along_no_shorter, RouteOfLength}
use Rattle.nba.proofs.Why.EndLaws.{route_answered, no_route_answered}
use Rattle.nba.proofs.Why.Theorems.{demand_2}

-- the length answered along a chain is the number of its arcs times the top weight
pub along_answered : (n : ℕ) → n < most_nodes → RouteOfLength (answer_to (along n) (room_for most_nodes)) (n * most_weight)
unfolding answer_to found
along_answered n few =
    let q = along n in
    let sound = along_sound n few in
    let d = demand_2 sound in
    by_lt (end_state q).best missing
    (λ h. let e = route_answered q (end_state q) h in
    let above = along_no_shorter n few (end_state q).best (joined_walk (d.real e)) in
    let below = d.shortest e (n * most_weight) (walk_of_chain n few) in
    let same : (end_state q).best ≡ n * most_weight = omega arith in
    record {
      nodes = length (path_of q (end_state q));
      figures = figures_in (end_state q).states;
      answered = rw (along_accepted n few) (e ∙ ap (λ l. Route l (length (path_of q (end_state q))) (figures_in (end_state q).states)) same);
    })
    (λ h. absurd (d.no_walk (no_route_answered q (end_state q) h) (n * most_weight) (walk_of_chain n few)))

-- the largest shortest length is 2,047,000,000, and the longest chain reaches it
pub largest_reached : RouteOfLength (answer_to (along (most_nodes - 1)) (room_for most_nodes)) most_length
largest_reached = along_answered (most_nodes - 1) (omega arith)

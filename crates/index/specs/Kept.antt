-- What a build and an edit of an index keep to (docs/RULES.md, "The index"): what they leave in every list, refusals among them,
-- when they refuse, and which entries a move leaves alone. Assumes nothing.
use Rattle.std.specs.Prelude.{◌≡◌, ℕ, ◌<◌, ◌≤◌, get_or, Ok, Err}
use Rattle.network.specs.Verdict.{Verdict}
use Rattle.network.specs.Given.{Given, Refuses}
use Rattle.network.specs.Network.{Side, Network, near}
use Rattle.index.specs.Index.{Index, way_of, built_on, place_in}
use Rattle.index.specs.declared.Change.{Change}
use Rattle.index.specs.Table.{build_verdict, BuildCondition, held_verdict, changed, edit_verdict, EditCondition}

-- a verdict, and the arcs and the index as they are then
pub record IndexLeft : Type 0 where
  pub verdict : Verdict
  pub network : Network
  pub index : Index

abbrev pub index_left : Verdict → Network → Index → IndexLeft
index_left r g ix = record { verdict = r; network = g; index = ix }

-- a refusal leaves arcs and index as they are; otherwise they are the new ones
abbrev pub verdict_keeps : Verdict → Network → Index → Network → Index → IndexLeft
verdict_keeps (Err c) g ix new newIndex = index_left (Err c) g ix
verdict_keeps (Ok _) g ix new newIndex = index_left (Ok tt) new newIndex

-- a build leaves the index of its arcs
unfoldable pub builds : Network → Index → IndexLeft
builds g ix = verdict_keeps (build_verdict g ix) g ix g (built_on g ix)

-- an edit leaves the arcs with that one changed, and an index that equals one built afresh on them
unfoldable pub edits : Network → Index → Change → IndexLeft
edits g ix c = verdict_keeps (edit_verdict g ix c) g ix (changed g c) (built_on (changed g c) ix)

-- a verdict is a refusal exactly when the table of these conditions gives one, with its number and place
pub record RefusedAsGiven (Condition : ℕ → ℕ → ℕ → Type 0) (r : Verdict) : Type 0 where
  pub refused_as_given : (number place : ℕ) → Refuses r number place → Given Condition number place
  pub given_is_refused : (number place : ℕ) → Given Condition number place → Refuses r number place

-- What a build keeps to.
pub record BuildKept (g : Network) (before after : Index) (r : Verdict) : Type 0 where
  -- every entry of the index at exit, on all inputs
  pub leaves : index_left r g after ≡ builds g before
  pub refusals : RefusedAsGiven (BuildCondition g before) r
  -- a refusal changes nothing
  pub untouched : (number place : ℕ) → Refuses r number place → after ≡ before
  -- what is built passes 1, 2, 6, 7 and 20, so that edits can follow without a test
  pub held : r ≡ Ok tt → held_verdict g after ≡ Ok tt

-- What an edit keeps to: the arcs and the index before and after it.
pub record EditKept (c : Change) (g : Network) (ix : Index) (g' : Network) (ix' : Index) (r : Verdict) : Type 0 where
  -- every entry of arcs and index at exit, on all inputs
  pub leaves : index_left r g' ix' ≡ edits g ix c
  pub refusals : RefusedAsGiven (EditCondition g ix c) r
  -- a refusal changes nothing, in the arcs and in the index
  pub untouched : (number place : ℕ) → Refuses r number place → index_left r g' ix' ≡ index_left r g ix
  -- what passed 1, 2, 6, 7 and 20 before it passes them afterwards, so that edit can follow edit without a test
  pub held : held_verdict g ix ≡ Ok tt → held_verdict g' ix' ≡ Ok tt
  -- an arc that stays at its node has no entry of that way changed: so a change of weight alone changes no entry of the index
  pub stays : r ≡ Ok tt → (s : Side) → near s g' c.number ≡ near s g c.number → way_of s ix' ≡ way_of s ix
  -- a move changes no entry before the arc's old place and its new one, and none behind both
  pub before_both : r ≡ Ok tt → (s : Side) (i : ℕ) → i < place_in s g c.number → i < place_in s g' c.number
      → get_or (way_of s ix').arcs i 0 ≡ get_or (way_of s ix).arcs i 0
  pub behind_both : r ≡ Ok tt → (s : Side) (i : ℕ) → place_in s g c.number < i → place_in s g' c.number < i
      → get_or (way_of s ix').arcs i 0 ≡ get_or (way_of s ix).arcs i 0
  -- nor where the arcs begin of a node up to its old node and its new one, or behind both
  pub begins_up_to : r ≡ Ok tt → (s : Side) (u : ℕ) → u ≤ near s g c.number → u ≤ near s g' c.number
      → get_or (way_of s ix').begins u 0 ≡ get_or (way_of s ix).begins u 0
  pub begins_behind : r ≡ Ok tt → (s : Side) (u : ℕ) → near s g c.number < u → near s g' c.number < u
      → get_or (way_of s ix').begins u 0 ≡ get_or (way_of s ix).begins u 0

-- What a step can do, in a few cases: a law that holds of a refusal, of a line that is taken and of a query that is answered
-- holds of every step. Assumes nothing.
use Rattle.std.specs.Prelude.{◌≡◌, true, false, ◌&&◌, ◌||◌, List, [], ℕ, ◌-◌, eqb, Option, None, Some}
use Rattle.std.proofs.Math.Path.{refl}
use Rattle.std.proofs.Math.Dec.{ltb, leb}
use Rattle.std.proofs.Math.ListN.{length}
use Rattle.network.specs.Cap.{Cap}
use Rattle.network.specs.declared.Cause.{Cause}
use Rattle.network.specs.declared.Cause.TheVariants.{MisplacedLine}
use Rattle.network.specs.CaseSplit.{cases}
use Rattle.network.specs.Network.{most_nodes, most_arcs}
use Rattle.network.specs.Query.{Query}
use Rattle.frames.specs.declared.Frame.{Frame}
use Rattle.frames.specs.declared.Frame.TheVariants.{Size, Arc, TwoWay, Potentials, Query as QueryFrame}
use Rattle.frames.specs.Frame.{most_digits, frame_of}
use Rattle.frames.specs.AnswerLines.{line_feed}
use Rattle.district.specs.File.{Told, File, FileStep, step, last_line, refused, taken, added_arcs, take_size, take_arcs, take_potentials, query_lines, take_query, size_owed, arcs_owed, potentials_owed, take_frame, take_line, broken_line, holding, take_byte, owing, end_of_input}

module _ (f : File) (P : FileStep → Type 0) (on_refusal : (c : Cause) → P (refused f c)) where
  -- a line that is broken is refused
  pub by_broken : P (broken_line f)
  unfolding broken_line
  by_broken = cases P (eqb f.line last_line) (λ _. on_refusal _) (λ _. on_refusal _)

  -- a line that is read is refused, or adds to what is told, or is a query, and then none too many
  module _ (on_told : (t : Told) → t.asked ≡ f.told.asked → P (taken f t []))
      (on_query : (t : Told) (c : Cap) (q : Query) → t.asked ≡ true → (f.single && f.told.asked) ≡ false → P (taken f t (query_lines c q))) where
    by_size : (g : Option Frame) → P (take_size f g)
    unfolding take_size
    by_size (Some (Size n m)) =
        cases P (eqb n 0 || ltb most_nodes n) (λ _. on_refusal _) (λ _. cases P (ltb most_arcs m) (λ _. on_refusal _) (λ _. on_told _ refl))
    by_size (Some (Arc t h w)) = on_refusal _
    by_size (Some (TwoWay t h w)) = on_refusal _
    by_size (Some (Potentials v h k)) = on_refusal _
    by_size (Some (QueryFrame s e c n)) = on_refusal _
    by_size None = on_refusal _

    by_arcs : (g : Option Frame) → P (take_arcs f g)
    unfolding take_arcs
    by_arcs g =
        cases P (ltb 0 (length (added_arcs g)) && leb (length (added_arcs g)) (f.told.arcs - length f.told.tails))
        (λ _. on_told _ refl) (λ _. on_refusal _)

    by_potentials : (g : Option Frame) → P (take_potentials f g)
    unfolding take_potentials
    by_potentials (Some (Potentials v h k)) = cases P (eqb v (length f.told.forward)) (λ _. on_told _ refl) (λ _. on_refusal _)
    by_potentials (Some (Size n m)) = on_refusal _
    by_potentials (Some (Arc t h w)) = on_refusal _
    by_potentials (Some (TwoWay t h w)) = on_refusal _
    by_potentials (Some (QueryFrame s e c n)) = on_refusal _
    by_potentials None = on_refusal _

    by_query : (g : Option Frame) → P (take_query f g)
    unfolding take_query
    by_query (Some (QueryFrame s e c n)) = cases P (f.single && f.told.asked) (λ _. on_refusal _) (λ none. on_query _ c _ refl none)
    by_query (Some (Size n m)) = on_refusal _
    by_query (Some (Arc t h w)) = on_refusal _
    by_query (Some (TwoWay t h w)) = on_refusal _
    by_query (Some (Potentials v h k)) = on_refusal _
    by_query None = on_refusal _

    pub by_line : P (take_line f)
    unfolding take_line take_frame
    by_line =
        let g : Option Frame = frame_of f.held in
        cases P (eqb f.line last_line) (λ _. on_refusal _)
        (λ _. cases P (size_owed f.told) (λ _. by_size g)
        (λ _. cases P (arcs_owed f.told) (λ _. by_arcs g)
        (λ _. cases P (potentials_owed f.told) (λ _. by_potentials g) (λ _. by_query g))))

-- a byte ends a line, is one more of it or one too many; or the file has ended
pub by_byte : (f : File) (b : ℕ) (P : FileStep → Type 0) → (f.going ≡ true → P (take_line f)) → P (step (holding f b) []) → (f.going ≡ true → P (broken_line f)) → P (step f []) → P (take_byte f b)
unfolding take_byte
by_byte f b P on_line on-held on-broken on-ended =
    cases P f.going
    (λ goes. cases P (eqb b line_feed) (λ _. on_line goes)
    (λ _. cases P (ltb (length f.held) most_digits) (λ _. on-held) (λ _. on-broken goes)))
    (λ _. on-ended)

-- the end of input prints nothing, or what a refusal prints
pub by_end : (f : File) (P : List ℕ → Type 0) → P [] → (f.going ≡ true → (c : Cause) → P (refused f c).printed) → P (end_of_input f)
unfolding end_of_input
by_end f P on-nothing on_refusal =
    cases P f.going
    (λ goes. cases P (eqb (length f.held) 0)
    (λ _. cases P (owing f.told) (λ _. on_refusal goes (MisplacedLine f.line)) (λ _. on-nothing))
    (λ _. by_broken f (λ (s : FileStep). P s.printed) (on_refusal goes)))
    (λ _. on-nothing)

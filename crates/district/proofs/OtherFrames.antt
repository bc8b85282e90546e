-- A sound frame that is not of the kind that may stand in a place is not taken there. Assumes nothing.
use Rattle.std.specs.Prelude.{◌≡◌, refl, ℕ, ℤ, Some}
use Rattle.network.specs.Cap.{Cap}
use Rattle.frames.specs.declared.Frame.{Frame}
use Rattle.frames.specs.declared.Frame.TheVariants.{Size, Arc, TwoWay, Potentials, Query}
use Rattle.district.specs.File.{File, wrong, take_size, take_arcs, take_potentials, take_query}
use Rattle.district.specs.Inner.{NoArc}

pub no_size : (f : File) (g : Frame) → ((n m : ℕ) → g ≡ Size n m → ⊥) → wrong f (Some g) ≡ take_size f (Some g)
unfolding take_size
no_size f (Size n m) h = absurd (h n m refl)
no_size f (Arc t a w) h = refl
no_size f (TwoWay t a w) h = refl
no_size f (Potentials v a k) h = refl
no_size f (Query s e c n) h = refl

pub no_arcs : (f : File) (g : Frame) → NoArc g → ((t a w : ℕ) → g ≡ TwoWay t a w → ⊥) → wrong f (Some g) ≡ take_arcs f (Some g)
unfolding take_arcs
no_arcs f (Arc t a w) h k = absurd (h.law t a w refl)
no_arcs f (TwoWay t a w) h k = absurd (k t a w refl)
no_arcs f (Size n m) h k = refl
no_arcs f (Potentials v a b) h k = refl
no_arcs f (Query s e c n) h k = refl

pub no_arc : (g : Frame) → ((t a w : ℕ) → g ≡ Arc t a w → ⊥) → NoArc g
no_arc g h = record { law = h }

pub no_potentials : (f : File) (g : Frame) → ((v : ℕ) (a k : ℤ) → g ≡ Potentials v a k → ⊥) → wrong f (Some g) ≡ take_potentials f (Some g)
unfolding take_potentials
no_potentials f (Potentials v a k) h = absurd (h v a k refl)
no_potentials f (Size n m) h = refl
no_potentials f (Arc t a w) h = refl
no_potentials f (TwoWay t a w) h = refl
no_potentials f (Query s e c n) h = refl

pub no_query : (f : File) (g : Frame) → ((s e : ℕ) (c : Cap) (n : ℕ) → g ≡ Query s e c n → ⊥) → wrong f (Some g) ≡ take_query f (Some g)
unfolding take_query
no_query f (Query s e c n) h = absurd (h s e c n refl)
no_query f (Size n m) h = refl
no_query f (Arc t a w) h = refl
no_query f (TwoWay t a w) h = refl
no_query f (Potentials v a k) h = refl

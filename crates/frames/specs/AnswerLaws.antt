-- An answer's lines determine what they show of it, which is the whole of a route, of no route and of a refusal, and the path
-- after it: the values stand in them, each in its field. And how many bytes they are. Assumes nothing.
use Rattle.std.specs.Prelude.{◌≡◌, refl, cond, List, [], ◌∷◌, ◌++◌, ℕ, zero, suc, ◌+◌, ◌*◌, ◌/◌, ◌<◌, ◌^◌, eqb, length, take, drop, replicate, get_or}
use Rattle.std.proofs.Common.{sym, ap, ◌∙◌, append_assoc, append-nil, arith, length-append, drop_at}
use Rattle.std.proofs.lemmas.List.{length-replicate}
use Rattle.network.specs.Answer.{number_of, place_of, figures_of, kind_of, values_of}
use Rattle.network.specs.declared.Figures.{Figures}
use Rattle.network.specs.declared.Cause.{Cause}
use Rattle.network.specs.declared.Cause.TheVariants.{NodeCount, ArcLists, PotentialLists, StartOrEnd, Pattern, Room, BadArc, BadPotential, Inconsistent, UnsoundLine, MisplacedLine, NoSuchArc, WrongIndex}
use Rattle.network.specs.declared.Answer.{Answer}
use Rattle.network.specs.declared.Answer.TheVariants.{Route, NoRoute, Refused, Provisional, Undecided}
use Rattle.frames.specs.Digits.{number_at, digits_of, spelled}
use Rattle.frames.specs.FieldLaws.{fields_at, total, InFields, none, one, fields_roundtrip, length_digits}
use Rattle.frames.specs.FrameLine.{Below}
use Rattle.frames.specs.AnswerLines.{line_of, widths_of, answer_line, nodes_line, path_line, answer_lines}

-- the bytes of a line are those of its fields and a line feed
pub length_line : (ws vs : List ℕ) → length ws ≡ length vs → length (line_of ws vs) ≡ total ws + 1
unfolding line_of spelled
length_line [] vs e = refl
length_line (w ∷ ws) [] e = absurd (omega arith)
length_line (w ∷ ws) (v ∷ vs) e =
    let rest : length (line_of ws vs) ≡ total ws + 1 = length_line ws vs (omega arith) in
    rw (append_assoc, length-append, length_digits) (omega arith)

-- a path's line has three bytes and four a node
total_fours : (n : ℕ) → total (replicate n 4) ≡ 4 * n
total_fours zero = refl
total_fours (suc n) = omega (arith, total_fours n)

pub length_path : (nodes : List ℕ) → length (path_line nodes) ≡ 3 + 4 * length nodes
length_path nodes =
    let same : length {A = ℕ} (replicate (length nodes) 4) ≡ length nodes = length-replicate {A = ℕ} (length nodes) 4 in
    length-append (digits_of 2 130) (nodes_line nodes) ∙ omega (arith, length_digits 2 130, length_line (replicate (length nodes) 4) nodes same, total_fours (length nodes))

-- each figure is in the range of its type
abbrev pub RangedFigures : Figures → Type 0
RangedFigures f = (f.turns < 65536) × (f.opened_by_start < 65536) × (f.opened_by_end < 65536) × (f.rejected < 65536)

-- each value of an answer is in the range of its type
abbrev pub Ranged : Answer → Type 0
Ranged (Route l n f) = (l < 4294967296) × (n < 65536) × RangedFigures f
Ranged (NoRoute f) = RangedFigures f
Ranged (Refused c) = place_of c < 4294967296
Ranged (Provisional l x n f) = (l < 4294967296) × (x < 4294967296)
Ranged (Undecided f) = f.turns < 65536

pub number_below_256 : (c : Cause) → number_of c < 16 ^ 2
number_below_256 NodeCount = omega arith
number_below_256 ArcLists = omega arith
number_below_256 PotentialLists = omega arith
number_below_256 StartOrEnd = omega arith
number_below_256 Pattern = omega arith
number_below_256 Room = omega arith
number_below_256 (BadArc a) = omega arith
number_below_256 (BadPotential v) = omega arith
number_below_256 (Inconsistent a) = omega arith
number_below_256 (UnsoundLine n) = omega arith
number_below_256 (MisplacedLine n) = omega arith
number_below_256 (NoSuchArc a) = omega arith
number_below_256 WrongIndex = omega arith

figures_fit : (f : Figures) → RangedFigures f → InFields (4 ∷ 4 ∷ 4 ∷ 4 ∷ []) (figures_of f)
figures_fit f h =
    one 4 f.turns (omega arith)
    (one 4 f.opened_by_start (omega arith)
    (one 4 f.opened_by_end (omega arith)
    (one 4 f.rejected (omega arith) none)))

-- each value fits its field
answer_fits : (a : Answer) → Ranged a → InFields (widths_of a) (kind_of a ∷ values_of a)
answer_fits (Route l n f) h = one 2 129 (omega arith) (one 8 l (omega arith) (one 4 n (omega arith) (figures_fit f h.2)))
answer_fits (NoRoute f) h = one 2 128 (omega arith) (figures_fit f h)
answer_fits (Refused c) h = one 2 255 (omega arith) (one 2 (number_of c) (number_below_256 c) (one 8 (place_of c) (omega arith) none))
answer_fits (Provisional l x n f) h = one 2 132 (omega arith) (one 8 l (omega arith) (one 8 x (omega arith) none))
answer_fits (Undecided f) h = one 2 133 (omega arith) (one 4 f.turns (omega arith) none)

-- the path that an answer shows
abbrev pub path_shown : Answer → List ℕ → List ℕ
path_shown (Route l n f) p = take n p
path_shown (NoRoute f) p = []
path_shown (Refused c) p = []
path_shown (Provisional l x n f) p = take n p
path_shown (Undecided f) p = []

-- what follows an answer's line: that path's line, or nothing
abbrev text_after_line : Answer → List ℕ → List ℕ
text_after_line (Route l n f) p = path_line (take n p)
text_after_line (NoRoute f) p = []
text_after_line (Refused c) p = []
text_after_line (Provisional l x n f) p = path_line (take n p)
text_after_line (Undecided f) p = []

line_and_path : (a : Answer) (p : List ℕ) → answer_line a ++ text_after_line a p ≡ answer_lines a p
line_and_path (Route l n f) p = refl
line_and_path (NoRoute f) p = append-nil _
line_and_path (Refused c) p = append-nil _
line_and_path (Provisional l x n f) p = refl
line_and_path (Undecided f) p = append-nil _

-- an answer's kind and values stand in its lines
answer_fields : (a : Answer) (p : List ℕ) → Ranged a → fields_at 0 (widths_of a) (answer_lines a p) ≡ kind_of a ∷ values_of a
unfolding line_of
answer_fields a p h =
    rw (← line_and_path a p, append_assoc) (fields_roundtrip [] 0 ((10 ∷ []) ++ text_after_line a p) refl (answer_fits a h))

kind_first : (a : Answer) (s : List ℕ) → fields_at 0 (widths_of a) s ≡ kind_of a ∷ values_of a → number_at s 0 2 ≡ kind_of a
kind_first (Route l n f) s e = cc
kind_first (NoRoute f) s e = cc
kind_first (Refused c) s e = cc
kind_first (Provisional l x n f) s e = cc
kind_first (Undecided f) s e = cc

-- figures from a list of them, 0 where it is too short
abbrev figures_from : List ℕ → Figures
figures_from vs = record { turns = get_or vs 0 0; opened_by_start = get_or vs 1 0; opened_by_end = get_or vs 2 0; rejected = get_or vs 3 0 }

-- the refusal of a number and a place
cause_at : ℕ → ℕ → Cause
cause_at n at =
    cond (eqb n 1) NodeCount
    (cond (eqb n 2) ArcLists
    (cond (eqb n 3) PotentialLists
    (cond (eqb n 4) StartOrEnd
    (cond (eqb n 5) Pattern
    (cond (eqb n 6) Room
    (cond (eqb n 7) (BadArc at)
    (cond (eqb n 8) (BadPotential at)
    (cond (eqb n 9) (Inconsistent at)
    (cond (eqb n 10) (UnsoundLine at)
    (cond (eqb n 11) (MisplacedLine at)
    (cond (eqb n 19) (NoSuchArc at) WrongIndex)))))))))))

cause_again : (c : Cause) → cause_at (number_of c) (place_of c) ≡ c
unfolding cause_at
cause_again NodeCount = refl
cause_again ArcLists = refl
cause_again PotentialLists = refl
cause_again StartOrEnd = refl
cause_again Pattern = refl
cause_again Room = refl
cause_again (BadArc a) = refl
cause_again (BadPotential v) = refl
cause_again (Inconsistent a) = refl
cause_again (UnsoundLine n) = refl
cause_again (MisplacedLine n) = refl
cause_again (NoSuchArc a) = refl
cause_again WrongIndex = refl

-- what an answer's lines show of it beside the path: a route, no route and a refusal whole, a provisional route without its
-- node count and figures, of an undecided query the turns
abbrev pub shown : Answer → Answer
shown (Route l n f) = Route l n f
shown (NoRoute f) = NoRoute f
shown (Refused c) = Refused c
shown (Provisional l x n f) = Provisional l x 0 (figures_from [])
shown (Undecided f) = Undecided (figures_from (f.turns ∷ []))

-- it is found again from the kind and the values
answer_of_kind : ℕ → List ℕ → Answer
answer_of_kind k vs =
    cond (eqb k 129) (Route (get_or vs 0 0) (get_or vs 1 0) (figures_from (drop 2 vs)))
    (cond (eqb k 128) (NoRoute (figures_from vs))
    (cond (eqb k 132) (Provisional (get_or vs 0 0) (get_or vs 1 0) 0 (figures_from []))
    (cond (eqb k 133) (Undecided (figures_from vs)) (Refused (cause_at (get_or vs 0 0) (get_or vs 1 0))))))

answer_again : (a : Answer) → answer_of_kind (kind_of a) (values_of a) ≡ shown a
unfolding answer_of_kind
answer_again (Route l n f) = refl
answer_again (NoRoute f) = refl
answer_again (Refused c) = ap Refused (cause_again c)
answer_again (Provisional l x n f) = refl
answer_again (Undecided f) = refl

-- and the widths of its fields from the kind alone
widths_again : (a : Answer) → widths_of (answer_of_kind (kind_of a) []) ≡ widths_of a
unfolding answer_of_kind
widths_again (Route l n f) = refl
widths_again (NoRoute f) = refl
widths_again (Refused c) = refl
widths_again (Provisional l x n f) = refl
widths_again (Undecided f) = refl

-- two answers with the same lines
module _ (a b : Answer) (p q : List ℕ) (h : Ranged a) (k : Ranged b) (e : answer_lines a p ≡ answer_lines b q) where
  same_kind : kind_of a ≡ kind_of b
  same_kind = sym (kind_first a _ (answer_fields a p h)) ∙ (ap (λ (s : List ℕ). number_at s 0 2) e ∙ kind_first b _ (answer_fields b q k))

  same_widths : widths_of a ≡ widths_of b
  same_widths = sym (widths_again a) ∙ (ap (λ (kind : ℕ). widths_of (answer_of_kind kind [])) same_kind ∙ widths_again b)

  -- show the same, so they are the same answer where it is shown whole
  pub answer_determined : shown a ≡ shown b
  answer_determined =
      let fields : fields_at 0 (widths_of a) (answer_lines a p) ≡ fields_at 0 (widths_of b) (answer_lines b q) = rw (same_widths, e) in
      let both : ◌≡◌ {A = List ℕ} (kind_of a ∷ values_of a) (kind_of b ∷ values_of b) = sym (answer_fields a p h) ∙ (fields ∙ answer_fields b q k) in
      let values : values_of a ≡ values_of b = cc in
      sym (answer_again a) ∙ (rw (same_kind, values) (answer_again b))

-- an answer's line has the digits of its fields and a line feed
length_first : (a : Answer) → length (answer_line a) ≡ total (widths_of a) + 1
length_first (Route l n f) = length_line _ _ refl
length_first (NoRoute f) = length_line _ _ refl
length_first (Refused c) = length_line _ _ refl
length_first (Provisional l x n f) = length_line _ _ refl
length_first (Undecided f) = length_line _ _ refl

-- the bytes of an answer's lines: 13 for a refusal, 19 for no route, 7 for an undecided query, 34 and four a node for a route,
-- 22 and four a node for a provisional one
pub length_refused : (c : Cause) (p : List ℕ) → length (answer_lines (Refused c) p) ≡ 13
length_refused c p = length_first (Refused c)

pub length_no_route : (f : Figures) (p : List ℕ) → length (answer_lines (NoRoute f) p) ≡ 19
length_no_route f p = length_first (NoRoute f)

pub length_undecided : (f : Figures) (p : List ℕ) → length (answer_lines (Undecided f) p) ≡ 7
length_undecided f p = length_first (Undecided f)

pub length_route : (l n : ℕ) (f : Figures) (p : List ℕ) → length (answer_lines (Route l n f) p) ≡ 34 + 4 * length (take n p)
length_route l n f p =
    length-append (answer_line (Route l n f)) (path_line (take n p)) ∙ omega (arith, length_first (Route l n f), length_path (take n p))

pub length_provisional : (l x n : ℕ) (f : Figures) (p : List ℕ) → length (answer_lines (Provisional l x n f) p) ≡ 22 + 4 * length (take n p)
length_provisional l x n f p =
    length-append (answer_line (Provisional l x n f)) (path_line (take n p)) ∙ omega (arith, length_first (Provisional l x n f), length_path (take n p))

-- nodes that fit their fields
nodes_fit : (ns : List ℕ) → Below 65536 ns → InFields (replicate (length ns) 4) ns
nodes_fit [] h = none
nodes_fit (v ∷ ns) h = one 4 v (h.law 0 (omega arith)) (nodes_fit ns (record { law = λ i k. h.law (suc i) (omega arith) }))

-- the path in what follows an answer's line: if anything does, its nodes stand after the two digits of the kind
path_in : List ℕ → List ℕ
path_in s = fields_at 2 (replicate (length s / 4) 4) s

path_in_line : (ns : List ℕ) → Below 65536 ns → path_in (path_line ns) ≡ ns
unfolding path_in line_of
path_in_line ns h =
    let count : length (path_line ns) / 4 ≡ length ns = omega (arith, length_path ns) in
    rw count (fields_roundtrip (digits_of 2 130) 2 (10 ∷ []) (length_digits 2 130) (nodes_fit ns h))

path_again : (a : Answer) (p : List ℕ) → Below 65536 (path_shown a p) → path_in (text_after_line a p) ≡ path_shown a p
unfolding path_in
path_again (Route l n f) p h = path_in_line (take n p) h
path_again (NoRoute f) p h = refl
path_again (Refused c) p h = refl
path_again (Provisional l x n f) p h = path_in_line (take n p) h
path_again (Undecided f) p h = refl

after_line : (a : Answer) (p : List ℕ) → drop (total (widths_of a) + 1) (answer_lines a p) ≡ text_after_line a p
after_line a p = rw (← line_and_path a p) (drop_at (answer_line a) (text_after_line a p) (total (widths_of a) + 1) (length_first a))

-- two answers with the same lines show the same path
pub path_determined : (a b : Answer) (p q : List ℕ) → Ranged a → Ranged b → Below 65536 (path_shown a p) → Below 65536 (path_shown b q) → answer_lines a p ≡ answer_lines b q → path_shown a p ≡ path_shown b q
path_determined a b p q h k below below' e =
    let after : text_after_line a p ≡ text_after_line b q = sym (after_line a p) ∙ (rw (same_widths a b p q h k e, e) (after_line b q)) in
    sym (path_again a p below) ∙ (ap path_in after ∙ path_again b q below')

-- A district file, from its bytes to the bytes of its answer (docs/RULES.md, "Input order"): which frame may stand where,
-- what each adds, which refusal comes first, and what the end of input means. The file is read one byte at a time, so it does
-- not matter in what pieces the bytes come. Lines has the same file in a shorter reading, line by line, and LinesLaws proves that
-- both print the same. Definitions only; their laws are in FileLaws. Assumes nothing.
use Rattle.std.specs.Prelude.{Bool, true, false, cond, not, ◌&&◌, ◌||◌, List, [], ◌∷◌, ◌++◌, map, ℕ, ◌+◌, ◌-◌, eqb, ltb, leb, ℤ, length, Option, None, Some}
use Rattle.network.specs.Cap.{Cap}
use Rattle.network.specs.declared.Lent.{Lent}
use Rattle.network.specs.declared.Cause.{Cause}
use Rattle.network.specs.declared.Cause.TheVariants.{NodeCount, ArcLists, UnsoundLine, MisplacedLine}
use Rattle.network.specs.declared.Answer.TheVariants.{Refused}
use Rattle.network.specs.Network.{network, most_nodes, most_arcs}
use Rattle.network.specs.Refusal.{room_for}
use Rattle.network.specs.Query.{Query, query}
use Rattle.nba.specs.Search.{state_at}
use Rattle.nba.specs.Result.{path_of, answer_under, turns_given}
use Rattle.frames.specs.declared.Frame.{Frame}
use Rattle.frames.specs.declared.Frame.TheVariants.{Size, Arc, TwoWay, Potentials, Query as QueryFrame}
use Rattle.frames.specs.Frame.{most_digits, frame_of, pattern_of}
use Rattle.frames.specs.AnswerLines.{line_feed, answer_lines}

-- ---- what is read
-- what the lines of a file have said so far
pub record Told : Type 0 where
  -- the node count of the 01; 0 while the 01 is owed
  pub nodes : ℕ
  -- the arc count of the 01
  pub arcs : ℕ
  -- the arcs given so far, in the order given
  pub tails : List ℕ
  pub heads : List ℕ
  pub weights : List ℕ
  -- the potentials given so far, from node 0 on
  pub forward : List ℤ
  pub backward : List ℤ
  -- a query was answered
  pub asked : Bool

-- a file, as far as it has been read
pub record File : Type 0 where
  pub told : Told
  -- the number of the line that is being read, from 1, and the bytes of that line so far
  pub line : ℕ
  pub held : List ℕ
  -- the file may have one query only, as the display's may
  pub single : Bool
  -- no file refusal has ended it
  pub going : Bool

-- a file one step further, and the bytes that the step prints
pub record FileStep : Type 0 where
  pub file : File
  pub printed : List ℕ

abbrev pub step : File → List ℕ → FileStep
step f printed = record { file = f; printed = printed }

-- nothing is told yet
abbrev pub nothing_told : Told
nothing_told = record { nodes = 0; arcs = 0; tails = []; heads = []; weights = []; forward = []; backward = []; asked = false }

-- a file of which nothing is read, its first line having this number
abbrev pub beginning : Bool → ℕ → File
beginning single line = record { told = nothing_told; line = line; held = []; single = single; going = true }

-- the line with this number is refused whatever it holds
abbrev pub last_line : ℕ
last_line = 4294967295

-- ---- the two ways on
-- a file refusal: its FF line is printed, and it ends the file
unfoldable pub refused : File → Cause → FileStep
refused f c =
    step (record { told = f.told; line = f.line; held = f.held; single = f.single; going = false }) (answer_lines (Refused c) [])

-- the line is taken: the next line begins, with what is told now
unfoldable pub taken : File → Told → List ℕ → FileStep
taken f told printed =
    step (record { told = told; line = f.line + 1; held = []; single = f.single; going = f.going }) printed

-- a frame that is not taken is 10 where it is no sound frame, and 11 where it is one that may not stand there
abbrev pub wrong_cause : Option Frame → ℕ → Cause
wrong_cause None line = UnsoundLine line
wrong_cause (Some g) line = MisplacedLine line

abbrev pub wrong : File → Option Frame → FileStep
wrong f g = refused f (wrong_cause g f.line)

-- ---- 01
-- the node and arc count that a 01 states
abbrev pub with_size : Told → ℕ → ℕ → Told
with_size t n m =
    record {
      nodes = n;
      arcs = m;
      tails = t.tails;
      heads = t.heads;
      weights = t.weights;
      forward = t.forward;
      backward = t.backward;
      asked = t.asked;
    }

-- where a 01 is owed: a bad node count is 1, a bad arc count is 2
unfoldable pub take_size : File → Option Frame → FileStep
take_size f (Some (Size n m)) =
    cond (eqb n 0 || ltb most_nodes n) (refused f NodeCount)
    (cond (ltb most_arcs m) (refused f ArcLists) (taken f (with_size f.told n m) []))
take_size f (Some (Arc t h w)) = wrong f (Some (Arc t h w))
take_size f (Some (TwoWay t h w)) = wrong f (Some (TwoWay t h w))
take_size f (Some (Potentials v h k)) = wrong f (Some (Potentials v h k))
take_size f (Some (QueryFrame s e c n)) = wrong f (Some (QueryFrame s e c n))
take_size f None = wrong f None

-- ---- 02 and 05
-- an arc as it is given
pub record GivenArc : Type 0 where
  pub tail : ℕ
  pub head : ℕ
  pub weight : ℕ

abbrev pub given_arc : ℕ → ℕ → ℕ → GivenArc
given_arc t h w = record { tail = t; head = h; weight = w }

-- the arcs that a frame adds: 02 its arc; 05 its arc and then the reverse
abbrev pub added_arcs : Option Frame → List GivenArc
added_arcs (Some (Arc t h w)) = given_arc t h w ∷ []
added_arcs (Some (TwoWay t h w)) = given_arc t h w ∷ given_arc h t w ∷ []
added_arcs (Some (Size n m)) = []
added_arcs (Some (Potentials v h k)) = []
added_arcs (Some (QueryFrame s e c n)) = []
added_arcs None = []

abbrev pub with_arcs : Told → List GivenArc → Told
with_arcs t added =
    record {
      nodes = t.nodes;
      arcs = t.arcs;
      tails = t.tails ++ map (λ (a : GivenArc). a.tail) added;
      heads = t.heads ++ map (λ (a : GivenArc). a.head) added;
      weights = t.weights ++ map (λ (a : GivenArc). a.weight) added;
      forward = t.forward;
      backward = t.backward;
      asked = t.asked;
    }

-- where arcs are owed: a frame that adds arcs, and no more than are owed
unfoldable pub take_arcs : File → Option Frame → FileStep
take_arcs f g =
    cond (ltb 0 (length (added_arcs g)) && leb (length (added_arcs g)) (f.told.arcs - length f.told.tails))
    (taken f (with_arcs f.told (added_arcs g)) []) (wrong f g)

-- ---- 03
abbrev pub with_potentials : Told → ℤ → ℤ → Told
with_potentials t h k =
    record {
      nodes = t.nodes;
      arcs = t.arcs;
      tails = t.tails;
      heads = t.heads;
      weights = t.weights;
      forward = t.forward ++ (h ∷ []);
      backward = t.backward ++ (k ∷ []);
      asked = t.asked;
    }

-- where potentials are owed: those of the next node
unfoldable pub take_potentials : File → Option Frame → FileStep
take_potentials f (Some (Potentials v h k)) =
    cond (eqb v (length f.told.forward)) (taken f (with_potentials f.told h k) []) (wrong f (Some (Potentials v h k)))
take_potentials f (Some (Size n m)) = wrong f (Some (Size n m))
take_potentials f (Some (Arc t h w)) = wrong f (Some (Arc t h w))
take_potentials f (Some (TwoWay t h w)) = wrong f (Some (TwoWay t h w))
take_potentials f (Some (QueryFrame s e c n)) = wrong f (Some (QueryFrame s e c n))
take_potentials f None = wrong f None

-- ---- 04 and 07
-- the lists that a query is lent have room for 2,048 entries each, so no query is refused for its room
abbrev pub work_room : Lent
work_room = room_for most_nodes

-- the lines of a query's answer, which may be a refusal (4, 5, 7, 8 or 9): with a cap or without
unfoldable pub query_lines : Cap → Query → List ℕ
query_lines c q = answer_lines (answer_under c q work_room) (path_of q (state_at q (turns_given c q)))

-- the query from s to e with a pattern, on what is told
abbrev pub query_on : Told → ℕ → ℕ → List ℕ → Query
query_on t s e pattern = query (network t.nodes t.tails t.heads t.weights) t.forward t.backward s e pattern

abbrev pub with_query : Told → Told
with_query t =
    record {
      nodes = t.nodes;
      arcs = t.arcs;
      tails = t.tails;
      heads = t.heads;
      weights = t.weights;
      forward = t.forward;
      backward = t.backward;
      asked = true;
    }

-- where a query may stand: it is answered at once; a second one in the display's file is 11
unfoldable pub take_query : File → Option Frame → FileStep
take_query f (Some (QueryFrame s e c n)) =
    cond (f.single && f.told.asked) (wrong f (Some (QueryFrame s e c n)))
    (taken f (with_query f.told) (query_lines c (query_on f.told s e (pattern_of f.held))))
take_query f (Some (Size n m)) = wrong f (Some (Size n m))
take_query f (Some (Arc t h w)) = wrong f (Some (Arc t h w))
take_query f (Some (TwoWay t h w)) = wrong f (Some (TwoWay t h w))
take_query f (Some (Potentials v h k)) = wrong f (Some (Potentials v h k))
take_query f None = wrong f None

-- ---- lines
-- input order: one 01; arcs to exactly the count stated; a 03 for each node; then queries
abbrev pub size_owed : Told → Bool
size_owed t = eqb t.nodes 0

abbrev pub arcs_owed : Told → Bool
arcs_owed t = ltb (length t.tails) t.arcs

abbrev pub potentials_owed : Told → Bool
potentials_owed t = ltb (length t.forward) t.nodes

unfoldable pub take_frame : File → Option Frame → FileStep
take_frame f g =
    cond (size_owed f.told) (take_size f g)
    (cond (arcs_owed f.told) (take_arcs f g) (cond (potentials_owed f.told) (take_potentials f g) (take_query f g)))

-- a whole line: line 4,294,967,295 is 11, sound or not
unfoldable pub take_line : File → FileStep
take_line f = cond (eqb f.line last_line) (refused f (MisplacedLine last_line)) (take_frame f (frame_of f.held))

-- a line that is no sound frame for its length alone, or for want of its line feed
unfoldable pub broken_line : File → FileStep
broken_line f = cond (eqb f.line last_line) (refused f (MisplacedLine last_line)) (refused f (UnsoundLine f.line))

-- ---- bytes
-- the line is one byte longer
abbrev pub holding : File → ℕ → File
holding f b = record { told = f.told; line = f.line; held = f.held ++ (b ∷ []); single = f.single; going = f.going }

-- the next byte: a line feed ends the line, and a line with more bytes than any input frame has digits is broken at once.
-- Where a refusal has ended the file, nothing is read any more
unfoldable pub take_byte : File → ℕ → FileStep
take_byte f b =
    cond f.going
    (cond (eqb b line_feed) (take_line f) (cond (ltb (length f.held) most_digits) (step (holding f b) []) (broken_line f)))
    (step f [])

-- a frame is still owed: the 01, arcs, potentials, or a query
abbrev pub owing : Told → Bool
owing t = size_owed t || arcs_owed t || potentials_owed t || not t.asked

-- what the end of input prints: inside a line, 10; at the start of a line, 11 there where a frame is owed, else nothing
unfoldable pub end_of_input : File → List ℕ
end_of_input f =
    cond f.going
    (cond (eqb (length f.held) 0) (cond (owing f.told) (refused f (MisplacedLine f.line)).printed []) (broken_line f).printed)
    []

-- bytes one after the other
unfoldable pub feed : File → List ℕ → FileStep
feed f [] = step f []
feed f (b ∷ bytes) =
    let first = take_byte f b in
    let rest = feed first.file bytes in
    step rest.file (first.printed ++ rest.printed)

-- the answer of a whole file whose first line has this number
unfoldable pub answer_from : Bool → ℕ → List ℕ → List ℕ
answer_from single line bytes = let all = feed (beginning single line) bytes in all.printed ++ end_of_input all.file

-- what `routeline` prints for a file
abbrev pub file_answer : List ℕ → List ℕ
file_answer bytes = answer_from false 1 bytes

-- what the display gets for a file, which may have one query only
abbrev pub display_answer : List ℕ → List ℕ
display_answer bytes = answer_from true 1 bytes

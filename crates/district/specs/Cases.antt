-- Whole district files and their whole answers, line by line. One list, and one proof over it by computation. Above each file
-- stand the wrong versions that answer it otherwise. Assumes nothing.
use Rattle.std.specs.Prelude.{◌≡◌, refl, false, List, [], ◌∷◌, ◌++◌, map, ℕ, replicate}
use Prim.Native.Char.{code}
use Prim.Native.String.{String, [] as none, ◌∷◌ as ◌then◌, ◌++◌ as ◌with◌}
use Rattle.network.specs.Network.{is_arc}
use Rattle.network.specs.Potential.{keeps_rule}
use Rattle.network.specs.Query.{side_of_turn}
use Rattle.network.specs.Refusal.{lowest, bad_node_count, bad_arc_lists, bad_potential_lists, bad_start_or_end, bad_entry, bad_pattern, bad_room, bad_arc, out_of_range, bad_potential, breaks_rule, list_rows, trip_rows, map_rows, first_refusal, query_verdict}
use Rattle.nba.specs.Search.{beginning_half, at_beginning, lower, least_below, candidate, ended, rejected, arcs_below, arcs_of, with_label, with_meeting, look_at, look_at_each, half_after, after_reach, rejecting, opening, turn, turn_unless_ended, after_turns, at_once, state_at}
use Rattle.nba.specs.Result.{trail, turned_before, path_through, path_of, count_of, figures_in, answer_at, found, answer_to, excess_over, excess, unended_at, found_at, answer_to_at}
use Rattle.frames.specs.Digits.{digit_of, value_of, are_digits, number_from, number_at, digits_of, spelled}
use Rattle.frames.specs.Signed.{signed_of}
use Rattle.frames.specs.Frame.{size_of, arc_of, potentials_of, query_of, capped_of, of_kind, frame_of, entries_from, pattern_of}
use Rattle.frames.specs.AnswerLines.{line_feed, line_of}
use Rattle.district.specs.File.{beginning, refused, taken, take_size, take_arcs, take_potentials, query_lines, take_query, take_frame, take_line, broken_line, take_byte, end_of_input, feed, answer_from, file_answer, display_answer}

-- who reads a file: `routeline`, the display, or `routeline` from the line with this number on
pub data Reading : Type 0 where
  routeline : Reading
  display : Reading
  from_line : ℕ → Reading

-- who reads a file, its bytes, and the bytes of its answer
pub record Case : Type 0 where
  pub reading : Reading
  pub given : List ℕ
  pub answer : List ℕ

-- ---- words for the cases
-- the bytes of a text
abbrev bytes : String → List ℕ
bytes none = []
bytes (c then s) = code c ∷ bytes s

-- lines, each with its line feed
abbrev lines : List String → List ℕ
lines [] = []
lines (t ∷ rest) = bytes t ++ (line_feed ∷ lines rest)

-- a file given as bytes
abbrev raw : Reading → List ℕ → List String → Case
raw reading given answer = record { reading = reading; given = given; answer = lines answer }

-- a file of `routeline`, given as lines
abbrev file : List String → List String → Case
file given answer = raw routeline (lines given) answer

-- the same, with a piece of a line at the end of input
abbrev cut : List String → String → List String → Case
cut given piece answer = raw routeline (lines given ++ bytes piece) answer

-- a file of the display, given as lines
abbrev shown : List String → List String → Case
shown given answer = raw display (lines given) answer

-- the same, with a piece of a line at the end of input
abbrev shown_cut : List String → String → List String → Case
shown_cut given piece answer = raw display (lines given ++ bytes piece) answer

-- one node and no arcs
abbrev lone : List String
lone = "0100010000" ∷ "0300000000000000000000" ∷ []

-- a query from node 0 to node 0
abbrev query : String
query = "0400000000010"

-- the same query at a cap of no turn
abbrev capped : String
capped = "07000000000000010"

-- the answer of both on that network
abbrev route : List String
route = "810000000000010000000000000000" ∷ "820000" ∷ []

-- the whole file of three lines, to which `route` is the answer
abbrev small : List String
small = lone ++ (query ∷ [])

-- two nodes and one arc, with a query from 0 to 1: the lines of the arc and of both potentials
abbrev one_arc : String → String → String → List String
one_arc arc p0 p1 = "0100020001" ∷ arc ∷ p0 ∷ p1 ∷ "0400000001010" ∷ []

-- district D5, without a query
abbrev five : List String
five =
    "0100050005"
    ∷ "020000000100000001"
    ∷ "020001000200000001"
    ∷ "020002000300000001"
    ∷ "020000000400000002"
    ∷ "020004000300000002"
    ∷ "0300000000000000000000"
    ∷ "0300010000000000000000"
    ∷ "0300020000000000000000"
    ∷ "0300030000000000000000"
    ∷ "0300040000000000000000"
    ∷ []

-- its query P1, from 0 to 3 with pattern 01, at a cap
abbrev at_cap : String → String
at_cap cap = "0700000003" with (cap with "0201")

-- ---- the first line
abbrev size_files : List Case
size_files =
    -- no node, and 2,049 nodes: 1, and nothing of the file that follows. Who lets the count pass answers the query or 11 at
    -- line 2, who gives the line as the place answers place 1, and who reads on after the refusal adds a line
    file ("0100000000" ∷ small) ("FF0100000000" ∷ [])
    ∷ file ("0108010000" ∷ small) ("FF0100000000" ∷ [])
    -- 8,193 arcs: 2, and nothing of the file that follows. Who lets them pass answers 11 at line 2
    ∷ file ("0100012001" ∷ small) ("FF0200000000" ∷ [])
    -- both counts bad: who tests the arcs first answers 2
    ∷ file ("0100002001" ∷ small) ("FF0100000000" ∷ [])
    -- 2,048 nodes and 8,192 arcs, and then the first arc is missing: who refuses these counts answers 1 or 2
    ∷ file ("0108002000" ∷ []) ("FF0B00000002" ∷ [])
    ∷ []

-- ---- frames where they may not stand
abbrev order_files : List Case
order_files =
    -- a second 01 at once, after the potentials, and after the query: who begins the file anew answers its query. That of the
    -- second file has no node: who looks at the counts first answers 1
    file ("0100010000" ∷ small) ("FF0B00000002" ∷ [])
    ∷ file (lone ++ ("0100000000" ∷ query ∷ [])) ("FF0B00000003" ∷ [])
    ∷ file (small ++ small) (route ++ ("FF0B00000004" ∷ []))
    -- 02, 05, 03, 04 and 07 before the 01: who skips them answers the query
    ∷ file ("020000000000000001" ∷ small) ("FF0B00000001" ∷ [])
    ∷ file ("050000000000000001" ∷ small) ("FF0B00000001" ∷ [])
    ∷ file ("0300000000000000000000" ∷ small) ("FF0B00000001" ∷ [])
    ∷ file (query ∷ small) ("FF0B00000001" ∷ [])
    ∷ file (capped ∷ small) ("FF0B00000001" ∷ [])
    -- 03 where an arc is owed: who takes fewer arcs than stated answers the query. 04 and 07 there: who lets a query stand
    -- anywhere answers it
    ∷ file ("0100010001" ∷ "0300000000000000000000" ∷ query ∷ []) ("FF0B00000002" ∷ [])
    ∷ file ("0100010001" ∷ query ∷ []) ("FF0B00000002" ∷ [])
    ∷ file ("0100010001" ∷ capped ∷ []) ("FF0B00000002" ∷ [])
    -- an arc more than stated: who takes it answers the query
    ∷ file ("0100010000" ∷ "020000000000000001" ∷ "0300000000000000000000" ∷ query ∷ []) ("FF0B00000002" ∷ [])
    ∷ file ("0100010001" ∷ "020000000000000001" ∷ "020000000000000001" ∷ "0300000000000000000000" ∷ query ∷ []) ("FF0B00000003" ∷ [])
    -- 05 where one arc is owed, of one and of three: who takes it, or half of it, answers the query
    ∷ file ("0100010001" ∷ "050000000000000001" ∷ "0300000000000000000000" ∷ query ∷ []) ("FF0B00000002" ∷ [])
    ∷ file ("0100010003" ∷ "050000000000000001" ∷ "050000000000000001" ∷ "0300000000000000000000" ∷ query ∷ []) ("FF0B00000003" ∷ [])
    -- potentials of node 1 before those of node 0, and those of node 0 twice: who puts each in its place, or only counts them,
    -- answers the query
    ∷ file ("0100020000" ∷ "0300010000000000000000" ∷ "0300000000000000000000" ∷ query ∷ []) ("FF0B00000002" ∷ [])
    ∷ file ("0100020000" ∷ "0300000000000000000000" ∷ "0300000000000000000000" ∷ query ∷ []) ("FF0B00000003" ∷ [])
    -- 04 and 07 where the potentials of the second node are owed: who takes them for 0 answers the query
    ∷ file ("0100020000" ∷ "0300000000000000000000" ∷ query ∷ []) ("FF0B00000003" ∷ [])
    ∷ file ("0100020000" ∷ "0300000000000000000000" ∷ capped ∷ []) ("FF0B00000003" ∷ [])
    -- 02, 05 and the potentials of a node too many in the place of a query: who skips them answers the query
    ∷ file (lone ++ ("020000000000000001" ∷ query ∷ [])) ("FF0B00000003" ∷ [])
    ∷ file (lone ++ ("050000000000000001" ∷ query ∷ [])) ("FF0B00000003" ∷ [])
    ∷ file (lone ++ ("0300010000000000000000" ∷ query ∷ [])) ("FF0B00000003" ∷ [])
    -- new potentials after a query, 04 or 07: who takes them answers a second time
    ∷ file (small ++ ("0300000000000000000000" ∷ query ∷ [])) (route ++ ("FF0B00000004" ∷ []))
    ∷ file (lone ++ (capped ∷ "0300000000000000000000" ∷ query ∷ [])) (route ++ ("FF0B00000004" ∷ []))
    ∷ []

-- ---- lines that are no sound frame
abbrev unsound_files : List Case
unsound_files =
    -- an empty line, a lower-case digit, a carriage return before the line feed: who skips or mends them answers the query
    file ("" ∷ small) ("FF0A00000001" ∷ [])
    ∷ file ("0100010000" ∷ "030000000000000000000a" ∷ query ∷ []) ("FF0A00000002" ∷ [])
    ∷ raw routeline (bytes "0100010000" ++ (13 ∷ line_feed ∷ lines ("0300000000000000000000" ∷ query ∷ []))) ("FF0A00000001" ∷ [])
    -- a 01 that is a digit short, with no node: who looks at the count first answers 1
    ∷ file ("010000000" ∷ small) ("FF0A00000001" ∷ [])
    -- a 03 that is a digit short where an arc is owed, a 04 that is an entry short where potentials are owed, a 02 that is a
    -- digit long in the place of a query, a 01 that is a digit long after one: who goes by the kind alone answers 11
    ∷ file ("0100010001" ∷ "030000000000000000000" ∷ []) ("FF0A00000002" ∷ [])
    ∷ file ("0100010000" ∷ "040000000001" ∷ []) ("FF0A00000002" ∷ [])
    ∷ file (lone ++ ("0200000000000000010" ∷ query ∷ [])) ("FF0A00000003" ∷ [])
    ∷ file (small ++ ("01000100000" ∷ query ∷ [])) (route ++ ("FF0A00000004" ∷ []))
    -- a query that is an entry short, in its place: who takes it answers 5 or a route
    ∷ file (lone ++ ("040000000001" ∷ query ∷ [])) ("FF0A00000003" ∷ [])
    -- an empty line after the query: who takes it for the end of the file answers no refusal
    ∷ file (small ++ ("" ∷ [])) (route ++ ("FF0A00000004" ∷ []))
    -- an answer's line in the place of a query, a path's, a provisional's and an undecided's: who skips it answers the query, and
    -- who takes it for a frame out of place answers 11
    ∷ file (lone ++ ("820000" ∷ query ∷ [])) ("FF0A00000003" ∷ [])
    ∷ file (lone ++ ("840000000400000003" ∷ query ∷ [])) ("FF0A00000003" ∷ [])
    ∷ file (lone ++ ("850001" ∷ query ∷ [])) ("FF0A00000003" ∷ [])
    -- a 07 that is an entry short, and a 07 without its cap: who takes the one answers 5 or a route, and who takes it for a 04
    -- answers the other by a route
    ∷ file (lone ++ ("0700000000000001" ∷ query ∷ [])) ("FF0A00000003" ∷ [])
    ∷ file (lone ++ ("0700000000010" ∷ query ∷ [])) ("FF0A00000003" ∷ [])
    -- the longest query that can be written has 255 entries, and is 5, as a 04 and as a 07: who takes it for no sound frame
    -- answers 10. With one digit more it is none: who does not count its entries answers 5
    ∷ raw routeline (lines lone ++ (bytes "0400000000FF" ++ (replicate 255 48 ++ (line_feed ∷ lines (query ∷ []))))) ("FF0500000000" ∷ route)
    ∷ raw routeline (lines lone ++ (bytes "0400000000FF" ++ (replicate 256 48 ++ (line_feed ∷ lines (query ∷ []))))) ("FF0A00000003" ∷ [])
    ∷ raw routeline (lines lone ++ (bytes "07000000000000FF" ++ (replicate 255 48 ++ (line_feed ∷ lines (query ∷ []))))) ("FF0500000000" ∷ route)
    ∷ raw routeline (lines lone ++ (bytes "07000000000000FF" ++ (replicate 256 48 ++ (line_feed ∷ lines (query ∷ []))))) ("FF0A00000003" ∷ [])
    ∷ []

-- ---- the end of input
abbrev end_files : List Case
end_files =
    -- no byte at all: who answers nothing, and who counts lines from 0 answers line 0
    raw routeline [] ("FF0B00000001" ∷ [])
    -- inside the first line, and just before its line feed: who forgets the line answers 11, and who takes it as if its line feed
    -- were there answers 1 to the second
    ∷ cut [] "0" ("FF0A00000001" ∷ [])
    ∷ cut [] "0100000000" ("FF0A00000001" ∷ [])
    -- an arc is missing, one arc of two, all potentials, those of the second node, a query: who answers nothing, or names the last
    -- line that is there
    ∷ file ("0100010001" ∷ []) ("FF0B00000002" ∷ [])
    ∷ file ("0100010002" ∷ "020000000000000001" ∷ []) ("FF0B00000003" ∷ [])
    ∷ file ("0100020000" ∷ []) ("FF0B00000002" ∷ [])
    ∷ file ("0100020000" ∷ "0300000000000000000000" ∷ []) ("FF0B00000003" ∷ [])
    ∷ file lone ("FF0B00000003" ∷ [])
    -- just before the line feed of the first query: who answers the query, or 11
    ∷ cut lone query ("FF0A00000003" ∷ [])
    -- after queries nothing is owed, whatever their answers: who takes one query only adds 11 to the first file, and who takes a
    -- refused one for none to the second
    ∷ file (small ++ (query ∷ [])) (route ++ route)
    ∷ file (lone ++ ("0400010000010" ∷ [])) ("FF0400000000" ∷ [])
    -- a 07 is a query too: who does not count it adds 11
    ∷ file (lone ++ (capped ∷ [])) route
    -- inside a line after a query: who forgets it answers no refusal
    ∷ cut small "04" (route ++ ("FF0A00000004" ∷ []))
    ∷ []

-- ---- queries that are refused
abbrev query_files : List Case
query_files =
    -- a start and an end that are no node, no entry, an entry 2: who stops at the first answers no more
    file (lone ++ ("0400010000010" ∷ "0400000001010" ∷ query ∷ [])) ("FF0400000000" ∷ "FF0400000000" ∷ route)
    ∷ file (lone ++ ("040000000000" ∷ "0400000000012" ∷ query ∷ [])) ("FF0500000000" ∷ "FF0500000000" ∷ route)
    -- the same as 07: who looks at the cap first answers otherwise
    ∷ file (lone ++ ("07000100000000010" ∷ "07000000010000010" ∷ capped ∷ [])) ("FF0400000000" ∷ "FF0400000000" ∷ route)
    ∷ file (lone ++ ("0700000000000000" ∷ "07000000000000012" ∷ capped ∷ [])) ("FF0500000000" ∷ "FF0500000000" ∷ route)
    -- arc 1 has a head that is no node: 7 at each query that is not 4 or 5. Who stops at the first answers no more, and who
    -- lets the network's fault come first answers 7 four times
    ∷ file
    ("0100010002" ∷ "020000000000000000" ∷ "020000000100000001" ∷ "0300000000000000000000" ∷ query ∷ "0400010000010" ∷ "0400000000012" ∷ query ∷ capped ∷ "07000100000000010" ∷ [])
    ("FF0700000001" ∷ "FF0400000000" ∷ "FF0500000000" ∷ "FF0700000001" ∷ "FF0700000001" ∷ "FF0400000000" ∷ [])
    -- the same without a query: who tells the fault where it stands, or at the last potentials, answers 7
    ∷ file ("0100010002" ∷ "020000000000000000" ∷ "020000000100000001" ∷ "0300000000000000000000" ∷ []) ("FF0B00000005" ∷ [])
    -- node 1 has a potential of 2,047,000,001: 8 in the same way
    ∷ file ("0100020000" ∷ "0300000000000000000000" ∷ "0300017A02BDC100000000" ∷ query ∷ "0400000002010" ∷ query ∷ capped ∷ [])
    ("FF0800000001" ∷ "FF0400000000" ∷ "FF0800000001" ∷ "FF0800000001" ∷ [])
    -- arc 1 breaks the rule: 9 in the same way, also from node 0 to node 0
    ∷ file
    ("0100020002" ∷ "020000000000000000" ∷ "020000000100000001" ∷ "0300000000000200000000" ∷ "0300010000000000000000" ∷ "0400000001010" ∷ "0400020001010" ∷ query ∷ capped ∷ [])
    ("FF0900000001" ∷ "FF0400000000" ∷ "FF0900000001" ∷ "FF0900000001" ∷ [])
    -- the FF of a query, and then an unsound line: who takes any FF for the end answers one line
    ∷ file (lone ++ ("0400010000010" ∷ "" ∷ query ∷ [])) ("FF0400000000" ∷ "FF0A00000004" ∷ [])
    ∷ []

-- ---- whole files of docs/RULES.md, "Cases", and two-way links
abbrev whole_files : List Case
whole_files =
    -- district D5 with the query of P1, as the rules have it, and then those of P4, P2 and P3: who goes on in the pattern where
    -- the query before left it answers P4 with 0 and 1 opened, and who goes on with its tables answers P4 otherwise
    file
    (five
    ++ ("04000000030201"
    ∷ "04000300000201"
    ∷ "0400000003011"
    ∷ "04000200020201"
    ∷ []))
    ("810000000300040005000200010002"
    ∷ "820000000100020003"
    ∷ "800001000100000000"
    ∷ "810000000300040005000000040001"
    ∷ "820000000100020003"
    ∷ "810000000000010000000000000000"
    ∷ "820002"
    ∷ [])
    -- P5 and P6: who exchanges h and k answers a route to P6
    ∷ file (one_arc "020000000100000001" "0300000000000100000000" "0300010000000000000000") ("810000000100020002000100000001" ∷ "8200000001" ∷ [])
    ∷ file (one_arc "020000000100000001" "0300000000000200000000" "0300010000000000000000") ("FF0900000000" ∷ [])
    -- P7 and P8: who refuses the top weight answers 7 to P7
    ∷ file (one_arc "0200000001000F4240" "0300000000000000000000" "0300010000000000000000") ("81000F424000020002000100000001" ∷ "8200000001" ∷ [])
    ∷ file (one_arc "0200000001000F4241" "0300000000000000000000" "0300010000000000000000") ("FF0700000000" ∷ [])
    -- P9 and P10: who reads no sign answers 8 to P9
    ∷ file (one_arc "020000000100000001" "03000085FD424085FD4240" "03000185FD424085FD4240") ("810000000100020002000100000001" ∷ "8200000001" ∷ [])
    ∷ file (one_arc "020000000100000001" "03000085FD423F00000000" "0300010000000000000000") ("FF0800000000" ∷ [])
    -- P11: who searches where start and end are the same answers no route
    ∷ file small route
    -- P12: who tests the pattern first answers 5
    ∷ file ("0100020001" ∷ "020000000100000001" ∷ "0300000000000000000000" ∷ "0300010000000000000000" ∷ "040002000100" ∷ []) ("FF0400000000" ∷ [])
    -- a two-way link, and a query against its direction: who takes it for one arc answers 11 at line 3
    ∷ file ("0100020002" ∷ "050000000100000001" ∷ "0300000000000000000000" ∷ "0300010000000000000000" ∷ "0400010000010" ∷ [])
    ("810000000100020002000100000001" ∷ "8200010000" ∷ [])
    -- after arc 0, a two-way link of which the reverse breaks the rule: who gives the reverse first answers 9 at arc 1
    ∷ file
    ("0100020003" ∷ "020000000000000000" ∷ "050000000100000001" ∷ "0300000000000000000000" ∷ "0300010000000200000000" ∷ "0400000001010" ∷ [])
    ("FF0900000002" ∷ [])
    ∷ []

-- ---- queries at a cap, in district D5
abbrev capped_files : List Case
capped_files =
    -- P1 at caps 5, 0, 1, 2, 3, 4 and 6, one after the other. Who forgets step 2 after the last allowed turn answers cap 5 by
    -- a provisional, who goes on with the tables of the query before answers cap 0 by a route, who makes a turn more answers cap 1
    -- by a provisional, and who shows no path with a provisional leaves out three lines
    file
    (five
    ++ (at_cap "0005"
    ∷ at_cap "0000"
    ∷ at_cap "0001"
    ∷ at_cap "0002"
    ∷ at_cap "0003"
    ∷ at_cap "0004"
    ∷ at_cap "0006"
    ∷ []))
    ("810000000300040005000200010002"
    ∷ "820000000100020003"
    ∷ "850000"
    ∷ "850001"
    ∷ "840000000400000003"
    ∷ "82000000040003"
    ∷ "840000000300000001"
    ∷ "820000000100020003"
    ∷ "840000000300000001"
    ∷ "820000000100020003"
    ∷ "810000000300040005000200010002"
    ∷ "820000000100020003"
    ∷ [])
    -- P4 at caps 0 and 1: who answers "no route" where no turn was made. P3 at cap 0: who answers it undecided
    ∷ file (five ++ ("070003000000000201" ∷ "070003000000010201" ∷ "070002000200000201" ∷ []))
    ("850000" ∷ "800001000100000000" ∷ "810000000000010000000000000000" ∷ "820002" ∷ [])
    -- P2 at cap 4: who takes an excess of 0 for the end of the search answers a route
    ∷ file (five ++ ("07000000030004011" ∷ [])) ("840000000300000000" ∷ "820000000100020003" ∷ [])
    ∷ []

-- ---- files of the display
abbrev display_files : List Case
display_files =
    -- one query: who counts it as the second answers 11
    shown small route
    -- a second and a third query: who answers them, who leaves out the first one's answer, or who refuses twice
    ∷ shown (small ++ (query ∷ query ∷ [])) (route ++ ("FF0B00000004" ∷ []))
    -- the same with a 07 as the second query, as the first and as both: who counts 04 only answers the second too
    ∷ shown (small ++ (capped ∷ [])) (route ++ ("FF0B00000004" ∷ []))
    ∷ shown (lone ++ (capped ∷ query ∷ [])) (route ++ ("FF0B00000004" ∷ []))
    ∷ shown (lone ++ (capped ∷ capped ∷ [])) (route ++ ("FF0B00000004" ∷ []))
    ∷ shown (lone ++ (capped ∷ [])) route
    -- an undecided and then a second query: who lets another be asked until there is an answer answers it
    ∷ shown (five ++ (at_cap "0001" ∷ "04000000030201" ∷ [])) ("850001" ∷ "FF0B0000000D" ∷ [])
    -- an empty line, a query that is an entry short, and half a query after the first: who refuses whatever follows answers 11
    ∷ shown (small ++ ("" ∷ [])) (route ++ ("FF0A00000004" ∷ []))
    ∷ shown (small ++ ("040000000001" ∷ [])) (route ++ ("FF0A00000004" ∷ []))
    ∷ shown_cut small "040000" (route ++ ("FF0A00000004" ∷ []))
    -- a 01 after the query: who stops reading after the query answers no refusal
    ∷ shown (small ++ ("0100010000" ∷ [])) (route ++ ("FF0B00000004" ∷ []))
    -- the first query is refused: it counts, and who lets another be asked in its place answers a route
    ∷ shown (lone ++ ("0400010000010" ∷ [])) ("FF0400000000" ∷ [])
    ∷ shown (lone ++ ("0400010000010" ∷ query ∷ [])) ("FF0400000000" ∷ "FF0B00000004" ∷ [])
    -- no query, and no byte: who answers nothing
    ∷ shown lone ("FF0B00000003" ∷ [])
    ∷ shown [] ("FF0B00000001" ∷ [])
    -- the piece of a first query: who answers it
    ∷ shown_cut lone query ("FF0A00000003" ∷ [])
    -- a file refusal before the query: who reads on answers the query too
    ∷ shown ("0100000000" ∷ small) ("FF0100000000" ∷ [])
    -- P6: who answers nothing where there is no route to show, or adds 11
    ∷ shown (one_arc "020000000100000001" "0300000000000200000000" "0300010000000000000000") ("FF0900000000" ∷ [])
    ∷ []

-- ---- the last line that is numbered
abbrev last_line_files : List Case
last_line_files =
    -- line 4,294,967,295 is 11: a sound 01, an empty line, a piece of a line, a line that is too long, and a query that would be
    -- answered. Who does not test its number takes it, or answers 10
    raw (from_line 4294967295) (lines ("0100010000" ∷ [])) ("FF0BFFFFFFFF" ∷ [])
    ∷ raw (from_line 4294967295) (lines ("" ∷ [])) ("FF0BFFFFFFFF" ∷ [])
    ∷ raw (from_line 4294967295) (bytes "0") ("FF0BFFFFFFFF" ∷ [])
    ∷ raw (from_line 4294967295) (replicate 272 48) ("FF0BFFFFFFFF" ∷ [])
    ∷ raw (from_line 4294967293) (lines small) ("FF0BFFFFFFFF" ∷ [])
    -- the line before it is a line like any other: who refuses from there on answers 11
    ∷ raw (from_line 4294967294) (lines ("" ∷ [])) ("FF0AFFFFFFFE" ∷ [])
    ∷ raw (from_line 4294967292) (lines small) route
    ∷ []

abbrev cases : List Case
cases = size_files ++ (order_files ++ (unsound_files ++ (end_files ++ (query_files ++ (whole_files ++ (capped_files ++ (display_files ++ last_line_files)))))))

-- ---- what is answered
abbrev answer_of : Reading → List ℕ → List ℕ
answer_of routeline given = file_answer given
answer_of display given = display_answer given
answer_of (from_line n) given = answer_from false n given

unfoldable pub answered : Case → Case
answered c = record { reading = c.reading; given = c.given; answer = answer_of c.reading c.given }

-- ---- the proof, by computation
-- every file is answered as expected
pub files_answered : map answered cases ≡ cases
unfolding answered answer_from feed end_of_input take_byte broken_line take_line take_frame take_query query_lines take_potentials take_arcs take_size taken refused line_of pattern_of entries_from frame_of of_kind capped_of query_of potentials_of arc_of size_of signed_of spelled digits_of number_at number_from are_digits value_of digit_of answer_to answer_to_at found_at unended_at excess excess_over found answer_at figures_in count_of path_of path_through turned_before trail state_at at_once after_turns turn_unless_ended turn opening rejecting after_reach half_after look_at_each look_at with_meeting with_label arcs_of arcs_below rejected ended candidate least_below lower at_beginning beginning_half side_of_turn is_arc keeps_rule query_verdict first_refusal map_rows trip_rows list_rows breaks_rule bad_potential out_of_range bad_arc bad_room bad_pattern bad_entry bad_start_or_end bad_potential_lists bad_arc_lists bad_node_count lowest
files_answered = refl

-- a line is told to be too long at its 272nd byte: who waits for its line feed prints nothing yet, and who allows fewer digits
-- refuses a line of 271
pub told_at_once : ((feed (beginning false 1) (replicate 271 48)).printed ≡ []) × ((feed (beginning false 1) (replicate 272 48)).printed ≡ lines ("FF0A00000001" ∷ []))
unfolding feed take_byte broken_line refused line_of spelled digits_of digit_of
told_at_once = (refl, refl)

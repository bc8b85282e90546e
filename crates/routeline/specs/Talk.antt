-- The program's talk with the system. The program asks for bytes to be read and for bytes to be written; the system does it,
-- wholly or in part, or fails; and what the program asks next depends on what the system did. Here is what a talk is, what is
-- asked, what each answer of the system changes, and what is promised of every talk that can come to pass. Definitions only;
-- the promise is proved in TalkLaws. Assumes nothing.
use Rattle.std.specs.Prelude.{◌≡◌, Bool, true, false, cond, ◌&&◌, List, [], ◌∷◌, ◌++◌, ℕ, ◌≤◌, eqb, length, take, drop}
use Rattle.district.specs.File.{File, beginning, take_byte, end_of_input, feed, file_answer}
use Rattle.routeline.specs.declared.Stage.{Stage}
use Rattle.routeline.specs.declared.Stage.TheVariants.{Listening, AllHeard, CutShort}
use Rattle.routeline.specs.declared.Ask.{Ask}
use Rattle.routeline.specs.declared.Ask.TheVariants.{Write, Read, Stop}

-- ---- a talk
pub record Talk : Type 0 where
  -- the file, as far as its bytes have been looked at
  pub file : File
  -- the bytes that were read and not yet looked at
  pub heard : List ℕ
  -- the bytes of an answer that are not yet written
  pub owed : List ℕ
  -- the input goes on, it has ended, or a read or a write has failed
  pub stage : Stage

abbrev pub talk : File → List ℕ → List ℕ → Stage → Talk
talk f heard owed stage = record { file = f; heard = heard; owed = owed; stage = stage }

-- the file of `routeline` before anything is read: it may have many queries, and its first line is line 1
abbrev pub unread : File
unread = beginning false 1

-- the talk before anything is read
abbrev pub silence : Talk
silence = talk unread [] [] Listening

abbrev pub is_empty : List ℕ → Bool
is_empty l = eqb (length l) 0

-- ---- what is asked
-- where nothing is owed: the next bytes, unless the input has ended, a call has failed, or a refusal has ended the file
abbrev pub asks_on : Stage → Bool → Ask
asks_on Listening going = cond going Read Stop
asks_on AllHeard going = Stop
asks_on CutShort going = Stop

-- what is owed is written before anything else is asked
unfoldable pub asks : Talk → Ask
asks t = cond (is_empty t.owed) (asks_on t.stage t.file.going) Write

-- ---- what the system does
pub data Event : Type 0 where
  -- these bytes were read
  came : List ℕ → Event
  -- a read found the end of the input
  over : Event
  -- so many of the bytes that are owed were written
  went : ℕ → Event
  -- nothing happened: the call was interrupted, it would have had to wait, or a write took nothing
  again : Event
  -- the call failed
  failed : Event

-- what can come of what is asked
pub data Possible (t : Talk) : Event → Type 0 where
  can_come : asks t ≡ Read → (bytes : List ℕ) → Possible t (came bytes)
  can_end : asks t ≡ Read → Possible t over
  can_go : asks t ≡ Write → (n : ℕ) → n ≤ length t.owed → Possible t (went n)
  can_pass : (asks t ≡ Stop → ⊥) → Possible t again
  can_fail : (asks t ≡ Stop → ⊥) → Possible t failed

-- ---- what follows
-- bytes are looked at one after the other, up to the one that prints something; where something is owed already, or a refusal
-- has ended the file, no byte is looked at
unfoldable pub look_on : Stage → File → List ℕ → List ℕ → Talk
look_on stage f owed [] = talk f [] owed stage
look_on stage f owed (b ∷ heard) =
    cond (is_empty owed && f.going) (look_on stage (take_byte f b).file (take_byte f b).printed heard) (talk f (b ∷ heard) owed stage)

abbrev pub talk_looked : Talk → Talk
talk_looked t = look_on t.stage t.file t.owed t.heard

-- what the system did, before anything more is looked at: at the end of the input, what that prints is owed; of what is owed,
-- what was written is owed no more; after a failure nothing is owed and nothing is left to look at
unfoldable pub told : Talk → Event → Talk
told t (came bytes) = talk t.file bytes t.owed t.stage
told t over = talk t.file t.heard (end_of_input t.file) AllHeard
told t (went n) = talk t.file t.heard (drop n t.owed) t.stage
told t again = t
told t failed = talk t.file [] [] CutShort

abbrev pub talk_after : Talk → Event → Talk
talk_after t e = talk_looked (told t e)

-- ---- what can be seen from outside
pub record Seen : Type 0 where
  -- the bytes that were read
  pub read : List ℕ
  -- the end of the input was read too
  pub ended : Bool
  -- the bytes that were written
  pub written : List ℕ

abbrev pub seen : List ℕ → Bool → List ℕ → Seen
seen read ended written = record { read = read; ended = ended; written = written }

abbrev pub seen_after : Seen → Talk → Event → Seen
seen_after s t (came bytes) = seen (s.read ++ bytes) s.ended s.written
seen_after s t over = seen s.read true s.written
seen_after s t (went n) = seen s.read s.ended (s.written ++ take n t.owed)
seen_after s t again = s
seen_after s t failed = s

-- the talks that can come to pass, with what is seen of them: whatever the system does, one event after the other
pub data Talked : Seen → Talk → Type 0 where
  begun : Talked (seen [] false []) silence
  then : {s : Seen} {t : Talk} {e : Event} → Talked s t → Possible t e → Talked (seen_after s t e) (talk_after t e)

-- ---- what is promised
-- what the definition of a file's answer prints for what was read
abbrev pub due : Seen → List ℕ
due s = cond s.ended (file_answer s.read) (feed unread s.read).printed

-- a list begins with another
pub record Begins (whole first : List ℕ) : Type 0 where
  pub rest : List ℕ
  pub whole_is : whole ≡ first ++ rest

-- an answer is owed: of the bytes that were read, it is known which was the last that was looked at. It is the one that printed
-- the answer, and all that the bytes before it print is written
pub record LastLooked (s : Seen) (t : Talk) : Type 0 where
  pub before : List ℕ
  pub last : ℕ
  pub read_is : s.read ≡ before ++ (last ∷ t.heard)
  pub file_is : t.file ≡ (take_byte (feed unread before).file last).file
  pub earlier_written : Begins s.written (feed unread before).printed
  pub owed_is : s.written ++ t.owed ≡ (feed unread before).printed ++ (take_byte (feed unread before).file last).printed

-- what holds of every talk, whatever the system does
pub record Promised (s : Seen) (t : Talk) : Type 0 where
  -- what is written is what the definition prints for what was read, as far as it goes: in order, nothing left out or twice
  pub in_order : Begins (due s) s.written
  -- bytes are asked for only when all that is due is written
  pub paid_before_reading : asks t ≡ Read → s.written ≡ due s
  -- while an answer is owed, no byte beyond the one that printed it has been looked at
  pub paid_before_looking : asks t ≡ Write → s.ended ≡ false → LastLooked s t
  -- where it stops without a failure at the end of the input, the whole answer of the file is written
  pub whole_at_the_end : asks t ≡ Stop → (t.stage ≡ CutShort → ⊥) → s.ended ≡ true → s.written ≡ file_answer s.read
  -- where it stops without a failure before that, a refusal has ended the file: its whole answer is written, whatever follows
  pub whole_before_the_end : asks t ≡ Stop → (t.stage ≡ CutShort → ⊥) → s.ended ≡ false → (more : List ℕ) → s.written ≡ file_answer (s.read ++ more)
  -- after a failure nothing more is asked
  pub silent_after_failure : t.stage ≡ CutShort → asks t ≡ Stop

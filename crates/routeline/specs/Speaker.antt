-- What the code's speaker and its lists stand for, and what each function of the program promises in the words of Talk.
-- Definitions only; their laws are in SpeakerLaws. Assumes nothing.
use Rattle.std.specs.Prelude.{◌≡◌, Bool, false, cond, ◌&&◌, List, ℕ, ◌+◌, ◌-◌, ◌≤◌, min, eqb, ltb, ℤ, pos, negsuc, length, take, Result, Ok, Err}
use Rattle.std.specs.declared.io.Error.{Error}
use Rattle.std.specs.IoError.{raw_os_error}
use Rattle.std.specs.Option.{unwrap_or}
use Rattle.std.proofs.Math.Seq.{slice}
use Rattle.district.specs.declared.Reader.{Reader}
use Rattle.district.specs.Reader.{Lists, file_of, Kept, start_reader, most_bytes}
use Rattle.routeline.specs.declared.Stage.{Stage}
use Rattle.routeline.specs.declared.Stage.TheVariants.{Listening}
use Rattle.routeline.specs.declared.Ask.{Ask}
use Rattle.routeline.specs.declared.Ask.TheVariants.{Write, Read}
use Rattle.routeline.specs.declared.Did.{Did}
use Rattle.routeline.specs.declared.Did.TheVariants.{Came, Ended, Went, Interrupted, WouldWait, Failed}
use Rattle.routeline.specs.declared.Speaker.{Speaker}
use Rattle.routeline.specs.Talk.{Talk, talk, Event, came, over, went, again, failed, asks, told}

-- ---- the talk that a speaker stands for
-- the file of its reader; the bytes of the chunk and of the room that it counts as not yet looked at and not yet written
unfoldable pub talk_of : Speaker → Lists → List ℕ → List ℕ → Talk
talk_of s l chunk room = talk (file_of s.reader l) (slice s.from s.got chunk) (slice s.done s.written room) s.stage

-- the bytes that are owed lie within the room
pub record OwedWithin (s : Speaker) (room : List ℕ) : Type 0 where
  pub owed_first : s.done ≤ s.written
  pub owed_within : s.written ≤ length room

-- a speaker's counts lie within its lists, its reader may take the next byte, and the room holds any answer
pub record Sits (s : Speaker) (l : Lists) (chunk room : List ℕ) : Type 0 where
  pub kept : Kept s.reader l
  pub heard_first : s.from ≤ s.got
  pub heard_within : s.got ≤ length chunk
  pub owed_there : OwedWithin s room
  pub for_answer : most_bytes ≤ length room

-- a speaker stands for this talk
pub record StandsFor (t : Talk) (s : Speaker) (l : Lists) (chunk room : List ℕ) : Type 0 where
  pub sits : Sits s l chunk room
  pub talk_is : talk_of s l chunk room ≡ t

abbrev pub speaker_at : Reader → ℕ → ℕ → ℕ → ℕ → Stage → Speaker
speaker_at r from got done written stage = record { reader = r; from = from; got = got; done = done; written = written; stage = stage }

-- the speaker before anything is read
unfoldable pub start_speaker : Speaker
start_speaker = speaker_at (start_reader false 1) 0 0 0 0 Listening

-- ---- what the system did
-- what happened, where the bytes that were read stand at the front of the chunk
unfoldable pub event_of : Did → List ℕ → Event
event_of (Came n) chunk = came (take n chunk)
event_of Ended chunk = over
event_of (Went n) chunk = went n
event_of Interrupted chunk = again
event_of WouldWait chunk = again
event_of Failed chunk = failed

-- the system's numbers of the two errors after which a call is made again: it was interrupted (EINTR), it would have to wait
-- (EAGAIN)
abbrev pub interrupted_error : ℕ
interrupted_error = 4

abbrev pub wait_error : ℕ
wait_error = 11

-- a call that moved nothing, by the number of the error
unfoldable pub unmoved_by : ℤ → Did
unmoved_by (pos n) = cond (eqb n interrupted_error) Interrupted (cond (eqb n wait_error) WouldWait Failed)
unmoved_by (negsuc n) = Failed

-- how many bytes a call moved, by its answer: none where that is below 0, and at most as many as there were to move
abbrev pub clamp_len : ℤ → ℕ → ℕ
clamp_len (pos n) most = min n most
clamp_len (negsuc n) most = 0

-- what a call did, by its answer and the number of the error: below 0 it moved nothing; at 0 it did what `none` says; else it is
-- how many bytes were moved, at most as many as there were to move
unfoldable pub answer_of : Did → (ℕ → Did) → ℤ → ℤ → ℕ → Did
answer_of none some (pos n) error most = cond (eqb n 0) none (some (min n most))
answer_of none some (negsuc n) error most = unmoved_by error

-- the system's number of an error, 0 where it has none
abbrev pub error_number : Error → ℤ
error_number e = unwrap_or (raw_os_error e) (pos 0)

-- a call's answer, as the system gives it: how many bytes were moved, or -1, and the number of the error
abbrev pub moved_of : Result ℕ Error → ℤ
moved_of (Ok n) = pos n
moved_of (Err e) = negsuc 0

abbrev pub error_of : Result ℕ Error → ℤ
error_of (Ok n) = pos 0
error_of (Err e) = error_number e

-- a read that moved no byte has found the end of the input; a write that moved none is made again
abbrev pub reading_of : ℤ → ℤ → ℕ → Did
reading_of = answer_of Ended Came

abbrev pub writing_of : ℤ → ℤ → ℕ → Did
writing_of = answer_of WouldWait Went

-- no more bytes came than there is room for
pub record CameWithin (did : Did) (most : ℕ) : Type 0 where
  pub few : (n : ℕ) → did ≡ Came n → n ≤ most

-- no more bytes went than are owed
pub record WentWithin (s : Speaker) (did : Did) : Type 0 where
  pub few : (n : ℕ) → did ≡ Went n → s.done + n ≤ s.written

-- what can come of a read into so much room, and of a write of so many bytes
pub data ReadDid (most : ℕ) : Did → Type 0 where
  read_some : {n : ℕ} → n ≤ most → ReadDid most (Came n)
  read_end : ReadDid most Ended
  read_interrupted : ReadDid most Interrupted
  read_later : ReadDid most WouldWait
  read_failed : ReadDid most Failed

pub data WriteDid (most : ℕ) : Did → Type 0 where
  wrote_some : {n : ℕ} → n ≤ most → WriteDid most (Went n)
  write_interrupted : WriteDid most Interrupted
  write_later : WriteDid most WouldWait
  write_failed : WriteDid most Failed

-- ---- what the functions promise
-- the speaker asks what its talk asks
pub record AsksAs (s : Speaker) (ask : Ask) : Type 0 where
  pub law : (l : Lists) (chunk room : List ℕ) → Sits s l chunk room → ask ≡ asks (talk_of s l chunk room)

-- the system did what it was asked for, and only a read has changed the chunk
pub record Answers (ask : Ask) (s : Speaker) (did : Did) (chunk chunk_after : List ℕ) : Type 0 where
  pub of_write : ask ≡ Write → WriteDid (s.written - s.done) did × (chunk_after ≡ chunk)
  pub of_read : ask ≡ Read → ReadDid (length chunk_after) did × (length chunk_after ≡ length chunk)

-- a byte is looked at: there is one, nothing is owed, and no refusal has ended the file
unfoldable pub looks_on : Reader → ℕ → ℕ → ℕ → ℕ → Bool
looks_on r from got done written = ltb from got && eqb done written && r.going

-- the speaker is told what the system did
pub record TellsAs (s : Speaker) (did : Did) (after : Speaker) (room room_after : List ℕ) : Type 0 where
  pub law : (l : Lists) (chunk : List ℕ) → Sits s l chunk room → CameWithin did (length chunk) → StandsFor (told (talk_of s l chunk room) (event_of did chunk)) after l chunk room_after

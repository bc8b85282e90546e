-- `frames::DigitLine::number` meets its contract: the digits not yet read, after the number that those before them spell, spell
-- the field's number, which stays below a power of 16. Assumes nothing.
use Rattle.std.proofs.Common.{◌≡◌, ◌<◌, ◌^◌, drop}
use Rattle.frames.specs.Digits.{number_from}
use Rattle.frames.proofs.DigitLine.number.Given as goal

abbrev pub invariant-loop-byte : goal.invariant-loop-byte
invariant-loop-byte l =
    (l.n < 16 ^ l.byte-index) × (number_from l.n (drop l.byte-index l.field) ≡ number_from 0 l.field)

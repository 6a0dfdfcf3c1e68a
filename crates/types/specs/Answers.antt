-- The number of each answer.
use Rattle.std.specs.Prelude.{ℕ}
use Rattle.types.specs.declared.Answer.{Answer}
use Rattle.types.specs.declared.Answer.TheVariants.{Done, NotWellFormed, LastEpoch, OutOfRange, NoRecord, NoBoundary, NotThere, FamilyTaken, VictimUnfit, DrawMissing, DrawTooLarge, NoRoom, PoolTooSmall, NotASnapshot}

abbrev pub number_of : Answer → ℕ
number_of Done = 0
number_of NotWellFormed = 1
number_of LastEpoch = 2
number_of OutOfRange = 3
number_of NoRecord = 4
number_of NoBoundary = 5
number_of NotThere = 6
number_of FamilyTaken = 7
number_of VictimUnfit = 8
number_of DrawMissing = 9
number_of DrawTooLarge = 10
number_of NoRoom = 11
number_of PoolTooSmall = 12
number_of NotASnapshot = 13

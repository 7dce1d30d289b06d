-- The refusals of the marker.
--
--   number r     the number of a refusal: 1 to 22
--   plain r      the refusal r with section 0 and entry 0: it is about no place in a record or a sheet
use Rattle.std.specs.Prelude.{ℕ}
use Rattle.graph.specs.declared.refusal.Refusal.{Refusal}
use Rattle.graph.specs.declared.refusal.Refusal.TheVariants.{
  NoRoom,
  ThreadTooHigh,
  CodeTooHigh,
  BadLocation,
  BadValue,
  StepsFull,
  NotAnAddedRead,
  NotItsWrite,
  NoStep,
  AbsentEvent,
  NotThePushingEvents,
  NotLawful,
  TooManyPush,
  NoLawfulOrder,
  BadSide,
  BufferTooShort,
  RecordCut,
  BytesAfterRecord,
  GraphNotNew,
  BadLayout,
  StepFails,
  WrongVerdict,
}
use Rattle.graph.specs.declared.refusal.Refused.{Refused}

abbrev pub number : Refusal → ℕ
number NoRoom = 1
number ThreadTooHigh = 2
number CodeTooHigh = 3
number BadLocation = 4
number BadValue = 5
number StepsFull = 6
number NotAnAddedRead = 7
number NotItsWrite = 8
number NoStep = 9
number AbsentEvent = 10
number NotThePushingEvents = 11
number NotLawful = 12
number TooManyPush = 13
number NoLawfulOrder = 14
number BadSide = 15
number BufferTooShort = 16
number RecordCut = 17
number BytesAfterRecord = 18
number GraphNotNew = 19
number BadLayout = 20
number StepFails = 21
number WrongVerdict = 22

abbrev pub plain : Refusal → Refused
plain r = record { refusal = r; section = 0; entry = 0 }

-- What the calls answer, by the numbers of both papers, and what a call that writes leaves in the buffer that it is lent ("Refusal numbers").
use Rattle.std.specs.Prelude.{ℕ, ⊤, List, ◌++◌, drop, Option, Some, None, Result, Ok, Err}
use Rattle.refusal.specs.Checks.{no_place, place_at, Reason, reason, bare, located, Check, pass, refuse}
use Rattle.refusal.specs.declared.Refusal.{Refusal}
use Rattle.refusal.specs.declared.Refusal.TheVariants.{
  RootKeyLength,
  LabelLength,
  LabelByte,
  DataLength,
  KeyLength,
  Room,
  ServerId,
  Domain,
  SessionId,
  OfferCount,
  RepeatedOffer,
  NoOfferSupported,
  ReplyIsFirst,
  ReplyNotOffered,
  RenewedList,
  AttributeBounds,
  KdfLength,
  KdfInput,
  NetworkName,
  AttributeType,
  IdLength,
  KekLength,
  KeyToWrapLength,
  KeyAttributeLength,
  ReservedByte,
  EncType,
  IvField,
  Integrity,
  KdfInputPadding,
  NetworkNameDiffers,
  DomainLabel,
  LabelSyntax,
  HandoverKeyLength,
  IdentifierLength,
  PacketLength,
  PacketAttributeBounds,
  MacAttribute,
  MacDiffers,
  BundleCount,
  BundleContents,
  BundleEnd,
  RepeatedKeyId,
  AkaInputLength,
  NetworkNameLength,
  IdentityLength,
  SlotsFull,
  NoSuchSlot,
  ParentNotLive,
  TooDeep,
  KeyIdUnlikeContents,
}

-- what each refusal returns: its number; 3 and 16 carry a place, and no other does
abbrev pub reason_of : Refusal → Reason
reason_of RootKeyLength = bare 1
reason_of LabelLength = bare 2
reason_of (LabelByte i) = located 3 i
reason_of DataLength = bare 4
reason_of KeyLength = bare 5
reason_of Room = bare 6
reason_of ServerId = bare 7
reason_of Domain = bare 8
reason_of SessionId = bare 9
reason_of OfferCount = bare 10
reason_of RepeatedOffer = bare 11
reason_of NoOfferSupported = bare 12
reason_of ReplyIsFirst = bare 13
reason_of ReplyNotOffered = bare 14
reason_of RenewedList = bare 15
reason_of (AttributeBounds i) = located 16 i
reason_of KdfLength = bare 17
reason_of KdfInput = bare 18
reason_of NetworkName = bare 19
reason_of AttributeType = bare 20
reason_of IdLength = bare 21
reason_of KekLength = bare 22
reason_of KeyToWrapLength = bare 23
reason_of KeyAttributeLength = bare 24
reason_of ReservedByte = bare 25
reason_of EncType = bare 26
reason_of IvField = bare 27
reason_of Integrity = bare 28
reason_of KdfInputPadding = bare 29
reason_of NetworkNameDiffers = bare 30
reason_of DomainLabel = bare 31
reason_of LabelSyntax = bare 32
reason_of HandoverKeyLength = bare 33
reason_of IdentifierLength = bare 34
reason_of PacketLength = bare 35
reason_of PacketAttributeBounds = bare 36
reason_of MacAttribute = bare 37
reason_of MacDiffers = bare 38
reason_of BundleCount = bare 39
reason_of BundleContents = bare 40
reason_of BundleEnd = bare 41
reason_of RepeatedKeyId = bare 42
reason_of AkaInputLength = bare 43
reason_of NetworkNameLength = bare 44
reason_of IdentityLength = bare 45
reason_of SlotsFull = bare 46
reason_of NoSuchSlot = bare 47
reason_of ParentNotLive = bare 48
reason_of TooDeep = bare 49
reason_of KeyIdUnlikeContents = bare 50

-- the number of a reason; its place, if it carries one; and this place, 0 where it carries none
abbrev pub number_in : Reason → ℕ
number_in (reason n place) = n

abbrev pub carried : Reason → Option ℕ
carried (reason n no_place) = None
carried (reason n (place_at i)) = Some i

abbrev pub place_in : Reason → ℕ
place_in (reason n no_place) = 0
place_in (reason n (place_at i)) = i

-- what the tests of a call come to, as the definitions say it
abbrev pub checked_as : Result ⊤ Refusal → Check
checked_as (Ok _) = pass
checked_as (Err x) = refuse (reason_of x)

-- what a call answers: a number, as a rule the count of what it wrote, or a refusal
pub data Answer : Type 0 where
  returned : ℕ → Answer
  refused : Reason → Answer

abbrev pub answer_of : Result ℕ Refusal → Answer
answer_of (Ok n) = returned n
answer_of (Err x) = refused (reason_of x)

-- the answer of a call by its tests, where its number is n
abbrev pub answer_to : Check → ℕ → Answer
answer_to pass n = returned n
answer_to (refuse x) n = refused x

-- the buffer after a call that writes n values: on acceptance the values, and after them what stood there; on a refusal all that stood there
abbrev pub buffer_after : Check → ℕ → List ℕ → List ℕ → List ℕ
buffer_after pass n values buffer = values ++ drop n buffer
buffer_after (refuse x) n values buffer = buffer

-- what stands after a call whose tests come to this: a refusal changes nothing
abbrev pub after_check : {T : Type 0} → Check → T → T → T
after_check pass after before = after
after_check (refuse x) after before = before

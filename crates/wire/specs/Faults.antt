-- The refusals: the number and the layer of each, and how a fault is written.
use Rattle.std.specs.Prelude.{ℕ, List, ◌++◌, codes, decimal}
use Rattle.wire.specs.declared.fault.Fault.{Fault}
use Rattle.wire.specs.declared.fault.Layer.{Layer}
use Rattle.wire.specs.declared.fault.Layer.TheVariants.{Header, Block, Stream, Request, Link, Setup, Sink}
use Rattle.wire.specs.declared.fault.Refusal.{Refusal}
use Rattle.wire.specs.declared.fault.Refusal.TheVariants.{ShortDatagram, LongDatagram, WrongVersion, WrongProtocol, WrongChannel, WrongSession, WrongLength, OutOfRange, BlocksDisagree, LongBlock, OffsetMismatch, ShortRequest, WrongRequestVersion, WrongRequestType, WrongRequestProtocol, WrongRequestChannel, WrongRequestSession, WrongRangeCount, WrongRequestLength, InvalidRange, RangesNotAscending, NoRoomForRequest, SettingOutOfRange, ShortBuffer, NotWholeBlocks, LongMessage, StoreFull, NothingMissing, SinkRefused}

-- a line of the table of refusals
pub record Entry : Type 0 where
  pub number : ℕ
  pub layer : Layer

-- a line with a number and a layer
abbrev pub entry : ℕ → Layer → Entry
entry n l = record { number = n; layer = l }

-- the table of refusals
abbrev pub entry_of : Refusal → Entry
entry_of ShortDatagram = entry 1 Header
entry_of LongDatagram = entry 2 Header
entry_of WrongVersion = entry 3 Header
entry_of WrongProtocol = entry 4 Header
entry_of WrongChannel = entry 5 Header
entry_of WrongSession = entry 6 Header
entry_of WrongLength = entry 7 Header
entry_of OutOfRange = entry 8 Header
entry_of BlocksDisagree = entry 9 Block
entry_of LongBlock = entry 10 Block
entry_of OffsetMismatch = entry 11 Stream
entry_of ShortRequest = entry 12 Request
entry_of WrongRequestVersion = entry 13 Request
entry_of WrongRequestType = entry 14 Request
entry_of WrongRequestProtocol = entry 15 Request
entry_of WrongRequestChannel = entry 16 Request
entry_of WrongRequestSession = entry 17 Request
entry_of WrongRangeCount = entry 18 Request
entry_of WrongRequestLength = entry 19 Request
entry_of InvalidRange = entry 20 Request
entry_of RangesNotAscending = entry 21 Request
entry_of NoRoomForRequest = entry 22 Link
entry_of SettingOutOfRange = entry 23 Setup
entry_of ShortBuffer = entry 24 Setup
entry_of NotWholeBlocks = entry 25 Setup
entry_of LongMessage = entry 26 Setup
entry_of StoreFull = entry 27 Setup
entry_of NothingMissing = entry 28 Stream
entry_of SinkRefused = entry 29 Sink

-- a refusal, found at a byte
abbrev pub fault : Refusal → ℕ → Fault
fault r n = record { refusal = r; place = n }

-- a layer's name
abbrev pub layer_text : Layer → List ℕ
layer_text Header = codes "header"
layer_text Block = codes "block"
layer_text Stream = codes "stream"
layer_text Request = codes "request"
layer_text Link = codes "link"
layer_text Setup = codes "setup"
layer_text Sink = codes "sink"

-- how a fault is written
abbrev pub fault_text : Fault → List ℕ
fault_text f =
    codes "number " ++ (decimal (entry_of f.refusal).number
    ++ (codes ", layer " ++ (layer_text (entry_of f.refusal).layer ++ (codes ", place " ++ decimal f.place))))

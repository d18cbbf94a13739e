-- What the segments of the code stand for.
use Rattle.std.specs.Prelude.{◌≡◌, ℕ, cond, List, [], ◌∷◌, map, ◌==◌}
use Rattle.wire.specs.declared.segment.Content.{Content}
use Rattle.wire.specs.declared.segment.Content.TheVariants.{Heartbeat, Messages}
use Rattle.wire.specs.declared.segment.Header.{Header}
use Rattle.wire.specs.declared.segment.Segment.{Segment}
use Rattle.wire.specs.Cursor.{Placed, unread, unread_from, numbered}
use Rattle.wire.specs.Segments.{Plain}

-- what a segment carries: nothing, or messages, as its cursor hands them out
pub data Handed : Type 0 where
  heartbeat : Handed
  messages : List Placed → Handed

-- what a content hands out
abbrev pub handed : Content → Handed
handed Heartbeat = heartbeat
handed (Messages m) = messages (unread m)

-- the messages, of which a heartbeat has none
abbrev pub messages_of : Handed → List Placed
messages_of heartbeat = []
messages_of (messages ms) = ms

-- how messages are carried: none at all is a heartbeat
abbrev pub carried : List Placed → Handed
carried [] = heartbeat
carried (m ∷ ms) = messages (m ∷ ms)

-- the data of a message
abbrev pub body_of : Placed → List ℕ
body_of m = m.body

-- what a segment says
abbrev pub plain : Segment → Plain
plain s = record { header = s.header; messages = map body_of (messages_of (handed s.content)) }

-- the messages are handed out in order: numbers from the header's on, places from its offset on
abbrev pub HandedInOrder : Segment → Type 0
HandedInOrder s = handed s.content ≡ carried (numbered s.header.first s.header.offset (plain s).messages)

-- what a cursor over a payload will hand out
abbrev pub content_unread : Header → List ℕ → Handed
content_unread h bs = cond (h.count == 0) heartbeat (messages (unread_from h.count h.first h.offset bs))

-- What is said of an accepted segment.
use Rattle.std.proofs.Common.{◌≡◌, ℕ, ◌+◌, ◌-◌, List, [], ◌∷◌, length, Ok, refl, ap, ◌∙◌, arith}
use Rattle.wire.specs.declared.address.Expected.{Expected}
use Rattle.wire.specs.Cursor.{Placed, numbered}
use Rattle.wire.specs.ReadingLaw.{LaidOut, Accepted}
use Rattle.wire.specs.Segments.{Plain, read_segment}
use Rattle.wire.specs.Sessions.{span}
use Rattle.wire.specs.Views.{messages, carried}
use Rattle.dump.specs.declared.line.Line.{Line}
use Rattle.dump.specs.declared.line.Line.TheVariants.{Messages}
use Rattle.dump.specs.Lines.{segment_line, line_for}

-- the blocks take up the datagram from a byte on
spanned : (d : List ℕ) (at n p : ℕ) (ms : List (List ℕ)) → LaidOut d at n p (numbered n p ms) → at + span ms ≡ length d
spanned d at n p [] x = omega arith
spanned d at n p (m ∷ ms) x = omega (arith, spanned d (at + (2 + length m)) (n + 1) (p + (2 + length m)) ms x.4)

module _ (e : Expected) (d : List ℕ) (s : Plain) (law : Accepted e d s) where
  pub behind_header : 40 + span s.messages ≡ length d
  behind_header = spanned d 40 s.header.first s.header.offset s.messages law.laid_out

  abbrev said : Line
  said =
      Messages (record {
        first = s.header.first;
        last = (s.header.first + s.header.count) - 1;
        count = s.header.count;
        offset = s.header.offset;
        bytes = length d - 40;
      })

  some_messages : (us : List Placed) (ms : List (List ℕ)) → ms ≡ s.messages
      → messages us ≡ carried (numbered s.header.first s.header.offset ms) → said ≡ segment_line s.header ms
  some_messages us [] q c = cc
  some_messages us (m ∷ ms) q c =
      let last_is : (s.header.first + s.header.count) - 1 ≡ s.header.first + length ms = omega (arith, law.counted, ap length q) in
      let bytes_is : length d - 40 ≡ span (m ∷ ms) = omega (arith, behind_header, ap span q) in
      let count_is : s.header.count ≡ length (m ∷ ms) = omega (arith, law.counted, ap length q) in
      cc

  pub messages_line : (us : List Placed) → messages us ≡ carried (numbered s.header.first s.header.offset s.messages)
      → Ok s ≡ read_segment e d → said ≡ line_for (read_segment e d)
  messages_line us c v = some_messages us s.messages refl c ∙ ap line_for v

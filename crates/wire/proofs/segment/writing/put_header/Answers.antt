use Rattle.std.proofs.Common.{ap, ◌∙◌, w64, SFits, of_z, rules}
use Rattle.std.proofs.lemmas.Int.{to_z-of_z}
use Rattle.wire.specs.Fields.{overwritten, bytes_of}
use Rattle.wire.proofs.Writing.{header_written}
use Rattle.wire.proofs.segment.writing.put_header.Goals as goal

pub returns : goal.returns
returns c =
    let t = c.args.header.now.time in
    let f : SFits w64 t = search rules in
    record {
      fits = record { address = c.put-2.ensures.fits; time = f };
      after = header_written c.args.out.now c.args.header.now c.args.payload
          c.put.new.out c.put-2.new.header c.put_field.new.out c.put_field-2.new.out c.put_field-3.new.out c.put_field-4.new.out c.put_field-5.new.out
          c.put.ensures c.put-2.ensures.after c.put_field.ensures c.put_field-2.ensures c.put_field-3.ensures c.put_field-4.ensures
          (c.put_field-5.ensures ∙ ap (λ n. overwritten c.put_field-4.new.out 32 (bytes_of 8 n)) (c.cast_unsigned.ensures ∙ ap (of_z w64) (to_z-of_z w64 t f)));
    }

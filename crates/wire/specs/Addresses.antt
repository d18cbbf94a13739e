-- The address in a header, and what can be wrong with it. Segments and requests have it at the same places.
use Rattle.std.specs.Prelude.{ℕ, Bool, false, not, List, [], ◌∷◌, ◌++◌, Some, None, Option, ◌==◌}
use Rattle.wire.specs.declared.address.Address.{Address}
use Rattle.wire.specs.declared.address.AddressRefusals.{AddressRefusals}
use Rattle.wire.specs.declared.address.Expected.{Expected}
use Rattle.wire.specs.Fields.{bytes_of, field}
use Rattle.wire.specs.Outcomes.{Check, check}

-- what a reader expects that expects an address
abbrev pub expected_of : Address → Expected
expected_of a = record { protocol = a.protocol; channel = a.channel; session = Some a.session }

-- whether a session is another than the expected one, if one is expected
abbrev pub other_session : Option ℕ → ℕ → Bool
other_session None s = false
other_session (Some e) s = not (s == e)

-- what can be wrong with the protocol, the channel and the session, each with its refusal
abbrev pub other_address_checks : AddressRefusals → Expected → List ℕ → List Check
other_address_checks r e d =
    check (not (field d 2 2 == e.protocol)) r.protocol 2
    ∷ check (not (field d 4 4 == e.channel)) r.channel 4
    ∷ check (other_session e.session (field d 8 4)) r.session 8
    ∷ []

-- the bytes of an address in a header
abbrev pub address_bytes : Address → List ℕ
address_bytes a = bytes_of 2 a.protocol ++ (bytes_of 4 a.channel ++ bytes_of 4 a.session)
